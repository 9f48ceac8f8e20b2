use Rattle.std.proofs.Common.{◌≡◌, ◌++◌, length}
use Rattle.ag_record.specs.Spelling.{records_spelling, HaveSpelling}
use Rattle.ag_record.proofs.lists.decode_all.Given as goal

abbrev pub invariant-loop-rest : goal.invariant-loop-rest
invariant-loop-rest l = record {
  fits : HaveSpelling l.records.items;
  parts : l.b ≡ records_spelling l.records.items ++ l.rest;
}

abbrev pub decreases-loop-rest : goal.decreases-loop-rest
decreases-loop-rest l = length l.rest
