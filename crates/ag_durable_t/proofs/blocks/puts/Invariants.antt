use Rattle.std.proofs.Common.{◌≡◌, ◌*◌, length}
use Rattle.ag_model.specs.Sizes.{records_size}
use Rattle.ag_record.specs.Spelling.{HaveSpelling}
use Rattle.ag_durable_t.proofs.blocks.puts.Given as goal

abbrev pub invariant-loop-key : goal.invariant-loop-key
invariant-loop-key l = record {
  fit : HaveSpelling l.records;
  long : length l.records ≡ l.key;
  bytes : records_size l.records ≡ 79 * l.key;
}
