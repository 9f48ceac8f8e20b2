use Rattle.std.proofs.Common.{◌≡◌, ◌+◌, drop, length}
use Rattle.ag_model.specs.Sizes.{sectors_to}
use Rattle.ag_logstore.specs.LogKept.{RisesTo, AreSmall}
use Rattle.ag_logstore.proofs.cutting.sectors_before.Given as goal

abbrev pub invariant-loop-end : goal.invariant-loop-end
invariant-loop-end l = record {
  rises : RisesTo l.before (l.start + length l.records) (drop l.end-index l.ends);
  small : AreSmall l.before (drop l.end-index l.ends) l.rest;
  long : l.before + length l.rest ≡ l.start + length l.records;
  left : l.left + sectors_to l.start l.ends l.records ≡ l.total + sectors_to l.before (drop l.end-index l.ends) l.rest;
}
