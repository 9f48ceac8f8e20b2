use Rattle.std.proofs.Common.{◌≡◌, ◌≤◌, ℕ, drop, nat_eq}
use Rattle.std.specs.HashMap.{spare}
use Rattle.std.specs.Map.{lookup}
use Rattle.ag_outside.specs.Scripts.{unless_written}
use Rattle.ag_outside.proofs.handing.find.Given as goal

abbrev pub invariant-writes : goal.invariant-writes
invariant-writes l = record {
  lost : (at : ℕ) → unless_written (drop l.write-index l.writes) at (lookup (nat_eq at) l.lost.entries) ≡ unless_written l.writes at (lookup (nat_eq at) l.fn.lost.entries);
  spare : spare l.fn.lost ≤ spare l.lost;
}
