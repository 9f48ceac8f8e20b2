use Rattle.std.proofs.Common.{◌≡◌, ◌+◌, ◌-◌, ◌≤◌, ℕ, nat_eq}
use Rattle.std.specs.HashMap.{spare}
use Rattle.std.specs.Map.{lookup}
use Rattle.ag_outside.specs.Scripts.{marked}
use Rattle.ag_outside.proofs.handing.mark_lost.Given as goal

abbrev pub invariant-marks : goal.invariant-marks
invariant-marks l = record {
  marks : (at : ℕ) → marked (l.first + l.k) (18 + l.k) (l.count - l.k) at (lookup (nat_eq at) l.lost.entries) ≡ marked l.first 18 l.count at (lookup (nat_eq at) l.fn.lost.entries);
  room : l.count - l.k ≤ spare l.lost;
}
