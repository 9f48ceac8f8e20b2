use Rattle.std.proofs.Common.{◌≡◌, ◌+◌, ◌-◌, ◌≤◌, ◌++◌, vec_len, vec_capacity}
use Rattle.ag_outside.specs.Scripts.{fillers}
use Rattle.ag_outside.proofs.handing.add_fillers.Given as goal

abbrev pub invariant-marks : goal.invariant-marks
invariant-marks l = record {
  items : l.unsynced.items ++ fillers (l.first + l.k) (18 + l.k) (l.count - l.k) ≡ l.fn.unsynced.items ++ fillers l.first 18 l.count;
  room : vec_len l.unsynced + (l.count - l.k) ≤ vec_capacity l.unsynced;
}
