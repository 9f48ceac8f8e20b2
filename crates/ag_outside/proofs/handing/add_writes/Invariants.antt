use Rattle.std.proofs.Common.{◌≡◌, ◌+◌, ◌-◌, ◌≤◌, ◌++◌, drop, length, vec_len, vec_capacity}
use Rattle.ag_outside.specs.Disks.{writes}
use Rattle.ag_outside.proofs.handing.add_writes.Given as goal

abbrev pub invariant-sectors : goal.invariant-sectors
invariant-sectors l = record {
  place : l.at ≡ l.first + l.sector-index;
  items : l.unsynced.items ++ writes l.at (drop l.sector-index l.from) ≡ l.fn.unsynced.items ++ writes l.first l.from;
  room : vec_len l.unsynced + (length l.from - l.sector-index) ≤ vec_capacity l.unsynced;
}
