use Rattle.std.proofs.Common.{◌≡◌, ◌+◌, ◌-◌, ◌/◌, ◌%◌, ◌<◌, ◌++◌, map, length, IsTrue}
use Rattle.std.specs.List.{AllByRecursion, range_with_len, take_while}
use Rattle.ag_outside.specs.Disks.{or_zeros}
use Rattle.ag_suspect.specs.ReadOnly.{OnlyReads}
use Rattle.ag_suspect.specs.Rows.{IsRow, slot_on, is_taken, suspects_on}
use Rattle.ag_suspect.proofs.reading.read_rows.Given as goal

-- the rows before this place, what the buffer has, and what else there is to be read
abbrev pub invariant-loop-place : goal.invariant-loop-place
invariant-loop-place g l = record {
  rest : IsTrue (g.D.Disk.keeps l.fn.disk) → l.rows.items ++ take_while is_taken (map (slot_on (g.D.Disk.reads l.fn.disk)) (range_with_len l.place (1000 - l.place))) ≡ suspects_on (g.D.Disk.reads l.fn.disk);
  buffer : IsTrue (g.D.Disk.keeps l.fn.disk) → 0 < l.place % 16 → or_zeros (g.D.Disk.reads l.fn.disk (1 + l.place / 16)) ≡ l.sector;
  fit : AllByRecursion IsRow l.rows.items;
  long : length l.rows.items ≡ l.place;
  stays : OnlyReads g.D.Disk.size g.D.Disk.keeps g.D.Disk.reads g.D.Disk.may_hold g.D.Disk.moment g.D.Disk.left_since g.D.Disk.faults g.D.Disk.did l.fn.disk l.disk;
}
