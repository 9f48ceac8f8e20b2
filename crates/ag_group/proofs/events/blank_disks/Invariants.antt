use Rattle.std.proofs.Common.{◌≡◌, length, true}
use Rattle.std.specs.List.{AllByRecursion}
use Rattle.ag_outside.specs.MemDisks.{mem_reads}
use Rattle.ag_group.specs.Blank.{IsBlankDisk}
use Rattle.ag_group.proofs.events.blank_disks.Given as goal

abbrev pub invariant-loop : goal.invariant-loop
invariant-loop l = record {
  each : length l.disks.items ≡ l.counter;
  fit : AllByRecursion (λ d. IsBlankDisk 295232 true (mem_reads d)) l.disks.items;
}
