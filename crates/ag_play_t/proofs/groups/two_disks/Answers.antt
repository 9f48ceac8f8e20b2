use Rattle.std.proofs.Common.{List, true, sym, subst}
use Rattle.std.specs.List.{AllByRecursion}
use Rattle.ag_outside.specs.declared.mem_disk.MemDisk.{MemDisk}
use Rattle.ag_outside.specs.MemDisks.{mem_reads}
use Rattle.ag_group.specs.Blank.{IsBlankDisk}
use Rattle.ag_group.proofs.Blanks.{mem_blank}
use Rattle.ag_play_t.proofs.groups.two_disks.Goals as goal

pub returns-clause-fit : goal.returns-clause-fit
returns-clause-fit c =
    subst (λ (xs : List MemDisk). AllByRecursion (λ d. IsBlankDisk 295232 true (mem_reads d)) xs) (sym c.in_ok-vec.ensures.items)
    (mem_blank c.new-first.result c.new-first.ensures.reads, (mem_blank c.new-second.result c.new-second.ensures.reads, tt))
