use Rattle.std.proofs.Common.{ap}
use Rattle.ag_outside.specs.Disks.{Image}
use Rattle.ag_outside.specs.MemDisks.{mem_reads}
use Rattle.ag_store_t.proofs.Redone.{opened}
use Rattle.ag_store_t.proofs.parts.Parts.new.Goals as goal

pub invariant_of-result : goal.invariant_of-result
invariant_of-result c =
    opened (mem_reads c.new-disk.result) c.in_ok-pages.pages (λ page. c.images.ensures.zeros 0 page) (λ at. ap (λ (image : Image). image at) c.new-disk.ensures.reads)
    c.in_ok-pages.ensures.count c.in_ok-pages.ensures.empty
