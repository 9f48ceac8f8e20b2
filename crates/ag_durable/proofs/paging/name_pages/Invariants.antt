use Rattle.std.proofs.Common.{◌≡◌, ◌++◌, map, drop}
use Rattle.ag_pagestore.specs.declared.batch.PageWrite.{PageWrite}
use Rattle.ag_durable.proofs.paging.name_pages.Given as goal

-- the pages that are left are still to be named
abbrev pub invariant-loop-write : goal.invariant-loop-write
invariant-loop-write l = l.named ++ map (λ (w : PageWrite). w.page) (drop l.write-index l.pages) ≡ l.fn.named ++ map (λ (w : PageWrite). w.page) l.fn.pages
