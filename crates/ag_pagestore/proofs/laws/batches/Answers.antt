use Rattle.std.proofs.Common.{refl}
use Rattle.ag_outside.specs.Disks.{put_all}
use Rattle.ag_pagestore.specs.Batches.{written}
use Rattle.ag_pagestore.proofs.Kept.{pages_kept, all_cells, others_kept}
use Rattle.ag_pagestore.proofs.Pages.{pages_written}
use Rattle.ag_pagestore.proofs.laws.batches.Goals as goal

pub returns-clause-whole : goal.returns-clause-whole
returns-clause-whole c = λ disk batch rises whole. all_cells disk (put_all disk (written disk batch)) batch whole (pages_written disk disk 16 batch rises whole)

pub returns-clause-stopped : goal.returns-clause-stopped
returns-clause-stopped c = λ disk batch mask from rises whole. pages_kept disk disk mask from 16 batch rises whole (λ at le. refl)

pub returns-clause-others : goal.returns-clause-others
returns-clause-others c = others_kept
