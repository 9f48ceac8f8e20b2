use Rattle.std.proofs.Common.{sym, ◌∙◌}
use Rattle.ag_page.specs.Spelling.{page_bytes}
use Rattle.ag_page.proofs.Pages.{length-page_bytes, page_bytes-once}
use Rattle.ag_page.proofs.Sectors.{image_bytes-image}
use Rattle.ag_inplace.proofs.Marked.{one-mark}
use Rattle.ag_inplace.proofs.laws.spelled.Goals as goal

pub returns-clause-image : goal.returns-clause-image
returns-clause-image c = λ mark v is range. record { fits = is; range = range; bytes = image_bytes-image mark (page_bytes v) (length-page_bytes v is range) }

pub returns-clause-once : goal.returns-clause-once
returns-clause-once c = λ image v w h k. page_bytes-once v w h.fits h.range k.fits k.range (sym h.bytes ∙ k.bytes)

pub returns-clause-one_mark : goal.returns-clause-one_mark
returns-clause-one_mark c = λ mark sectors v many each h same. one-mark mark (page_bytes v) sectors many each h.bytes same
