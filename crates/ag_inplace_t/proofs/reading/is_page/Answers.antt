use Rattle.std.proofs.Common.{◌∙◌, sym}
use Rattle.ag_inplace_t.proofs.Pages.{page-read}
use Rattle.ag_inplace_t.proofs.reading.is_page.Goals as goal

pub returns : goal.returns
returns c = λ e. page-read c.from_image.result c.args.i.now (sym c.is_ok.ensures.value ∙ e) c.from_image.ensures.fits c.from_image.ensures.range c.from_image.ensures.bytes
