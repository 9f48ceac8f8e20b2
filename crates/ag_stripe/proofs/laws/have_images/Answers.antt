use Rattle.std.proofs.Common.{◌≡◌, ap, true}
use Rattle.ag_page.specs.Spelling.{has_image}
use Rattle.ag_model.specs.declared.value.PageValue.{PageValue}
use Rattle.ag_stripe.specs.Known.{Known}
use Rattle.ag_stripe.specs.Known.Known.{Value, NotSound, NotItsImage, Untold}
use Rattle.ag_stripe.specs.Answers.{HasNoImage}
use Rattle.ag_stripe.proofs.Fitting.{image-there}
use Rattle.ag_stripe.proofs.laws.have_images.Goals as goal

none : (k : Known) (v : PageValue) → k ≡ Value v → has_image v ≡ true → HasNoImage k → ⊥
none (Value w) v e is off = (let same : w ≡ v = cc in let f = ap has_image same in cc)
none NotSound v e is off = off
none NotItsImage v e is off = cc
none Untold v e is off = cc

pub returns : goal.returns
returns c = λ pages applied page k log proper spelled ahead. none k _ ahead.value (image-there pages page ahead.lsn log proper spelled)
