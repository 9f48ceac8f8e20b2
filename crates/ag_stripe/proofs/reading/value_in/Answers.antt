use Rattle.std.proofs.Common.{◌≡◌, sym, subst, refl}
use Rattle.std.specs.Prelude.{MatchResult}
use Rattle.ag_stripe.specs.Known.{Known, in_image, at_place}
use Rattle.ag_stripe.specs.Known.Known.{Value, NotItsImage}
use Rattle.ag_stripe.specs.Reading.{IsReadFault}
use Rattle.ag_stripe.proofs.Images.{image-read, image-none}
use Rattle.ag_stripe.proofs.reading.value_in.Goals as goal

pub returns-in-Ok-clause-answer : goal.returns-in-Ok-clause-answer
returns-in-Ok-clause-answer c =
    let read : in_image c.args.page c.args.image.now ≡ at_place c.args.page c.in-Ok.v = image-read c.args.page c.args.image.now c.in-Ok.v c.in-Ok.ensures.exact in
    subst (λ (k : Known). MatchResult c.at_place.result (λ w. k ≡ Value w) (IsReadFault c.args.page (k ≡ NotItsImage))) (sym read) c.at_place.ensures.answer

pub returns-in-Err-NotPage-clause-answer : goal.returns-in-Err-NotPage-clause-answer
returns-in-Err-NotPage-clause-answer c = (refl, image-none c.args.page c.args.image.now c.in-Err-NotPage.field-0 c.in-Err-NotPage.field-0-is c.in-Err-NotPage.ensures.exact)
