use Rattle.std.proofs.Common.{◌≡◌, subst, ap, ◌∙◌, refl}
use Rattle.std.specs.Prelude.{Ok}
use Rattle.std.specs.Option.{IfSome}
use Rattle.std.proofs.lemmas.Result.{err_from_is_err_and}
use Rattle.ag_page.specs.declared.home.Got.{Got}
use Rattle.ag_page.specs.declared.home.Got.TheVariants.{Torn, Lost}
use Rattle.ag_page.specs.Home.{found}
use Rattle.ag_stripe.specs.Known.{Says, in_image, in_home}
use Rattle.ag_stripe.specs.Known.Known.{Value, NotItsImage}
use Rattle.ag_stripe.proofs.Images.{home-sound, home-bad}
use Rattle.ag_stripe.proofs.Readings.{fault-as}
use Rattle.ag_stripe.proofs.reading.fetch_value.Goals as goal

pub returns-in_err-value_in-in-Ok-Sound-clause-answer : goal.returns-in_err-value_in-in-Ok-Sound-clause-answer
returns-in_err-value_in-in-Ok-Sound-clause-answer g c =
    let told = g.H.PageHome.told c.args.home.now in
    let page = c.args.page in
    let image = c.fetch.new.into in
    let got = subst (λ (x : Got). IfSome told (λ images. x ≡ found (images page))) c.in-Ok-Sound.field-0-is c.in-Ok-Sound.ensures.got in
    let same = c.fetch.ensures.image (c.in-Ok-Sound.is ∙ ap Ok c.in-Ok-Sound.field-0-is) in
    let p = err_from_is_err_and c.from_residual.result c.from_residual.ensures.1 in
    rw (p.1, p.2) (fault-as page (in_image page image ≡ NotItsImage) (Says (in_home told page) NotItsImage) _ (λ is. home-sound told page image NotItsImage got same is) c.in_err-value_in-in-Ok-Sound.ensures.answer)

pub returns-in_ok-value_in-in-Ok-Sound-clause-answer : goal.returns-in_ok-value_in-in-Ok-Sound-clause-answer
returns-in_ok-value_in-in-Ok-Sound-clause-answer g c =
    let told = g.H.PageHome.told c.args.home.now in
    let page = c.args.page in
    let got = subst (λ (x : Got). IfSome told (λ images. x ≡ found (images page))) c.in-Ok-Sound.field-0-is c.in-Ok-Sound.ensures.got in
    let same = c.fetch.ensures.image (c.in-Ok-Sound.is ∙ ap Ok c.in-Ok-Sound.field-0-is) in
    home-sound told page c.fetch.new.into (Value c.in_ok-value_in-in-Ok-Sound.field-0) got same c.in_ok-value_in-in-Ok-Sound.ensures.answer

pub returns-in-Ok-Torn-clause-answer : goal.returns-in-Ok-Torn-clause-answer
returns-in-Ok-Torn-clause-answer g c =
    let told = g.H.PageHome.told c.args.home.now in
    home-bad told c.args.page Torn (λ k. refl) (subst (λ (x : Got). IfSome told (λ images. x ≡ found (images c.args.page))) c.in-Ok-Torn.field-0-is c.in-Ok-Torn.ensures.got)

pub returns-in-Ok-Lost-clause-answer : goal.returns-in-Ok-Lost-clause-answer
returns-in-Ok-Lost-clause-answer g c =
    let told = g.H.PageHome.told c.args.home.now in
    home-bad told c.args.page Lost (λ k. refl) (subst (λ (x : Got). IfSome told (λ images. x ≡ found (images c.args.page))) c.in-Ok-Lost.field-0-is c.in-Ok-Lost.ensures.got)
