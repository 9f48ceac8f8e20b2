use Rattle.std.proofs.Common.{◌≡◌, sym, subst, ◌∙◌, refl}
use Rattle.ag_stripe.specs.Known.{Known, in_image, at_place}
use Rattle.ag_stripe.specs.Known.Known.{Value, NotItsImage}
use Rattle.ag_stripe.proofs.Images.{image-read, image-none}
use Rattle.ag_replica.specs.Reading.{HasValue}
use Rattle.ag_replica.proofs.ReadIn.{placed, none_value}
use Rattle.ag_replica.proofs.reading.value_in.Goals as goal

pub unreachable-requires : goal.unreachable-requires
unreachable-requires c =
    let none = image-none c.args.page c.args.image.now c.in-Err-NotPage.field-0 c.in-Err-NotPage.field-0-is c.in-Err-NotPage.ensures.exact in
    none_value c.requires.0 (sym none ∙ c.requires.1)

pub returns-in-Ok : goal.returns-in-Ok
returns-in-Ok c =
    let read : in_image c.args.page c.args.image.now ≡ at_place c.args.page c.in-Ok.v = image-read c.args.page c.args.image.now c.in-Ok.v c.in-Ok.ensures.exact in
    read ∙ placed c.args.page c.in-Ok.v (subst HasValue read c.requires)
