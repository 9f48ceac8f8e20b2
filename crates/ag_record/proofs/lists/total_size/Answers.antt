use Rattle.std.proofs.Common.{◌≡◌, ap, ◌∙◌, arith}
use Rattle.std.proofs.lemmas.List.{take_all}
use Rattle.ag_model.specs.Sizes.{records_size}
use Rattle.ag_record.proofs.lists.total_size.Goals as goal

pub returns : goal.returns
returns c =
    let sum : c.loop-r.total ≡ records_size c.args.rs.now = c.loop-r.invariant.sum ∙ ap records_size (take_all c.loop-r.r-index c.args.rs.now c.loop-r-test.false) in
    (omega (arith, c.loop-r.invariant.fits), sum)
