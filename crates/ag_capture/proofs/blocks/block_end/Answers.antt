use Rattle.std.proofs.Common.{◌≡◌, ◌+◌, arith, sym, ◌∙◌}
use Rattle.ag_ends.proofs.BlockEnds.{none_at_zero, got}
use Rattle.ag_capture.proofs.blocks.block_end.Goals as goal

pub returns-in_err-before : goal.returns-in_err-before
returns-in_err-before c = λ rises.
    let zero : c.args.first ≡ 0 = omega (arith, c.in_err-before.ensures) in
    rw zero (c.from_residual.ensures ∙ sym (none_at_zero 0 c.args.ends.now))

pub returns : goal.returns
returns c = λ rises.
    let first : c.in_ok-before.before + 1 ≡ c.args.first = omega (arith, c.in_ok-before.ensures) in
    let e = rw first at (c.in_ok-place.ensures rises) in
    c.copied.ensures ∙ got c.args.ends.now c.in_ok-place.place c.get.result c.get.ensures.lookup.3 ∙ sym e
