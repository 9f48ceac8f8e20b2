use Rattle.std.proofs.Common.{ap, sym, ◌∙◌}
use Rattle.ag_model.specs.Cells.{first_or_zero}
use Rattle.ag_pagestore.proofs.Unused.{all_unused, unused-more, unused-first, unused-none}
use Rattle.ag_pagestore.proofs.marks.free_mark.Goals as goal

pub returns-then-not-has_mark : goal.returns-then-not-has_mark
returns-then-not-has_mark c =
    sym (unused-first c.args.cells.now c.loop-mark.mark c.loop-mark-test.true (sym c.has_mark.ensures ∙ c.if-not-has_mark.true)) ∙ ap first_or_zero (sym c.loop-mark.invariant) ∙ all_unused c.args.cells.now

pub loop-mark-preserved : goal.loop-mark-preserved
loop-mark-preserved c =
    c.loop-mark.invariant ∙ unused-more c.args.cells.now c.loop-mark.mark c.loop-mark-test.true (sym c.has_mark.ensures ∙ c.if-not-has_mark.false)

pub returns : goal.returns
returns c = sym (unused-none c.args.cells.now c.loop-mark.mark c.loop-mark-test.false) ∙ ap first_or_zero (sym c.loop-mark.invariant) ∙ all_unused c.args.cells.now
