use Rattle.std.proofs.Common.{◌&&◌, ◌==◌, List, sym, ap, ◌∙◌}
use Rattle.ag_model.specs.Rows.{stripe_of}
use Rattle.ag_pool.specs.declared.frame.Frame.{Frame}
use Rattle.ag_pool.specs.Passes.{has_frame}
use Rattle.ag_pool.proofs.Passes.{none-redone, one-redone}
use Rattle.ag_pool.proofs.redoing.redo_on.Goals as goal

pub returns-then-not-owns-clause-redone : goal.returns-then-not-owns-clause-redone
returns-then-not-owns-clause-redone c =
    let is = ap (λ (l : List Frame). has_frame l c.args.page && (stripe_of c.args.page == c.args.x)) c.as_slice.ensures.value in
    none-redone c.args.x c.args.lsn c.args.entry.now c.args.frames.now.items c.args.page (sym is ∙ sym c.owns.ensures ∙ c.if-not-owns.true)

pub returns-in-Ok-clause-redone : goal.returns-in-Ok-clause-redone
returns-in-Ok-clause-redone c =
    let is = ap (λ (l : List Frame). has_frame l c.args.page && (stripe_of c.args.page == c.args.x)) c.as_slice.ensures.value in
    one-redone c.args.x c.args.lsn c.args.entry.now c.args.frames.now.items c.args.page c.from.result c.index_mut.result.now c.redo_frame.new.frame
    (sym is ∙ sym c.owns.ensures ∙ c.if-not-owns.false) c.from.ensures c.index_mut.ensures.value c.in-Ok.ensures.ok
