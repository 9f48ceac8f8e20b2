use Rattle.std.proofs.Common.{◌∙◌, sym, ap, ◌&&◌, eqb, Bool, option_to_list}
use Rattle.ag_model.specs.declared.value.Version.{Version}
use Rattle.ag_model.specs.Page.{is_committed_at}
use Rattle.ag_version.proofs.Greatest.{greatest_more, greatest_same}
use Rattle.ag_txn.proofs.versions.last_committed.Goals as goal
use Rattle.ag_txn.proofs.versions.last_committed.Goals.{then-is_visible, else-is_visible}

pub loop-version-preserved : goal.loop-version-preserved
loop-version-preserved c =
    let p : Version → Bool = λ w. (eqb w.key c.args.key && is_committed_at c.args.snapshot w) in
    let xs = c.args.versions.now in
    elim c.if-is_visible.branch [
      | then-is_visible w ↦ greatest_more p xs c.loop-version.version-index _ c.loop-version.best c.if-is_visible.best c.loop-version-test.true
          (sym c.is_visible.ensures ∙ w.if-is_visible.true) c.loop-version.invariant (ap option_to_list w.best-is ∙ w.later-best.ensures)
      | else-is_visible w ↦ ap option_to_list w.best-is ∙ greatest_same p xs c.loop-version.version-index _ c.loop-version.best c.loop-version-test.true
          (sym c.is_visible.ensures ∙ w.if-is_visible.false) c.loop-version.invariant
    ]
