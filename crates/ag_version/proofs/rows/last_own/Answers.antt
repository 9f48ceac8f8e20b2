use Rattle.std.proofs.Common.{◌∙◌, sym, ap, ◌&&◌, eqb, Bool, option_to_list}
use Rattle.ag_model.specs.declared.value.Version.{Version}
use Rattle.ag_version.specs.Picking.{is_own}
use Rattle.ag_version.proofs.Greatest.{greatest_more, greatest_same}
use Rattle.ag_version.proofs.rows.last_own.Goals as goal
use Rattle.ag_version.proofs.rows.last_own.Goals.{then-is_own, else-is_own}

pub loop-version-preserved : goal.loop-version-preserved
loop-version-preserved c =
    let p : Version → Bool = λ w. (eqb w.key c.args.key && is_own c.args.own w) in
    let xs = c.args.versions.now in
    elim c.if-is_own.branch [
      | then-is_own w ↦ greatest_more p xs c.loop-version.version-index _ c.loop-version.best c.if-is_own.best c.loop-version-test.true (sym c.is_own.ensures ∙ w.if-is_own.true) c.loop-version.invariant (ap option_to_list w.best-is ∙ w.later-best.ensures)
      | else-is_own w ↦ ap option_to_list w.best-is ∙ greatest_same p xs c.loop-version.version-index _ c.loop-version.best c.loop-version-test.true (sym c.is_own.ensures ∙ w.if-is_own.false) c.loop-version.invariant
    ]
