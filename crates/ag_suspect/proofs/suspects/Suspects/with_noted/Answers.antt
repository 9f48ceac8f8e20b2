use Rattle.std.proofs.Common.{◌≡◌, ◌≤◌, ◌∙◌, ap, sym, false, List, [], ◌∷◌, ◌++◌, length, map, arith}
use Rattle.std.proofs.lemmas.List.{take_all}
use Rattle.ag_model.specs.declared.answer.SuspectRow.{SuspectRow}
use Rattle.ag_rules.specs.Plan.{has_row, noted_row}
use Rattle.ag_suspect.proofs.Changed.{same-rows, noted_stays}
use Rattle.ag_suspect.proofs.Standing.{first_row, noted-had, noted-new}
use Rattle.ag_suspect.proofs.suspects.Suspects.with_noted.Goals as goal
use Rattle.ag_suspect.proofs.suspects.Suspects.with_noted.Goals.{then-not-has+in_ok-push-2, else-not-has}

pub returns : goal.returns
returns c =
    let page = c.args.page in
    let kind = c.args.kind in
    let rows = c.args.self.now in
    let view : c.deref-row-items.result.now ≡ rows = cc (c.deref-row-items.ensures.value, c.self.view_is) in
    let end : length rows ≤ c.loop-row.row-index = omega (arith, ap length view, c.loop-row-test.false) in
    let each : c.loop-row.rows.items ≡ map (noted_row page kind) rows = c.loop-row.invariant ∙ ap (map (noted_row page kind)) (take_all c.loop-row.row-index rows end) in
    elim c.if-not-has.branch [
      | then-not-has+in_ok-push-2 w ↦
          let none : has_row page rows ≡ false = sym c.has.ensures ∙ w.if-not-has.true in
          ap (λ v. v.items) w.rows-is ∙ w.in_ok-push-2.ensures.items
          ∙ ap (λ (rs : List SuspectRow). rs ++ first_row page kind ∷ []) (each ∙ same-rows (noted_row page kind) page (noted_stays page kind) rows none) ∙ sym (noted-new rows page kind none c.requires)
      | else-not-has w ↦ ap (λ v. v.items) w.rows-is ∙ each ∙ sym (noted-had rows page kind (sym c.has.ensures ∙ w.if-not-has.false))
    ]
