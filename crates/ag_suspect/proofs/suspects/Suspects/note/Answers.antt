use Rattle.std.proofs.Common.{◌≡◌, ◌≤◌, ◌<◌, ◌^◌, ℕ, true, List, length, arith, sym, ap, subst, ◌∙◌}
use Rattle.ag_model.specs.declared.answer.SuspectRow.{SuspectRow}
use Rattle.ag_outside.specs.Disks.{Image, put}
use Rattle.ag_rules.specs.Plan.{can_note}
use Rattle.ag_suspect.specs.Rows.{AreRows, HasRows}
use Rattle.ag_suspect.specs.Places.{row_place, sector_with, noted_sector}
use Rattle.ag_suspect.proofs.Standing.{noted-place, noted-rows, noted-stands}
use Rattle.ag_suspect.proofs.suspects.Suspects.note.Goals as goal

pub save-requires-clause-place : goal.save-requires-clause-place
save-requires-clause-place g c =
    let view : c.self.inside.rows.items ≡ c.args.self.now = cc (c.self.view_is) in
    let few : length c.args.self.now ≤ 1000 = omega (arith, c.self.invariant.few, ap length view) in
    let can : can_note c.args.page c.args.self.now ≡ true = sym c.can_note.ensures ∙ c.if-not-can_note.false in
    subst (λ (n : ℕ). n < 1000) (sym c.place_of-place.ensures) (noted-place c.args.self.now c.args.page few can)

pub invariant_of-self : goal.invariant_of-self
invariant_of-self g c =
    let view : c.self.inside.rows.items ≡ c.args.self.now = cc (c.self.view_is) in
    let can : can_note c.args.page c.args.self.now ≡ true = sym c.can_note.ensures ∙ c.if-not-can_note.false in
    let within : c.args.page < 2 ^ 16 = omega arith in
    let small : c.args.kind < 2 ^ 8 = omega arith in
    subst (λ (rows : List SuspectRow). AreRows rows) (sym c.in_ok-noted_rows.ensures) (noted-rows c.args.self.now c.args.page c.args.kind (subst (λ (rows : List SuspectRow). AreRows rows) view c.self.invariant) c.requires.page within small can)

pub returns-clause-stands : goal.returns-clause-stands
returns-clause-stands g c = λ k h.
    let old = g.D.Disk.reads c.args.disk.now in
    let rows = c.args.self.now in
    let page = c.args.page in
    let kind = c.args.kind in
    let can : can_note page rows ≡ true = sym c.can_note.ensures ∙ c.if-not-can_note.false in
    let within : page < 2 ^ 16 = omega arith in
    let small : kind < 2 ^ 8 = omega arith in
    let saved : g.D.Disk.reads c.save.new.disk ≡ put old (noted_sector page kind rows) =
    c.in_ok-save.ensures.saved k ∙ ap (λ (n : ℕ). put old (sector_with n c.as_slice.result.now)) c.place_of-place.ensures
    ∙ ap (λ (rs : List SuspectRow). put old (sector_with (row_place page rows) rs)) (c.as_slice.ensures.value ∙ c.in_ok-noted_rows.ensures) in
    let stands = noted-stands old rows page kind h c.requires.page within small can in
    subst (λ (image : Image). HasRows image c.in_ok-noted_rows.noted_rows.items) (sym saved) (subst (λ (rs : List SuspectRow). HasRows (put old (noted_sector page kind rows)) rs) (sym c.in_ok-noted_rows.ensures) stands)
