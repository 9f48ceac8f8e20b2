use Rattle.std.proofs.Common.{◌≡◌, ◌≤◌, ◌<◌, ℕ, true, false, List, length, arith, sym, ap, subst, ◌∙◌}
use Rattle.ag_model.specs.declared.answer.SuspectRow.{SuspectRow}
use Rattle.ag_outside.specs.Disks.{Image, put}
use Rattle.ag_rules.specs.Plan.{has_row}
use Rattle.ag_suspect.specs.Rows.{AreRows, HasRows}
use Rattle.ag_suspect.specs.Places.{row_place, sector_with, repaired_sector}
use Rattle.ag_suspect.proofs.Changed.{none_repaired}
use Rattle.ag_suspect.proofs.Standing.{repaired-place, repaired-rows, repaired-stands}
use Rattle.ag_suspect.proofs.suspects.Suspects.mark.Goals as goal

pub returns-then-not-has-clause-marked : goal.returns-then-not-has-clause-marked
returns-then-not-has-clause-marked g c =
    let none : has_row c.args.page c.args.self.now ≡ false = sym c.has.ensures ∙ c.if-not-has.true in
    sym (none_repaired c.args.self.now c.args.page none)

pub save-requires-clause-place : goal.save-requires-clause-place
save-requires-clause-place g c =
    let view : c.self.inside.rows.items ≡ c.args.self.now = cc (c.self.view_is) in
    let few : length c.args.self.now ≤ 1000 = omega (arith, c.self.invariant.few, ap length view) in
    let had : has_row c.args.page c.args.self.now ≡ true = sym c.has.ensures ∙ c.if-not-has.false in
    subst (λ (n : ℕ). n < 1000) (sym c.place_of-place.ensures) (repaired-place c.args.self.now c.args.page few had)

pub invariant_of-self : goal.invariant_of-self
invariant_of-self g c =
    let view : c.self.inside.rows.items ≡ c.args.self.now = cc (c.self.view_is) in
    subst (λ (rows : List SuspectRow). AreRows rows) (sym c.in_ok-rows.ensures) (repaired-rows c.args.self.now c.args.page (subst (λ (rows : List SuspectRow). AreRows rows) view c.self.invariant))

pub returns-clause-stands : goal.returns-clause-stands
returns-clause-stands g c = λ k h.
    let old = g.D.Disk.reads c.args.disk.now in
    let rows = c.args.self.now in
    let page = c.args.page in
    let had : has_row page rows ≡ true = sym c.has.ensures ∙ c.if-not-has.false in
    let saved : g.D.Disk.reads c.save.new.disk ≡ put old (repaired_sector page rows) =
    c.in_ok-save.ensures.saved k ∙ ap (λ (n : ℕ). put old (sector_with n c.as_slice.result.now)) c.place_of-place.ensures
    ∙ ap (λ (rs : List SuspectRow). put old (sector_with (row_place page rows) rs)) (c.as_slice.ensures.value ∙ c.in_ok-rows.ensures) in
    subst (λ (image : Image). HasRows image c.in_ok-rows.rows.items) (sym saved)
    (subst (λ (rs : List SuspectRow). HasRows (put old (repaired_sector page rows)) rs) (sym c.in_ok-rows.ensures) (repaired-stands old rows page h had))
