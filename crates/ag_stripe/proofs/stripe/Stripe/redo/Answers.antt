use Rattle.std.proofs.Common.{◌≡◌, ℕ, true, false, sym, subst}
use Rattle.std.specs.Prelude.{Option, None}
use Rattle.std.proofs.lemmas.Result.{err_from_is_err_and}
use Rattle.ag_model.specs.declared.record.Log.{Log}
use Rattle.ag_stripe.specs.Ahead.{IsAhead, AreNext}
use Rattle.ag_stripe.specs.Answers.{IsApplyFault, IsLeastBad}
use Rattle.ag_stripe.specs.Known.{known}
use Rattle.ag_stripe.specs.Redo.{is_touched, AreDirtyKept}
use Rattle.ag_stripe.specs.Tables.{is_own, slot_of}
use Rattle.ag_stripe.specs.View.{StripeView}
use Rattle.ag_stripe.specs.Visits.{Visits}
use Rattle.ag_stripe.proofs.Blocks.{read-fault, least-bad, redo-fault, values-after, others-after, dirty-after}
use Rattle.ag_stripe.proofs.stripe.Stripe.redo.Goals as goal

pub returns-in_err-page-clause-fault : goal.returns-in_err-page-clause-fault
returns-in_err-page-clause-fault g c =
    let s = c.self.inside in
    let told = g.H.PageHome.told in
    let records = c.args.records.now in
    let p = err_from_is_err_and c.from_residual.result c.from_residual.ensures.1 in
    rw (p.1, p.2) (subst (λ (x : StripeView _). IsApplyFault (told x.home) x.table x.applied records c.in_err-page.field-0.0) c.self.view_is (read-fault (told s.home) s.table s.applied records _ c.in_err-page.ensures.fault))

pub returns-in-Some-clause-fault : goal.returns-in-Some-clause-fault
returns-in-Some-clause-fault g c =
    let s = c.self.inside in
    let told = g.H.PageHome.told in
    let mid = c.visit_all.new.table in
    let records = c.args.records.now in
    let h = subst (λ (least : Option ℕ). Visits (told s.home) s.table mid None least (is_touched s.table records)) c.in-Some.is c.in_ok-page.ensures.visits in
    subst (λ (x : StripeView _). IsLeastBad (told x.home) x.table records c.in-Some.page) c.self.view_is (least-bad (told s.home) s.table mid records h.reads c.in-Some.page h)

pub returns-in_err-end-clause-fault : goal.returns-in_err-end-clause-fault
returns-in_err-end-clause-fault g c =
    let s = c.self.inside in
    let told = g.H.PageHome.told in
    let mid = c.visit_all.new.table in
    let records = c.args.records.now in
    let h = subst (λ (least : Option ℕ). Visits (told s.home) s.table mid None least (is_touched s.table records)) c.in_default.is c.in_ok-page.ensures.visits in
    let p = err_from_is_err_and c.from_residual-in_err-end.result c.from_residual-in_err-end.ensures.1 in
    rw (p.1, p.2) (subst (λ (x : StripeView _). IsApplyFault (told x.home) x.table x.applied records c.in_err-end.field-0.0) c.self.view_is (redo-fault (told s.home) s.table mid records h.reads s.applied _ h c.in_err-end.ensures.refused))

pub returns-in_err-end-clause-kept : goal.returns-in_err-end-clause-kept
returns-in_err-end-clause-kept g c =
    let s = c.self.inside in
    let told = g.H.PageHome.told in
    let mid = c.visit_all.new.table in
    let new = c.redo_all.new.table in
    let records = c.args.records.now in
    let h = subst (λ (least : Option ℕ). Visits (told s.home) s.table mid None least (is_touched s.table records)) c.in_default.is c.in_ok-page.ensures.visits in
    subst (λ (x : StripeView _). AreDirtyKept x.table → AreDirtyKept new) c.self.view_is (dirty-after (told s.home) s.table mid records h.reads new h c.redo_all.ensures.edits)

pub returns-clause-kept : goal.returns-clause-kept
returns-clause-kept g c =
    let s = c.self.inside in
    let told = g.H.PageHome.told in
    let mid = c.visit_all.new.table in
    let new = c.redo_all.new.table in
    let records = c.args.records.now in
    let h = subst (λ (least : Option ℕ). Visits (told s.home) s.table mid None least (is_touched s.table records)) c.in_default.is c.in_ok-page.ensures.visits in
    subst (λ (x : StripeView _). AreDirtyKept x.table → AreDirtyKept new) c.self.view_is (dirty-after (told s.home) s.table mid records h.reads new h c.redo_all.ensures.edits)

pub returns-clause-others : goal.returns-clause-others
returns-clause-others g c =
    let s = c.self.inside in
    let told = g.H.PageHome.told in
    let mid = c.visit_all.new.table in
    let new = c.redo_all.new.table in
    let records = c.args.records.now in
    let h = subst (λ (least : Option ℕ). Visits (told s.home) s.table mid None least (is_touched s.table records)) c.in_default.is c.in_ok-page.ensures.visits in
    subst (λ (x : StripeView _). (page : ℕ) → is_touched x.table records page ≡ false → slot_of new page ≡ slot_of x.table page) c.self.view_is (others-after (told s.home) s.table mid records h.reads new h c.redo_all.ensures.edits)

pub returns-clause-values : goal.returns-clause-values
returns-clause-values g c =
    let s = c.self.inside in
    let told = g.H.PageHome.told in
    let mid = c.visit_all.new.table in
    let new = c.redo_all.new.table in
    let records = c.args.records.now in
    let h = subst (λ (least : Option ℕ). Visits (told s.home) s.table mid None least (is_touched s.table records)) c.in_default.is c.in_ok-page.ensures.visits in
    subst (λ (x : StripeView _). (log : Log) (page : ℕ) → AreNext x.table.pages x.applied log records → is_own x.table page ≡ true
    → IsAhead x.table.pages log x.applied page (known (told x.home) x.table page) → IsAhead x.table.pages log c.in_ok-end.end page (known (told x.home) new page)) c.self.view_is
    (λ log page next own ahead.
    subst (λ (end : ℕ). IsAhead s.table.pages log end page (known (told s.home) new page)) (sym c.in_ok-end.ensures.end)
    (values-after (told s.home) s.table mid records h.reads new s.applied h c.in_ok-end.ensures.values log page next own ahead))
