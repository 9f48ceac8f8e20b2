use Rattle.std.proofs.Common.{◌≡◌, ℕ, ◌+◌, ◌<◌, ◌≤◌, List, length, get_or, arith, refl, ap, sym, subst, ◌∙◌}
use Rattle.ag_model.specs.declared.config.TermStart.{TermStart}
use Rattle.ag_model.specs.declared.record.Log.{Log}
use Rattle.ag_model.specs.declared.record.Record.{Record}
use Rattle.ag_model.specs.Blocks.{after_to}
use Rattle.ag_model.specs.Prefixes.{end_of}
use Rattle.ag_model.specs.Proper.{IsProper}
use Rattle.ag_ends.specs.Starts.{term_by}
use Rattle.ag_ends.proofs.Starts.{term_at_is}
use Rattle.ag_front.specs.Fetches.{IsBlockAfter}
use Rattle.ag_front.proofs.Ends.{at_the_end, next_end_there, block_after_there}
use Rattle.ag_front.proofs.history.History.block_after.Goals as goal

pub returns-in_default : goal.returns-in_default
returns-in_default c =
    let log : Log = record { records = c.self.inside.records; ends = c.self.inside.ends.items } in
    let i : ℕ = c.place_of-place.result in
    let proper = c.requires.proper in
    let inside = subst (λ (xs : List ℕ). i < length xs) c.as_slice.ensures.value c.place_of-place.ensures.inside in
    let at = subst (λ (xs : List ℕ). get_or xs i 0 ≡ c.args.lsn) c.as_slice.ensures.value c.place_of-place.ensures.is in
    let last = subst (λ (xs : List ℕ). length xs ≤ i + 1) c.deref.ensures.value c.in_default.ensures.lookup.3 in
    subst (λ (l : Log). end_of l ≡ c.args.lsn) c.self.view_is
    (at_the_end proper.0 log i c.args.lsn (subst (IsProper proper.0) (sym c.self.view_is) proper.1) inside last at)

pub copy_records-requires-clause-order : goal.copy_records-requires-clause-order
copy_records-requires-clause-order c =
    let log : Log = record { records = c.self.inside.records; ends = c.self.inside.ends.items } in
    let i : ℕ = c.place_of-place.result in
    let proper = c.requires.proper in
    let at = subst (λ (xs : List ℕ). get_or xs i 0 ≡ c.args.lsn) c.as_slice.ensures.value c.place_of-place.ensures.is in
    let more = subst (λ (xs : List ℕ). (i + 1 < length xs) × ((d : ℕ) → c.in-Some.end.now ≡ get_or xs (i + 1) d)) c.deref.ensures.value c.in-Some.ensures.lookup.3 in
    let lt = (next_end_there proper.0 log i (i + 1) c.args.lsn c.in-Some.end.now (subst (IsProper proper.0) (sym c.self.view_is) proper.1) (omega arith) more.0 at (more.1 0)).0 in
    omega arith

pub copy_records-requires-clause-within : goal.copy_records-requires-clause-within
copy_records-requires-clause-within c =
    let log : Log = record { records = c.self.inside.records; ends = c.self.inside.ends.items } in
    let i : ℕ = c.place_of-place.result in
    let proper = c.requires.proper in
    let at = subst (λ (xs : List ℕ). get_or xs i 0 ≡ c.args.lsn) c.as_slice.ensures.value c.place_of-place.ensures.is in
    let more = subst (λ (xs : List ℕ). (i + 1 < length xs) × ((d : ℕ) → c.in-Some.end.now ≡ get_or xs (i + 1) d)) c.deref.ensures.value c.in-Some.ensures.lookup.3 in
    let top = (next_end_there proper.0 log i (i + 1) c.args.lsn c.in-Some.end.now (subst (IsProper proper.0) (sym c.self.view_is) proper.1) (omega arith) more.0 at (more.1 0)).1 in
    subst (λ (xs : List Record). c.in-Some.end.now ≤ length xs) (sym c.as_slice-2.ensures) top

pub overflow_add-result : goal.overflow_add-result
overflow_add-result c =
    let log : Log = record { records = c.self.inside.records; ends = c.self.inside.ends.items } in
    let i : ℕ = c.place_of-place.result in
    let proper = c.requires.proper in
    let p = subst (IsProper proper.0) (sym c.self.view_is) proper.1 in
    let at = subst (λ (xs : List ℕ). get_or xs i 0 ≡ c.args.lsn) c.as_slice.ensures.value c.place_of-place.ensures.is in
    let more = subst (λ (xs : List ℕ). (i + 1 < length xs) × ((d : ℕ) → c.in-Some.end.now ≡ get_or xs (i + 1) d)) c.deref.ensures.value c.in-Some.ensures.lookup.3 in
    let within = next_end_there proper.0 log i (i + 1) c.args.lsn c.in-Some.end.now p (omega arith) more.0 at (more.1 0) in
    let lt = within.0 in let top = within.1 in let most = p.most in
    omega arith

pub returns : goal.returns
returns c =
    let log : Log = record { records = c.self.inside.records; ends = c.self.inside.ends.items } in
    let i : ℕ = c.place_of-place.result in
    let proper = c.requires.proper in
    let at = subst (λ (xs : List ℕ). get_or xs i 0 ≡ c.args.lsn) c.as_slice.ensures.value c.place_of-place.ensures.is in
    let more = subst (λ (xs : List ℕ). (i + 1 < length xs) × ((d : ℕ) → c.in-Some.end.now ≡ get_or xs (i + 1) d)) c.deref.ensures.value c.in-Some.ensures.lookup.3 in
    let last : ℕ = c.in-Some.end.now in
    let records = c.in_ok-records.ensures ∙ ap (λ (rs : List Record). after_to c.args.lsn last rs) c.as_slice-2.ensures in
    let term = c.term_of-term.ensures ∙ ap (λ (ss : List TermStart). term_by last ss) (c.as_slice-3.ensures.value ∙ c.self.invariant) ∙ term_at_is last c.self.inside.records in
    subst (λ (l : Log). IsBlockAfter l c.args.lsn (record { first = c.args.lsn + 1; term = c.term_of-term.result; records = c.in_ok-records.records })) c.self.view_is
    (block_after_there proper.0 log i (i + 1) c.args.lsn last _ (subst (IsProper proper.0) (sym c.self.view_is) proper.1) (omega arith) more.0 at (more.1 0) refl records term)
