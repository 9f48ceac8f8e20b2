-- That the pages which records touch have copies.
use Rattle.std.proofs.Common.{◌≡◌, ℕ, ◌+◌, ◌-◌, ◌<◌, ◌≤◌, Bool, true, false, ◌||◌, eqb, List, [], ◌∷◌, length, get_or, set, refl, sym, ap, subst, ◌∙◌, inl, inr, arith}
use Rattle.std.specs.Prelude.{Option, Some, None}
use Rattle.std.specs.List.{AllByRecursion, list_any}
use Rattle.std.specs.Option.{IsSome, is_some}
use Rattle.std.proofs.Math.Bool.{or-false}
use Rattle.std.proofs.lemmas.Bool.{cases_Bool, eqb-true, false≢true}
use Rattle.std.proofs.lemmas.List.{get_or-set_same}
use Rattle.ag_lists.proofs.Each.{all_always}
use Rattle.ag_lists.proofs.Filters.{all_passing}
use Rattle.ag_model.specs.declared.event.Pair.{Pair}
use Rattle.ag_model.specs.declared.record.Record.{Record}
use Rattle.ag_model.specs.declared.value.Change.{Change}
use Rattle.ag_model.specs.declared.value.Change.TheVariants.{Put as PutChange, Del as DelChange}
use Rattle.ag_model.specs.declared.value.PageValue.{PageValue}
use Rattle.ag_model.specs.Rows.{contains, touches, page_of, page_numbers}
use Rattle.ag_rules.specs.CommitEvent.{end_record}
use Rattle.ag_rules.specs.PutEvent.{record_of}
use Rattle.ag_rules.specs.SetEvent.{pages_of_pairs}
use Rattle.ag_txn.specs.Effective.{HaveCopiesFor}
use Rattle.ag_txn.specs.Fresh.{OnlyTouch}
use Rattle.ag_txn.specs.View.{Copies, copy_of, with_copy}

-- a page with no copy has none
no_copy : {X : Type 0} (o : Option X) → o ≡ None → IsSome o → ⊥
no_copy o e some = false≢true (sym (ap is_some e) ∙ some)

-- one page, which has a copy
pub have_one : (pages page : ℕ) (r : Record) (w : PageValue) (copies : Copies) → length copies ≡ pages → page < 16 + pages → 16 ≤ page → ((p : ℕ) → touches pages p r ≡ eqb p page)
    → HaveCopiesFor pages (with_copy page w copies) (r ∷ [])
have_one pages page r w copies long high low touch p l h none = or-false (touches pages p r) ∙ touch p ∙ elim (cases_Bool (eqb p page)) [
  | inr off ↦ off
  | inl t ↦
      (let place : p - 16 ≡ page - 16 = ap (λ (n : ℕ). n - 16) (eqb-true p page t) in
      let here : ◌≡◌ {A = Option PageValue} (Some w) None =
      sym (ap (λ (n : ℕ). get_or (set copies (page - 16) (Some w)) n None) place ∙ get_or-set_same copies (page - 16) (Some w) None (omega arith)) ∙ none in
      absurd (cc))
]

pub change_touches : (pages txn key p : ℕ) (change : Change) → touches pages p (record_of txn key change) ≡ eqb p (page_of pages key)
change_touches pages txn key p (PutChange value) = refl
change_touches pages txn key p DelChange = refl

-- what holds of each holds of one that is there
there : (P : ℕ → Type 0) (xs : List ℕ) (p : ℕ) → AllByRecursion P xs → contains p xs ≡ true → P p
there P [] p all e = absurd (cc)
there P (x ∷ xs) p all e = elim (cases_Bool (eqb p x)) [
  | inl t ↦ subst P (sym (eqb-true p x t)) all.0
  | inr f ↦ there P xs p all.1 (sym (ap (λ (b : Bool). b || contains p xs) f) ∙ e)
]

-- listed pages, each of which has a copy
pub have_listed : (pages : ℕ) (listed : List ℕ) (rs : List Record) (copies : Copies) → OnlyTouch pages listed rs → AllByRecursion (λ p. IsSome (copy_of copies p)) listed
    → HaveCopiesFor pages copies rs
have_listed pages listed rs copies touch all p low high none = elim (cases_Bool (contains p listed)) [
  | inr off ↦ touch p off
  | inl on ↦ absurd (no_copy (copy_of copies p) none (there (λ q. IsSome (copy_of copies q)) listed p all on))
]

pub end_touches : (pages txn : ℕ) (commits : Bool) (listed : List ℕ) → OnlyTouch pages listed (end_record commits txn listed ∷ [])
end_touches pages txn true listed p off = or-false (contains p listed) ∙ off
end_touches pages txn false listed p off = or-false (contains p listed) ∙ off

-- the pages of pairs, each of which has a copy
pub pairs_have : (pages : ℕ) (pairs : List Pair) (copies : Copies) → AllByRecursion (λ (pair : Pair). IsSome (copy_of copies (page_of pages pair.key))) pairs
    → AllByRecursion (λ p. IsSome (copy_of copies p)) (pages_of_pairs pages pairs)
pairs_have pages pairs copies all =
    all_passing (λ _. Unit {0}) (λ p. IsSome (copy_of copies p)) (λ p. list_any (λ (pair : Pair). eqb (page_of pages pair.key) p) pairs) (λ p u e. of_pair p pairs all e)
    (page_numbers pages) (all_always (λ _. Unit {0}) (λ _. tt) (page_numbers pages))
  where
    of_pair : (p : ℕ) (ps : List Pair) → AllByRecursion (λ (pair : Pair). IsSome (copy_of copies (page_of pages pair.key))) ps
        → list_any (λ (pair : Pair). eqb (page_of pages pair.key) p) ps ≡ true → IsSome (copy_of copies p)
    of_pair p [] h e = absurd (cc)
    of_pair p (q ∷ qs) h e = elim (cases_Bool (eqb (page_of pages q.key) p)) [
      | inl t ↦ subst (λ (n : ℕ). IsSome (copy_of copies n)) (eqb-true (page_of pages q.key) p t) h.0
      | inr f ↦ of_pair p qs h.1 (sym (ap (λ (b : Bool). b || list_any (λ (pair : Pair). eqb (page_of pages pair.key) p) qs) f) ∙ e)
    ]
