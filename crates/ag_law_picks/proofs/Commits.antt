-- Which record commits a transaction.
use Rattle.std.proofs.Common.{◌≡◌, ℕ, suc, ◌+◌, ◌⊎◌, Bool, false, cond, eqb, List, [], ◌∷◌, ◌++◌, length, refl, sym, ap, ◌∙◌, inl, inr, arith, Some, Option, slice_get}
use Rattle.std.specs.List.{list_any, enumerate_from}
use Rattle.std.proofs.lemmas.Bool.{cases_Bool, or_parts, or_from, eqb-true, eqb-false, eq-eqb, ne_eqb}
use Rattle.std.proofs.lemmas.List.Folds.{list_any-append}
use Rattle.ag_model.specs.declared.record.Record.{Record}
use Rattle.ag_model.specs.declared.record.Record.TheVariants.{Put, Del, Commit, Abort, Trim, Term}
use Rattle.ag_model.specs.Rows.{contains}
use Rattle.ag_model.specs.Page.{numbered, commit_here, commit_of, is_abort_of}
use Rattle.ag_model.specs.Txns.{txn_of, is_end_of}
use Rattle.ag_version.proofs.Endings.{IsOpen, commit_here-passes, aborted-open}
use Rattle.ag_law_picks.proofs.Changes.{Commits}

-- the LSN of a Commit is that of a record that is one, where there is one
abbrev pub IsCommitted : ℕ → ℕ → List Record → Type 0
IsCommitted u k log = (commit_of u (enumerate_from k log) ≡ 0) ⊎ ((i : ℕ) × (commit_of u (enumerate_from k log) ≡ k + i) × ((listed : List ℕ) × (slice_get log i ≡ Some (Commit u listed))))

committed-later : (u k : ℕ) (r : Record) (log : List Record) → IsCommitted u (k + 1) log → commit_here u r k (commit_of u (enumerate_from (k + 1) log)) ≡ commit_of u (enumerate_from (k + 1) log) → IsCommitted u k (r ∷ log)
committed-later u k r log ih e = elim ih [
  | inl none ↦ inl (e ∙ none)
  | inr w ↦ (let n : k + 1 + w.0 ≡ k + suc w.0 = omega arith in inr (suc w.0, e ∙ w.1 ∙ n, w.2))
]

committed-kind : (u k : ℕ) (r : Record) (log : List Record) → IsCommitted u (k + 1) log → IsCommitted u k (r ∷ log)
committed-kind u k (Put t key v) log ih = committed-later u k (Put t key v) log ih refl
committed-kind u k (Del t key) log ih = committed-later u k (Del t key) log ih refl
committed-kind u k (Abort t listed) log ih = committed-later u k (Abort t listed) log ih refl
committed-kind u k (Trim page h) log ih = committed-later u k (Trim page h) log ih refl
committed-kind u k (Term term) log ih = committed-later u k (Term term) log ih refl
committed-kind u k (Commit t listed) log ih = elim (cases_Bool (eqb u t)) [
  | inl own ↦
      let n : k ≡ k + 0 = omega arith in
      let made : ℕ → Option Record = λ z. Some (Commit z listed) in
      inr (0, ap (λ (b : Bool). cond b k (commit_of u (enumerate_from (k + 1) log))) own ∙ n, (listed, ap made (sym (eqb-true u t own))))
  | inr other ↦ committed-later u k (Commit t listed) log ih (ap (λ (b : Bool). cond b k (commit_of u (enumerate_from (k + 1) log))) other)
]

pub commit_of-is : (u k : ℕ) (log : List Record) → IsCommitted u k log
commit_of-is u k [] = inl refl
commit_of-is u k (r ∷ log) = committed-kind u k r log (commit_of-is u (k + 1) log)

-- ---- a Commit within a log

-- no record of the transaction comes later
abbrev pub IsOver : ℕ → List Record → Type 0
IsOver t log = list_any (λ r. contains t (txn_of r)) log ≡ false

commit_of-at : (t k : ℕ) (before : List Record) (listed : List ℕ) (rest : List Record) → IsOpen t before → commit_of t (enumerate_from k (before ++ Commit t listed ∷ rest)) ≡ k + length before
commit_of-at t k [] listed rest begun = ap (λ (b : Bool). cond b k (commit_of t (enumerate_from (k + 1) rest))) (eq-eqb t t refl) ∙ (let n : k ≡ k + 0 = omega arith in n)
commit_of-at t k (x ∷ before) listed rest begun =
    let p = or_parts (is_end_of t x) (list_any (is_end_of t) before) begun in
    commit_here-passes t x k (commit_of t (enumerate_from (k + 1) (before ++ Commit t listed ∷ rest))) p.0 ∙ commit_of-at t (k + 1) before listed rest p.1 ∙ (let n : k + 1 + length before ≡ k + suc (length before) = omega arith in n)

abort-other : (t : ℕ) (r : Record) → contains t (txn_of r) ≡ false → is_abort_of t r ≡ false
abort-other t (Put u key v) e = refl
abort-other t (Del u key) e = refl
abort-other t (Commit u listed) e = refl
abort-other t (Abort u listed) e = (let p = or_parts (eqb t u) false e in p.0)
abort-other t (Trim page h) e = refl
abort-other t (Term term) e = refl

aborted-over : (t : ℕ) (log : List Record) → IsOver t log → list_any (is_abort_of t) log ≡ false
aborted-over t [] e = refl
aborted-over t (r ∷ log) e =
    let p = or_parts (contains t (txn_of r)) (list_any (λ x. contains t (txn_of x)) log) e in
    or_from (is_abort_of t r) (list_any (is_abort_of t) log) (abort-other t r p.0) (aborted-over t log p.1)

get-at : (before : List Record) (r : Record) (rest : List Record) → slice_get (before ++ r ∷ rest) (length before) ≡ Some r
get-at [] r rest = refl
get-at (x ∷ before) r rest = get-at before r rest

-- two Commits of one place are of one transaction
same-commit : (t u : ℕ) (listed others : List ℕ) → (let r : Option Record = Some (Commit t listed) in r) ≡ Some (Commit u others) → t ≡ u
same-commit t u listed others e = cc

pub commits-within : (t : ℕ) (before : List Record) (listed : List ℕ) (rest : List Record) → IsOpen t before → IsOver t rest → Commits (before ++ Commit t listed ∷ rest) t (1 + length before)
commits-within t before listed rest begun over = record {
  own = commit_of-at t 1 before listed rest begun;
  others = λ u other. elim (commit_of-is u 1 (before ++ Commit t listed ∷ rest)) [
    | inl none ↦ ne_eqb (commit_of u (numbered (before ++ Commit t listed ∷ rest))) (1 + length before) (λ e. absurd (omega (arith, none)))
    | inr w ↦ ne_eqb (commit_of u (numbered (before ++ Commit t listed ∷ rest))) (1 + length before) (λ e.
        let i : w.0 ≡ length before = omega (arith, w.1) in
        let at : slice_get (before ++ Commit t listed ∷ rest) (length before) ≡ Some (Commit u w.2.0) = ap (slice_get (before ++ Commit t listed ∷ rest)) (sym i) ∙ w.2.1 in
        eqb-false t u other (same-commit t u listed w.2.0 (sym (get-at before (Commit t listed) rest) ∙ at)))
  ];
  lives = list_any-append (is_abort_of t) before (Commit t listed ∷ rest) ∙ or_from (list_any (is_abort_of t) before) (list_any (is_abort_of t) (Commit t listed ∷ rest)) (aborted-open t before begun) (aborted-over t rest over);
}

-- where the record of an LSN commits nothing, no version is committed by it
pub nothing-new : (u : ℕ) (before : List Record) (r : Record) (rest : List Record) → ((listed : List ℕ) → r ≡ Commit u listed → ⊥) → eqb (commit_of u (numbered (before ++ r ∷ rest))) (1 + length before) ≡ false
nothing-new u before r rest other = elim (commit_of-is u 1 (before ++ r ∷ rest)) [
  | inl none ↦ ne_eqb (commit_of u (numbered (before ++ r ∷ rest))) (1 + length before) (λ e. absurd (omega (arith, none)))
  | inr w ↦ ne_eqb (commit_of u (numbered (before ++ r ∷ rest))) (1 + length before) (λ e.
      let i : w.0 ≡ length before = omega (arith, w.1) in
      let at : slice_get (before ++ r ∷ rest) (length before) ≡ Some (Commit u w.2.0) = ap (slice_get (before ++ r ∷ rest)) (sym i) ∙ w.2.1 in
      other w.2.0 (same-record r (Commit u w.2.0) (sym (get-at before r rest) ∙ at)))
]
  where
    same-record : (r s : Record) → (let x : Option Record = Some r in x) ≡ Some s → r ≡ s
    same-record r s e = cc
