-- What a change of one page's row leaves of the list, and of its sectors.
use Rattle.std.proofs.Common.{◌≡◌, ◌≢◌, ℕ, zero, suc, ◌+◌, ◌<◌, ◌≤◌, Bool, true, false, cond, not, ◌||◌, List, [], ◌∷◌, map, length, get_or, refl, ap, ◌∙◌, arith, inl, inr}
use Rattle.std.specs.Prelude.{Some, None, ◌==◌, nat_eq, unwrap_or, position, if◌then◌else◌}
use Rattle.std.proofs.lemmas.Bool.{cases_lt, lt-ltb, le-ltb}
use Rattle.std.proofs.lemmas.List.Sums.{prefix_len-le-length}
use Rattle.std.specs.List.{AllByRecursion, IsDistinct, list_any, position_or_len}
use Rattle.std.proofs.lemmas.Bool.Decides.{eqb_tells, nat_tests}
use Rattle.ag_model.specs.declared.answer.SuspectRow.{SuspectRow}
use Rattle.ag_lists.proofs.Tests.{by_bool}
use Rattle.ag_rules.specs.Plan.{has_row, counted, noted_row, repaired_row}
use Rattle.ag_suspect.specs.Rows.{AreOnce}
use Rattle.ag_suspect.specs.Places.{row_place, repaired}
use Rattle.ag_suspect.proofs.Bytes.{free_row}

-- whether a row is of a page
abbrev of_page : ℕ → SuspectRow → Bool
of_page page row = row.page == page

-- a page that has a row, and one that has none
pub place-within : {X : Type 0} (p : X → Bool) (xs : List X) → list_any p xs ≡ true → position_or_len p xs < length xs
place-within p [] h = absurd cc
place-within p (x ∷ xs) h = by_bool (p x) (λ b. (b || list_any p xs) ≡ true → cond (not b) (1 + position_or_len p xs) 0 < suc (length xs)) (λ _ _. omega arith) (λ _ rest. let ih = place-within p xs rest in omega arith) h

pub place-behind : {X : Type 0} (p : X → Bool) (xs : List X) → list_any p xs ≡ false → position_or_len p xs ≡ length xs
place-behind p [] h = refl
place-behind p (x ∷ xs) h = by_bool (p x) (λ b. (b || list_any p xs) ≡ false → cond (not b) (1 + position_or_len p xs) 0 ≡ suc (length xs)) (λ _ no. absurd cc) (λ _ rest. let ih = place-behind p xs rest in omega arith) h

-- a change that leaves all rows but those of one page
module _ (f : SuspectRow → SuspectRow) (page : ℕ) (stays : (row : SuspectRow) → (row.page == page) ≡ false → f row ≡ row) where
  -- no row is of the page
  pub same-rows : (rows : List SuspectRow) → list_any (of_page page) rows ≡ false → map f rows ≡ rows
  same-rows [] h = refl
  same-rows (row ∷ rows) h = by_bool (row.page == page) (λ b. (row.page == page) ≡ b → (b || list_any (of_page page) rows) ≡ false → map f (row ∷ rows) ≡ row ∷ rows)
      (λ _ _ no. absurd cc)
      (λ _ apart rest. ap (λ (r : SuspectRow). r ∷ map f rows) (stays row apart) ∙ ap (λ (rs : List SuspectRow). row ∷ rs) (same-rows rows rest))
      refl h

  -- behind a row of the page there is none, where no page has two
  none-behind : (one : ℕ) (rows : List SuspectRow) → one ≡ page → AllByRecursion (λ y. nat_eq one y ≡ false) (map (λ r. r.page) rows) → list_any (of_page page) rows ≡ false
  none-behind one [] is h = refl
  none-behind one (row ∷ rows) is h =
      let apart : (row.page == page) ≡ false = grind (arith, nat_tests, h.0, is) in
      ap (λ (b : Bool). b || list_any (of_page page) rows) apart ∙ none-behind one rows is h.1

  where_same : (row : SuspectRow) → (row.page == page) ≡ true → row.page ≡ page
  where_same row h = elim (eqb_tells row.page page) [ inl same ↦ same.1 | inr other ↦ absurd (cc (other.0, h)) ]

  behind : (row : SuspectRow) (rows : List SuspectRow) → AreOnce (row ∷ rows) → (m : ℕ) → (row.page == page) ≡ true → m ≢ 0 → get_or (map f (row ∷ rows)) m free_row ≡ get_or (row ∷ rows) m free_row
  unfolding IsDistinct
  behind row rows once zero here other = absurd (other refl)
  behind row rows once (suc m) here other = ap (λ (rs : List SuspectRow). get_or rs m free_row) (same-rows rows (none-behind row.page rows (where_same row here) once.0))

  past : (row : SuspectRow) (rows : List SuspectRow) → ((m : ℕ) → m ≢ row_place page rows → get_or (map f rows) m free_row ≡ get_or rows m free_row) → (m : ℕ) → (row.page == page) ≡ false → m ≢ 1 + row_place page rows
      → get_or (map f (row ∷ rows)) m free_row ≡ get_or (row ∷ rows) m free_row
  past row rows ih zero away other = stays row away
  past row rows ih (suc m) away other = ih m (λ e. other (omega arith))

  once_tail : (row : SuspectRow) (rows : List SuspectRow) → AreOnce (row ∷ rows) → AreOnce rows
  unfolding IsDistinct
  once_tail row rows once = once.1

  -- the rows at the other places stay
  pub elsewhere : (rows : List SuspectRow) → AreOnce rows → (m : ℕ) → m ≢ row_place page rows → get_or (map f rows) m free_row ≡ get_or rows m free_row
  elsewhere [] once m apart = refl
  elsewhere (row ∷ rows) once m apart = by_bool (row.page == page) (λ b. (row.page == page) ≡ b → m ≢ cond (not b) (1 + row_place page rows) 0 → get_or (map f (row ∷ rows)) m free_row ≡ get_or (row ∷ rows) m free_row)
      (λ _ here other. behind row rows once m here other)
      (λ _ away other. past row rows (elsewhere rows (once_tail row rows once)) m away other)
      refl apart

pub repaired_stays : (page : ℕ) (row : SuspectRow) → (row.page == page) ≡ false → repaired_row page row ≡ row
repaired_stays page row apart = ap (λ (b : Bool). if b then record row { repaired = true } else row) apart

pub none_repaired : (rows : List SuspectRow) (page : ℕ) → has_row page rows ≡ false → repaired page rows ≡ rows
none_repaired rows page none = same-rows (repaired_row page) page (repaired_stays page) rows none

pub noted_stays : (page kind : ℕ) (row : SuspectRow) → (row.page == page) ≡ false → noted_row page kind row ≡ row
noted_stays page kind row apart = ap (λ (b : Bool). if b then record row { kind = kind; repaired = false; count = counted row.count } else row) apart

-- where the first one stands, or behind the last
pub first-or-behind : {X : Type 0} (p : X → Bool) (xs : List X) → unwrap_or (position p xs) (length xs) ≡ position_or_len p xs
first-or-behind p xs =
    let n = position_or_len p xs in
    let le : n ≤ length xs = prefix_len-le-length (λ x. not (p x)) xs in
    elim (cases_lt n (length xs)) [
      | inl within ↦ ap (λ (b : Bool). unwrap_or (cond b (Some n) None) (length xs)) (lt-ltb n (length xs) within)
      | inr behind ↦ ap (λ (b : Bool). unwrap_or (cond b (Some n) None) (length xs)) (le-ltb n (length xs) behind) ∙ omega arith
    ]
