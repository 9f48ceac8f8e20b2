-- An image that has some rows has the new ones once the one sector is written.
use Rattle.std.proofs.Common.{◌≡◌, ◌≢◌, ℕ, ◌+◌, ◌*◌, ◌/◌, ◌<◌, ◌≤◌, ◌^◌, Bool, true, false, ◌||◌, List, [], ◌∷◌, ◌++◌, map, length, get_or, take, drop, refl, sym, ap, subst, ◌∙◌, arith, inl, inr}
use Rattle.std.specs.Prelude.{Some, ◌==◌, nat_eq, nat_lt, if◌then◌else◌}
use Rattle.std.specs.List.{AllByRecursion, IsDistinct}
use Rattle.std.proofs.lemmas.Bool.{cases_lt}
use Rattle.std.proofs.lemmas.Bool.Decides.{eqb_tells, nat_tests}
use Rattle.std.proofs.lemmas.List.{ext_get_or, get_or-take, get_or-drop, length-take, length-drop, length-map, length-append, take-append-le, drop-append-le, drop_all, map-append}
use Rattle.ag_model.specs.declared.answer.SuspectRow.{SuspectRow}
use Rattle.ag_lists.proofs.Each.{all_push}
use Rattle.ag_lists.proofs.Tests.{by_bool}
use Rattle.ag_outside.specs.Disks.{Image, or_zeros, put}
use Rattle.ag_rules.specs.Plan.{has_row, can_note, counted, noted, noted_row, repaired_row}
use Rattle.ag_suspect.specs.Rows.{IsRow, rows_sector, AreRows, AreOnce, part_of, HasRows}
use Rattle.ag_suspect.specs.Places.{row_place, repaired, sector_with, noted_sector, repaired_sector}
use Rattle.ag_suspect.proofs.Bytes.{free_row}
use Rattle.ag_suspect.proofs.Changed.{place-within, place-behind, elsewhere, repaired_stays, noted_stays}

-- the sectors of other places
part-same : (j place : ℕ) (xs ys : List SuspectRow) → length xs ≡ length ys → ((m : ℕ) → m ≢ place → get_or xs m free_row ≡ get_or ys m free_row) → j ≢ place / 16 → part_of j xs ≡ part_of j ys
part-same j place xs ys long same apart =
    let few : length (part_of j xs) ≤ 16 = omega (arith, length-take 16 (drop (16 * j) xs)) in
    ext_get_or free_row (part_of j xs) (part_of j ys)
    (omega (arith, length-take 16 (drop (16 * j) xs), length-take 16 (drop (16 * j) ys), length-drop (16 * j) xs, length-drop (16 * j) ys))
    (λ i lt.
    let small : i < 16 = omega arith in
    let other : 16 * j + i ≢ place = λ e. apart (omega arith) in
    get_or-take 16 (drop (16 * j) xs) i free_row small ∙ get_or-drop (16 * j) xs i free_row ∙ same (16 * j + i) other ∙ sym (get_or-take 16 (drop (16 * j) ys) i free_row small ∙ get_or-drop (16 * j) ys i free_row))

part-pushed : (j : ℕ) (rows : List SuspectRow) (row : SuspectRow) → j ≢ length rows / 16 → part_of j (rows ++ row ∷ []) ≡ part_of j rows
part-pushed j rows row apart = elim (cases_lt (length rows) (16 * j)) [
  | inl past ↦
      let long : length (rows ++ row ∷ []) ≤ 16 * j = omega (arith, length-append rows (row ∷ [])) in
      let short : length rows ≤ 16 * j = omega arith in
      ap (take 16) (drop_all (16 * j) (rows ++ row ∷ []) long ∙ sym (drop_all (16 * j) rows short))
  | inr within ↦
      let whole : 16 ≤ length (drop (16 * j) rows) = omega (arith, length-drop (16 * j) rows) in
      ap (take 16) (drop-append-le (16 * j) rows (row ∷ []) within) ∙ take-append-le 16 (drop (16 * j) rows) (row ∷ []) whole
]

-- the one sector is written
stands-with : (image : Image) (old new : List SuspectRow) (place : ℕ) → HasRows image old → AreRows new → AreOnce new → ((j : ℕ) → j ≢ place / 16 → part_of j new ≡ part_of j old) → HasRows (put image (sector_with place new)) new
stands-with image old new place h rows once same = record {
  fit = rows.fit;
  few = rows.few;
  once = once;
  stand = λ j lt. elim (eqb_tells (1 + j) (1 + place / 16)) [
    | inl here ↦
        let at : place / 16 ≡ j = omega (arith, here.1) in
        ap (λ (b : Bool). or_zeros (if b then Some (rows_sector (part_of (place / 16) new)) else image (1 + j))) here.0 ∙ ap (λ (k : ℕ). rows_sector (part_of k new)) at
    | inr apart ↦
        let other : j ≢ place / 16 = λ e. apart.1 (omega arith) in
        ap (λ (b : Bool). or_zeros (if b then Some (rows_sector (part_of (place / 16) new)) else image (1 + j))) apart.0 ∙ h.stand j lt ∙ ap rows_sector (sym (same j other))
  ];
}

-- a change of each row that keeps its page
module _ (f : SuspectRow → SuspectRow) (keeps : (row : SuspectRow) → (f row).page ≡ row.page) where
  pages-map : (rows : List SuspectRow) → map (λ row. row.page) (map f rows) ≡ map (λ row. row.page) rows
  pages-map [] = refl
  pages-map (row ∷ rows) = ap (λ (p : ℕ). p ∷ map (λ row. row.page) (map f rows)) (keeps row) ∙ ap (λ (ps : List ℕ). row.page ∷ ps) (pages-map rows)

  once-map : (rows : List SuspectRow) → AreOnce rows → AreOnce (map f rows)
  once-map rows once = subst (λ (ps : List ℕ). IsDistinct nat_eq ps) (sym (pages-map rows)) once

fit-map : (f : SuspectRow → SuspectRow) → ((row : SuspectRow) → IsRow row → IsRow (f row)) → (rows : List SuspectRow) → AllByRecursion IsRow rows → AllByRecursion IsRow (map f rows)
fit-map f fits [] p = tt
fit-map f fits (row ∷ rows) p = (fits row p.0, fit-map f fits rows p.1)

noted-keeps : (page kind : ℕ) (row : SuspectRow) → (noted_row page kind row).page ≡ row.page
noted-keeps page kind row = by_bool (row.page == page) (λ b. (if b then record row { kind = kind; repaired = false; count = counted row.count } else row).page ≡ row.page) (λ _. refl) (λ _. refl)

repaired-keeps : (page : ℕ) (row : SuspectRow) → (repaired_row page row).page ≡ row.page
repaired-keeps page row = by_bool (row.page == page) (λ b. (if b then record row { repaired = true } else row).page ≡ row.page) (λ _. refl) (λ _. refl)

counted-fits : (count : ℕ) → count < 2 ^ 32 → counted count < 2 ^ 32
counted-fits count h = grind (arith, nat_tests)

pub noted-fits : (page kind : ℕ) → kind < 2 ^ 8 → (row : SuspectRow) → IsRow row → IsRow (noted_row page kind row)
noted-fits page kind small row h = by_bool (row.page == page) (λ b. IsRow (if b then record row { kind = kind; repaired = false; count = counted row.count } else row))
    (λ _. record { some = h.some; page = h.page; kind = small; count = counted-fits row.count h.count }) (λ _. h)

pub repaired-fits : (page : ℕ) (row : SuspectRow) → IsRow row → IsRow (repaired_row page row)
repaired-fits page row h = by_bool (row.page == page) (λ b. IsRow (if b then record row { repaired = true } else row)) (λ _. record { some = h.some; page = h.page; kind = h.kind; count = h.count }) (λ _. h)

-- a page more
distinct-push : (xs : List ℕ) (y : ℕ) → IsDistinct nat_eq xs → AllByRecursion (λ x. nat_eq x y ≡ false) xs → IsDistinct nat_eq (xs ++ y ∷ [])
unfolding IsDistinct
distinct-push [] y once apart = (tt, tt)
distinct-push (x ∷ xs) y once apart = (all_push (λ z. nat_eq x z ≡ false) xs y once.0 apart.0, distinct-push xs y once.1 apart.1)

absent : (rows : List SuspectRow) (page : ℕ) → has_row page rows ≡ false → AllByRecursion (λ x. nat_eq x page ≡ false) (map (λ row. row.page) rows)
absent [] page none = tt
absent (row ∷ rows) page none = by_bool (row.page == page) (λ b. (row.page == page) ≡ b → (b || has_row page rows) ≡ false → AllByRecursion (λ x. nat_eq x page ≡ false) (map (λ row. row.page) (row ∷ rows)))
    (λ _ _ no_. absurd cc) (λ _ apart rest. (apart, absent rows page rest)) refl none

once-pushed : (rows : List SuspectRow) (row : SuspectRow) → AreOnce rows → has_row row.page rows ≡ false → AreOnce (rows ++ row ∷ [])
once-pushed rows row once none =
    subst (λ (ps : List ℕ). IsDistinct nat_eq ps) (sym (map-append (λ (r : SuspectRow). r.page) rows (row ∷ []))) (distinct-push (map (λ r. r.page) rows) row.page once (absent rows row.page none))

abbrev pub first_row : ℕ → ℕ → SuspectRow
first_row page kind = record { page = page; kind = kind; repaired = false; count = 1 }

pub noted-had : (rows : List SuspectRow) (page kind : ℕ) → has_row page rows ≡ true → noted page kind rows ≡ map (noted_row page kind) rows
noted-had rows page kind had = ap (λ (b : Bool). if b then map (noted_row page kind) rows else if nat_lt (length rows) 1000 then rows ++ first_row page kind ∷ [] else rows) had

pub noted-new : (rows : List SuspectRow) (page kind : ℕ) → has_row page rows ≡ false → can_note page rows ≡ true → noted page kind rows ≡ rows ++ first_row page kind ∷ []
noted-new rows page kind none can =
    let room : nat_lt (length rows) 1000 ≡ true = sym (ap (λ (b : Bool). b || nat_lt (length rows) 1000) none) ∙ can in
    ap (λ (b : Bool). if b then map (noted_row page kind) rows else if nat_lt (length rows) 1000 then rows ++ first_row page kind ∷ [] else rows) none
    ∙ ap (λ (b : Bool). if b then rows ++ first_row page kind ∷ [] else rows) room

pub room-left : (rows : List SuspectRow) (page : ℕ) → has_row page rows ≡ false → can_note page rows ≡ true → length rows < 1000
room-left rows page none can =
    let room : nat_lt (length rows) 1000 ≡ true = sym (ap (λ (b : Bool). b || nat_lt (length rows) 1000) none) ∙ can in
    grind (arith, nat_tests, room)

pub noted-rows : (rows : List SuspectRow) (page kind : ℕ) → AreRows rows → 1 ≤ page → page < 2 ^ 16 → kind < 2 ^ 8 → can_note page rows ≡ true → AreRows (noted page kind rows)
noted-rows rows page kind are some within small can = by_bool (has_row page rows) (λ b. has_row page rows ≡ b → AreRows (noted page kind rows))
    (λ _ had. subst AreRows (sym (noted-had rows page kind had))
    (record { fit = fit-map (noted_row page kind) (noted-fits page kind small) rows are.fit; few = omega (arith, are.few, length-map rows (noted_row page kind)) }))
    (λ _ none. subst AreRows (sym (noted-new rows page kind none can))
    (record {
      fit = all_push IsRow rows (first_row page kind) are.fit (record { some = some; page = within; kind = small; count = omega arith });
      few = omega (arith, room-left rows page none can, length-append rows (first_row page kind ∷ []));
    }))
    refl

pub repaired-rows : (rows : List SuspectRow) (page : ℕ) → AreRows rows → AreRows (repaired page rows)
repaired-rows rows page are = record { fit = fit-map (repaired_row page) (repaired-fits page) rows are.fit; few = omega (arith, are.few, length-map rows (repaired_row page)) }

pub are-rows : (image : Image) (rows : List SuspectRow) → HasRows image rows → AreRows rows
are-rows image rows h = record { fit = h.fit; few = h.few }

pub noted-stands : (image : Image) (rows : List SuspectRow) (page kind : ℕ) → HasRows image rows → 1 ≤ page → page < 2 ^ 16 → kind < 2 ^ 8 → can_note page rows ≡ true → HasRows (put image (noted_sector page kind rows)) (noted page kind rows)
noted-stands image rows page kind h some within small can =
    let place = row_place page rows in
    let are = noted-rows rows page kind (are-rows image rows h) some within small can in
    by_bool (has_row page rows) (λ b. has_row page rows ≡ b → HasRows (put image (noted_sector page kind rows)) (noted page kind rows))
    (λ _ had.
    let is = noted-had rows page kind had in
    stands-with image rows (noted page kind rows) place h are (subst AreOnce (sym is) (once-map (noted_row page kind) (noted-keeps page kind) rows h.once))
    (λ j apart. ap (part_of j) is ∙ part-same j place (map (noted_row page kind) rows) rows (length-map rows (noted_row page kind)) (elsewhere (noted_row page kind) page (noted_stays page kind) rows h.once) apart))
    (λ _ none.
    let is = noted-new rows page kind none can in
    let behind : place ≡ length rows = place-behind (λ (row : SuspectRow). row.page == page) rows none in
    stands-with image rows (noted page kind rows) place h are (subst AreOnce (sym is) (once-pushed rows (first_row page kind) h.once none))
    (λ j apart. ap (part_of j) is ∙ part-pushed j rows (first_row page kind) (subst (λ (n : ℕ). j ≢ n / 16) behind apart)))
    refl

pub repaired-stands : (image : Image) (rows : List SuspectRow) (page : ℕ) → HasRows image rows → has_row page rows ≡ true → HasRows (put image (repaired_sector page rows)) (repaired page rows)
repaired-stands image rows page h had =
    let place = row_place page rows in
    stands-with image rows (repaired page rows) place h (repaired-rows rows page (are-rows image rows h)) (once-map (repaired_row page) (repaired-keeps page) rows h.once)
    (λ j apart. part-same j place (repaired page rows) rows (length-map rows (repaired_row page)) (elsewhere (repaired_row page) page (repaired_stays page) rows h.once) apart)

-- which sectors are written
pub noted-place : (rows : List SuspectRow) (page : ℕ) → length rows ≤ 1000 → can_note page rows ≡ true → row_place page rows < 1000
noted-place rows page few can = by_bool (has_row page rows) (λ b. has_row page rows ≡ b → row_place page rows < 1000)
    (λ _ had. let within : row_place page rows < length rows = place-within (λ (row : SuspectRow). row.page == page) rows had in omega arith)
    (λ _ none. let behind : row_place page rows ≡ length rows = place-behind (λ (row : SuspectRow). row.page == page) rows none in let room = room-left rows page none can in omega arith)
    refl

pub repaired-place : (rows : List SuspectRow) (page : ℕ) → length rows ≤ 1000 → has_row page rows ≡ true → row_place page rows < 1000
repaired-place rows page few had = let within : row_place page rows < length rows = place-within (λ (row : SuspectRow). row.page == page) rows had in omega arith

pub sector-within : (place : ℕ) → place < 1000 → (1 ≤ 1 + place / 16) × (1 + place / 16 < 64)
sector-within place lt = (omega arith, omega arith)
