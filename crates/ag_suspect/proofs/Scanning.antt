-- Reading an image place by place.
use Rattle.std.proofs.Common.{◌≡◌, ◌≢◌, ℕ, suc, ◌+◌, ◌-◌, ◌*◌, ◌/◌, ◌%◌, ◌<◌, Bool, true, false, cond, List, [], ◌∷◌, ◌++◌, map, take, drop, sym, ap, ◌∙◌, arith, append_assoc, inl, inr}
use Rattle.std.specs.Prelude.{◌==◌, not}
use Rattle.std.specs.List.{range_with_len, take_while}
use Rattle.std.proofs.lemmas.Bool.Decides.{eqb_tells}
use Rattle.std.proofs.lemmas.List.{append-nil}
use Rattle.std.proofs.lemmas.List.Sums.{take_while-cons}
use Rattle.ag_model.specs.declared.answer.SuspectRow.{SuspectRow}
use Rattle.ag_outside.specs.Disks.{Image, or_zeros}
use Rattle.ag_suspect.specs.Rows.{row_in, slot_on, is_taken, suspects_on}

-- the rows that are left from a place on
abbrev pub rest_from : Image → ℕ → List SuspectRow
rest_from image i = take_while is_taken (map (slot_on image) (range_with_len i (1000 - i)))

pub slot-read : (image : Image) (i : ℕ) (sector : List ℕ) (row : SuspectRow) → or_zeros (image (1 + i / 16)) ≡ sector → row ≡ row_in (take 32 (drop (32 * (i % 16)) sector)) → row ≡ slot_on image i
unfolding slot_on
slot-read image i sector row is read = read ∙ ap (λ (bytes : List ℕ). row_in (take 32 (drop (32 * (i % 16)) bytes))) (sym is)

rest-next : (image : Image) (i : ℕ) → i < 1000 → rest_from image i ≡ cond (is_taken (slot_on image i)) (slot_on image i ∷ rest_from image (i + 1)) []
rest-next image i lt =
    let more : 1000 - i ≡ suc (1000 - (i + 1)) = omega arith in
    ap (λ (n : ℕ). take_while is_taken (map (slot_on image) (range_with_len i n))) more ∙ take_while-cons is_taken (slot_on image i) (map (slot_on image) (range_with_len (i + 1) (1000 - (i + 1))))

taken-is : (row : SuspectRow) → row.page ≢ 0 → is_taken row ≡ true
taken-is row some = elim (eqb_tells row.page 0) [ inl none ↦ absurd (some none.1) | inr other ↦ ap not other.0 ]

free-is : (row : SuspectRow) → row.page ≡ 0 → is_taken row ≡ false
free-is row none = ap (λ (p : ℕ). not (p == 0)) none

-- a row more
pub rest-more : (image : Image) (i : ℕ) (rows more : List SuspectRow) (row : SuspectRow) → i < 1000 → rows ++ rest_from image i ≡ suspects_on image → row ≡ slot_on image i → row.page ≢ 0 → more ≡ rows ++ row ∷ []
    → more ++ rest_from image (i + 1) ≡ suspects_on image
rest-more image i rows more row lt so_far is some grown =
    let passes : is_taken (slot_on image i) ≡ true = ap is_taken (sym is) ∙ taken-is row some in
    let next : rest_from image i ≡ row ∷ rest_from image (i + 1) =
    rest-next image i lt ∙ ap (λ (b : Bool). cond b (slot_on image i ∷ rest_from image (i + 1)) []) passes ∙ ap (λ (r : SuspectRow). r ∷ rest_from image (i + 1)) (sym is) in
    ap (λ (rs : List SuspectRow). rs ++ rest_from image (i + 1)) grown ∙ append_assoc rows (row ∷ []) (rest_from image (i + 1)) ∙ ap (λ (rs : List SuspectRow). rows ++ rs) (sym next) ∙ so_far

-- the first free place
pub rest-stop : (image : Image) (i : ℕ) (rows : List SuspectRow) (row : SuspectRow) → i < 1000 → rows ++ rest_from image i ≡ suspects_on image → row ≡ slot_on image i → row.page ≡ 0 → rows ≡ suspects_on image
rest-stop image i rows row lt so_far is none =
    let fails : is_taken (slot_on image i) ≡ false = ap is_taken (sym is) ∙ free-is row none in
    let next : rest_from image i ≡ [] = rest-next image i lt ∙ ap (λ (b : Bool). cond b (slot_on image i ∷ rest_from image (i + 1)) []) fails in
    sym (append-nil rows) ∙ ap (λ (rs : List SuspectRow). rows ++ rs) (sym next) ∙ so_far

-- no row was read yet
pub rest-all : (image : Image) (rows : List SuspectRow) → rows ≡ [] → rows ++ rest_from image 0 ≡ suspects_on image
unfolding suspects_on
rest-all image rows none = ap (λ (rs : List SuspectRow). rs ++ rest_from image 0) none
