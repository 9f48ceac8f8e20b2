-- The rows that an image has are those that are read of it.
use Rattle.std.proofs.Common.{◌≡◌, ℕ, zero, suc, ◌+◌, ◌*◌, ◌/◌, ◌%◌, ◌<◌, ◌≤◌, Bool, true, false, cond, List, [], ◌∷◌, map, length, get_or, take, drop, replicate, refl, sym, ap, ◌∙◌, arith}
use Rattle.std.proofs.lemmas.List.{get_or-take, get_or-drop, length-take}
use Rattle.std.proofs.lemmas.List.Sums.{take_while-cons}
use Rattle.std.specs.List.{AllByRecursion, IsDistinct, range_with_len, take_while}
use Rattle.ag_model.specs.declared.answer.SuspectRow.{SuspectRow}
use Rattle.ag_lists.proofs.Each.{all_map, all_take, all_drop}
use Rattle.ag_outside.specs.Disks.{Image, or_zeros}
use Rattle.ag_outside.specs.MemDisks.{image_of_zeros}
use Rattle.ag_suspect.specs.Rows.{IsRow, row_in, rows_sector, slot_on, is_taken, suspects_on, part_of, HasRows}
use Rattle.ag_suspect.proofs.Bytes.{free_row, in_sector}

-- the front of a list that is given place by place, with what fails behind it
take_while-places : {X : Type 0} (p : X → Bool) (d : X) (f : ℕ → X) (xs : List X) (a n : ℕ) → p d ≡ false → length xs ≤ n → AllByRecursion (λ x. p x ≡ true) xs → ((i : ℕ) → i < n → f (a + i) ≡ get_or xs i d)
    → take_while p (map f (range_with_len a n)) ≡ xs
take_while-places p d f [] a zero fails_there short passes is = refl
take_while-places p d f [] a (suc n) fails_there short passes is =
    let here : f a ≡ d = ap f (omega arith) ∙ is 0 (omega arith) in
    let fails : p (f a) ≡ false = ap p here ∙ fails_there in
    take_while-cons p (f a) (map f (range_with_len (a + 1) n)) ∙ ap (λ (b : Bool). cond b (f a ∷ take_while p (map f (range_with_len (a + 1) n))) []) fails
take_while-places p d f (x ∷ xs) a zero fails_there short passes is = absurd (omega arith)
take_while-places p d f (x ∷ xs) a (suc n) fails_there short passes is =
    let here : f a ≡ x = ap f (omega arith) ∙ is 0 (omega arith) in
    let pass : p (f a) ≡ true = ap p here ∙ passes.0 in
    let rest : take_while p (map f (range_with_len (a + 1) n)) ≡ xs = take_while-places p d f xs (a + 1) n fails_there (omega arith) passes.1 (λ i lt. ap f (omega arith) ∙ is (suc i) (omega arith)) in
    take_while-cons p (f a) (map f (range_with_len (a + 1) n)) ∙ ap (λ (b : Bool). cond b (f a ∷ take_while p (map f (range_with_len (a + 1) n))) []) pass ∙ ap (λ (y : _). y ∷ take_while p (map f (range_with_len (a + 1) n))) here
    ∙ ap (λ (ys : List _). x ∷ ys) rest

map-range : {X : Type 0} (f g : ℕ → X) (a n : ℕ) → ((i : ℕ) → i < n → f (a + i) ≡ g (a + i)) → map f (range_with_len a n) ≡ map g (range_with_len a n)
map-range f g a zero is = refl
map-range f g a (suc n) is =
    let here : f a ≡ g a = ap f (omega arith) ∙ is 0 (omega arith) ∙ ap g (omega arith) in
    let rest : map f (range_with_len (a + 1) n) ≡ map g (range_with_len (a + 1) n) = map-range f g (a + 1) n (λ i lt. ap f (omega arith) ∙ is (suc i) (omega arith) ∙ ap g (omega arith)) in
    ap (λ (y : _). y ∷ map f (range_with_len (a + 1) n)) here ∙ ap (λ (ys : List _). g a ∷ ys) rest

-- the row at a place of an image
pub slot_on-rows : (image : Image) (rows : List SuspectRow) → HasRows image rows → (i : ℕ) → i < 1000 → slot_on image i ≡ get_or rows i free_row
unfolding slot_on
slot_on-rows image rows h i lt =
    let j = i / 16 in
    let k = i % 16 in
    let within : j < 63 = omega arith in
    let small : k < 16 = omega arith in
    let part = part_of j rows in
    let few : length part ≤ 16 = omega (arith, length-take 16 (drop (16 * j) rows)) in
    let fit : AllByRecursion IsRow part = all_take IsRow 16 (drop (16 * j) rows) (all_drop IsRow (16 * j) rows h.fit) in
    let place : 16 * j + k ≡ i = omega arith in
    ap (λ (bytes : List ℕ). row_in (take 32 (drop (32 * k) bytes))) (h.stand j within) ∙ in_sector part k fit few small
    ∙ get_or-take 16 (drop (16 * j) rows) k free_row small ∙ get_or-drop (16 * j) rows k free_row ∙ ap (λ (m : ℕ). get_or rows m free_row) place

taken : (row : SuspectRow) → IsRow row → is_taken row ≡ true
taken row h = grind (arith, h.some)

pub are_read : (image : Image) (rows : List SuspectRow) → HasRows image rows → suspects_on image ≡ rows
unfolding suspects_on
are_read image rows h = take_while-places is_taken free_row (slot_on image) rows 0 1000 refl h.few (all_map IsRow (λ row. is_taken row ≡ true) taken rows h.fit) (λ i lt. ap (slot_on image) (omega arith) ∙ slot_on-rows image rows h i lt)

abbrev pub SameAt : Image → Image → Type 0
SameAt one two = (at : ℕ) → 1 ≤ at → at < 64 → or_zeros (one at) ≡ or_zeros (two at)

same_slot : (one two : Image) → SameAt one two → (i : ℕ) → i < 1000 → slot_on one i ≡ slot_on two i
unfolding slot_on
same_slot one two same i lt = ap (λ (bytes : List ℕ). row_in (take 32 (drop (32 * (i % 16)) bytes))) (same (1 + i / 16) (omega arith) (omega arith))

pub same_read : (one two : Image) → SameAt one two → suspects_on one ≡ suspects_on two
unfolding suspects_on
same_read one two same = ap (take_while is_taken) (map-range (slot_on one) (slot_on two) 0 1000 (λ i lt. ap (slot_on one) (omega arith) ∙ same_slot one two same i lt ∙ ap (slot_on two) (omega arith)))

pub same_had : (one two : Image) (rows : List SuspectRow) → SameAt one two → HasRows one rows → HasRows two rows
same_had one two rows same h = record {
  fit = h.fit;
  few = h.few;
  once = h.once;
  stand = λ j lt. sym (same (1 + j) (omega arith) (omega arith)) ∙ h.stand j lt;
}

no_rows : rows_sector [] ≡ replicate 512 0
unfolding rows_sector
no_rows = refl

drop-nil : (n : ℕ) → drop {A = SuspectRow} n [] ≡ []
drop-nil zero = refl
drop-nil (suc n) = refl

-- a disk of zeros has no row
pub blank : HasRows image_of_zeros []
unfolding IsDistinct
blank = record { fit = tt; few = omega arith; once = tt; stand = λ j lt. sym (ap (λ (rows : List SuspectRow). rows_sector (take 16 rows)) (drop-nil (16 * j)) ∙ no_rows) }
