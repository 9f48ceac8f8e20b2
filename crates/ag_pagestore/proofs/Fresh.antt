-- The mark of the next write is that of no readable sector.
use Rattle.std.proofs.Common.{◌≡◌, ◌+◌, ◌<◌, ◌≤◌, ℕ, zero, suc, List, [], ◌∷◌, length, get_or, Bool, true, false, not, cond, eqb, ◌||◌, ◌&&◌, refl, sym, ap, ◌∙◌, arith, inl, inr}
use Rattle.std.specs.List.{filter, list_any, list_all, range_with_len}
use Rattle.std.proofs.lemmas.Bool.Decides.{eqb_tells}
use Rattle.std.proofs.lemmas.Bool.{cases_eq, or_from, not-true, and_parts}
use Rattle.ag_model.specs.declared.answer.Cell.{Cell}
use Rattle.ag_model.specs.declared.answer.Cell.TheVariants.{Mark, Lost}
use Rattle.ag_model.specs.Cells.{same_mark, is_sound, next_mark, next_of, first_or_zero, free_mark, mark_after}
use Rattle.ag_pagestore.proofs.Unused.{unused, unused-step, all_unused}

-- whether a sector has this mark
abbrev pub has : ℕ → List Cell → Bool
has m cells = list_any (same_mark (Mark m)) cells

any_cons : (from k : ℕ) (cs : List Cell) → (from ≡ k → ⊥) → has from (Mark k ∷ cs) ≡ has from cs
any_cons from k cs apart = elim (eqb_tells from k) [
  | inl here ↦ absurd (apart here.1)
  | inr other ↦ ap (λ (e : Bool). e || has from cs) other.0
]

any_own : (from k : ℕ) (cs : List Cell) → from ≡ k → has from (Mark k ∷ cs) ≡ true
any_own from k cs is = elim (eqb_tells from k) [
  | inl here ↦ ap (λ (e : Bool). e || has from cs) here.0
  | inr other ↦ absurd (other.1 is)
]

-- one cell more takes no mark above its own away
above : (k from n : ℕ) (cs : List Cell) → k < from → unused (Mark k ∷ cs) from n ≡ unused cs from n
unfolding unused
above k from zero cs lt = refl
above k from (suc n) cs lt =
    unused-step (Mark k ∷ cs) from n (has from cs) (any_cons from k cs (λ (e : from ≡ k). omega (arith, e)))
    ∙ ap (λ (z : List ℕ). cond (has from cs) z (from ∷ z)) (above k (from + 1) n cs (omega arith)) ∙ sym (unused-step cs from n (has from cs) refl)

one_at_most : (b : Bool) (x : ℕ) (xs : List ℕ) → length (cond b xs (x ∷ xs)) ≤ suc (length xs)
one_at_most true x xs = omega arith
one_at_most false x xs = omega arith

both_steps : (b : Bool) (x : ℕ) (xs ys : List ℕ) → length xs ≤ suc (length ys) → length (cond b xs (x ∷ xs)) ≤ suc (length (cond b ys (x ∷ ys)))
both_steps true x xs ys le = le
both_steps false x xs ys le = omega arith

-- it takes one away at most
one_less : (k from n : ℕ) (cs : List Cell) → length (unused cs from n) ≤ suc (length (unused (Mark k ∷ cs) from n))
unfolding unused
one_less k from zero cs = omega arith
one_less k from (suc n) cs = elim (cases_eq from k) [
  | inl is ↦
      let step = unused-step cs from n (has from cs) refl in
      let own = unused-step (Mark k ∷ cs) from n true (any_own from k cs is) in
      let same = above k (from + 1) n cs (omega arith) in
      omega (arith, ap length step, ap length own, ap length same, one_at_most (has from cs) from (unused cs (from + 1) n))
  | inr apart ↦
      let step = unused-step cs from n (has from cs) refl in
      let more = unused-step (Mark k ∷ cs) from n (has from cs) (any_cons from k cs apart) in
      omega (arith, ap length step, ap length more, both_steps (has from cs) from (unused cs (from + 1) n) (unused (Mark k ∷ cs) (from + 1) n) (one_less k (from + 1) n cs))
]

none_used : (from n : ℕ) → length (unused [] from n) ≡ n
unfolding unused
none_used from zero = refl
none_used from (suc n) = ap length (unused-step [] from n false refl) ∙ ap suc (none_used (from + 1) n)

-- so many marks less than there are cells are used
enough : (cells : List Cell) (from n : ℕ) → n ≤ length (unused cells from n) + length cells
unfolding unused
enough [] from n = omega (arith, none_used from n)
enough (Lost ∷ cs) from n = let ih = enough cs from n in omega (arith, ih)
enough (Mark k ∷ cs) from n = let ih = enough cs from n in omega (arith, ih, one_less k from n cs)

first_case : (p : ℕ → Bool) (x : ℕ) (xs : List ℕ) (b : Bool) → p x ≡ b → (0 < length (filter p xs) → p (first_or_zero (filter p xs)) ≡ true) → 0 < length (filter p (x ∷ xs)) → p (first_or_zero (filter p (x ∷ xs))) ≡ true
first_case p x xs true is rest more = ap (λ (b : Bool). p (first_or_zero (cond b (x ∷ filter p xs) (filter p xs)))) is ∙ is
first_case p x xs false is rest more =
    let e : filter p (x ∷ xs) ≡ filter p xs = ap (λ (b : Bool). cond b (x ∷ filter p xs) (filter p xs)) is in
    ap (λ (z : List ℕ). p (first_or_zero z)) e ∙ rest (omega (arith, more, ap length e))

first_passes : (p : ℕ → Bool) (xs : List ℕ) → 0 < length (filter p xs) → p (first_or_zero (filter p xs)) ≡ true
first_passes p [] lt = absurd (omega arith)
first_passes p (x ∷ xs) lt = first_case p x xs (p x) refl (first_passes p xs) lt

-- a free mark is there, and no sector has it
free_passes : (cells : List Cell) (from n : ℕ) → 0 < length (unused cells from n) → has (first_or_zero (unused cells from n)) cells ≡ false
unfolding unused
free_passes cells from n some = not-true (has (first_or_zero (unused cells from n)) cells) (first_passes (λ m. not (has m cells)) (range_with_len from n) some)

free_is : (cells : List Cell) → length cells ≤ 16 → has (first_or_zero (unused cells 1 17)) cells ≡ false
free_is cells few = let many = enough cells 1 17 in free_passes cells 1 17 (omega (arith, many))

next_apart : (k : ℕ) → next_mark k ≡ k → ⊥
next_apart k is = elim (eqb_tells k 255) [
  | inl here ↦ (let one : next_mark k ≡ 1 = ap (λ (b : Bool). cond b 1 (k + 1)) here.0 in omega (arith, one, is, here.1))
  | inr other ↦ (let more : next_mark k ≡ k + 1 = ap (λ (b : Bool). cond b 1 (k + 1)) other.0 in omega (arith, more, is))
]

-- where all have one mark, none has another
other_mark : (k m : ℕ) (cells : List Cell) → (m ≡ k → ⊥) → list_all (same_mark (Mark k)) cells ≡ true → has m cells ≡ false
other_mark k m [] apart all = refl
other_mark k m (Lost ∷ cs) apart all = absurd (cc all)
other_mark k m (Mark j ∷ cs) apart all =
    let parts = and_parts (eqb k j) (list_all (same_mark (Mark k)) cs) all in
    let own : k ≡ j = elim (eqb_tells k j) [ inl here ↦ here.1 | inr other ↦ absurd (cc (sym other.0 ∙ parts.0)) ] in
    let no : eqb m j ≡ false = elim (eqb_tells m j) [ inl here ↦ absurd (apart (here.1 ∙ sym own)) | inr other ↦ other.0 ] in
    or_from (eqb m j) (has m cs) no (other_mark k m cs apart parts.1)

after_torn : (cells : List Cell) → is_sound cells ≡ false → mark_after cells ≡ first_or_zero (unused cells 1 17)
unfolding mark_after
after_torn cells is = ap (λ (b : Bool). cond b (next_of (get_or cells 0 Lost)) (free_mark cells)) is ∙ sym (all_unused cells)

after_mark : (k : ℕ) (cs : List Cell) → is_sound (Mark k ∷ cs) ≡ true → mark_after (Mark k ∷ cs) ≡ next_mark k
unfolding mark_after
after_mark k cs is = ap (λ (b : Bool). cond b (next_mark k) (free_mark (Mark k ∷ cs))) is

after_sound : (cells : List Cell) (b : Bool) → is_sound cells ≡ b → length cells ≤ 16 → 0 < length cells → has (mark_after cells) cells ≡ false
after_sound cells false is few some = ap (λ (m : ℕ). has m cells) (after_torn cells is) ∙ free_is cells few
after_sound [] true is few some = absurd (omega arith)
after_sound (Lost ∷ cs) true is few some = absurd (cc is)
after_sound (Mark k ∷ cs) true is few some = ap (λ (m : ℕ). has m (Mark k ∷ cs)) (after_mark k cs is) ∙ other_mark k (next_mark k) (Mark k ∷ cs) (next_apart k) is

-- no readable sector has the mark of the next write
pub after_is : (cells : List Cell) → length cells ≤ 16 → 0 < length cells → has (mark_after cells) cells ≡ false
after_is cells few some = after_sound cells (is_sound cells) refl few some
