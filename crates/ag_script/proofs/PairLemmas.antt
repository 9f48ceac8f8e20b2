-- Pairs that are read are spelled, and pairs that are spelled are read.
use Rattle.std.proofs.Common.{◌≡◌, ℕ, zero, suc, ◌-◌, ◌^◌, ◌<◌, ◌≤◌, List, [], ◌∷◌, ◌++◌, length, true, false, cond, ltb, Option, Some, None, refl, sym, ap, subst, ◌∙◌, arith, inl, inr, ◌⊎◌, append_assoc}
use Rattle.std.specs.Prelude.{is_some}
use Rattle.std.specs.List.{flat_map}
use Rattle.std.proofs.lemmas.List.{append-nil, length-append}
use Rattle.std.proofs.lemmas.List.Concat.{flat_map-cons}
use Rattle.std.proofs.lemmas.Option.{cond_some}
use Rattle.std.proofs.lemmas.Bool.{ltb-true, lt-ltb}
use Rattle.ag_lists.proofs.Results.{some_is}
use Rattle.ag_model.specs.declared.event.Pair.{Pair}
use Rattle.ag_model.specs.declared.event.Suffix.{Suffix}
use Rattle.ag_model.specs.declared.event.Suffix.TheVariants.{Whole, Stop, Fail}
use Rattle.ag_script.specs.Words.{Word, Bytes, key, Spells, SpellsAll, pair_words, suffix_words}
use Rattle.ag_script.specs.Hex.{◌>>=◌}
use Rattle.ag_script.specs.ReadWord.{number_at, value_at}
use Rattle.ag_script.specs.ReadWords.{word_by, key_by, some_pairs, pairs_at}
use Rattle.ag_script.proofs.WordLemmas.{pick, found, number_takes, number_again, value_takes, value_again}
use Rattle.ag_script.proofs.SuffixLemmas.{word_takes}

abbrev Read : Type 0
Read = List Pair × List (List ℕ)

-- the words of the first pair
pair_front : (p : Pair) (pairs : List Pair) (texts : List (List ℕ)) → SpellsAll (key p.key ∷ Bytes p.value ∷ flat_map pair_words pairs) texts → SpellsAll (flat_map pair_words (p ∷ pairs)) texts
pair_front p pairs texts h = subst (λ (ws : List Word). SpellsAll ws texts) (sym (flat_map-cons pair_words p pairs)) h

front_pair : (p : Pair) (pairs : List Pair) (texts : List (List ℕ)) → SpellsAll (flat_map pair_words (p ∷ pairs)) texts → SpellsAll (key p.key ∷ Bytes p.value ∷ flat_map pair_words pairs) texts
front_pair p pairs texts h = subst (λ (ws : List Word). SpellsAll ws texts) (flat_map-cons pair_words p pairs) h

-- the texts before what is left spell these pairs, and no more than so many
abbrev pub Takes : ℕ → List (List ℕ) → Read → Type 0
Takes most texts read = (front : List (List ℕ)) × (texts ≡ front ++ read.1) × SpellsAll (flat_map pair_words read.0) front × (length read.0 ≤ most)

one_more : (most : ℕ) (texts : List (List ℕ)) (a b : List ℕ) (w1 w2 : List (List ℕ)) (p : Pair) (more read : Read) → texts ≡ a ∷ w1 → w1 ≡ b ∷ w2 → Spells (key p.key) a → Spells (Bytes p.value) b → Takes most w2 more → Some (p ∷ more.0, more.1) ≡ Some read → Takes (suc most) texts read
one_more most texts a b w1 w2 p more read first second spells_key spells_value taken is =
    let cut : texts ≡ (a ∷ b ∷ taken.0) ++ more.1 = first ∙ ap (λ (ts : List (List ℕ)). a ∷ ts) (second ∙ ap (λ (ts : List (List ℕ)). b ∷ ts) taken.1) in
    let spelled = pair_front p more.0 (a ∷ b ∷ taken.0) (spells_key, (spells_value, taken.2)) in
    subst (Takes (suc most) texts) (some_is (p ∷ more.0, more.1) read is) (a ∷ b ∷ taken.0, cut, spelled, omega (arith, taken.3))

pub some_takes : (most : ℕ) (texts : List (List ℕ)) (read : Read) → some_pairs most texts ≡ Some read → Takes most texts read
some_takes zero texts read e = subst (Takes zero texts) (some_is ([], texts) read e) ([], refl, tt, omega arith)
some_takes (suc most) texts read e =
    elim (pick (is_some (key_by texts)) (key_by texts >>= λ k. word_by value_at k.1 >>= λ v. some_pairs most v.1 >>= λ more. Some (record { key = k.0; value = v.0 } ∷ more.0, more.1)) (Some ([], texts)) (Some read) e) [
      | inr none ↦ subst (Takes (suc most) texts) (some_is ([], texts) read none) ([], refl, tt, omega arith)
      | inl p ↦ (
          let a = word_takes (number_at 0 (2 ^ 32 - 1)) texts (λ k. word_by value_at k.1 >>= λ v. some_pairs most v.1 >>= λ more. Some (record { key = k.0; value = v.0 } ∷ more.0, more.1)) read p.1 in
          let b = word_takes value_at a.1 (λ v. some_pairs most v.1 >>= λ more. Some (record { key = a.2; value = v.0 } ∷ more.0, more.1)) read a.5 in
          let d = found (some_pairs most b.1) (λ more. Some (record { key = a.2; value = b.2 } ∷ more.0, more.1)) read b.5 in
          one_more most texts a.0 b.0 a.1 b.1 (record { key = a.2; value = b.2 }) d.0 read a.3 b.3 (number_takes 0 (2 ^ 32 - 1) a.0 a.2 a.4) (value_takes b.0 b.2 b.4) (some_takes most b.1 d.0 d.1) d.2)
    ]

pub some_again : (most : ℕ) (pairs : List Pair) (front rest : List (List ℕ)) → SpellsAll (flat_map pair_words pairs) front → length pairs ≤ most → is_some (key_by rest) ≡ false → some_pairs most (front ++ rest) ≡ Some (pairs, rest)
some_again zero [] [] rest h few none = refl
some_again (suc most) [] [] rest h few none = rw none refl
some_again most [] (a ∷ front) rest h few none = absurd h
some_again zero (p ∷ pairs) front rest h few none = absurd (omega arith)
some_again (suc most) (p ∷ pairs) [] rest h few none = absurd (front_pair p pairs [] h)
some_again (suc most) (p ∷ pairs) (a ∷ []) rest h few none = absurd (front_pair p pairs (a ∷ []) h).1
some_again (suc most) (p ∷ pairs) (a ∷ b ∷ front) rest h few none =
    let s = front_pair p pairs (a ∷ b ∷ front) h in
    rw (number_again 0 (2 ^ 32 - 1) a p.key s.0, value_again b p.value s.1.0, some_again most pairs front rest s.1.1 (omega arith) none) refl

-- no key comes next where a suffix does
pub no_key : (s : Suffix) (rest : List (List ℕ)) → SpellsAll (suffix_words s) rest → is_some (key_by rest) ≡ false
no_key Whole [] h = refl
no_key Whole (a ∷ rest) h = absurd h
no_key (Stop w m) [] h = absurd h
no_key (Stop w m) (a ∷ rest) h = rw h.0 refl
no_key (Fail n) [] h = absurd h
no_key (Fail n) (a ∷ rest) h = rw h.0 refl

pub pairs_takes : (texts : List (List ℕ)) (read : Read) → pairs_at texts ≡ Some read → Takes 8 texts read × (1 ≤ length read.0)
unfolding pairs_at
pairs_takes texts read e =
    let f = found (some_pairs 8 texts) (λ x. cond (ltb 0 (length x.0)) (Some x) None) read e in
    let g = cond_some (ltb 0 (length f.0.0)) f.0 read f.2 in
    let some : 0 < length f.0.0 = ltb-true _ _ g.0 in
    subst (λ (r : Read). Takes 8 texts r × (1 ≤ length r.0)) g.1 (some_takes 8 texts f.0 f.1, omega arith)

pub pairs_again : (pairs : List Pair) (front rest : List (List ℕ)) → SpellsAll (flat_map pair_words pairs) front → 1 ≤ length pairs → length pairs ≤ 8 → is_some (key_by rest) ≡ false → pairs_at (front ++ rest) ≡ Some (pairs, rest)
unfolding pairs_at
pairs_again pairs front rest h some few none = rw (some_again 8 pairs front rest h few none, lt-ltb 0 (length pairs) (omega arith)) refl

-- ---- the loop

-- the pairs so far before those that are read
abbrev with_pairs : List Pair → Option Read → Option Read
with_pairs pairs read = read >>= λ x. Some (pairs ++ x.0, x.1)

-- the pairs so far, and the words that are left
pub record PairsSoFar (start left : List (List ℕ)) (pairs : List Pair) : Type 0 where
  pub so_far : with_pairs pairs (some_pairs (8 - length pairs) left) ≡ some_pairs 8 start
  pub few : length pairs ≤ 8

with_none : (read : Option Read) → with_pairs [] read ≡ read
with_none None = refl
with_none (Some x) = refl

with_more : (pairs : List Pair) (p : Pair) (read : Option Read) → with_pairs (pairs ++ p ∷ []) read ≡ with_pairs pairs (read >>= λ x. Some (p ∷ x.0, x.1))
with_more pairs p None = refl
with_more pairs p (Some x) = ap (λ (ps : List Pair). let r : Read = (ps, x.1) in Some r) (append_assoc pairs (p ∷ []) x.0)

pub pairs_start : (start : List (List ℕ)) → PairsSoFar start start []
pairs_start start = record { so_far = with_none (some_pairs 8 start); few = omega arith }

one_pair : (p : Pair) (most : ℕ) (w0 w1 w2 : List (List ℕ)) → key_by w0 ≡ Some (p.key, w1) → word_by value_at w1 ≡ Some (p.value, w2) → some_pairs (suc most) w0 ≡ some_pairs most w2 >>= λ x. Some (p ∷ x.0, x.1)
one_pair p most w0 w1 w2 hk hv = rw (hk, hv) refl

pub pairs_next : (start w0 w1 w2 : List (List ℕ)) (pairs : List Pair) (p : Pair) → PairsSoFar start w0 pairs → length pairs < 8 → key_by w0 ≡ Some (p.key, w1) → word_by value_at w1 ≡ Some (p.value, w2) → PairsSoFar start w2 (pairs ++ p ∷ [])
pairs_next start w0 w1 w2 pairs p h room hk hv =
    let len = length-append pairs (p ∷ []) in
    let most : 8 - length pairs ≡ suc (8 - length (pairs ++ p ∷ [])) = omega (arith, len) in
    record {
      so_far = with_more pairs p (some_pairs (8 - length (pairs ++ p ∷ [])) w2)
          ∙ sym (ap (with_pairs pairs) (ap (λ (n : ℕ). some_pairs n w0) most ∙ one_pair p (8 - length (pairs ++ p ∷ [])) w0 w1 w2 hk hv))
          ∙ h.so_far;
      few = omega (arith, len);
    }

no_pair : (most k : ℕ) (w0 w1 : List (List ℕ)) → key_by w0 ≡ Some (k, w1) → word_by value_at w1 ≡ None → some_pairs (suc most) w0 ≡ None
no_pair most k w0 w1 hk hv = rw (hk, hv) refl

-- a key without a value
pub pairs_none : (start w0 w1 : List (List ℕ)) (pairs : List Pair) (k : ℕ) → PairsSoFar start w0 pairs → length pairs < 8 → key_by w0 ≡ Some (k, w1) → word_by value_at w1 ≡ None → pairs_at start ≡ None
unfolding pairs_at
pairs_none start w0 w1 pairs k h room hk hv =
    let most : 8 - length pairs ≡ suc (7 - length pairs) = omega arith in
    let none : some_pairs 8 start ≡ None = sym h.so_far ∙ ap (with_pairs pairs) (ap (λ (n : ℕ). some_pairs n w0) most ∙ no_pair (7 - length pairs) k w0 w1 hk hv) in
    rw none refl

no_more : (most : ℕ) (left : List (List ℕ)) → (most ≡ 0) ⊎ (key_by left ≡ None) → some_pairs most left ≡ Some ([], left)
no_more zero left (inl e) = refl
no_more (suc most) left (inl e) = absurd (omega arith)
no_more zero left (inr e) = refl
no_more (suc most) left (inr e) = rw e refl

-- where there are 8 pairs, or no key comes next
pub pairs_end : (start left : List (List ℕ)) (pairs : List Pair) → PairsSoFar start left pairs → (8 ≤ length pairs) ⊎ (key_by left ≡ None) → some_pairs 8 start ≡ Some (pairs, left)
pairs_end start left pairs h (inl full) = sym h.so_far ∙ ap (with_pairs pairs) (no_more (8 - length pairs) left (inl (omega arith))) ∙ ap (λ (ps : List Pair). let r : Read = (ps, left) in Some r) (append-nil pairs)
pairs_end start left pairs h (inr none) = sym h.so_far ∙ ap (with_pairs pairs) (no_more (8 - length pairs) left (inr none)) ∙ ap (λ (ps : List Pair). let r : Read = (ps, left) in Some r) (append-nil pairs)

pub pairs_empty : (start left : List (List ℕ)) (pairs : List Pair) → some_pairs 8 start ≡ Some (pairs, left) → length pairs ≡ 0 → pairs_at start ≡ None
unfolding pairs_at
pairs_empty start left [] e none = rw e refl
pairs_empty start left (p ∷ pairs) e none = absurd (omega arith)

pub pairs_some : (start left : List (List ℕ)) (pairs : List Pair) → some_pairs 8 start ≡ Some (pairs, left) → 0 < length pairs → pairs_at start ≡ Some (pairs, left)
unfolding pairs_at
pairs_some start left pairs e some = rw (e, lt-ltb 0 (length pairs) some) refl

pub not_none : (n : ℕ) → (n ≡ 0 → false ≡ true) → 0 < n
not_none zero h = absurd (let f = h refl in cc)
not_none (suc n) h = omega arith
