-- Hex digits.
use Rattle.std.proofs.Common.{◌≡◌, ℕ, suc, ◌+◌, ◌-◌, ◌*◌, ◌%◌, ◌<◌, ◌≤◌, ◌^◌, List, [], ◌∷◌, ◌++◌, length, get_or, set, drop, Bool, false, cond, ltb, leb, ◌&&◌, Option, Some, None, refl, sym, ap, subst, ◌∙◌, arith, inl, inr, ◌⊎◌, append_assoc, add-one}
use Rattle.std.proofs.Math.Nat.{pow-le-pow_right, pow-succ'}
use Rattle.std.proofs.Math.Seq.{set-append_seam}
use Rattle.std.proofs.lemmas.List.{length-append}
use Rattle.std.proofs.lemmas.Bool.{lt-leb}
use Rattle.std.specs.Prelude.{replicate, codes}
use Rattle.std.specs.Str.{bytes_eq}
use Rattle.std.proofs.Math.Bool.{and-false}
use Rattle.ag_script.proofs.WordLemmas.{cases_option}
use Rattle.ag_script.specs.Hex.{◌>>=◌, hex_at}
use Rattle.ag_script.specs.ReadWord.{bytes_at, value_at, padded_value}

pub room : (mask i : ℕ) → mask < 16 ^ i → i < 16 → mask < 2 ^ 60
room mask i lt few = let h : 16 ^ i ≤ 16 ^ 15 = pow-le-pow_right {n = 16} (omega arith) {i = i} {j = 15} (omega arith) in omega (arith, h)

pub one_more : (mask i d : ℕ) → mask < 16 ^ i → d < 16 → 16 * mask + d < 16 ^ (i + 1)
one_more mask i d lt small = rw (add-one, pow-succ') (omega arith)

-- the bytes read so far, before those that are left
abbrev pub with_front : List ℕ → Option (List ℕ) → Option (List ℕ)
with_front front read = read >>= λ bytes. Some (front ++ bytes)

with_front-nil : (o : Option (List ℕ)) → with_front [] o ≡ o
with_front-nil None = refl
with_front-nil (Some x) = refl

with_front-more : (front : List ℕ) (v : ℕ) (o : Option (List ℕ)) → with_front (front ++ v ∷ []) o ≡ with_front front (o >>= λ bytes. Some (v ∷ bytes))
with_front-more front v None = refl
with_front-more front v (Some x) = ap Some (append_assoc front (v ∷ []) x)

pub record Filled (word rest bytes : List ℕ) (len : ℕ) : Type 0 where
  pub done : List ℕ
  pub read : with_front done (bytes_at rest) ≡ bytes_at word
  pub bytes_are : bytes ≡ done ++ replicate (64 - len) 0
  pub len_is : len ≡ length done
  pub left : length rest + 2 * len ≡ length word

pub Filled-start : (word : List ℕ) → Filled word word (replicate 64 0) 0
Filled-start word = record { done = []; read = with_front-nil (bytes_at word); bytes_are = refl; len_is = refl; left = omega arith }

pub Filled-more : (word more bytes : List ℕ) (a b len x y : ℕ) → Filled word (a ∷ b ∷ more) bytes len → hex_at a ≡ Some x → hex_at b ≡ Some y → len < 64 → Filled word more (set bytes len (16 * x + y)) (len + 1)
Filled-more word more bytes a b len x y h hx hy few =
    let v = 16 * x + y in
    let room : 64 - len ≡ suc (64 - (len + 1)) = omega arith in
    let one : bytes ≡ h.done ++ 0 ∷ replicate (64 - (len + 1)) 0 = h.bytes_are ∙ ap (λ (n : ℕ). h.done ++ replicate n 0) room in
    record {
      done = h.done ++ v ∷ [];
      read = with_front-more h.done v (bytes_at more) ∙ (let e : with_front h.done (bytes_at (a ∷ b ∷ more)) ≡ with_front h.done (bytes_at more >>= λ bytes. Some (v ∷ bytes)) = rw (hx, hy) refl in sym e) ∙ h.read;
      bytes_are = ap (λ (bs : List ℕ). set bs len v) one ∙ ap (λ (n : ℕ). set (h.done ++ 0 ∷ replicate (64 - (len + 1)) 0) n v) h.len_is ∙ set-append_seam h.done 0 (replicate (64 - (len + 1)) 0) v ∙ sym (append_assoc h.done (v ∷ []) (replicate (64 - (len + 1)) 0));
      len_is = omega (arith, h.len_is, length-append h.done (v ∷ []));
      left = omega (arith, h.left);
    }

pub Filled-next : (word rest after bytes : List ℕ) (len x y : ℕ) → Filled word rest bytes len → 2 ≤ length rest → after ≡ drop 2 rest → hex_at (get_or rest 0 0) ≡ Some x → hex_at (get_or rest 1 0) ≡ Some y → len < 64 → Filled word after (set bytes len (16 * x + y)) (len + 1)
Filled-next word [] after bytes len x y h long is hx hy few = absurd (omega arith)
Filled-next word (a ∷ []) after bytes len x y h long is hx hy few = absurd (omega arith)
Filled-next word (a ∷ b ∷ more) after bytes len x y h long is hx hy few = rw is (Filled-more word more bytes a b len x y h hx hy few)

-- ---- values

bytes_len : (w bs : List ℕ) → bytes_at w ≡ Some bs → length w ≡ 2 * length bs
bytes_len [] bs e = let h : [] ≡ bs = cc in subst (λ (b : List ℕ). 0 ≡ 2 * length b) h refl
bytes_len (a ∷ []) bs e = absurd cc
bytes_len (a ∷ b ∷ more) bs e =
    elim (cases_option (hex_at a)) [
      | inl n ↦ (let f : bytes_at (a ∷ b ∷ more) ≡ None = rw n refl in absurd (let g : None ≡ Some bs = sym f ∙ e in cc))
      | inr x ↦ elim (cases_option (hex_at b)) [
        | inl n ↦ (let f : bytes_at (a ∷ b ∷ more) ≡ None = rw (x.1, n) refl in absurd (let g : None ≡ Some bs = sym f ∙ e in cc))
        | inr y ↦ elim (cases_option (bytes_at more)) [
          | inl n ↦ (let f : bytes_at (a ∷ b ∷ more) ≡ None = rw (x.1, y.1, n) refl in absurd (let g : None ≡ Some bs = sym f ∙ e in cc))
          | inr z ↦ (let f : bytes_at (a ∷ b ∷ more) ≡ Some ((16 * x.0 + y.0) ∷ z.0) = rw (x.1, y.1, z.1) refl in
              let g : Some ((16 * x.0 + y.0) ∷ z.0) ≡ Some bs = sym f ∙ e in
              let i : ((16 * x.0 + y.0) ∷ z.0) ≡ bs = cc in
              omega (arith, ap length i, bytes_len more z.0 z.1))
        ]
      ]
    ]

too_many : (n : ℕ) → 64 < n → ltb 0 n && leb n 64 ≡ false
too_many n many = rw (lt-leb n 64 many) (and-false (ltb 0 n))

value_none : (w : List ℕ) → bytes_eq w (codes "-") ≡ false → bytes_at w ≡ None → value_at w ≡ None
value_none w differs e = rw (differs, e) refl

pub value_wrong_len : (w : List ℕ) → bytes_eq w (codes "-") ≡ false → ((128 < length w) ⊎ (length w % 2 ≡ 1)) → value_at w ≡ None
value_wrong_len w differs wrong =
    elim (cases_option (bytes_at w)) [
      | inl n ↦ value_none w differs n
      | inr bs ↦ elim wrong [
        | inl long ↦ (let one : ltb 0 (length bs.0) && leb (length bs.0) 64 ≡ false = (let l = bytes_len w bs.0 bs.1 in too_many (length bs.0) (omega (arith, l, long))) in
            rw (differs, bs.1) (ap (λ (b : Bool). cond b (Some (padded_value bs.0)) None) one))
        | inr odd ↦ absurd (let l = bytes_len w bs.0 bs.1 in omega (arith, l, odd))
      ]
    ]

pub value_empty : (w : List ℕ) → length w ≡ 0 → value_at w ≡ None
value_empty [] e = refl
value_empty (a ∷ w) e = absurd (omega arith)
