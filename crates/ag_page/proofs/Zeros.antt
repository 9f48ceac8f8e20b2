-- Bytes that are zero, and bytes of which the rest is zero.
use Rattle.std.proofs.Common.{◌≡◌, ℕ, zero, suc, ◌+◌, ◌-◌, true, eqb, List, [], ◌∷◌, ◌++◌, length, take, drop, replicate, refl, sym, ap, ◌∙◌, append_assoc, arith}
use Rattle.std.proofs.lemmas.Bool.{and_parts, eqb-true}
use Rattle.std.proofs.lemmas.List.{take_at, drop_at, drop-drop, drop-replicate, length-append}
use Rattle.ag_page.specs.Spelling.{are_zero}

-- what is zero is a row of zeros
pub zeros-are : (xs : List ℕ) → are_zero xs ≡ true → xs ≡ replicate (length xs) 0
zeros-are [] e = refl
zeros-are (x ∷ xs) e =
    let p = and_parts (eqb x 0) (are_zero xs) e in
    let h = eqb-true x 0 p.0 in
    let t = zeros-are xs p.1 in
    cc (h, t)

pub are_zeros : (n : ℕ) → are_zero (replicate n 0) ≡ true
are_zeros zero = refl
are_zeros (suc n) = are_zeros n

-- so many bytes, of which the first are these and the rest zero
abbrev pub IsFilled : ℕ → List ℕ → List ℕ → Type 0
IsFilled n text bytes = bytes ≡ text ++ replicate (n - length text) 0

-- a part that is written where the text ends
pub filled_more : (n at : ℕ) (text part old new : List ℕ) → IsFilled n text old → at ≡ length text → new ≡ take at old ++ (part ++ drop (at + length part) old) → IsFilled n (text ++ part) new
filled_more n at text part old new is place e =
    let zs : List ℕ = replicate (n - length text) 0 in
    let front : take at old ≡ text = ap (take at) is ∙ take_at text zs at (sym place) in
    let back : drop (at + length part) old ≡ replicate (n - length (text ++ part)) 0 =
    ap (drop (at + length part)) is ∙ sym (drop-drop (length part) at (text ++ zs)) ∙ ap (drop (length part)) (drop_at text zs at (sym place)) ∙ drop-replicate (length part) (n - length text) 0
    ∙ (let k : n - length text - length part ≡ n - length (text ++ part) = omega (arith, length-append text part) in ap (λ (m : ℕ). replicate m 0) k) in
    e ∙ ap (λ (z : List ℕ). z ++ (part ++ drop (at + length part) old)) front ∙ ap (λ (z : List ℕ). text ++ (part ++ z)) back ∙ sym (append_assoc text part (replicate (n - length (text ++ part)) 0))
