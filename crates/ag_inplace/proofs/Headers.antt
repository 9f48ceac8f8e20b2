-- The header of a page, field by field.
use Rattle.std.proofs.Common.{◌≡◌, ℕ, List, ◌++◌, length, replicate, refl, sym, ap, ◌∙◌, append_assoc, arith}
use Rattle.std.specs.Int.{w16, w64, to_be_bytes}
use Rattle.std.proofs.lemmas.List.{length-append}
use Rattle.ag_model.specs.declared.value.PageValue.{PageValue}
use Rattle.ag_model.proofs.Numbers.{length-to_be_bytes}
use Rattle.ag_page.specs.Spelling.{header}
use Rattle.ag_inplace.proofs.Splices.{spliced, splice_mid}

-- a header with these numbers
abbrev pub head : ℕ → ℕ → ℕ → ℕ → List ℕ
head page count lsn horizon = to_be_bytes w16 page ++ (to_be_bytes w16 count ++ (to_be_bytes w64 lsn ++ (to_be_bytes w64 horizon ++ replicate 12 0)))

pub header-is : (v : PageValue) → header v ≡ head v.page (length v.versions) v.lsn v.horizon
unfolding header
header-is v = refl

pub count-set : (p n l h m : ℕ) (rest old new : List ℕ) → old ≡ head p n l h ++ rest → new ≡ spliced 2 (to_be_bytes w16 m) old → new ≡ head p m l h ++ rest
count-set p n l h m rest old new is e =
    let a = to_be_bytes w16 p in
    let c = to_be_bytes w64 l ++ (to_be_bytes w64 h ++ replicate 12 0) in
    e ∙ splice_mid 2 a (to_be_bytes w16 n) (c ++ rest) (to_be_bytes w16 m) old (is ∙ regroup a (to_be_bytes w16 n) c rest) (length-to_be_bytes w16 p) (length-to_be_bytes w16 n ∙ sym (length-to_be_bytes w16 m))
    ∙ sym (regroup a (to_be_bytes w16 m) c rest)
  where
    regroup : (a b c d : List ℕ) → (a ++ (b ++ c)) ++ d ≡ a ++ (b ++ (c ++ d))
    regroup a b c d = simp append_assoc

pub lsn-set : (p n l h m : ℕ) (rest old new : List ℕ) → old ≡ head p n l h ++ rest → new ≡ spliced 4 (to_be_bytes w64 m) old → new ≡ head p n m h ++ rest
lsn-set p n l h m rest old new is e =
    let a = to_be_bytes w16 p in
    let b = to_be_bytes w16 n in
    let c = to_be_bytes w64 h ++ replicate 12 0 in
    let len : length (a ++ b) ≡ 4 = omega (arith, length-append a b, length-to_be_bytes w16 p, length-to_be_bytes w16 n) in
    e ∙ splice_mid 4 (a ++ b) (to_be_bytes w64 l) (c ++ rest) (to_be_bytes w64 m) old (is ∙ regroup a b (to_be_bytes w64 l) c rest) len (length-to_be_bytes w64 l ∙ sym (length-to_be_bytes w64 m))
    ∙ sym (regroup a b (to_be_bytes w64 m) c rest)
  where
    regroup : (a b c d e : List ℕ) → (a ++ (b ++ (c ++ d))) ++ e ≡ (a ++ b) ++ (c ++ (d ++ e))
    regroup a b c d e = simp append_assoc

pub horizon-set : (p n l h m : ℕ) (rest old new : List ℕ) → old ≡ head p n l h ++ rest → new ≡ spliced 12 (to_be_bytes w64 m) old → new ≡ head p n l m ++ rest
horizon-set p n l h m rest old new is e =
    let a = to_be_bytes w16 p in
    let b = to_be_bytes w16 n in
    let c = to_be_bytes w64 l in
    let d : List ℕ = replicate 12 0 in
    let len : length ((a ++ b) ++ c) ≡ 12 = omega (arith, length-append (a ++ b) c, length-append a b, length-to_be_bytes w16 p, length-to_be_bytes w16 n, length-to_be_bytes w64 l) in
    e ∙ splice_mid 12 ((a ++ b) ++ c) (to_be_bytes w64 h) (d ++ rest) (to_be_bytes w64 m) old (is ∙ regroup a b c (to_be_bytes w64 h) d rest) len (length-to_be_bytes w64 h ∙ sym (length-to_be_bytes w64 m))
    ∙ sym (regroup a b c (to_be_bytes w64 m) d rest)
  where
    regroup : (a b c d e f : List ℕ) → (a ++ (b ++ (c ++ (d ++ e)))) ++ f ≡ ((a ++ b) ++ c) ++ (d ++ (e ++ f))
    regroup a b c d e f = simp append_assoc

-- the header after all three were written
pub head-set : (v w : PageValue) (count lsn horizon : ℕ) (rest old one two new : List ℕ) → old ≡ header v ++ rest → w.page ≡ v.page → length w.versions ≡ count → w.lsn ≡ lsn → w.horizon ≡ horizon
    → one ≡ spliced 2 (to_be_bytes w16 count) old → two ≡ spliced 4 (to_be_bytes w64 lsn) one → new ≡ spliced 12 (to_be_bytes w64 horizon) two → new ≡ header w ++ rest
head-set v w count lsn horizon rest old one two new is page n l h a b c =
    let start = is ∙ ap (λ (z : List ℕ). z ++ rest) (header-is v) in
    let first = count-set v.page (length v.versions) v.lsn v.horizon count rest old one start a in
    let second = lsn-set v.page count v.lsn v.horizon lsn rest one two first b in
    horizon-set v.page count lsn v.horizon horizon rest two new second c
    ∙ ap (λ (z : ℕ). head z count lsn horizon ++ rest) (sym page) ∙ ap (λ (z : ℕ). head w.page z lsn horizon ++ rest) (sym n) ∙ ap (λ (z : ℕ). head w.page (length w.versions) z horizon ++ rest) (sym l)
    ∙ ap (λ (z : ℕ). head w.page (length w.versions) w.lsn z ++ rest) (sym h) ∙ ap (λ (z : List ℕ). z ++ rest) (sym (header-is w))
