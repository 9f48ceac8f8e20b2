-- An image is told by its bytes and its marks.
use Rattle.std.proofs.Common.{◌≡◌, ℕ, ◌+◌, ◌*◌, List, [], ◌∷◌, ◌++◌, length, get_or, map, take, drop, replicate, slice_index, refl, sym, ap, ◌∙◌, arith}
use Rattle.std.specs.List.{AllByRecursion, range_with_len}
use Rattle.std.proofs.lemmas.List.{take_all, take_at, drop_at, drop-drop, take_more, length-take}
use Rattle.ag_page.specs.Image.{sector, image, image_bytes, marks}

-- a sector is its bytes and its mark
sector-is : (s : List ℕ) → length s ≡ 512 → s ≡ take 511 s ++ slice_index s 511 ∷ []
sector-is s len = sym (take_all 512 s (omega arith)) ∙ take_more s 511 0 (omega arith)

marked-from : (mark a : ℕ) (bytes : List ℕ) (ss : List (List ℕ)) → AllByRecursion (λ s. length s ≡ 512) ss → drop (511 * a) bytes ≡ image_bytes ss → marks ss ≡ replicate (length ss) mark → ss ≡ map (sector mark bytes) (range_with_len a (length ss))
marked-from mark a bytes [] each is same = refl
marked-from mark a bytes (s ∷ ss) each is same =
    let len : length s ≡ 512 = each.0 in
    let long : length (take 511 s) ≡ 511 = omega (arith, length-take 511 s) in
    let own : take 511 (drop (511 * a) bytes) ≡ take 511 s = ap (take 511) is ∙ take_at (take 511 s) (image_bytes ss) 511 long in
    let k : 511 * a + 511 ≡ 511 * (a + 1) = omega arith in
    let next : drop (511 * (a + 1)) bytes ≡ image_bytes ss = ap (λ (n : ℕ). drop n bytes) (sym k) ∙ sym (drop-drop 511 (511 * a) bytes) ∙ ap (drop 511) is ∙ drop_at (take 511 s) (image_bytes ss) 511 long in
    let here : slice_index s 511 ≡ mark = ap (λ (z : List ℕ). get_or z 0 0) same in
    let rest : marks ss ≡ replicate (length ss) mark = ap (drop 1) same in
    let first : s ≡ sector mark bytes a = sector-is s len ∙ ap (λ (m : ℕ). take 511 s ++ m ∷ []) here ∙ ap (λ (z : List ℕ). z ++ mark ∷ []) (sym own) in
    ap (λ (z : List ℕ). z ∷ ss) first ∙ ap (λ (z : List (List ℕ)). sector mark bytes a ∷ z) (marked-from mark (a + 1) bytes ss each.1 next rest)

pub one-mark : (mark : ℕ) (bytes : List ℕ) (ss : List (List ℕ)) → length ss ≡ 16 → AllByRecursion (λ s. length s ≡ 512) ss → image_bytes ss ≡ bytes → marks ss ≡ replicate 16 mark → ss ≡ image mark bytes
unfolding image
one-mark mark bytes ss many each is same =
    marked-from mark 0 bytes ss each (sym is) (same ∙ ap (λ (n : ℕ). replicate n mark) (sym many)) ∙ ap (λ (n : ℕ). map (sector mark bytes) (range_with_len 0 n)) many
