-- Bytes that are cut into sectors, joined again, and the marks.
use Rattle.std.proofs.Common.{◌≡◌, ℕ, zero, suc, ◌+◌, ◌-◌, ◌*◌, ◌≤◌, ◌<◌, List, [], ◌∷◌, ◌++◌, length, get_or, set, map, take, drop, replicate, slice_index, refl, sym, ap, ◌∙◌, arith}
use Rattle.std.specs.List.{flat_map, range_with_len}
use Rattle.std.proofs.lemmas.List.{take_more, take_all, append-nil, ext_get_or, get_or-map, get_or_at, take_at, drop-drop, length-map, length-append, length-set, length-take, length-drop}
use Rattle.std.proofs.lemmas.List.Edits.{fill_by_more}
use Rattle.std.proofs.lemmas.List.Concat.{flat_map-append}
use Rattle.std.proofs.lemmas.List.FromFn.{fill_by_all}
use Rattle.ag_page.specs.Image.{sector, image, image_bytes, marks}
use Rattle.ag_page.proofs.Zeros.{IsFilled, filled_more}

-- the sectors before a place are those of the bytes
pub record IsCut (mark : ℕ) (bytes : List ℕ) (out : List (List ℕ)) (i : ℕ) : Type 0 where
  pub whole : length out ≡ 16
  pub each : (k : ℕ) → k < i → get_or out k [] ≡ sector mark bytes k

pub cut_more : (mark i : ℕ) (bytes x : List ℕ) (out : List (List ℕ)) → i < 16 → x ≡ take (511 * i + 511 - 511 * i) (drop (511 * i) bytes) ++ mark ∷ [] → IsCut mark bytes out i → IsCut mark bytes (set out i x) (i + 1)
cut_more mark i bytes x out lt is h =
    let k : 511 * i + 511 - 511 * i ≡ 511 = omega arith in
    let e : x ≡ sector mark bytes i = is ∙ ap (λ (n : ℕ). take n (drop (511 * i) bytes) ++ mark ∷ []) k in
    record {
      whole = length-set out i x ∙ h.whole;
      each = λ j below. ap (λ (z : List ℕ). get_or (set out i z) j []) e ∙ fill_by_more (sector mark bytes) out i [] (omega (arith, h.whole)) h.each j below;
    }

pub cut_all : (mark : ℕ) (bytes : List ℕ) (out : List (List ℕ)) (i : ℕ) → 16 ≤ i → IsCut mark bytes out i → out ≡ image mark bytes
unfolding image
cut_all mark bytes out i le h = fill_by_all (sector mark bytes) out 16 [] h.whole (λ k lt. h.each k (omega arith))

-- ---- joined again

-- the first sectors were joined
pub record IsJoined (sectors : List (List ℕ)) (i at : ℕ) (bytes : List ℕ) : Type 0 where
  pub filled : IsFilled 8176 (image_bytes (take i sectors)) bytes
  pub place : at ≡ length (image_bytes (take i sectors))
  pub count : at ≡ 511 * i

pub joined_more : (sectors : List (List ℕ)) (i at next : ℕ) (old new part d : List ℕ) → i < length sectors → part ≡ take 511 (get_or sectors i d) → length part ≡ 511 → next ≡ at + length part → new ≡ take at old ++ (part ++ drop (at + length part) old)
    → IsJoined sectors i at old → IsJoined sectors (i + 1) next new
joined_more sectors i at next old new part d lt is len e w h =
    let text = image_bytes (take i sectors) in
    let more : image_bytes (take (i + 1) sectors) ≡ text ++ part =
    ap image_bytes (take_more sectors i d lt) ∙ flat_map-append (take 511) (take i sectors) (get_or sectors i d ∷ []) ∙ ap (λ (z : List ℕ). text ++ z) (append-nil (take 511 (get_or sectors i d))) ∙ ap (λ (z : List ℕ). text ++ z) (sym is) in
    record {
      filled = filled_more 8176 at text part old new h.filled h.place w ∙ ap (λ (z : List ℕ). z ++ replicate (8176 - length z) 0) (sym more);
      place = omega (arith, e, h.place, ap length more, length-append text part);
      count = omega (arith, e, h.count, len);
    }

pub joined_all : (sectors : List (List ℕ)) (i at : ℕ) (bytes : List ℕ) → length sectors ≡ 16 → length sectors ≤ i → i ≤ length sectors → IsJoined sectors i at bytes → bytes ≡ image_bytes sectors
joined_all sectors i at bytes len le ge h =
    let whole : take i sectors ≡ sectors = take_all i sectors le in
    let none : 8176 - length (image_bytes (take i sectors)) ≡ 0 = omega (arith, h.place, h.count) in
    h.filled ∙ ap (λ (n : ℕ). image_bytes (take i sectors) ++ replicate n 0) none ∙ append-nil (image_bytes (take i sectors)) ∙ ap image_bytes whole

-- ---- marks

pub marks_are : (sectors : List (List ℕ)) (ms : List ℕ) → length ms ≡ length sectors → ((k : ℕ) → k < length sectors → get_or ms k 0 ≡ slice_index (get_or sectors k []) 511) → ms ≡ marks sectors
marks_are sectors ms len each =
    ext_get_or 0 ms (marks sectors) (len ∙ sym (length-map sectors (λ s. slice_index s 511))) (λ k lt. each k (omega arith) ∙ sym (get_or-map (λ s. slice_index s 511) sectors k [] 0 (omega arith)))

-- ---- an image has its bytes and its mark

take-add : (m n : ℕ) (xs : List ℕ) → take m xs ++ take n (drop m xs) ≡ take (m + n) xs
take-add zero n xs = ap (λ (k : ℕ). take k xs) (let e : n ≡ 0 + n = omega arith in e)
take-add (suc m) n [] = nothing n ∙ ap (λ (k : ℕ). take k []) (let e : suc (m + n) ≡ suc m + n = omega arith in e)
  where
    nothing : (n : ℕ) → take {A = ℕ} n [] ≡ []
    nothing zero = refl
    nothing (suc n) = refl
take-add (suc m) n (x ∷ xs) = ap (λ (z : List ℕ). x ∷ z) (take-add m n xs) ∙ ap (λ (k : ℕ). take k (x ∷ xs)) (let e : suc (m + n) ≡ suc m + n = omega arith in e)

part-long : (bytes : List ℕ) (k : ℕ) → length bytes ≡ 8176 → k < 16 → length (take 511 (drop (511 * k) bytes)) ≡ 511
part-long bytes k len lt = omega (arith, length-take 511 (drop (511 * k) bytes), length-drop (511 * k) bytes)

parts_from : (mark : ℕ) (bytes : List ℕ) (a n : ℕ) → length bytes ≡ 8176 → a + n ≤ 16 → flat_map (take 511) (map (sector mark bytes) (range_with_len a n)) ≡ take (511 * n) (drop (511 * a) bytes)
parts_from mark bytes a zero len le = refl
parts_from mark bytes a (suc n) len le =
    let part = take 511 (drop (511 * a) bytes) in
    let front : take 511 (sector mark bytes a) ≡ part = take_at part (mark ∷ []) 511 (part-long bytes a len (omega arith)) in
    let ih = parts_from mark bytes (a + 1) n len (omega arith) in
    let next : drop (511 * (a + 1)) bytes ≡ drop 511 (drop (511 * a) bytes) = (let e : 511 * (a + 1) ≡ 511 * a + 511 = omega arith in ap (λ (k : ℕ). drop k bytes) e) ∙ sym (drop-drop 511 (511 * a) bytes) in
    ap (λ (z : List ℕ). z ++ flat_map (take 511) (map (sector mark bytes) (range_with_len (a + 1) n))) front
    ∙ ap (λ (z : List ℕ). part ++ z) (ih ∙ ap (take (511 * n)) next)
    ∙ take-add 511 (511 * n) (drop (511 * a) bytes) ∙ (let e : 511 + 511 * n ≡ 511 * suc n = omega arith in ap (λ (k : ℕ). take k (drop (511 * a) bytes)) e)

pub image_bytes-image : (mark : ℕ) (bytes : List ℕ) → length bytes ≡ 8176 → image_bytes (image mark bytes) ≡ bytes
unfolding image
image_bytes-image mark bytes len = parts_from mark bytes 0 16 len (omega arith) ∙ take_all 8176 bytes (omega arith)

marks_from : (mark : ℕ) (bytes : List ℕ) (a n : ℕ) → length bytes ≡ 8176 → a + n ≤ 16 → marks (map (sector mark bytes) (range_with_len a n)) ≡ replicate n mark
marks_from mark bytes a zero len le = refl
marks_from mark bytes a (suc n) len le =
    let own : slice_index (sector mark bytes a) 511 ≡ mark = get_or_at (take 511 (drop (511 * a) bytes)) mark [] 0 511 (part-long bytes a len (omega arith)) in
    let ih = marks_from mark bytes (a + 1) n len (omega arith) in
    ap (λ (m : ℕ). m ∷ marks (map (sector mark bytes) (range_with_len (a + 1) n))) own ∙ ap (λ (z : List ℕ). mark ∷ z) ih

pub marks-image : (mark : ℕ) (bytes : List ℕ) → length bytes ≡ 8176 → marks (image mark bytes) ≡ replicate 16 mark
unfolding image
marks-image mark bytes len = marks_from mark bytes 0 16 len (omega arith)
