-- The bytes of an image, sector by sector.
use Rattle.std.proofs.Common.{◌≡◌, ℕ, ◌+◌, ◌-◌, ◌*◌, ◌/◌, ◌%◌, ◌≤◌, ◌<◌, List, [], ◌∷◌, ◌++◌, length, get_or, set, take, drop, slice_index, refl, sym, ap, ◌∙◌, append_assoc, arith}
use Rattle.std.specs.List.{AllByRecursion}
use Rattle.std.proofs.lemmas.List.{take_at, drop_at, drop-drop, drop-take, take-take, take-append-drop, drop-append-le, drop_more, take-set, drop-set-lt, get_or-set_same, get_or-append_right, get_or-drop, get_or-map, map-set, set-get_or, length-append, length-take, length-drop, length-set}
use Rattle.std.proofs.lemmas.List.Concat.{flat_map-append}
use Rattle.ag_lists.proofs.Each.{all_at, all_take}
use Rattle.ag_lists.proofs.Places.{take_past}
use Rattle.ag_page.specs.Image.{image_bytes, marks}
use Rattle.ag_inplace.proofs.Splices.{spliced, splice_mid}

-- ---- how long sectors are

bytes-most : (ss : List (List ℕ)) → length (image_bytes ss) ≤ 511 * length ss
bytes-most [] = omega arith
bytes-most (s ∷ ss) = omega (arith, bytes-most ss, length-append (take 511 s) (image_bytes ss), length-take 511 s)

-- where the bytes are as many as can be, each sector has its part of them
are-long : (ss : List (List ℕ)) → length (image_bytes ss) ≡ 511 * length ss → AllByRecursion (λ s. 511 ≤ length s) ss
are-long [] e = tt
are-long (s ∷ ss) e =
    let parts : length (take 511 s) + length (image_bytes ss) ≡ 511 * length (s ∷ ss) = sym (length-append (take 511 s) (image_bytes ss)) ∙ e in
    let most = bytes-most ss in
    let own = length-take 511 s in
    (omega arith, are-long ss (omega arith))

bytes-long : (ss : List (List ℕ)) → AllByRecursion (λ s. 511 ≤ length s) ss → length (image_bytes ss) ≡ 511 * length ss
bytes-long [] h = omega arith
bytes-long (s ∷ ss) h =
    let own = h.0 in
    omega (arith, bytes-long ss h.1, length-append (take 511 s) (image_bytes ss), length-take 511 s)

-- ---- the bytes before a sector, its own, and those after it

pub record Cut (ss : List (List ℕ)) (q : ℕ) : Type 0 where
  pub long : 511 ≤ length (get_or ss q [])
  pub before : length (image_bytes (take q ss)) ≡ 511 * q
  pub parts : image_bytes ss ≡ image_bytes (take q ss) ++ (take 511 (get_or ss q []) ++ image_bytes (drop (q + 1) ss))

parts-at : (ss : List (List ℕ)) (q : ℕ) → q < length ss → image_bytes ss ≡ image_bytes (take q ss) ++ (take 511 (get_or ss q []) ++ image_bytes (drop (q + 1) ss))
parts-at ss q lt =
    ap image_bytes (sym (take-append-drop q ss)) ∙ flat_map-append (take 511) (take q ss) (drop q ss)
    ∙ ap (λ (z : List (List ℕ)). image_bytes (take q ss) ++ image_bytes z) (drop_more ss q [] lt)

pub cut-at : (ss : List (List ℕ)) (q : ℕ) → length ss ≡ 16 → length (image_bytes ss) ≡ 8176 → q < 16 → Cut ss q
cut-at ss q count whole lt =
    let all = are-long ss (omega arith) in
    let front = bytes-long (take q ss) (all_take (λ (s : List ℕ). 511 ≤ length s) q ss all) in
    record {
      long = all_at (λ (s : List ℕ). 511 ≤ length s) ss q [] all (omega arith);
      before = omega (arith, front, length-take q ss);
      parts = parts-at ss q (omega arith);
    }

-- ---- a part is read

pub rest-is : (ss : List (List ℕ)) (at : ℕ) → length ss ≡ 16 → length (image_bytes ss) ≡ 8176 → at < 8176 → take (511 - at % 511) (drop (at % 511) (get_or ss (at / 511) [])) ≡ take (511 - at % 511) (drop at (image_bytes ss))
rest-is ss at count whole lt =
    let q = at / 511 in
    let r = at % 511 in
    let below : q < 16 = omega arith in
    let inside : r < 511 = omega arith in
    let place : 511 * q + r ≡ at = omega arith in
    let cut = cut-at ss q count whole below in
    let s = get_or ss q [] in
    let t = take 511 s in
    let rest = image_bytes (drop (q + 1) ss) in
    let long : length t ≡ 511 = omega (arith, cut.long, length-take 511 s) in
    let from : drop at (image_bytes ss) ≡ drop r t ++ rest =
    ap (λ (n : ℕ). drop n (image_bytes ss)) (sym place) ∙ sym (drop-drop r (511 * q) (image_bytes ss)) ∙ ap (λ (z : List ℕ). drop r (drop (511 * q) z)) cut.parts
    ∙ ap (drop r) (drop_at (image_bytes (take q ss)) (t ++ rest) (511 * q) cut.before) ∙ drop-append-le r t rest (omega arith) in
    let k : r + (511 - r) ≡ 511 = omega arith in
    let own : drop r t ≡ take (511 - r) (drop r s) = ap (λ (n : ℕ). drop r (take n s)) (sym k) ∙ drop-take r (511 - r) s in
    sym (ap (take (511 - r)) from ∙ take_at (drop r t) rest (511 - r) (omega (arith, length-drop r t)) ∙ own)

-- ---- a part is written

-- a sector after a part was written, without its mark
taken-is : (s part : List ℕ) (r : ℕ) → 511 ≤ length s → r + length part ≤ 511 → take 511 (spliced r part s) ≡ take r s ++ (part ++ drop (r + length part) (take 511 s))
taken-is s part r long le =
    let m = 511 - r - length part in
    let back = drop (r + length part) s in
    let one : length (take r s) ≡ r = omega (arith, length-take r s) in
    let k : 511 - length (take r s) ≡ 511 - r = omega arith in
    let n : r + length part + m ≡ 511 = omega arith in
    take_past 511 (take r s) (part ++ back) (omega arith) ∙ ap (λ (z : ℕ). take r s ++ take z (part ++ back)) k
    ∙ ap (λ (z : List ℕ). take r s ++ z) (take_past (511 - r) part back (omega arith) ∙ ap (λ (z : List ℕ). part ++ z) (sym (drop-take (r + length part) m s) ∙ ap (λ (z : ℕ). drop (r + length part) (take z s)) n))

-- the mark of a sector after a part was written before it
mark-is : (s part : List ℕ) (r : ℕ) → 511 ≤ length s → r + length part ≤ 511 → get_or (spliced r part s) 511 0 ≡ get_or s 511 0
mark-is s part r long le =
    let m = 511 - r - length part in
    let back = drop (r + length part) s in
    let one : length (take r s) ≡ r = omega (arith, length-take r s) in
    let n : r + length part + m ≡ 511 = omega arith in
    get_or-append_right (take r s) (part ++ back) r 511 0 one (omega arith) ∙ get_or-append_right part back (length part) (511 - r) 0 refl (omega arith)
    ∙ get_or-drop (r + length part) s m 0 ∙ ap (λ (z : ℕ). get_or s z 0) n

pub written-is : (ss : List (List ℕ)) (at : ℕ) (part new : List ℕ) → length ss ≡ 16 → length (image_bytes ss) ≡ 8176 → at < 8176 → at % 511 + length part ≤ 511 → new ≡ spliced (at % 511) part (get_or ss (at / 511) [])
    → image_bytes (set ss (at / 511) new) ≡ spliced at part (image_bytes ss)
written-is ss at part new count whole lt le is =
    let q = at / 511 in
    let r = at % 511 in
    let below : q < 16 = omega arith in
    let place : 511 * q + r ≡ at = omega arith in
    let cut = cut-at ss q count whole below in
    let s = get_or ss q [] in
    let long = cut.long in
    let t = take 511 s in
    let front = image_bytes (take q ss) in
    let rest = image_bytes (drop (q + 1) ss) in
    let b = take (length part) (drop r t) in
    let back = drop (r + length part) t in
    let before : length t ≡ 511 = omega (arith, length-take 511 s) in
    let three : t ≡ take r t ++ (b ++ back) = sym (take-append-drop r t) ∙ ap (λ (z : List ℕ). take r t ++ z) (sym (take-append-drop (length part) (drop r t)) ∙ ap (λ (z : List ℕ). b ++ z) (drop-drop (length part) r t)) in
    let old : image_bytes ss ≡ (front ++ take r t) ++ (b ++ (back ++ rest)) =
    cut.parts ∙ ap (λ (z : List ℕ). front ++ (z ++ rest)) three ∙ regroup front (take r t) b back rest in
    let fits : r ≤ 511 = omega arith in
    let head : take r t ≡ take r s = first-of s r fits in
    let size : length (front ++ take r t) ≡ at = omega (arith, cut.before, length-append front (take r t), length-take r t) in
    let own : length b ≡ length part = omega (arith, length-take (length part) (drop r t), length-drop r t) in
    let m : q < length ss = omega arith in
    let made : image_bytes (set ss q new) ≡ front ++ (take 511 new ++ rest) =
    parts-at (set ss q new) q (omega (arith, length-set ss q new)) ∙ ap (λ (z : List (List ℕ)). image_bytes z ++ (take 511 (get_or (set ss q new) q []) ++ image_bytes (drop (q + 1) (set ss q new)))) (take-set ss q new)
    ∙ ap (λ (z : List ℕ). front ++ (take 511 z ++ image_bytes (drop (q + 1) (set ss q new)))) (get_or-set_same ss q new [] m)
    ∙ ap (λ (z : List (List ℕ)). front ++ (take 511 new ++ image_bytes z)) (drop-set-lt (q + 1) ss q new (omega arith)) in
    made ∙ ap (λ (z : List ℕ). front ++ (take 511 z ++ rest)) is ∙ ap (λ (z : List ℕ). front ++ (z ++ rest)) (taken-is s part r long le ∙ ap (λ (z : List ℕ). z ++ (part ++ back)) (sym head)) ∙ regroup front (take r t) part back rest
    ∙ sym (splice_mid at (front ++ take r t) b (back ++ rest) part (image_bytes ss) old size own)
  where
    regroup : (a b c d e : List ℕ) → a ++ ((b ++ (c ++ d)) ++ e) ≡ (a ++ b) ++ (c ++ (d ++ e))
    regroup a b c d e = simp append_assoc

    first-of : (s : List ℕ) (r : ℕ) → r ≤ 511 → take r (take 511 s) ≡ take r s
    first-of s r le = take-take r 511 s le

pub marks-stay : (ss : List (List ℕ)) (at : ℕ) (part new : List ℕ) → length ss ≡ 16 → length (image_bytes ss) ≡ 8176 → at < 8176 → at % 511 + length part ≤ 511 → new ≡ spliced (at % 511) part (get_or ss (at / 511) [])
    → marks (set ss (at / 511) new) ≡ marks ss
marks-stay ss at part new count whole lt le is =
    let q = at / 511 in
    let mark = λ (s : List ℕ). slice_index s 511 in
    let below : q < length ss = omega arith in
    let cut = cut-at ss q count whole (omega arith) in
    let own : mark new ≡ get_or (marks ss) q 0 = ap mark is ∙ mark-is (get_or ss q []) part (at % 511) cut.long le ∙ sym (get_or-map mark ss q [] 0 below) in
    map-set mark ss q new ∙ ap (set (marks ss) q) own ∙ set-get_or (marks ss) q 0

-- ---- a part within a sector is read

pub part-is : (ss : List (List ℕ)) (at n : ℕ) → length ss ≡ 16 → length (image_bytes ss) ≡ 8176 → at < 8176 → at % 511 + n ≤ 511 → take n (drop (at % 511) (get_or ss (at / 511) [])) ≡ take n (drop at (image_bytes ss))
part-is ss at n count whole lt le =
    let m = 511 - at % 511 in
    let few : n ≤ m = omega arith in
    sym (take-take n m (drop (at % 511) (get_or ss (at / 511) [])) few) ∙ ap (take n) (rest-is ss at count whole lt) ∙ take-take n m (drop at (image_bytes ss)) few
