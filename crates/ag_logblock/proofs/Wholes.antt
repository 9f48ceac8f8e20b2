-- Sectors that fit, and are as many as the count, are one block; and the sectors of a block fit.
use Rattle.std.proofs.Common.{◌≡◌, ℕ, zero, suc, ◌+◌, ◌-◌, ◌*◌, ◌^◌, ◌<◌, ◌≤◌, Bool, true, false, cond, eqb, List, [], ◌∷◌, ◌++◌, length, get_or, take, drop, replicate, Result, Ok, Err, refl, sym, ap, subst, ◌∙◌, arith, inl, inr, take_all}
use Rattle.std.specs.Prelude.{IfOk, OnOk}
use Rattle.std.specs.List.{All, AllByRecursion, list_all}
use Rattle.std.specs.Int.{w16, w64, to_be_bytes, from_be_bytes}
use Rattle.std.proofs.lemmas.Bool.{and_parts, and_from, eqb-true, cases_lt}
use Rattle.std.proofs.lemmas.List.{take_at, drop_at, take-append-drop, length-append, length-take, length-drop, append-nil, drop-drop, drop_all, nil_from_length}
use Rattle.std.proofs.lemmas.List.Concat.{flat_map-cons}
use Rattle.std.proofs.lemmas.List.Elements.{All-from_recursion, recursion_from_All}
use Rattle.ag_model.proofs.Numbers.{AreBytes-drop, front_number-lt, from_be_bytes-to_be_bytes}
use Rattle.ag_logblock.specs.declared.Head.{Head}
use Rattle.ag_logblock.specs.declared.Header.{Header}
use Rattle.ag_logblock.specs.declared.BlockFault.{BlockFault}
use Rattle.ag_logblock.specs.declared.BlockFault.TheVariants.{NoBlock}
use Rattle.ag_logblock.specs.Block.{sector, sectors_from, sectors_for, block, HasBlock}
use Rattle.ag_logblock.specs.Fitting.{IsSector, header_of, part_of, payload_of, header_fits, fits, misfit, first_misfit, is_whole, head_of, Answers}
use Rattle.ag_logblock.proofs.Fits.{header_fit, sector_facts, used_most, used_full, is_used-is, are_zeros, eqb-refl}

-- ---- sectors that fit

cond_step : (b : Bool) (x i n : ℕ) → cond b x i ≡ i + suc n → (b ≡ true) × (x ≡ suc i + n)
cond_step true x i n e = (refl, omega arith)
cond_step false x i n e = absurd (omega arith)

-- where all sectors fit, the first does, and the others do
step : (first : Header) (i : ℕ) (s : List ℕ) (ss : List (List ℕ)) → misfit first i (s ∷ ss) ≡ i + length (s ∷ ss) → (fits first i s ≡ true) × (misfit first (suc i) ss ≡ suc i + length ss)
unfolding misfit
step first i s ss e = cond_step (fits first i s) (misfit first (suc i) ss) i (length ss) e

-- how long their payload is
payload_bounds : (first : Header) (i : ℕ) (ss : List (List ℕ)) → AllByRecursion IsSector ss → misfit first i ss ≡ i + length ss → i + length ss ≡ first.count
    → (length (payload_of ss) ≤ 484 * length ss) × (484 * length ss < length (payload_of ss) + 484)
payload_bounds first i [] is e n = (omega arith, omega arith)
payload_bounds first i (s ∷ ss) is e n =
    let g = step first i s ss e in
    let f = sector_facts first i s is.0 g.0 in
    let ih = payload_bounds first (suc i) ss is.1 g.1 (omega arith) in
    let len : length (payload_of (s ∷ ss)) ≡ length (part_of s) + length (payload_of ss) = ap length (flat_map-cons part_of s ss) ∙ length-append (part_of s) (payload_of ss) in
    let used = used_most (header_of s) f.header.used in
    let own = f.len in
    let count = f.header.count in
    let index = f.header.index in
    elim (cases_lt 0 (length ss)) [
      | inr none ↦ (omega arith, omega arith)
      | inl some ↦ let full : (header_of s).used ≡ 484 = used_full (header_of s) f.header.used (omega arith) in (omega arith, omega arith)
    ]

-- a part in front of a payload
front_part : (part rest : List ℕ) → length part ≤ 484 → (1 ≤ length rest → length part ≡ 484) → (take 484 (part ++ rest) ≡ part) × (drop 484 (part ++ rest) ≡ rest)
front_part part rest most full =
    elim (cases_lt 0 (length rest)) [
      | inl some ↦ (take_at part rest 484 (full some), drop_at part rest 484 (full some))
      | inr none ↦
          let nil : rest ≡ [] = nil_from_length rest (omega arith) in
          let short : length (part ++ rest) ≤ 484 = omega (arith, length-append part rest) in
          (take_all 484 (part ++ rest) short ∙ ap (λ (z : List ℕ). part ++ z) nil ∙ append-nil part, drop_all 484 (part ++ rest) short ∙ sym nil)
    ]

-- their payload, cut up again, gives them
rebuilt : (first : Header) (i : ℕ) (ss : List (List ℕ)) → AllByRecursion IsSector ss → misfit first i ss ≡ i + length ss → i + length ss ≡ first.count → sectors_from first.head first.count i (length ss) (payload_of ss) ≡ ss
unfolding sectors_from
rebuilt first i [] is e n = refl
rebuilt first i (s ∷ ss) is e n =
    let g = step first i s ss e in
    let f = sector_facts first i s is.0 g.0 in
    let used = used_most (header_of s) f.header.used in
    let own = f.len in
    let count = f.header.count in
    let index = f.header.index in
    let after = payload_bounds first (suc i) ss is.1 g.1 (omega arith) in
    let full : 1 ≤ length (payload_of ss) → length (part_of s) ≡ 484 = λ some. f.len ∙ used_full (header_of s) f.header.used (omega arith) in
    let split = front_part (part_of s) (payload_of ss) (omega arith) full in
    let ih = rebuilt first (suc i) ss is.1 g.1 (omega arith) in
    let cut = λ (z : List ℕ). sector first.head first.count i (take 484 z) ∷ sectors_from first.head first.count (suc i) (length ss) (drop 484 z) in
    ap cut (flat_map-cons part_of s ss)
    ∙ ap (λ (z : List ℕ). sector first.head first.count i z ∷ sectors_from first.head first.count (suc i) (length ss) (drop 484 (part_of s ++ payload_of ss))) split.0
    ∙ ap (λ (z : List ℕ). sector first.head first.count i (part_of s) ∷ sectors_from first.head first.count (suc i) (length ss) z) split.1
    ∙ ap (λ (z : List (List ℕ)). sector first.head first.count i (part_of s) ∷ z) ih
    ∙ ap (λ (z : List ℕ). z ∷ ss) (sym f.spelled)

-- what all sectors of a whole have
pub used_in_whole : (first : Header) (i : ℕ) (ss : List (List ℕ)) → AllByRecursion IsSector ss → misfit first i ss ≡ i + length ss → AllByRecursion (λ x. (header_of x).used ≤ 484) ss
used_in_whole first i [] is e = tt
used_in_whole first i (s ∷ ss) is e =
    let g = step first i s ss e in
    let f = sector_facts first i s is.0 g.0 in
    ((used_most (header_of s) f.header.used).1, used_in_whole first (suc i) ss is.1 g.1)

whole_ok : (b : Bool) (x : Head) (k : ℕ) (h : Head) → let r : Result Head BlockFault = cond b (Ok x) (Err (NoBlock k)) in r ≡ Ok h → (b ≡ true) × (x ≡ h)
whole_ok true x k h e = (refl, cc)
whole_ok false x k h e = absurd cc

-- what is put together is one block
pub is_block : (ss : List (List ℕ)) (h : Head) → AllByRecursion IsSector ss → head_of ss ≡ Ok h → HasBlock h (payload_of ss) × (ss ≡ block h (payload_of ss))
is_block [] h is e = absurd cc
is_block (s ∷ ss) h is e =
    let first = header_of s in
    let w = whole_ok (is_whole (s ∷ ss)) first.head (first_misfit (s ∷ ss)) h e in
    let p = and_parts (eqb (first_misfit (s ∷ ss)) (length (s ∷ ss))) (eqb (length (s ∷ ss)) first.count) w.0 in
    let all : misfit first 0 (s ∷ ss) ≡ 0 + length (s ∷ ss) = eqb-true _ _ p.0 ∙ (let z : length (s ∷ ss) ≡ 0 + length (s ∷ ss) = omega arith in z) in
    let count : length (s ∷ ss) ≡ first.count = eqb-true _ _ p.1 in
    let f = sector_facts first 0 s is.0 (step first 0 s ss all).0 in
    let bounds = payload_bounds first 0 (s ∷ ss) is all (omega arith) in
    let most = f.header.most in
    let n : sectors_for (payload_of (s ∷ ss)) ≡ length (s ∷ ss) = omega (arith, bounds.0, bounds.1) in
    let again = rebuilt first 0 (s ∷ ss) is all (omega arith) in
    let has : HasBlock first.head (payload_of (s ∷ ss)) = record {
      term = front_number-lt w64 s (omega (arith, is.0.len)) is.0.bytes;
      incarnation = f.header.incarnation;
      incarnation_fits = front_number-lt w64 (drop 8 s) (omega (arith, is.0.len, length-drop 8 s)) (AreBytes-drop 8 s is.0.bytes);
      first = front_number-lt w64 (drop 16 s) (omega (arith, is.0.len, length-drop 16 s)) (AreBytes-drop 16 s is.0.bytes);
      some = omega (arith, bounds.1);
      most = omega (arith, bounds.0, most, count);
    } in
    let same : s ∷ ss ≡ block first.head (payload_of (s ∷ ss)) =
    sym again ∙ ap (λ (m : ℕ). sectors_from first.head m 0 (length (s ∷ ss)) (payload_of (s ∷ ss))) (sym count ∙ sym n) ∙ ap (λ (m : ℕ). sectors_from first.head (sectors_for (payload_of (s ∷ ss))) 0 m (payload_of (s ∷ ss))) (sym n) in
    subst (λ (d : Head). HasBlock d (payload_of (s ∷ ss)) × (s ∷ ss ≡ block d (payload_of (s ∷ ss)))) w.1 (has, same)

-- ---- the sectors of a block

-- the fields that a sector was written with
read_back : (h : Head) (n i : ℕ) (part : List ℕ) → h.term < 2 ^ 64 → h.incarnation < 2 ^ 64 → h.first < 2 ^ 64 → length part ≤ 484 → header_of (sector h n i part) ≡ record { head = h; index = i; count = n; used = length part }
read_back h n i part t a f most =
    let made : (t a f u : ℕ) → Header = λ t a f u. record { head = record { term = t; incarnation = a; first = f }; index = i; count = n; used = u } in
    let p1 = from_be_bytes-to_be_bytes w64 h.term t in
    let p2 = from_be_bytes-to_be_bytes w64 h.incarnation a in
    let p3 = from_be_bytes-to_be_bytes w64 h.first f in
    let p4 = from_be_bytes-to_be_bytes w16 (length part) (omega arith) in
    let x1 = from_be_bytes w64 (to_be_bytes w64 h.term) in
    let x2 = from_be_bytes w64 (to_be_bytes w64 h.incarnation) in
    let x3 = from_be_bytes w64 (to_be_bytes w64 h.first) in
    let x4 = from_be_bytes w16 (to_be_bytes w16 (length part)) in
    ap (λ (x : ℕ). made x x2 x3 x4) p1 ∙ ap (λ (x : ℕ). made h.term x x3 x4) p2 ∙ ap (λ (x : ℕ). made h.term h.incarnation x x4) p3 ∙ ap (λ (x : ℕ). made h.term h.incarnation h.first x) p4

-- of these the head and the count
pub head_again_of : (h : Head) (n i : ℕ) (part : List ℕ) → h.term < 2 ^ 64 → h.incarnation < 2 ^ 64 → h.first < 2 ^ 64 → length part ≤ 484 → ((header_of (sector h n i part)).head ≡ h) × ((header_of (sector h n i part)).count ≡ n)
head_again_of h n i part t a f most =
    let back = read_back h n i part t a f most in
    (ap (λ (x : Header). x.head) back, ap (λ (x : Header). x.count) back)

cut_sector : (first : Header) (h : Head) (n i : ℕ) (part : List ℕ) → h ≡ first.head → n ≡ first.count → i < n → n ≤ 32 → h.term < 2 ^ 64 → 1 ≤ h.incarnation → h.incarnation < 2 ^ 64 → h.first < 2 ^ 64
    → 1 ≤ length part → length part ≤ 484 → (i + 1 < n → length part ≡ 484) → (fits first i (sector h n i part) ≡ true) × (part_of (sector h n i part) ≡ part)
unfolding fits
cut_sector first h n i part eh en lt few t some a f least most full =
    let s = sector h n i part in
    let zeros = replicate (484 - length part) 0 in
    let made : Header = record { head = h; index = i; count = n; used = length part } in
    let back : header_of s ≡ made = read_back h n i part t a f most in
    let used : (header_of s).used ≡ length part = ap (λ (x : Header). x.used) back in
    let fit : header_fits first i (header_of s) ≡ true = ap (header_fits first i) back ∙ header_fit first i made (record { incarnation = some; most = few; index = refl; below = lt; used = is_used-is made least most full lt; head = eh; count = en }) in
    let tail : drop (28 + (header_of s).used) s ≡ zeros = sym (drop-drop (header_of s).used 28 s) ∙ ap (λ (u : ℕ). drop u (part ++ zeros)) used ∙ drop_at part zeros (length part) refl in
    let zero : list_all (λ b. eqb b 0) (drop (28 + (header_of s).used) s) ≡ true = ap (list_all (λ b. eqb b 0)) tail ∙ are_zeros (484 - length part) in (
      and_from (header_fits first i (header_of s)) (list_all (λ b. eqb b 0) (drop (28 + (header_of s).used) s)) fit zero,
      ap (λ (u : ℕ). take u (part ++ zeros)) used ∙ take_at part zeros (length part) refl,
    )

-- what the sectors of a payload have
record Cut (first : Header) (h : Head) (n i left : ℕ) (text : List ℕ) : Type 0 where
  fit : misfit first i (sectors_from h n i left text) ≡ n
  payload : payload_of (sectors_from h n i left text) ≡ text
  len : length (sectors_from h n i left text) ≡ left

cut_all : (left : ℕ) (first : Header) (h : Head) (n i : ℕ) (text : List ℕ) → h ≡ first.head → n ≡ first.count → i + left ≡ n → n ≤ 32 → h.term < 2 ^ 64 → 1 ≤ h.incarnation → h.incarnation < 2 ^ 64 → h.first < 2 ^ 64
    → length text ≤ 484 * left → 484 * left < length text + 484 → Cut first h n i left text
unfolding sectors_from misfit
cut_all zero first h n i text eh en sum few t some a f most least =
    let nil : text ≡ [] = nil_from_length text (omega arith) in
    record { fit = omega arith; payload = sym nil; len = refl }
cut_all (suc left) first h n i text eh en sum few t some a f most least =
    let part = take 484 text in
    let rest = drop 484 text in
    let lp = length-take 484 text in
    let lr = length-drop 484 text in
    let full : i + 1 < n → length part ≡ 484 = λ lt. omega arith in
    let one = cut_sector first h n i part eh en (omega arith) few t some a f (omega arith) (omega arith) full in
    let others = cut_all left first h n (suc i) rest eh en (omega arith) few t some a f (omega arith) (omega arith) in
    let s = sector h n i part in
    let ss = sectors_from h n (suc i) left rest in
    record {
      fit = ap (λ (b : Bool). cond b (misfit first (suc i) ss) i) one.0 ∙ others.fit;
      payload = flat_map-cons part_of s ss ∙ ap (λ (z : List ℕ). z ++ payload_of ss) one.1 ∙ ap (λ (z : List ℕ). part ++ z) others.payload ∙ take-append-drop 484 text;
      len = ap suc others.len;
    }

head_again : (m : ℕ) (h : Head) (n : ℕ) (text : List ℕ) → HasBlock h text → n ≡ suc m → n ≤ 32 → length text ≤ 484 * n → 484 * n < length text + 484 → (head_of (sectors_from h n 0 (suc m) text) ≡ Ok h) × (payload_of (sectors_from h n 0 (suc m) text) ≡ text)
unfolding sectors_from
head_again m h n text has e few most least =
    let part = take 484 text in
    let s = sector h n 0 part in
    let ss = sectors_from h n 1 m (drop 484 text) in
    let some = has.some in
    let back = read_back h n 0 part has.term has.incarnation_fits has.first (omega (arith, length-take 484 text)) in
    let first = header_of s in
    let eh : h ≡ first.head = ap (λ (x : Header). x.head) (sym back) in
    let en : n ≡ first.count = ap (λ (x : Header). x.count) (sym back) in
    let c = cut_all (suc m) first h n 0 text eh en (omega arith) few has.term has.incarnation has.incarnation_fits has.first (omega arith) (omega arith) in
    let fit : first_misfit (s ∷ ss) ≡ length (s ∷ ss) = c.fit ∙ e ∙ sym c.len in
    let count : length (s ∷ ss) ≡ first.count = c.len ∙ sym e ∙ en in
    let whole : is_whole (s ∷ ss) ≡ true = and_from (eqb (first_misfit (s ∷ ss)) (length (s ∷ ss))) (eqb (length (s ∷ ss)) first.count) (eqb-refl _ _ fit) (eqb-refl _ _ count) in
    let answer = λ (b : Bool). let r : Result Head BlockFault = cond b (Ok first.head) (Err (NoBlock (first_misfit (s ∷ ss)))) in r in
    (ap answer whole ∙ ap (λ (d : Head). let r : Result Head BlockFault = Ok d in r) (sym eh), c.payload)

-- what is one block is put together
pub block_again : (h : Head) (text : List ℕ) → HasBlock h text → (head_of (block h text) ≡ Ok h) × (payload_of (block h text) ≡ text)
block_again h text has =
    let n = sectors_for text in
    let some = has.some in
    let most = has.most in
    let e : sectors_for text ≡ suc (sectors_for text - 1) = omega arith in
    subst (λ (left : ℕ). (head_of (sectors_from h (sectors_for text) 0 left text) ≡ Ok h) × (payload_of (sectors_from h (sectors_for text) 0 left text) ≡ text)) (sym e)
    (head_again (sectors_for text - 1) h (sectors_for text) text has e (omega arith) (omega arith) (omega arith))

-- the same of an answer
pub answer_is : (ss : List (List ℕ)) (r : Result Head BlockFault) → Answers r (head_of ss) → IfOk r (λ h. head_of ss ≡ Ok h)
answer_is ss (Ok h) e = e
answer_is ss (Err f) e = tt

-- ---- what the code tests

misfit-le : (first : Header) (i : ℕ) (ss : List (List ℕ)) → misfit first i ss ≤ i + length ss
unfolding misfit
misfit-le first i [] = omega arith
misfit-le first i (s ∷ ss) = elim (fits first i s) as (λ b. cond b (misfit first (suc i) ss) i ≤ i + length (s ∷ ss)) [
  | true ↦ let ih = misfit-le first (suc i) ss in omega arith
  | false ↦ omega arith
]

-- all sectors fit, and they are as many as the count
pub joins : (ss : List (List ℕ)) (first : Header) (k : ℕ) → 1 ≤ length ss → first ≡ header_of (get_or ss 0 []) → k ≡ misfit first 0 ss → length ss ≤ k → length ss ≡ first.count → head_of ss ≡ Ok first.head
joins [] first k some e m all count = absurd (omega arith)
joins (s ∷ ss) first k some e m all count =
    let most = misfit-le first 0 (s ∷ ss) in
    let whole : misfit first 0 (s ∷ ss) ≡ length (s ∷ ss) = omega arith in
    let fit : first_misfit (s ∷ ss) ≡ length (s ∷ ss) = ap (λ (h : Header). misfit h 0 (s ∷ ss)) (sym e) ∙ whole in
    let full : length (s ∷ ss) ≡ (header_of s).count = count ∙ ap (λ (h : Header). h.count) e in
    let both : is_whole (s ∷ ss) ≡ true = and_from (eqb (first_misfit (s ∷ ss)) (length (s ∷ ss))) (eqb (length (s ∷ ss)) (header_of s).count) (eqb-refl _ _ fit) (eqb-refl _ _ full) in
    let answer = λ (b : Bool). let r : Result Head BlockFault = cond b (Ok (header_of s).head) (Err (NoBlock (first_misfit (s ∷ ss)))) in r in
    ap answer both ∙ ap (λ (h : Header). let r : Result Head BlockFault = Ok h.head in r) (sym e)

-- then each has at most 484 bytes of the payload
pub all_used : (ss : List (List ℕ)) (first : Header) (k : ℕ) → All IsSector ss → k ≡ misfit first 0 ss → length ss ≤ k → All (λ x. (header_of x).used ≤ 484) ss
all_used ss first k is m all =
    let most = misfit-le first 0 ss in
    let whole : misfit first 0 ss ≡ 0 + length ss = omega arith in
    All-from_recursion (λ x. (header_of x).used ≤ 484) ss (used_in_whole first 0 ss (recursion_from_All IsSector ss is) whole)

pub misfit_all : (ss : List (List ℕ)) (first : Header) (k : ℕ) → k ≡ misfit first 0 ss → length ss ≤ k → k ≡ length ss
misfit_all ss first k m all = let most = misfit-le first 0 ss in omega arith

pub put_together_is : (ss : List (List ℕ)) (r : Result Head BlockFault) → OnOk r (All IsSector ss) → Answers r (head_of ss) → IfOk r (λ h. HasBlock h (payload_of ss) × (ss ≡ block h (payload_of ss)))
put_together_is ss (Ok h) is e = is_block ss h (recursion_from_All IsSector ss is) e
put_together_is ss (Err f) is e = tt

-- sectors are those of one head and one payload at most
heads-same : (x y : Head) → (let r : Result Head BlockFault = Ok x in r) ≡ Ok y → x ≡ y
heads-same x y e = cc

pub block-once : (h k : Head) (p q : List ℕ) → HasBlock h p → HasBlock k q → block h p ≡ block k q → (h ≡ k) × (p ≡ q)
block-once h k p q a b e =
    let x = block_again h p a in
    let y = block_again k q b in
    (heads-same h k (sym x.0 ∙ ap head_of e ∙ y.0), sym x.1 ∙ ap payload_of e ∙ y.1)

pub length-block : (h : Head) (n i left : ℕ) (p : List ℕ) → length (sectors_from h n i left p) ≡ left
unfolding sectors_from
length-block h n i zero p = refl
length-block h n i (suc left) p = ap suc (length-block h n (suc i) left (drop 484 p))
