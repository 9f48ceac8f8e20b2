-- What pairs leave of the bytes used, and when they fit.
use Rattle.std.proofs.Common.{◌≡◌, ℕ, ◌+◌, ◌-◌, ◌%◌, ◌<◌, ◌≤◌, List, [], ◌∷◌, ◌++◌, length, drop, set, get_or, Bool, true, false, cond, refl, sym, ap, ◌∙◌, subst, arith, length-set, zero-add, add-zero, inl, inr}
use Rattle.std.specs.Prelude.{if◌then◌else◌, ◌==◌, nat_lt, Option, Some, None}
use Rattle.std.specs.List.{sum_by, All}
use Rattle.std.proofs.lemmas.Bool.Decides.{nat_tests, eqb_tells}
use Rattle.std.proofs.lemmas.List.Sums.{sum_by-cons}
use Rattle.std.proofs.lemmas.List.Elements.{All-set, All-get_or}
use Rattle.std.proofs.lemmas.List.{get_or-set_same, get_or-set_other, drop_more}
use Rattle.ag_model.specs.declared.event.Pair.{Pair}
use Rattle.ag_model.specs.declared.answer.Refusal.{Refusal}
use Rattle.ag_model.specs.declared.answer.Refusal.TheVariants.{PageFull}
use Rattle.ag_model.specs.Rows.{page_of}
use Rattle.ag_rules.specs.SetEvent.{pair_size, taken_on}
use Rattle.ag_node.specs.Room.{spent, used_after, room_left, first_full}

-- the bytes of a pair on a page
abbrev pub bytes_on : ℕ → ℕ → Pair → ℕ
bytes_on pages page pair = if page_of pages pair.key == page then pair_size pair else 0

taken_by_one : (here : Bool) (pair : Pair) (rest : List Pair) → sum_by pair_size (cond here (pair ∷ rest) rest) ≡ (if here then pair_size pair else 0) + sum_by pair_size rest
taken_by_one true pair rest = sum_by-cons pair_size pair rest
taken_by_one false pair rest = sym (zero-add _)

-- the bytes of one more pair in front
pub taken_on_cons : (pages page : ℕ) (pair : Pair) (pairs : List Pair) → taken_on pages page (pair ∷ pairs) ≡ bytes_on pages page pair + taken_on pages page pairs
taken_on_cons pages page pair pairs = taken_by_one (page_of pages pair.key == page) pair _

-- a page and its place
same_page : (slot page : ℕ) → 16 ≤ page → (16 + slot == page) ≡ (slot == page - 16)
same_page slot page h = grind (arith, nat_tests)

eqb_self : (a : ℕ) → (a == a) ≡ true
eqb_self a = grind (arith, nat_tests)

-- a number at one place grows
set_adds : (used : List ℕ) (a b size : ℕ) → a < length used → get_or (set used a (get_or used a 0 + size)) b 0 ≡ get_or used b 0 + (if a == b then size else 0)
set_adds used a b size h =
    let P : ℕ → Type 0 = λ k. get_or (set used a (get_or used a 0 + size)) k 0 ≡ get_or used k 0 + (if a == k then size else 0) in
    let here : P a = get_or-set_same used a _ 0 h ∙ ap (λ t. get_or used a 0 + (if t then size else 0)) (sym (eqb_self a)) in
    elim (eqb_tells a b) [
      | inl t ↦ subst P t.1 here
      | inr f ↦ get_or-set_other used a b _ 0 (λ e. f.1 (sym e)) ∙ sym (add-zero _) ∙ ap (λ t. get_or used b 0 + (if t then size else 0)) (sym f.0)
    ]

-- the bytes used on a page, once a pair is set
pub spent_on : (pages : ℕ) (used : List ℕ) (pair : Pair) (page : ℕ) → 0 < pages → length used ≡ pages → 16 ≤ page → get_or (spent pages used pair) (page - 16) 0 ≡ get_or used (page - 16) 0 + bytes_on pages page pair
spent_on pages used pair page some few low =
    set_adds used (pair.key % pages) (page - 16) (pair_size pair) (omega arith)
    ∙ ap (λ t. get_or used (page - 16) 0 + (if t then pair_size pair else 0)) (sym (same_page (pair.key % pages) page low))

-- the bytes used on a page, once pairs are set
pub used_on : (pages : ℕ) (pairs : List Pair) (used : List ℕ) (page : ℕ) → 0 < pages → length used ≡ pages → 16 ≤ page → get_or (used_after pages pairs used) (page - 16) 0 ≡ get_or used (page - 16) 0 + taken_on pages page pairs
used_on pages [] used page some few low = omega arith
used_on pages (pair ∷ pairs) used page some few low =
    let rest : get_or (used_after pages pairs (spent pages used pair)) (page - 16) 0 ≡ get_or (spent pages used pair) (page - 16) 0 + taken_on pages page pairs = used_on pages pairs (spent pages used pair) page some (length-set _ _ _ ∙ few) low in
    let first : get_or (spent pages used pair) (page - 16) 0 ≡ get_or used (page - 16) 0 + bytes_on pages page pair = spent_on pages used pair page some few low in
    let both : taken_on pages page (pair ∷ pairs) ≡ bytes_on pages page pair + taken_on pages page pairs = taken_on_cons pages page pair pairs in
    omega arith

-- no page comes or goes
pub used_length : (pages : ℕ) (pairs : List Pair) (used : List ℕ) → length (used_after pages pairs used) ≡ length used
used_length pages [] used = refl
used_length pages (pair ∷ pairs) used = used_length pages pairs (spent pages used pair) ∙ length-set used (pair.key % pages) _

-- what is left for a pair, where one more pair came first
room_moves : (pages : ℕ) (used : List ℕ) (first : Pair) (earlier : List Pair) (pair : Pair) → 0 < pages → length used ≡ pages → room_left pages used (first ∷ earlier) pair ≡ room_left pages (spent pages used first) earlier pair
room_moves pages used first earlier pair some few =
    let page : ℕ = page_of pages pair.key in
    let slot : page - 16 ≡ pair.key % pages = omega arith in
    let more : get_or (spent pages used first) (page - 16) 0 ≡ get_or used (page - 16) 0 + bytes_on pages page first = spent_on pages used first page some few (omega arith) in
    let at : get_or (spent pages used first) (pair.key % pages) 0 ≡ get_or used (pair.key % pages) 0 + bytes_on pages page first = (let P : ℕ → Type 0 = λ s. get_or (spent pages used first) s 0 ≡ get_or used s 0 + bytes_on pages page first in subst P slot more) in
    let both : taken_on pages page (first ∷ earlier) ≡ bytes_on pages page first + taken_on pages page earlier = taken_on_cons pages page first earlier in
    omega arith

-- an earlier pair may be spent first
pub full_moves : (pages : ℕ) (used : List ℕ) (first : Pair) (earlier pairs : List Pair) → 0 < pages → length used ≡ pages → first_full pages used (first ∷ earlier) pairs ≡ first_full pages (spent pages used first) earlier pairs
full_moves pages used first earlier [] some few = refl
full_moves pages used first earlier (pair ∷ pairs) some few =
    ap (λ left. if nat_lt left (pair_size pair) then Some (PageFull (pair_size pair) left) else first_full pages used (first ∷ earlier ++ pair ∷ []) pairs) (room_moves pages used first earlier pair some few)
    ∙ ap (λ rest. if nat_lt (room_left pages (spent pages used first) earlier pair) (pair_size pair) then Some (PageFull (pair_size pair) (room_left pages (spent pages used first) earlier pair)) else rest) (full_moves pages used first (earlier ++ pair ∷ []) pairs some few)

not_some : (t : Bool) (why : Refusal) (rest : Option Refusal) → (if t then Some why else rest) ≡ None → (t ≡ false) × (rest ≡ None)
not_some true why rest e = absurd (cc)
not_some false why rest e = (refl, e)

-- where all pairs fit, the first one does, and the others after it
pub fits_first : (pages : ℕ) (used : List ℕ) (pair : Pair) (pairs : List Pair) → 0 < pages → length used ≡ pages → first_full pages used [] (pair ∷ pairs) ≡ None → (pair_size pair ≤ 8144 - get_or used (pair.key % pages) 0) × (first_full pages (spent pages used pair) [] pairs ≡ None)
fits_first pages used pair pairs some few e =
    let parts : (nat_lt (room_left pages used [] pair) (pair_size pair) ≡ false) × (first_full pages used (pair ∷ []) pairs ≡ None) = not_some _ _ _ e in
    (grind (arith, nat_tests, parts.0), sym (full_moves pages used pair [] pairs some few) ∙ parts.1)

-- a pair that fits leaves no page with more bytes than it can have
pub spent_small : (pages : ℕ) (used : List ℕ) (pair : Pair) → All (λ bytes. bytes ≤ 8144) used → pair.key % pages < length used → pair_size pair ≤ 8144 - get_or used (pair.key % pages) 0 → All (λ bytes. bytes ≤ 8144) (spent pages used pair)
spent_small pages used pair small h fits =
    let low : get_or used (pair.key % pages) 0 ≤ 8144 = All-get_or (λ bytes. bytes ≤ 8144) used (pair.key % pages) 0 h small in
    All-set (λ bytes. bytes ≤ 8144) used (pair.key % pages) _ (omega arith) small

-- one step of a loop that counts the bytes of pairs that fit
pub spend_more : (pages i slot size : ℕ) (used : List ℕ) (pairs : List Pair) (d : Pair) → 0 < pages → length used ≡ pages → i < length pairs → slot ≡ (get_or pairs i d).key % pages → size ≡ pair_size (get_or pairs i d) → All (λ bytes. bytes ≤ 8144) used → first_full pages used [] (drop i pairs) ≡ None → (used_after pages (drop (i + 1) pairs) (set used slot (get_or used slot 0 + size)) ≡ used_after pages (drop i pairs) used) × (first_full pages (set used slot (get_or used slot 0 + size)) [] (drop (i + 1) pairs) ≡ None) × All (λ bytes. bytes ≤ 8144) (set used slot (get_or used slot 0 + size))
spend_more pages i slot size used pairs d some few h at bytes small fits =
    let pair : Pair = get_or pairs i d in
    let rest : List Pair = drop (i + 1) pairs in
    let left : drop i pairs ≡ pair ∷ rest = drop_more pairs i d h in
    let then_ : set used slot (get_or used slot 0 + size) ≡ spent pages used pair = ap (λ s. set used s (get_or used s 0 + size)) at ∙ ap (λ n. set used (pair.key % pages) (get_or used (pair.key % pages) 0 + n)) bytes in
    let here : (pair_size pair ≤ 8144 - get_or used (pair.key % pages) 0) × (first_full pages (spent pages used pair) [] rest ≡ None) = fits_first pages used pair rest some few (ap (first_full pages used []) (sym left) ∙ fits) in (
      ap (used_after pages rest) then_ ∙ ap (λ ps. used_after pages ps used) (sym left),
      ap (λ us. first_full pages us [] rest) then_ ∙ here.1,
      subst (All (λ bytes. bytes ≤ 8144)) (sym then_) (spent_small pages used pair small (omega arith) here.0),
    )
