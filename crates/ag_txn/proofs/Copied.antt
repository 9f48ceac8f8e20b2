-- Copies of pages after records, seen page by page.
use Rattle.std.proofs.Common.{◌≡◌, ◌≢◌, ℕ, zero, suc, ◌+◌, ◌-◌, ◌<◌, Bool, true, false, cond, ◌||◌, eqb, List, [], ◌∷◌, ◌++◌, length, get_or, set, take, map, refl, sym, ap, ◌∙◌, inl, inr, ◌⊎◌, arith, length-set}
use Rattle.std.specs.Prelude.{Option, Some, None}
use Rattle.std.specs.List.{AllByRecursion, enumerate_from, filter_map, cons_option, list_any}
use Rattle.std.specs.Option.{option_map, option_to_list}
use Rattle.std.proofs.lemmas.Bool.{cases_Bool, eqb-true, eq-eqb, false≢true}
use Rattle.std.proofs.lemmas.List.Elements.{filter_map-append}
use Rattle.std.proofs.lemmas.List.{ext_get_or, get_or-set_same, get_or-set_other, length-map, take_more}
use Rattle.std.proofs.lemmas.List.FromFn.{length-enumerate_from}
use Rattle.ag_model.specs.declared.record.Record.{Record}
use Rattle.ag_model.specs.declared.value.PageValue.{PageValue}
use Rattle.ag_model.specs.Rows.{contains, touches}
use Rattle.ag_stripe.specs.Redo.{after_record}
use Rattle.ag_txn.specs.declared.copies.FreshCopy.{FreshCopy}
use Rattle.ag_txn.specs.Fresh.{IsPage, kept_all, fresh_of, fresh_copies, OnlyTouch}
use Rattle.ag_txn.specs.View.{Copies, copy_of, with_copy, page_after, page_after_all, copy_after, copies_after, copies_after_all}

-- one slot after a record
after_at : (pages lsn : ℕ) (r : Record) (n : ℕ) (copies : Copies) (i : ℕ)
    → get_or (map (copy_after pages lsn r) (enumerate_from n copies)) i None ≡ option_map (page_after pages lsn r (n + i)) (get_or copies i None)
after_at pages lsn r n [] i = refl
after_at pages lsn r n (c ∷ cs) zero = ap (λ (k : ℕ). option_map (page_after pages lsn r k) c) (omega arith)
after_at pages lsn r n (c ∷ cs) (suc i) = after_at pages lsn r (n + 1) cs i ∙ ap (λ (k : ℕ). option_map (page_after pages lsn r k) (get_or cs i None)) (omega arith)

map_twice : (f g : PageValue → PageValue) (o : Option PageValue) → option_map f (option_map g o) ≡ option_map (λ v. f (g v)) o
map_twice f g None = refl
map_twice f g (Some v) = refl

map_none : (o : Option PageValue) → option_map (λ v. v) o ≡ o
map_none None = refl
map_none (Some v) = refl

-- one slot after records
pub after_all_at : (pages lsn : ℕ) (rs : List Record) (copies : Copies) (i : ℕ)
    → get_or (copies_after_all pages lsn rs copies) i None ≡ option_map (page_after_all pages lsn rs (16 + i)) (get_or copies i None)
after_all_at pages lsn [] copies i = sym (map_none (get_or copies i None))
after_all_at pages lsn (r ∷ rs) copies i =
    after_all_at pages (lsn + 1) rs (copies_after pages lsn r copies) i
    ∙ ap (option_map (page_after_all pages (lsn + 1) rs (16 + i))) (after_at pages lsn r 16 copies i)
    ∙ map_twice (page_after_all pages (lsn + 1) rs (16 + i)) (page_after pages lsn r (16 + i)) (get_or copies i None)

-- no slot comes or goes
pub after_all_length : (pages lsn : ℕ) (rs : List Record) (copies : Copies) → length (copies_after_all pages lsn rs copies) ≡ length copies
after_all_length pages lsn [] copies = refl
after_all_length pages lsn (r ∷ rs) copies =
    after_all_length pages (lsn + 1) rs (copies_after pages lsn r copies)
    ∙ length-map (enumerate_from 16 copies) (copy_after pages lsn r) ∙ length-enumerate_from 16 copies

-- records that don't touch a page leave it
pub untouched_page : (pages lsn : ℕ) (rs : List Record) (page : ℕ) (v : PageValue) → list_any (touches pages page) rs ≡ false → page_after_all pages lsn rs page v ≡ v
untouched_page pages lsn [] page v off = refl
untouched_page pages lsn (r ∷ rs) page v off =
    let two = neither (touches pages page r) (list_any (touches pages page) rs) off in
    ap (page_after_all pages (lsn + 1) rs page) (stays (touches pages page r) two.0) ∙ untouched_page pages (lsn + 1) rs page v two.1
  where
    neither : (a b : Bool) → a || b ≡ false → (a ≡ false) × (b ≡ false)
    neither true b e = absurd (cc)
    neither false b e = (refl, e)

    stays : (b : Bool) → b ≡ false → cond b (after_record lsn r v) v ≡ v
    stays true e = absurd (cc)
    stays false e = refl

-- the last of fresh copies is kept first
kept_push : (fs : List FreshCopy) (f : FreshCopy) (copies : Copies) → kept_all (fs ++ f ∷ []) copies ≡ kept_all fs (with_copy f.page f.copy copies)
kept_push [] f copies = refl
kept_push (g ∷ fs) f copies = ap (with_copy g.page g.copy) (kept_push fs f copies)

-- a loop that keeps the last one
pub kept_more : (fs rest : List FreshCopy) (f : FreshCopy) (old new : Copies) → fs ≡ rest ++ f ∷ [] → new ≡ with_copy f.page f.copy old → kept_all rest new ≡ kept_all fs old
kept_more fs rest f old new split kept = ap (kept_all rest) kept ∙ sym (kept_push rest f old) ∙ ap (λ (l : List FreshCopy). kept_all l old) (sym split)

pub kept_long : (f : FreshCopy) (old new : Copies) → new ≡ with_copy f.page f.copy old → length new ≡ length old
kept_long f old new kept = ap length kept ∙ length-set old (f.page - 16) (Some f.copy)

-- one more page of a list
pub fresh_more : (pages first : ℕ) (rs : List Record) (copies : Copies) (listed : List ℕ) (i : ℕ) (fresh new : List FreshCopy) (next : Option FreshCopy) → i < length listed
    → fresh ≡ fresh_copies pages first rs copies (take i listed) → next ≡ fresh_of pages first rs copies (get_or listed i 0) → new ≡ fresh ++ option_to_list next → new ≡ fresh_copies
    pages first rs copies (take (i + 1) listed)
fresh_more pages first rs copies listed i fresh new next lt so_far is added =
    let g = fresh_of pages first rs copies in
    added ∙ (λ j. so_far j ++ option_to_list (is j)) ∙ ap (λ (l : List FreshCopy). filter_map g (take i listed) ++ l) (one g (get_or listed i 0))
    ∙ sym (filter_map-append g (take i listed) (get_or listed i 0 ∷ [])) ∙ ap (filter_map g) (sym (take_more listed i 0 lt))
  where
    by_some : (o : Option FreshCopy) → option_to_list o ≡ cons_option o []
    by_some None = refl
    by_some (Some f) = refl

    one : (g : ℕ → Option FreshCopy) (x : ℕ) → option_to_list (g x) ≡ filter_map g (x ∷ [])
    one g x = by_some (g x)

pub kept_length : (fs : List FreshCopy) (copies : Copies) → length (kept_all fs copies) ≡ length copies
kept_length [] copies = refl
kept_length (f ∷ fs) copies = length-set (kept_all fs copies) (f.page - 16) (Some f.copy) ∙ kept_length fs copies

-- a slot after records
abbrev Goes : ℕ → ℕ → List Record → Copies → ℕ → Option PageValue
Goes pages first rs copies i = option_map (page_after_all pages first rs (16 + i)) (get_or copies i None)

-- the slot's page is listed, or the records leave the slot
abbrev How : ℕ → ℕ → List Record → Copies → ℕ → List ℕ → Type 0
How pages first rs copies i listed = (contains (16 + i) listed ≡ true) ⊎ (get_or copies i None ≡ Goes pages first rs copies i)

how_rest : (pages first : ℕ) (rs : List Record) (copies : Copies) (i p : ℕ) (ps : List ℕ) → eqb (16 + i) p ≡ false → How pages first rs copies i (p ∷ ps) → How pages first rs copies i ps
how_rest pages first rs copies i p ps e (inl h) = inl (right (eqb (16 + i) p) (contains (16 + i) ps) e h)
  where
    right : (a b : Bool) → a ≡ false → a || b ≡ true → b ≡ true
    right true b e h = absurd (cc)
    right false b e h = h
how_rest pages first rs copies i p ps e (inr h) = inr h

-- one page of the list, where the slot is another one's
kept_other : (pages first : ℕ) (rs : List Record) (copies rest : Copies) (i p : ℕ) (fs : List FreshCopy) (o : Option PageValue) → i ≢ p - 16 → kept_all fs copies ≡ rest
    → get_or (kept_all (cons_option (option_map (λ v. record { page = p; copy = page_after_all pages first rs p v }) o) fs) copies) i None ≡ get_or rest i None
kept_other pages first rs copies rest i p fs None ne e = ap (λ (cs : Copies). get_or cs i None) e
kept_other pages first rs copies rest i p fs (Some v) ne e = get_or-set_other (kept_all fs copies) (p - 16) i (Some (page_after_all pages first rs p v)) None ne ∙ ap
    (λ (cs : Copies). get_or cs i None) e

-- one page of the list, whose slot it is
kept_own : (pages first : ℕ) (rs : List Record) (copies : Copies) (i p : ℕ) (fs : List FreshCopy) (o : Option PageValue) → 16 + i ≡ p → i < length copies → get_or copies i None ≡ o
    → (get_or copies i None ≡ Goes pages first rs copies i → get_or (kept_all fs copies) i None ≡ Goes pages first rs copies i)
    → get_or (kept_all (cons_option (option_map (λ v. record { page = p; copy = page_after_all pages first rs p v }) o) fs) copies) i None ≡ Goes pages first rs copies i
kept_own pages first rs copies i p fs None at lt e rest = rest (e ∙ ap (option_map (page_after_all pages first rs (16 + i))) (sym e))
kept_own pages first rs copies i p fs (Some v) at lt e rest =
    let place : p - 16 ≡ i = omega arith in
    let long : i < length (kept_all fs copies) = omega (arith, kept_length fs copies) in
    ap (λ (n : ℕ). get_or (set (kept_all fs copies) n (Some (page_after_all pages first rs p v))) i None) place
    ∙ get_or-set_same (kept_all fs copies) i (Some (page_after_all pages first rs p v)) None long
    ∙ ap (λ (n : ℕ). Some (page_after_all pages first rs n v)) (sym at)
    ∙ ap (option_map (page_after_all pages first rs (16 + i))) (sym e)

-- a slot once the copies of listed pages are kept, where it is listed or has its new copy already
kept_at : (pages first : ℕ) (rs : List Record) (copies : Copies) (listed : List ℕ) (i : ℕ) → i < length copies → AllByRecursion (IsPage pages) listed
    → How pages first rs copies i listed → get_or (kept_all (fresh_copies pages first rs copies listed) copies) i None ≡ Goes pages first rs copies i
kept_at pages first rs copies [] i lt own (inl e) = absurd (cc)
kept_at pages first rs copies [] i lt own (inr e) = e
kept_at pages first rs copies (p ∷ ps) i lt own how = elim (cases_Bool (eqb (16 + i) p)) [
  | inl t ↦
      (let at : 16 + i ≡ p = eqb-true (16 + i) p t in
      let place : i ≡ p - 16 = omega arith in
      kept_own pages first rs copies i p (fresh_copies pages first rs copies ps) (copy_of copies p) at lt (ap (λ (n : ℕ). get_or copies n None) place)
      (λ stays. kept_at pages first rs copies ps i lt own.1 (inr stays)))
  | inr f ↦
      (let ne : i ≢ p - 16 = λ e. (let low = own.0.low in false≢true (sym f ∙ eq-eqb (16 + i) p (omega arith))) in
      kept_other pages first rs copies (kept_all (fresh_copies pages first rs copies ps) copies) i p (fresh_copies pages first rs copies ps) (copy_of copies p) ne refl
      ∙ kept_at pages first rs copies ps i lt own.1 (how_rest pages first rs copies i p ps f how))
]

-- fresh copies of the pages that records touch are those after the records
pub kept_after : (pages first : ℕ) (rs : List Record) (copies : Copies) (listed : List ℕ) → AllByRecursion (IsPage pages) listed → OnlyTouch pages listed rs
    → kept_all (fresh_copies pages first rs copies listed) copies ≡ copies_after_all pages first rs copies
kept_after pages first rs copies listed own touch = ext_get_or None _ _
    (kept_length (fresh_copies pages first rs copies listed) copies ∙ sym (after_all_length pages first rs copies))
    (λ i lt.
    let l : i < length copies = omega (arith, kept_length (fresh_copies pages first rs copies listed) copies) in
    kept_at pages first rs copies listed i l own (how i (contains (16 + i) listed) refl) ∙ sym (after_all_at pages first rs copies i))
  where
    stays : (i : ℕ) (o : Option PageValue) → list_any (touches pages (16 + i)) rs ≡ false → o ≡ option_map (page_after_all pages first rs (16 + i)) o
    stays i None off = refl
    stays i (Some v) off = ap Some (sym (untouched_page pages first rs (16 + i) v off))

    how : (i : ℕ) (b : Bool) → contains (16 + i) listed ≡ b → How pages first rs copies i listed
    how i true e = inl e
    how i false e = inr (stays i (get_or copies i None) (touch (16 + i) e))
