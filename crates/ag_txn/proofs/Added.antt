-- The pages that records touch, and what adding records leaves.
use Rattle.std.proofs.Common.{◌≡◌, ◌≢◌, ℕ, zero, suc, ◌+◌, ◌-◌, ◌<◌, ◌≤◌, Bool, true, false, cond, ◌||◌, ◌&&◌, eqb, List, [], ◌∷◌, ◌++◌, length, get_or, set, map, refl, sym, ap, ap₂, ◌∙◌, inl, inr, ◌⊎◌, arith, ne_eqb, length-set}
use Rattle.std.specs.Prelude.{Option, Some, None, ◌%◌}
use Rattle.std.specs.List.{AllByRecursion, filter, cons_option, list_any, range_with_len}
use Rattle.std.specs.Option.{option_map}
use Rattle.std.proofs.Math.Bool.{and-true, and-false, or-false}
use Rattle.std.proofs.lemmas.Bool.{cases_Bool, eqb-true, eq-eqb, false≢true}
use Rattle.std.proofs.lemmas.Bool.Decides.{eqb_tells}
use Rattle.std.proofs.lemmas.Nat.{mod_below}
use Rattle.std.proofs.lemmas.List.{ext_get_or, get_or-set_same, get_or-set_other}
use Rattle.std.proofs.lemmas.List.Folds.{list_any-append}
use Rattle.std.proofs.lemmas.List.Elements.{filter-append}
use Rattle.ag_lists.proofs.Filters.{all_filter}
use Rattle.ag_model.specs.declared.event.Pair.{Pair}
use Rattle.ag_model.specs.declared.record.Record.{Record}
use Rattle.ag_model.specs.declared.record.Record.TheVariants.{Put, Commit}
use Rattle.ag_model.specs.declared.value.PageValue.{PageValue}
use Rattle.ag_model.specs.Rows.{contains, touches, page_of, page_numbers}
use Rattle.ag_rules.specs.SetEvent.{pages_of_pairs, records_of_set}
use Rattle.ag_stripe.specs.Redo.{after_record}
use Rattle.ag_txn.specs.declared.copies.FreshCopy.{FreshCopy}
use Rattle.ag_txn.specs.Fresh.{IsPage, kept_all, fresh_copies, OnlyTouch}
use Rattle.ag_txn.specs.View.{TxnsView, Copies, copy_of, with_copy, page_after_all, copies_after_all, full_end, seen, with_seen, with_records}
use Rattle.ag_txn.proofs.Copied.{after_all_at, after_all_length, kept_after}

-- the page of a key is one
pub page_in : (pages page key : ℕ) → 0 < pages → page ≡ page_of pages key → IsPage pages page
page_in pages page key some is = let m : key % pages < pages = mod_below key pages some in record { low = omega arith; high = omega arith }

contains_cond : (p x : ℕ) (b : Bool) (l : List ℕ) → contains p (cond b (x ∷ l) l) ≡ ((b && (eqb p x)) || contains p l)
contains_cond p x true l = refl
contains_cond p x false l = refl

contains_below : (f : ℕ → Bool) (p a n : ℕ) → p < a → contains p (filter f (range_with_len a n)) ≡ false
contains_below f p a zero h = refl
contains_below f p a (suc n) h =
    contains_cond p a (f a) (filter f (range_with_len (a + 1) n))
    ∙ ap₂ (λ (b c : Bool). (f a && b) || c) (ne_eqb p a (λ e. omega arith)) (contains_below f p (a + 1) n (omega arith))
    ∙ ap (λ (b : Bool). b || false) (and-false (f a))

pub contains-filter : (f : ℕ → Bool) (p a n : ℕ) → a ≤ p → p < a + n → contains p (filter f (range_with_len a n)) ≡ f p
contains-filter f p a zero l h = absurd (omega arith)
contains-filter f p a (suc n) l h =
    let rest = filter f (range_with_len (a + 1) n) in
    contains_cond p a (f a) rest
    ∙ elim (eqb_tells p a) [
      | inl e ↦ ap₂ (λ (b c : Bool). (f a && b) || c) e.0 (rw e.1 (contains_below f a (a + 1) n (omega arith))) ∙ or-false (f a && true) ∙ and-true (f a) ∙ ap f (sym e.1)
      | inr e ↦ ap₂ (λ (b c : Bool). (f a && b) || c) e.0 (contains-filter f p (a + 1) n (omega arith) (omega arith)) ∙ ap (λ (b : Bool). b || f p) (and-false (f a))
    ]

range_in : (pages a n : ℕ) → 16 ≤ a → a + n ≤ 16 + pages → AllByRecursion (IsPage pages) (range_with_len a n)
range_in pages a zero low high = tt
range_in pages a (suc n) low high = (record { low = low; high = omega arith }, range_in pages (a + 1) n (omega arith) (omega arith))

-- data pages that pass a test are pages
pub passing_in : (pages : ℕ) (f : ℕ → Bool) → AllByRecursion (IsPage pages) (filter f (page_numbers pages))
passing_in pages f = all_filter (IsPage pages) f (page_numbers pages) (range_in pages 16 pages (omega arith) (omega arith))

range_push : (a n : ℕ) → range_with_len a (suc n) ≡ range_with_len a n ++ (a + n) ∷ []
range_push a zero = ap (λ (k : ℕ). k ∷ []) (omega arith)
range_push a (suc n) = ap (λ (l : List ℕ). a ∷ l) (range_push (a + 1) n ∙ ap (λ (k : ℕ). range_with_len (a + 1) n ++ k ∷ []) (omega arith))

-- one more data page
pub listed_more : (f : ℕ → Bool) (page : ℕ) (there : Bool) (old new : List ℕ) → 16 ≤ page → old ≡ filter f (range_with_len 16 (page - 16)) → there ≡ f page
    → new ≡ old ++ cond there (page ∷ []) [] → new ≡ filter f (range_with_len 16 (page + 1 - 16))
listed_more f page there old new low so_far is added =
    let next : page + 1 - 16 ≡ suc (page - 16) = omega arith in
    let last : 16 + (page - 16) ≡ page = omega arith in
    added ∙ (λ i. so_far i ++ cond (is i) (page ∷ []) [])
    ∙ sym (filter-append f (range_with_len 16 (page - 16)) (page ∷ []))
    ∙ sym (ap (λ (n : ℕ). filter f (range_with_len 16 n)) next ∙ ap (filter f) (range_push 16 (page - 16) ∙ ap (λ (k : ℕ). range_with_len 16 (page - 16) ++ k ∷ []) last))

-- the pages of pairs are pages
pub pages_in : (pages : ℕ) (pairs : List Pair) → AllByRecursion (IsPage pages) (pages_of_pairs pages pairs)
pages_in pages pairs = all_filter (IsPage pages) (λ p. list_any (λ (pair : Pair). eqb (page_of pages pair.key) p) pairs) (page_numbers pages) (range_in pages 16 pages (omega arith) (omega arith))

-- fresh copies are of the pages that are listed
pub fresh_in : (pages first : ℕ) (rs : List Record) (copies : Copies) (listed : List ℕ) → AllByRecursion (IsPage pages) listed
    → AllByRecursion (λ (f : FreshCopy). IsPage pages f.page) (fresh_copies pages first rs copies listed)
fresh_in pages first rs copies [] own = tt
fresh_in pages first rs copies (p ∷ ps) own = by_copy (copy_of copies p) (fresh_in pages first rs copies ps own.1)
  where
    by_copy : (o : Option PageValue) → AllByRecursion (λ (f : FreshCopy). IsPage pages f.page) (fresh_copies pages first rs copies ps)
        → AllByRecursion (λ (f : FreshCopy). IsPage pages f.page)
        (cons_option (option_map (λ v. record { page = p; copy = page_after_all pages first rs p v }) o) (fresh_copies pages first rs copies ps))
    by_copy None rest = rest
    by_copy (Some v) rest = (own.0, rest)

-- a page of a pair is listed
pair_listed : (pages : ℕ) (pairs : List Pair) (page : ℕ) → 0 < pages → list_any (λ (pair : Pair). eqb page (page_of pages pair.key)) pairs ≡ true → contains page (pages_of_pairs pages pairs) ≡ true
pair_listed pages pairs page some e =
    let at = among pairs e in
    contains-filter (λ p. list_any (λ (pair : Pair). eqb (page_of pages pair.key) p) pairs) page 16 pages at.0.low at.0.high ∙ at.1
  where
    among : (ps : List Pair) → list_any (λ (pair : Pair). eqb page (page_of pages pair.key)) ps ≡ true → IsPage pages page × (list_any (λ (pair : Pair). eqb (page_of pages pair.key) page) ps ≡ true)
    among [] h = absurd (cc)
    among (q ∷ qs) h = elim (cases_Bool (eqb page (page_of pages q.key))) [
      | inl t ↦
          (let is : page ≡ page_of pages q.key = eqb-true page (page_of pages q.key) t in
          (page_in pages page q.key some is, ap (λ (b : Bool). b || list_any (λ (pair : Pair). eqb (page_of pages pair.key) page) qs) (eq-eqb (page_of pages q.key) page (sym is))))
      | inr f ↦
          (let rest = among qs (sym (ap (λ (b : Bool). b || list_any (λ (pair : Pair). eqb page (page_of pages pair.key)) qs) f) ∙ h) in
          (rest.0, left (eqb (page_of pages q.key) page) _ rest.1))
    ]
      where
        left : (a b : Bool) → b ≡ true → a || b ≡ true
        left true b h = refl
        left false b h = h

-- the records of a whole transaction touch the pages of its pairs alone
pub set_touches : (pages txn : ℕ) (pairs : List Pair) → 0 < pages → OnlyTouch pages (pages_of_pairs pages pairs) (records_of_set pages txn pairs)
set_touches pages txn pairs some page off =
    list_any-append (touches pages page) (map (λ (pair : Pair). Put txn pair.key pair.value) pairs) (Commit txn (pages_of_pairs pages pairs) ∷ [])
    ∙ ap₂ (λ (a b : Bool). a || b) (puts pairs ∙ none) (or-false (contains page (pages_of_pairs pages pairs)) ∙ off)
  where
    puts : (ps : List Pair) → list_any (touches pages page) (map (λ (pair : Pair). Put txn pair.key pair.value) ps) ≡ list_any (λ (pair : Pair). eqb page (page_of pages pair.key)) ps
    puts [] = refl
    puts (q ∷ qs) = ap (λ (b : Bool). eqb page (page_of pages q.key) || b) (puts qs)

    none : list_any (λ (pair : Pair). eqb page (page_of pages pair.key)) pairs ≡ false
    none = elim (cases_Bool (list_any (λ (pair : Pair). eqb page (page_of pages pair.key)) pairs)) [
      | inl t ↦ absurd (false≢true (sym off ∙ pair_listed pages pairs page some t))
      | inr f ↦ f
    ]

-- fresh copies of the pages that records touch, and these records
pub records_added : (t : TxnsView) (new : List Record) (fresh : List FreshCopy) (listed : List ℕ) (first : ℕ) → first ≡ full_end t + 1 → AllByRecursion (IsPage t.pages) listed
    → OnlyTouch t.pages listed new
    → fresh ≡ fresh_copies t.pages first new t.copies listed → record t { buffer = t.buffer ++ new; copies = kept_all fresh t.copies } ≡ with_records t new
records_added t new fresh listed first at own touch is =
    let all : kept_all fresh t.copies ≡ copies_after_all t.pages (full_end t + 1) new t.copies =
    ap (λ (l : List FreshCopy). kept_all l t.copies) is ∙ kept_after t.pages first new t.copies listed own touch ∙ ap (λ (n : ℕ). copies_after_all t.pages n new t.copies) at in
    ap (λ (cs : Copies). record t { buffer = t.buffer ++ new; copies = cs }) all

-- one record that touches one page, and the copy of that page with it
one_after : (pages page lsn : ℕ) (r : Record) (v : PageValue) (copies : Copies) → 16 ≤ page → page < 16 + length copies → ((p : ℕ) → touches pages p r ≡ eqb p page)
    → with_copy page (page_after_all pages lsn (r ∷ []) page v) copies ≡ copies_after_all pages lsn (r ∷ []) (with_copy page v copies)
one_after pages page lsn r v copies low high touch = ext_get_or None _ _
    (length-set copies (page - 16) (Some new) ∙ sym (after_all_length pages lsn (r ∷ []) (with_copy page v copies) ∙ length-set copies (page - 16) (Some v)))
    (λ i lt. slot i (cases_Bool (eqb (16 + i) page)) ∙ sym (after_all_at pages lsn (r ∷ []) (with_copy page v copies) i))
  where
    new : PageValue
    new = page_after_all pages lsn (r ∷ []) page v

    stays : (i : ℕ) (o : Option PageValue) → touches pages (16 + i) r ≡ false → o ≡ option_map (page_after_all pages lsn (r ∷ []) (16 + i)) o
    stays i None off = refl
    stays i (Some w) off = ap Some (sym (ap (λ (b : Bool). cond b (after_record lsn r w) w) off))

    slot : (i : ℕ) → (eqb (16 + i) page ≡ true) ⊎ (eqb (16 + i) page ≡ false)
        → get_or (with_copy page new copies) i None ≡ option_map (page_after_all pages lsn (r ∷ []) (16 + i)) (get_or (with_copy page v copies) i None)
    slot i (inl t) =
        let at : 16 + i ≡ page = eqb-true (16 + i) page t in
        let place : page - 16 ≡ i = omega arith in
        let l : i < length copies = omega arith in
        ap (λ (n : ℕ). get_or (set copies n (Some new)) i None) place ∙ get_or-set_same copies i (Some new) None l
        ∙ ap (λ (n : ℕ). Some (page_after_all pages lsn (r ∷ []) n v)) (sym at)
        ∙ ap (option_map (page_after_all pages lsn (r ∷ []) (16 + i))) (sym (ap (λ (n : ℕ). get_or (set copies n (Some v)) i None) place ∙ get_or-set_same copies i (Some v) None l))
    slot i (inr f) =
        let ne : i ≢ page - 16 = λ e. false≢true (sym f ∙ eq-eqb (16 + i) page (omega arith)) in
        get_or-set_other copies (page - 16) i (Some new) None ne
        ∙ stays i (get_or copies i None) (touch (16 + i) ∙ f)
        ∙ ap (option_map (page_after_all pages lsn (r ∷ []) (16 + i))) (sym (get_or-set_other copies (page - 16) i (Some v) None ne))

-- the same of all
pub one_added : (t : TxnsView) (v : PageValue) (r : Record) (new : List Record) (fresh : List FreshCopy) (copy : PageValue) (lsn : ℕ) → length t.copies ≡ t.pages → IsPage t.pages v.page
    → ((p : ℕ) → touches t.pages p r ≡ eqb p v.page)
    → lsn ≡ full_end t + 1 → new ≡ r ∷ [] → copy ≡ page_after_all t.pages lsn new v.page (seen t v) → fresh ≡ record { page = v.page; copy = copy } ∷ []
    → record t { buffer = t.buffer ++ new; copies = kept_all fresh t.copies } ≡ with_records (with_seen t v) (r ∷ [])
one_added t v r new fresh copy lsn long own touch at one made is =
    let low = own.low in
    let high = own.high in
    let all : kept_all fresh t.copies ≡ copies_after_all t.pages (full_end t + 1) (r ∷ []) (with_copy v.page (seen t v) t.copies) =
    ap (λ (l : List FreshCopy). kept_all l t.copies) is
    ∙ (λ i. with_copy v.page ((made ∙ (λ j. page_after_all t.pages (at j) (one j) v.page (seen t v))) i) t.copies)
    ∙ one_after t.pages v.page (full_end t + 1) r (seen t v) t.copies low (omega arith) touch in
    λ i. record t { buffer = t.buffer ++ one i; copies = all i }
