-- That putting the pages of pairs into a rising list, one by one, lists them all.
use Rattle.std.proofs.Common.{◌≡◌, ℕ, ◌+◌, ◌<◌, ◌≤◌, List, [], ◌∷◌, ◌++◌, length, get_or, Bool, true, false, refl, sym, ap, ◌∙◌, take, arith, inl, inr, suc, zero}
use Rattle.std.specs.Prelude.{◌==◌, ◌||◌, ◌%◌, nat_lt}
use Rattle.std.specs.List.{filter, list_any, range_with_len, insert}
use Rattle.std.proofs.Math.Bool.{or-false}
use Rattle.std.proofs.lemmas.Bool.{cases_Bool, cases_lt, eq-eqb, ne_eqb, lt-ltb, le-ltb}
use Rattle.std.proofs.lemmas.Nat.{mod_below}
use Rattle.std.proofs.lemmas.List.{take_more}
use Rattle.std.proofs.lemmas.List.Folds.{list_any-append}
use Rattle.ag_model.specs.declared.event.Pair.{Pair}
use Rattle.ag_model.specs.Rows.{page_of}
use Rattle.ag_model.specs.Txns.{insert_rising}
use Rattle.ag_rules.specs.SetEvent.{pages_of_pairs}

-- what is put beside a smaller, an equal and a greater first number
beside_less : (x y : ℕ) (ys : List ℕ) → y < x → insert_rising (y ∷ ys) x ≡ y ∷ insert_rising ys x
beside_less x y ys h = let e : (x == y) ≡ false = ne_eqb x y (λ e. omega arith) in let l : nat_lt x y ≡ false = le-ltb x y (omega arith) in rw (e, l)

beside_same : (x y : ℕ) (ys : List ℕ) → y ≡ x → insert_rising (y ∷ ys) x ≡ y ∷ ys
beside_same x y ys h = let e : (x == y) ≡ true = eq-eqb x y (sym h) in rw e

beside_more : (x y : ℕ) (ys : List ℕ) → x < y → insert_rising (y ∷ ys) x ≡ x ∷ y ∷ ys
beside_more x y ys h = let e : (x == y) ≡ false = ne_eqb x y (λ e. omega arith) in let l : nat_lt x y ≡ true = lt-ltb x y h in rw (e, l)

-- a number that is there stays there once
pub insert_rising_same : (ys : List ℕ) (k x : ℕ) → k < length ys → ((j : ℕ) → j < k → get_or ys j 0 < x) → get_or ys k 0 ≡ x → insert_rising ys x ≡ ys
insert_rising_same [] k x h b e = absurd (omega (arith, h))
insert_rising_same (y ∷ ys) zero x h b e = beside_same x y ys e
insert_rising_same (y ∷ ys) (suc k) x h b e =
    beside_less x y ys (b 0 (omega arith))
    ∙ ap (λ zs. y ∷ zs) (insert_rising_same ys k x (omega (arith, h)) (λ j l. b (suc j) (omega (arith, l))) e)

-- a number goes to the place of the first that is above it
pub insert_rising_new : (ys : List ℕ) (k x : ℕ) → k ≤ length ys → ((j : ℕ) → j < k → get_or ys j 0 < x) → (k < length ys → x < get_or ys k 0) → insert_rising ys x ≡ insert ys k x
insert_rising_new [] zero x h b t = refl
insert_rising_new [] (suc k) x h b t = absurd (omega (arith, h))
insert_rising_new (y ∷ ys) zero x h b t = beside_more x y ys (t (omega arith))
insert_rising_new (y ∷ ys) (suc k) x h b t =
    beside_less x y ys (b 0 (omega arith))
    ∙ ap (λ zs. y ∷ zs) (insert_rising_new ys k x (omega (arith, h)) (λ j l. b (suc j) (omega (arith, l))) (λ l. t (omega (arith, l))))

-- a number below all goes first
before_all : (f : ℕ → Bool) (x a n : ℕ) → x < a → insert_rising (filter f (range_with_len a n)) x ≡ x ∷ filter f (range_with_len a n)
before_all f x a zero h = refl
before_all f x a (suc n) h =
    elim (cases_Bool (f a)) [
      | inl e ↦ rw e (beside_more x a (filter f (range_with_len (a + 1) n)) h)
      | inr e ↦ rw e (before_all f x (a + 1) n (omega arith))
    ]

-- a number below all is none of them
none_of_later : (f : ℕ → Bool) (x a n : ℕ) → x < a → filter (λ p. f p || (x == p)) (range_with_len a n) ≡ filter f (range_with_len a n)
none_of_later f x a zero h = refl
none_of_later f x a (suc n) h =
    let e : (x == a) ≡ false = ne_eqb x a (λ e. omega arith) in
    let i : filter (λ p. f p || (x == p)) (range_with_len (a + 1) n) ≡ filter f (range_with_len (a + 1) n) = none_of_later f x (a + 1) n (omega arith) in
    rw (e, or-false, i)

-- one more number of a range passes
pub insert_in_range : (f : ℕ → Bool) (x a n : ℕ) → a ≤ x → x < a + n → insert_rising (filter f (range_with_len a n)) x ≡ filter (λ p. f p || (x == p)) (range_with_len a n)
insert_in_range f x a zero l h = absurd (omega (arith, l, h))
insert_in_range f x a (suc n) l h =
    let rest : List ℕ = filter f (range_with_len (a + 1) n) in
    elim (cases_lt a x) [
      | inl lt ↦
          let e : (x == a) ≡ false = ne_eqb x a (λ e. omega arith) in
          let i : insert_rising rest x ≡ filter (λ p. f p || (x == p)) (range_with_len (a + 1) n) = insert_in_range f x (a + 1) n (omega arith) (omega (arith, h)) in
          elim (cases_Bool (f a)) [
            | inl t ↦ rw t (beside_less x a rest lt ∙ ap (λ zs. a ∷ zs) i)
            | inr t ↦ rw (t, e) i
          ]
      | inr ge ↦
          let same : x ≡ a = omega arith in
          let e : (x == a) ≡ true = eq-eqb x a same in
          let i : filter (λ p. f p || (x == p)) (range_with_len (a + 1) n) ≡ rest = none_of_later f x (a + 1) n (omega arith) in
          elim (cases_Bool (f a)) [
            | inl t ↦ rw (t, i) (beside_same x a rest (sym same))
            | inr t ↦ rw (t, e, i) (before_all f x (a + 1) n (omega arith) ∙ ap (λ y. y ∷ rest) same)
          ]
    ]

-- no number of a range passes
none_pass : (a n : ℕ) → filter (λ p. false) (range_with_len a n) ≡ []
none_pass a zero = refl
none_pass a (suc n) = none_pass (a + 1) n

-- no pair
pub pages_of_none : (pages : ℕ) → pages_of_pairs pages [] ≡ []
pages_of_none pages = none_pass 16 pages

-- one more pair
pub pages_of_more : (pages : ℕ) (pairs : List Pair) (pair : Pair) → 0 < pages → pages_of_pairs pages (pairs ++ pair ∷ []) ≡ insert_rising (pages_of_pairs pages pairs) (page_of pages pair.key)
pages_of_more pages pairs pair h =
    simp (list_any-append, or-false)
    (sym (insert_in_range (λ p. list_any (λ (q : Pair). page_of pages q.key == p) pairs) (page_of pages pair.key) 16 pages (omega arith)
    (let m : pair.key % pages < pages = mod_below pair.key pages h in omega arith)))

-- the pages ys of the first i pairs become those of one pair more
pub pages_of_next : (pages : ℕ) (pairs : List Pair) (i : ℕ) (d : Pair) (ys zs : List ℕ) (page : ℕ) → 0 < pages → i < length pairs → zs ≡ insert_rising ys page
    → ys ≡ pages_of_pairs pages (take i pairs) → page ≡ page_of pages (get_or pairs i d).key → zs ≡ pages_of_pairs pages (take (i + 1) pairs)
pages_of_next pages pairs i d ys zs page h l put so_far is =
    put
    ∙ ap (λ ps. insert_rising ps page) so_far
    ∙ ap (λ p. insert_rising (pages_of_pairs pages (take i pairs)) p) is
    ∙ sym (pages_of_more pages (take i pairs) (get_or pairs i d) h)
    ∙ ap (λ ps. pages_of_pairs pages ps) (sym (take_more pairs i d l))
