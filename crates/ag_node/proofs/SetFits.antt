-- The records of a whole transaction have a spelling.
use Rattle.std.proofs.Common.{◌≡◌, ℕ, zero, suc, ◌+◌, ◌%◌, ◌^◌, ◌<◌, ◌≤◌, List, [], ◌∷◌, ◌++◌, length, map, take, get_or, Bool, true, refl, sym, ap, ◌∙◌, subst, inl, inr, arith}
use Rattle.std.specs.Prelude.{◌==◌}
use Rattle.std.specs.List.{filter, list_any, range_with_len, AllByRecursion}
use Rattle.std.proofs.lemmas.Bool.{cases_Bool, cases_lt, eq-eqb, false≢true}
use Rattle.std.proofs.lemmas.Nat.{mod_below}
use Rattle.std.proofs.lemmas.List.{take_more, map-append}
use Rattle.ag_model.specs.declared.record.Record.{Record}
use Rattle.ag_model.specs.declared.record.Record.TheVariants.{Put, Commit}
use Rattle.ag_model.specs.declared.event.Pair.{Pair}
use Rattle.ag_model.specs.Rows.{page_of}
use Rattle.ag_model.specs.Proper.{RisesFrom}
use Rattle.ag_record.specs.Spelling.{HaveSpelling, IsPage, ArePages}
use Rattle.ag_built.specs.Built.{IsPair}
use Rattle.ag_rules.specs.SetEvent.{pages_of_pairs, records_of_set}
use Rattle.ag_logstore.proofs.Fitting.{fit_append}

-- the puts
puts_fit : (txn : ℕ) (pairs : List Pair) → txn < 2 ^ 64 → AllByRecursion IsPair pairs → AllByRecursion (λ (pair : Pair). pair.key < 2 ^ 32) pairs → HaveSpelling (map (λ (pair : Pair). Put txn pair.key pair.value) pairs)
puts_fit txn [] t p k = tt
puts_fit txn (pair ∷ pairs) t p k = ((t, k.0, p.0), puts_fit txn pairs t p.1 k.1)

-- one more pair: its Put, and its key
all_more : {X : Type 0} (P : X → Type 0) (xs : List X) (x : X) → AllByRecursion P xs → P x → AllByRecursion P (xs ++ x ∷ [])
all_more P [] x p q = (q, tt)
all_more P (y ∷ xs) x p q = (p.0, all_more P xs x p.1 q)

pub keys_more : (pairs : List Pair) (i : ℕ) (d : Pair) → i < length pairs → AllByRecursion (λ (pair : Pair). pair.key < 2 ^ 32) (take i pairs) → (get_or pairs i d).key < 2 ^ 32
    → AllByRecursion (λ (pair : Pair). pair.key < 2 ^ 32) (take (i + 1) pairs)
keys_more pairs i d l p k =
    subst (AllByRecursion (λ (pair : Pair). pair.key < 2 ^ 32)) (sym (take_more pairs i d l)) (all_more (λ (pair : Pair). pair.key < 2 ^ 32) (take i pairs) (get_or pairs i d) p k)

pub puts_more : (txn : ℕ) (pairs : List Pair) (i : ℕ) (d : Pair) (before after : List Record) (r : Record) → i < length pairs → before ≡ map (λ (pair : Pair). Put txn pair.key pair.value) (take i pairs)
    → r ≡ Put txn (get_or pairs i d).key (get_or pairs i d).value → after ≡ before ++ r ∷ [] → after ≡ map (λ (pair : Pair). Put txn pair.key pair.value) (take (i + 1) pairs)
puts_more txn pairs i d before after r l b is a =
    a ∙ (λ j. b j ++ is j ∷ []) ∙ sym (map-append (λ (pair : Pair). Put txn pair.key pair.value) (take i pairs) (get_or pairs i d ∷ []))
    ∙ ap (λ (ps : List Pair). map (λ (pair : Pair). Put txn pair.key pair.value) ps) (sym (take_more pairs i d l))

-- the numbers of a range that pass a test rise
rising_in_range : (f : ℕ → Bool) (low a n : ℕ) → low < a → RisesFrom low (filter f (range_with_len a n))
rising_in_range f low a zero h = tt
rising_in_range f low a (suc n) h =
    elim (cases_Bool (f a)) [
      | inl t ↦ rw t (h, rising_in_range f a (a + 1) n (omega arith))
      | inr t ↦ rw t (rising_in_range f low (a + 1) n (omega (arith, h)))
    ]

-- they are pages
pages_in_range : (f : ℕ → Bool) (a n : ℕ) → 16 ≤ a → a + n ≤ 2064 → AllByRecursion IsPage (filter f (range_with_len a n))
pages_in_range f a zero low high = tt
pages_in_range f a (suc n) low high =
    elim (cases_Bool (f a)) [
      | inl t ↦ rw t ((low, omega (arith, high)), pages_in_range f (a + 1) n (omega (arith, low)) (omega (arith, high)))
      | inr t ↦ rw t (pages_in_range f (a + 1) n (omega (arith, low)) (omega (arith, high)))
    ]

-- they are no more than the range has
few_in_range : (f : ℕ → Bool) (a n : ℕ) → length (filter f (range_with_len a n)) ≤ n
few_in_range f a zero = omega arith
few_in_range f a (suc n) =
    elim (cases_Bool (f a)) [
      | inl t ↦ rw t (omega (arith, few_in_range f (a + 1) n))
      | inr t ↦ rw t (omega (arith, few_in_range f (a + 1) n))
    ]

-- they are some where a number of the range passes
some_in_range : (f : ℕ → Bool) (x a n : ℕ) → a ≤ x → x < a + n → f x ≡ true → 1 ≤ length (filter f (range_with_len a n))
some_in_range f x a zero low high is = absurd (omega (arith, low, high))
some_in_range f x a (suc n) low high is =
    elim (cases_Bool (f a)) [
      | inl t ↦ rw t (omega arith)
      | inr t ↦ elim (cases_lt a x) [
        | inl more ↦ rw t (some_in_range f x (a + 1) n (omega (arith, more)) (omega (arith, high)) is)
        | inr same ↦
            let e : x ≡ a = omega (arith, low, same) in
            absurd (false≢true (sym t ∙ ap f (sym e) ∙ is))
      ]
    ]

-- the page of a pair is listed
listed : (pages : ℕ) (pair : Pair) (pairs : List Pair) → list_any (λ (q : Pair). page_of pages q.key == page_of pages pair.key) (pair ∷ pairs) ≡ true
listed pages pair pairs = rw (eq-eqb (page_of pages pair.key) (page_of pages pair.key) refl) refl

pub pages_listed : (pages : ℕ) (pairs : List Pair) → 16 ≤ pages → pages ≤ 2048 → 1 ≤ length pairs → ArePages (pages_of_pairs pages pairs)
pages_listed pages [] some few has = absurd (omega (arith, has))
pages_listed pages (pair ∷ pairs) some few has =
    let test : ℕ → Bool = λ p. list_any (λ (q : Pair). page_of pages q.key == p) (pair ∷ pairs) in
    let below : pair.key % pages < pages = mod_below pair.key pages (omega (arith, some)) in
    record {
      least = some_in_range test (page_of pages pair.key) 16 pages (omega arith) (omega (arith, below)) (listed pages pair pairs);
      most = omega (arith, few_in_range test 16 pages, few);
      each = pages_in_range test 16 pages (omega arith) (omega (arith, few));
      rising = rising_in_range test 0 16 pages (omega arith);
    }

-- the puts and the Commit
pub set_fits : (pages txn : ℕ) (pairs : List Pair) → 16 ≤ pages → pages ≤ 2048 → txn < 2 ^ 64 → 1 ≤ length pairs → AllByRecursion IsPair pairs → AllByRecursion (λ (pair : Pair). pair.key < 2 ^ 32) pairs
    → HaveSpelling (records_of_set pages txn pairs)
set_fits pages txn pairs some few t has values keys =
    fit_append (map (λ (pair : Pair). Put txn pair.key pair.value) pairs) (Commit txn (pages_of_pairs pages pairs) ∷ []) (puts_fit txn pairs t values keys) ((t, pages_listed pages pairs some few has), tt)
