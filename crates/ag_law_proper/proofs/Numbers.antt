-- The numbers of the transactions of a log: those that are open, and the greatest.
use Rattle.std.specs.Prelude.{if◌then◌else◌}
use Rattle.std.proofs.Common.{◌≡◌, ◌≢◌, ℕ, ◌<◌, ◌≤◌, max, List, [], ◌∷◌, Bool, true, false, refl, ap, ◌∙◌, arith}
use Rattle.std.specs.Prelude.{◌==◌, ◌||◌, not, nat_lt}
use Rattle.std.specs.List.{AllByRecursion, filter, fold, flat_map, list_any}
use Rattle.std.proofs.lemmas.Bool.{eqb-true, eqb-false, ltb-true, ltb-false, not-true}
use Rattle.ag_model.specs.declared.record.Record.{Record}
use Rattle.ag_model.specs.declared.record.Record.TheVariants.{Put, Del, Commit, Abort, Trim, Term}
use Rattle.ag_model.specs.Txns.{is_end_of, txn_of, last_txn, insert_rising, open_in}
use Rattle.ag_lists.proofs.Tests.{by_bool, if_has}
use Rattle.ag_lists.proofs.Each.{all_map}
use Rattle.ag_law_proper.specs.Ended.{is_of}

-- each number is below all that come after it
abbrev pub Sorted : List ℕ → Type 0
Sorted [] = Unit {0}
Sorted (x ∷ xs) = AllByRecursion (λ y. x < y) xs × Sorted xs

all_insert : (P : ℕ → Type 0) (ys : List ℕ) (x : ℕ) → P x → AllByRecursion P ys → AllByRecursion P (insert_rising ys x)
all_insert P [] x p all = (p, tt)
all_insert P (y ∷ ys) x p all =
    if_has (AllByRecursion P) (x == y) (y ∷ ys) (if nat_lt x y then x ∷ y ∷ ys else y ∷ insert_rising ys x)
    (λ _. all)
    (λ _. if_has (AllByRecursion P) (nat_lt x y) (x ∷ y ∷ ys) (y ∷ insert_rising ys x) (λ _. (p, all)) (λ _. (all.0, all_insert P ys x p all.1)))

sorted_insert : (ys : List ℕ) (x : ℕ) → Sorted ys → Sorted (insert_rising ys x)
sorted_insert [] x s = (tt, tt)
sorted_insert (y ∷ ys) x s =
    if_has Sorted (x == y) (y ∷ ys) (if nat_lt x y then x ∷ y ∷ ys else y ∷ insert_rising ys x)
    (λ _. s)
    (λ f. if_has Sorted (nat_lt x y) (x ∷ y ∷ ys) (y ∷ insert_rising ys x)
    (λ t. let low : x < y = ltb-true x y t in ((low, all_map (λ z. y < z) (λ z. x < z) (λ z h. omega arith) ys s.0), s))
    (λ t. (all_insert (λ z. y < z) ys x (let apart : x ≢ y = eqb-false x y f in omega (arith, ltb-false x y t, apart)) s.0, sorted_insert ys x s.1)))

all_rising : (P : ℕ → Type 0) (acc xs : List ℕ) → AllByRecursion P acc → AllByRecursion P xs → AllByRecursion P (fold insert_rising acc xs)
all_rising P acc [] p q = p
all_rising P acc (x ∷ xs) p q = all_rising P (insert_rising acc x) xs (all_insert P acc x q.0 p) q.1

sorted_rising : (acc xs : List ℕ) → Sorted acc → Sorted (fold insert_rising acc xs)
sorted_rising acc [] s = s
sorted_rising acc (x ∷ xs) s = sorted_rising (insert_rising acc x) xs (sorted_insert acc x s)

-- the open transactions rise
pub open_sorted : (log : List Record) → Sorted (open_in log)
open_sorted log = sorted_rising [] (filter (λ txn. not (list_any (is_end_of txn) log)) (flat_map txn_of log)) tt

all_filtered : (P : ℕ → Type 0) (f : ℕ → Bool) (xs : List ℕ) → AllByRecursion (λ x. f x ≡ true → P x) xs → AllByRecursion P (filter f xs)
all_filtered P f [] p = tt
all_filtered P f (x ∷ xs) p = if_has (AllByRecursion P) (f x) (x ∷ filter f xs) (filter f xs) (λ e. (p.0 e, all_filtered P f xs p.1)) (λ _. all_filtered P f xs p.1)

all_of : (P : ℕ → Type 0) → ((x : ℕ) → P x) → (xs : List ℕ) → AllByRecursion P xs
all_of P f [] = tt
all_of P f (x ∷ xs) = (f x, all_of P f xs)

-- none of them has ended
pub open_unended : (log : List Record) → AllByRecursion (λ txn. list_any (is_end_of txn) log ≡ false) (open_in log)
open_unended log =
    all_rising (λ txn. list_any (is_end_of txn) log ≡ false) [] (filter (λ txn. not (list_any (is_end_of txn) log)) (flat_map txn_of log)) tt
    (all_filtered (λ txn. list_any (is_end_of txn) log ≡ false) (λ txn. not (list_any (is_end_of txn) log)) (flat_map txn_of log) (all_of _ (λ x e. not-true (list_any (is_end_of x) log) e) (flat_map txn_of log)))

-- the greatest number of some
max_over : (a : ℕ) (xs : List ℕ) → (a ≤ fold max a xs) × AllByRecursion (λ x. x ≤ fold max a xs) xs
max_over a [] = (omega arith, tt)
max_over a (x ∷ xs) =
    let m : (max a x ≤ fold max (max a x) xs) × AllByRecursion (λ y. y ≤ fold max (max a x) xs) xs = max_over (max a x) xs in
    (omega (arith, m.0), (omega (arith, m.0), m.1))

pub all_low : (log : List Record) → AllByRecursion (λ t. t ≤ last_txn log) (flat_map txn_of log)
all_low log = (max_over 0 (flat_map txn_of log)).1

pub open_low : (log : List Record) → AllByRecursion (λ t. t ≤ last_txn log) (open_in log)
open_low log =
    all_rising (λ t. t ≤ last_txn log) [] (filter (λ txn. not (list_any (is_end_of txn) log)) (flat_map txn_of log)) tt
    (all_filtered (λ t. t ≤ last_txn log) (λ txn. not (list_any (is_end_of txn) log)) (flat_map txn_of log) (all_map (λ t. t ≤ last_txn log) (λ t. (not (list_any (is_end_of t) log)) ≡ true → t ≤ last_txn log) (λ t h _. h) (flat_map txn_of log) (all_low log)))

-- a number above all has no record
pub apart : (x y : ℕ) → x ≢ y → (x == y) ≡ false
apart x y p = by_bool (x == y) (λ v. (x == y) ≡ v → v ≡ false) (λ _ e. absurd (p (eqb-true x y e))) (λ _ _. refl) refl

pub eqb_same : (x : ℕ) → (x == x) ≡ true
eqb_same x = by_bool (x == x) (λ v. (x == x) ≡ v → v ≡ true) (λ _ _. refl) (λ _ e. absurd (eqb-false x x e refl)) refl

pub none_of : (low v : ℕ) (log : List Record) → low < v → AllByRecursion (λ t. t ≤ low) (flat_map txn_of log) → list_any (is_of v) log ≡ false
none_of low v [] h p = refl
none_of low v (Put t k x ∷ log) h p = ap (λ b. (b || false) || list_any (is_of v) log) (apart v t (λ e. omega (arith, h, e, p.0))) ∙ none_of low v log h p.1
none_of low v (Del t k ∷ log) h p = ap (λ b. (b || false) || list_any (is_of v) log) (apart v t (λ e. omega (arith, h, e, p.0))) ∙ none_of low v log h p.1
none_of low v (Commit t ps ∷ log) h p = ap (λ b. (b || false) || list_any (is_of v) log) (apart v t (λ e. omega (arith, h, e, p.0))) ∙ none_of low v log h p.1
none_of low v (Abort t ps ∷ log) h p = ap (λ b. (b || false) || list_any (is_of v) log) (apart v t (λ e. omega (arith, h, e, p.0))) ∙ none_of low v log h p.1
none_of low v (Trim q x ∷ log) h p = none_of low v log h p
none_of low v (Term t ∷ log) h p = none_of low v log h p
