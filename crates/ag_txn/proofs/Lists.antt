-- Lists of versions and of open transactions.
use Rattle.std.proofs.Common.{◌≡◌, ◌<◌, ◌≤◌, ◌+◌, set, ℕ, zero, suc, Bool, true, false, cond, ◌||◌, List, [], ◌∷◌, ◌++◌, length, get_or, take, drop, map, refl, ap, ◌∙◌, arith, min, sym}
use Rattle.std.specs.Prelude.{Some, slice_get}
use Rattle.std.specs.List.{filter, list_any, fold}
use Rattle.std.proofs.lemmas.List.{take_all}
use Rattle.ag_rules.specs.Replica.{least, OpenTxn as RulesTxn}
use Rattle.ag_txn.specs.View.{plain}
use Rattle.ag_txn.specs.declared.opened.OpenTxn.{OpenTxn}

-- where none of the first elements passes, and the next one does, it is the first that is left
pub filter_first : {X : Type 0} (p : X → Bool) (xs : List X) (i : ℕ) (d : X) → i < length xs → filter p (take i xs) ≡ [] → p (get_or xs i d) ≡ true
    → filter p xs ≡ get_or xs i d ∷ filter p (drop (suc i) xs)
filter_first p [] i d lt none here = absurd (omega arith)
filter_first p (x ∷ xs) zero d lt none here = ap (λ (b : Bool). cond b (x ∷ filter p xs) (filter p xs)) here
filter_first p (x ∷ xs) (suc i) d lt none here = by_test (p x) none (λ e. filter_first p xs i d (omega arith) e here)
  where
    by_test : (b : Bool) → cond b (x ∷ filter p (take i xs)) (filter p (take i xs)) ≡ [] → (filter p (take i xs) ≡ [] → filter p xs ≡ get_or xs i d ∷ filter p (drop (suc i) xs))
        → cond b (x ∷ filter p xs) (filter p xs) ≡ get_or xs i d ∷ filter p (drop (suc i) xs)
    by_test true e later = absurd (cc)
    by_test false e later = later e

pub list_any_map : {X Y : Type 0} (p : Y → Bool) (f : X → Y) (xs : List X) → list_any p (map f xs) ≡ list_any (λ x. p (f x)) xs
list_any_map p f [] = refl
list_any_map p f (x ∷ xs) = ap (λ b. p (f x) || b) (list_any_map p f xs)

-- the snapshots are those of the rules
pub snapshots_plain : (txns : List OpenTxn) → map (λ (o : OpenTxn). o.snapshot) txns ≡ map (λ (o : RulesTxn). o.snapshot) (map plain txns)
snapshots_plain [] = refl
snapshots_plain (o ∷ txns) = ap (λ ns. o.snapshot ∷ ns) (snapshots_plain txns)

min-fold : (x y : ℕ) (ys : List ℕ) → min x (fold min y ys) ≡ fold min (min x y) ys
min-fold x y [] = refl
min-fold x y (z ∷ ys) = min-fold x (min y z) ys ∙ ap (λ v. fold min v ys) (omega arith)

-- the least by a fold
least-fold : (x : ℕ) (xs : List ℕ) → least (x ∷ xs) ≡ fold min x xs
least-fold x [] = refl
least-fold x (y ∷ ys) = ap (min x) (least-fold y ys) ∙ min-fold x y ys

-- the least of all, from the first on
pub least-all : {X : Type 0} (f : X → ℕ) (xs : List X) (i n : ℕ) (d : X) → 0 < length xs → length xs ≤ i → n ≡ fold min (f (get_or xs 0 d)) (map f (take i xs)) → n ≡ least (map f xs)
least-all f [] i n d some le is = absurd (omega arith)
least-all f (x ∷ xs) i n d some le is =
    let same : min (f x) (f x) ≡ f x = omega arith in
    is ∙ ap (λ (l : List _). fold min (f x) (map f l)) (take_all i (x ∷ xs) le) ∙ ap (λ m. fold min m (map f xs)) same ∙ sym (least-fold (f x) (map f xs))

-- a loop that writes f x over each element x
pub each-more : {X : Type 0} (f : X → X) (xs ys : List X) (i : ℕ) (d : X) → i < length xs → ys ≡ map f (take i xs) ++ drop i xs
    → set ys i (f (get_or ys i d)) ≡ map f (take (i + 1) xs) ++ drop (i + 1) xs
each-more f xs ys i d lt is =
    let e : suc i ≡ i + 1 = omega arith in
    ap (λ (l : List _). set l i (f (get_or l i d))) is ∙ step xs i lt ∙ (λ j. map f (take (e j) xs) ++ drop (e j) xs)
  where
    step : (zs : List _) (n : ℕ) → n < length zs → set (map f (take n zs) ++ drop n zs) n (f (get_or (map f (take n zs) ++ drop n zs) n d)) ≡ map f (take (suc n) zs) ++ drop (suc n) zs
    step [] n h = absurd (omega arith)
    step (z ∷ zs) zero h = refl
    step (z ∷ zs) (suc n) h = ap (λ (l : List _). f z ∷ l) (step zs n (omega arith))

-- a list with a first element has one
pub some_first : {X : Type 0} (xs : List X) (x : X) → Some x ≡ slice_get xs 0 → 0 < length xs
some_first [] x e = absurd (cc)
some_first (y ∷ ys) x e = omega arith
