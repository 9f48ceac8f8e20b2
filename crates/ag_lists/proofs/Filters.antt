-- What holds of the elements that pass a test.
use Rattle.std.proofs.Common.{◌≡◌, Bool, true, false, List, [], ◌∷◌, refl}
use Rattle.std.specs.List.{AllByRecursion, filter}
use Rattle.ag_lists.proofs.Tests.{if_has}
use Rattle.ag_lists.proofs.Each.{all_always}

-- what follows for each element that passes
pub all_passing : {X : Type 0} (P Q : X → Type 0) (f : X → Bool) → ((x : X) → P x → f x ≡ true → Q x) → (xs : List X) → AllByRecursion P xs → AllByRecursion Q (filter f xs)
all_passing P Q f on [] p = tt
all_passing P Q f on (x ∷ xs) p =
    if_has (AllByRecursion Q) (f x) (x ∷ filter f xs) (filter f xs) (λ e. (on x p.0 e, all_passing P Q f on xs p.1)) (λ _. all_passing P Q f on xs p.1)

pub all_filter : {X : Type 0} (P : X → Type 0) (f : X → Bool) (xs : List X) → AllByRecursion P xs → AllByRecursion P (filter f xs)
all_filter P f = all_passing P P f (λ x p e. p)

-- each that is left passes
pub all_passed : {X : Type 0} (f : X → Bool) (xs : List X) → AllByRecursion (λ x. f x ≡ true) (filter f xs)
all_passed f xs = all_passing (λ _. Unit {0}) (λ x. f x ≡ true) f (λ x u e. e) xs (all_always (λ _. Unit {0}) (λ _. tt) xs)

-- where none passes none is left
pub filter_none : {X : Type 0} (f : X → Bool) (xs : List X) → AllByRecursion (λ x. f x ≡ false) xs → filter f xs ≡ []
filter_none f [] p = refl
filter_none f (x ∷ xs) p = let here = p.0 in rw here (filter_none f xs p.1)
