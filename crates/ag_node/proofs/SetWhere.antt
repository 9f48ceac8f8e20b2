-- Flags that a test sets.
use Rattle.std.proofs.Common.{◌≡◌, ℕ, suc, ◌+◌, List, [], ◌∷◌, length, Bool, true, if◌then◌else◌, refl, ap, ap₂}
use Rattle.ag_store.specs.Views.{set_where}

pub length-set_where : (test : ℕ → Bool) (page : ℕ) (ds : List Bool) → length (set_where test page ds) ≡ length ds
length-set_where test page [] = refl
length-set_where test page (d ∷ ds) = ap suc (length-set_where test (page + 1) ds)

-- the same flags by two tests that agree
pub set_where_same : (f g : ℕ → Bool) (page : ℕ) (ds : List Bool) → ((p : ℕ) → f p ≡ g p) → set_where f page ds ≡ set_where g page ds
set_where_same f g page [] same = refl
set_where_same f g page (d ∷ ds) same = ap₂ (λ (b : Bool) (l : List Bool). (if b then true else d) ∷ l) (same page) (set_where_same f g (page + 1) ds same)
