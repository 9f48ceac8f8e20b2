-- The stripes of a node, by what each has redone and published.
use Rattle.std.proofs.Common.{◌≡◌, ℕ, zero, suc, ◌+◌, ◌<◌, ◌≤◌, List, [], ◌∷◌, length, drop, map, get_or, set, replicate, Bool, true, false, refl, sym, ap, ◌∙◌, arith}
use Rattle.std.specs.Prelude.{min, if◌then◌else◌}
use Rattle.ag_rules.specs.Replica.{Stripe, least, no_stripe, all_at}
use Rattle.ag_node.specs.Homes.{Home}
use Rattle.ag_node.specs.View.{stripes_of, stripes_in}

-- while a node is up its stripes are these
pub shown_up : (h : Home) (published : List ℕ) → h.activity.up ≡ true → stripes_in h published ≡ stripes_of h.applied published
shown_up h published up = ap (λ (b : Bool). if b then stripes_of h.applied published else all_at h.redo) up

-- while it is down they stand at the redo start
pub shown_down : (h : Home) (published : List ℕ) → h.activity.up ≡ false → stripes_in h published ≡ all_at h.redo
shown_down h published down = ap (λ (b : Bool). if b then stripes_of h.applied published else all_at h.redo) down

pub applied_in : (applied published : List ℕ) (i : ℕ) → length applied ≡ length published → (get_or (stripes_of applied published) i no_stripe).applied ≡ get_or applied i 0
applied_in [] published i e = refl
applied_in (a ∷ others) [] i e = absurd (omega (arith, e))
applied_in (a ∷ others) (p ∷ ps) zero e = refl
applied_in (a ∷ others) (p ∷ ps) (suc i) e = applied_in others ps i (omega (arith, e))

pub published_in : (applied published : List ℕ) (i : ℕ) → length applied ≡ length published → (get_or (stripes_of applied published) i no_stripe).published ≡ get_or published i 0
published_in [] [] i e = refl
published_in [] (p ∷ ps) i e = absurd (omega (arith, e))
published_in (a ∷ others) [] i e = absurd (omega (arith, e))
published_in (a ∷ others) (p ∷ ps) zero e = refl
published_in (a ∷ others) (p ∷ ps) (suc i) e = published_in others ps i (omega (arith, e))

pub all_applied : (applied published : List ℕ) → length applied ≡ length published → map (λ (s : Stripe). s.applied) (stripes_of applied published) ≡ applied
all_applied [] published e = refl
all_applied (a ∷ others) [] e = absurd (omega (arith, e))
all_applied (a ∷ others) (p ∷ ps) e = ap (λ (l : List ℕ). a ∷ l) (all_applied others ps (omega (arith, e)))

pub all_published : (applied published : List ℕ) → length applied ≡ length published → map (λ (s : Stripe). s.published) (stripes_of applied published) ≡ published
all_published [] [] e = refl
all_published [] (p ∷ ps) e = absurd (omega (arith, e))
all_published (a ∷ others) [] e = absurd (omega (arith, e))
all_published (a ∷ others) (p ∷ ps) e = ap (λ (l : List ℕ). p ∷ l) (all_published others ps (omega (arith, e)))

-- one stripe goes to an LSN
pub apply_in : (applied published : List ℕ) (i n : ℕ) → stripes_of (set applied i n) published ≡ set (stripes_of applied published) i (record (get_or (stripes_of applied published) i no_stripe) { applied = n })
apply_in [] published i n = refl
apply_in (a ∷ others) [] zero n = refl
apply_in (a ∷ others) [] (suc i) n = refl
apply_in (a ∷ others) (p ∷ ps) zero n = refl
apply_in (a ∷ others) (p ∷ ps) (suc i) n = ap (λ (l : List Stripe). record { applied = a; published = p } ∷ l) (apply_in others ps i n)

-- one stripe publishes up to an LSN
pub raise_in : (applied published : List ℕ) (i n : ℕ) → stripes_of applied (set published i n) ≡ set (stripes_of applied published) i (record (get_or (stripes_of applied published) i no_stripe) { published = n })
raise_in [] published i n = refl
raise_in (a ∷ others) [] i n = refl
raise_in (a ∷ others) (p ∷ ps) zero n = refl
raise_in (a ∷ others) (p ∷ ps) (suc i) n = ap (λ (l : List Stripe). record { applied = a; published = p } ∷ l) (raise_in others ps i n)

-- all stripes at one LSN
pub at_one : (n : ℕ) → stripes_of (replicate 16 n) (replicate 16 n) ≡ all_at n
at_one n = refl

-- one LSN before others
pub least_before : (ps : List ℕ) (i d : ℕ) → suc i < length ps → least (drop i ps) ≡ min (get_or ps i d) (least (drop (suc i) ps))
least_before [] i d h = absurd (omega arith)
least_before (p ∷ []) i d h = absurd (omega arith)
least_before (p ∷ q ∷ ps) zero d h = refl
least_before (p ∷ q ∷ ps) (suc i) d h = least_before (q ∷ ps) i d (omega arith)

-- the last LSN
pub least_last : (ps : List ℕ) (i d : ℕ) → length ps ≡ suc i → least (drop i ps) ≡ get_or ps i d
least_last [] i d h = absurd (omega arith)
least_last (p ∷ []) zero d h = refl
least_last (p ∷ q ∷ ps) zero d h = absurd (omega arith)
least_last (p ∷ ps) (suc i) d h = least_last ps i d (omega arith)

-- the least is below each
pub least_below : (ps : List ℕ) (i : ℕ) → i < length ps → least ps ≤ get_or ps i 0
least_below [] i h = absurd (omega arith)
least_below (p ∷ []) zero h = omega arith
least_below (p ∷ []) (suc i) h = absurd (omega (arith, h))
least_below (p ∷ q ∷ ps) zero h = omega arith
least_below (p ∷ q ∷ ps) (suc i) h = let below : least (q ∷ ps) ≤ get_or (q ∷ ps) i 0 = least_below (q ∷ ps) i (omega (arith, h)) in omega (arith, below)
