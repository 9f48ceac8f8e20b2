-- A node that a stop or a fail takes down.
use Rattle.std.proofs.Common.{◌≡◌, ℕ, ◌<◌, List, [], ◌∷◌, length, map, replicate, Bool, true, false, refl, sym, ap, ap₂, ◌∙◌, arith}
use Rattle.std.specs.Prelude.{◌==◌, if◌then◌else◌}
use Rattle.std.proofs.lemmas.List.{length-replicate}
use Rattle.ag_model.specs.declared.record.Record.{Record}
use Rattle.ag_rules.specs.Replica.{Leading, Page, Replica, Stripe, clean_page, fallen}
use Rattle.ag_rules.specs.Plan.{Block_write}
use Rattle.ag_built.specs.Whole.{IsWhole}
use Rattle.ag_node.specs.Activity.{Activity}
use Rattle.ag_node.specs.Homes.{Home, but_faults, down_home, with_more}
use Rattle.ag_node.specs.View.{node_of, kept_of, page_of_flag, state_of, stripes_in}
use Rattle.ag_node.specs.Nodes.{IsActivity, IsHome}
use Rattle.ag_node.specs.Reaching.{kept_of_write}
use Rattle.ag_node.proofs.HomesKept.{home_down, home_faults, home_more}

-- a node that follows is up
pub up_by_following : (a : Activity) → IsActivity a → a.follows ≡ true → a.up ≡ true
up_by_following a h e = by_up a.up refl
  where
    by_up : (b : Bool) → a.up ≡ b → a.up ≡ true
    by_up true u = u
    by_up false u = absurd (let f : false ≡ true = sym (h.down_follows u) ∙ e in cc)

pub follows_not : (f : Bool) → (state_of f == 1) ≡ false → f ≡ false
follows_not true e = absurd cc
follows_not false e = refl

-- a fall cleans as many pages as there are
cleaned_same : (ds es : List Bool) → length ds ≡ length es → map (λ (p : Page). clean_page) (map page_of_flag ds) ≡ map (λ (p : Page). clean_page) (map page_of_flag es)
cleaned_same [] [] e = refl
cleaned_same [] (d ∷ es) e = absurd (omega (arith, e))
cleaned_same (d ∷ ds) [] e = absurd (omega (arith, e))
cleaned_same (d ∷ ds) (f ∷ es) e = ap (λ (l : List Page). clean_page ∷ l) (cleaned_same ds es (omega (arith, e)))

-- what is left of a node that a stop takes down in its block, whatever else it knew
stopped_is : (h : Home) (ss ss' : List Stripe) (leading leading' : Leading) (new : List Record) (whole : Bool) → IsHome h
    → (let x = node_of (down_home (if whole then with_more h new else h)) ss' leading' in fallen x x.kept) ≡ fallen (node_of h ss leading) (kept_of_write whole (kept_of h) (Block_write new))
stopped_is h ss ss' leading leading' new true is = ap (λ (l : List Page). record (fallen (node_of h ss leading) (kept_of (with_more h new))) { pages = l }) (cleaned_same (replicate h.pages false) h.dirty (length-replicate h.pages false ∙ sym is.each_flag))
stopped_is h ss ss' leading leading' new false is = ap (λ (l : List Page). record (fallen (node_of h ss leading) (kept_of h)) { pages = l }) (cleaned_same (replicate h.pages false) h.dirty (length-replicate h.pages false ∙ sym is.each_flag))

pub stopped_block : (h h' : Home) (published : List ℕ) (leading leading' : Leading) (new : List Record) (whole : Bool) (r : Replica) (faults : ℕ) → node_of h (stripes_in h published) leading ≡ r → IsHome h
    → h' ≡ but_faults (down_home (if whole then with_more h new else h)) faults
    → (let x = node_of h' (stripes_in h' published) leading' in fallen x x.kept) ≡ fallen r (kept_of_write whole r.kept (Block_write new))
stopped_block h h' published leading leading' new whole r faults is home e =
    (λ i. let x = node_of (e i) (stripes_in (e i) published) leading' in fallen x x.kept)
    ∙ stopped_is h (stripes_in h published) (stripes_in (down_home (if whole then with_more h new else h)) published) leading leading' new whole home
    ∙ (λ i. fallen (is i) (kept_of_write whole (is i).kept (Block_write new)))

-- the same of a fail
pub failed_block : (h h' : Home) (published : List ℕ) (leading leading' : Leading) (r : Replica) (faults : ℕ) → node_of h (stripes_in h published) leading ≡ r → IsHome h
    → h' ≡ but_faults (down_home h) faults → (let x = node_of h' (stripes_in h' published) leading' in fallen x x.kept) ≡ fallen r r.kept
failed_block h h' published leading leading' r faults is home e = stopped_block h h' published leading leading' [] false r faults is home e

-- a home that a stop or a fail took down
pub home_stopped : (h : Home) (new : List Record) (whole : Bool) (faults : ℕ) → IsHome h → 0 < length new → IsWhole new → IsHome (but_faults (down_home (if whole then with_more h new else h)) faults)
home_stopped h new true faults is k w = home_faults (down_home (with_more h new)) faults (home_down (with_more h new) (home_more h new is k w))
home_stopped h new false faults is k w = home_faults (down_home h) faults (home_down h is)
