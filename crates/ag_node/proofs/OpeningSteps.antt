-- What a primary knows at the opening, one secondary after another.
use Rattle.std.proofs.Common.{◌≡◌, ℕ, zero, suc, ◌+◌, ◌<◌, ◌≤◌, List, [], ◌∷◌, ◌++◌, length, take, map, replicate, Bool, true, false, refl, sym, ap, ◌∙◌, subst, arith, append_assoc, add-one}
use Rattle.std.specs.Prelude.{if◌then◌else◌}
use Rattle.std.specs.List.{All}
use Rattle.ag_model.specs.declared.config.Mode.{Mode}
use Rattle.ag_model.specs.declared.config.Config.{Config}
use Rattle.ag_model.specs.declared.record.Record.{Record}
use Rattle.ag_rules.specs.Replica.{Replica, Peer, Page, clean_page}
use Rattle.ag_rules.specs.Group.{opening_replica, synced_at_opening, opening_peers}
use Rattle.ag_node.specs.Homes.{Home, opening_home}
use Rattle.ag_node.specs.View.{node_of, page_of_flag, stripes_in}
use Rattle.ag_node.specs.Nodes.{at_opening, leading_of}

-- one more secondary
next_known : (modes : List Mode) (i : ℕ) → i < length modes → map (λ m. at_opening) (take (suc i) modes) ≡ map (λ m. at_opening) (take i modes) ++ at_opening ∷ []
next_known [] i h = absurd (omega arith)
next_known (m ∷ ms) zero h = refl
next_known (m ∷ ms) (suc i) h = ap (λ (x : List Peer). at_opening ∷ x) (next_known ms i (omega arith))

pub one_more : (before now after : List Peer) (modes : List Mode) (i : ℕ) → i < length modes → now ≡ before ++ map (λ m. at_opening) (take i modes) → after ≡ now ++ at_opening ∷ [] → after ≡ before ++ map (λ m. at_opening) (take (i + 1) modes)
one_more before now after modes i h is push =
    push ∙ ap (λ (x : List Peer). x ++ at_opening ∷ []) is ∙ append_assoc before (map (λ m. at_opening) (take i modes)) (at_opening ∷ [])
    ∙ ap (λ (x : List Peer). before ++ x) (sym (next_known modes i h)) ∙ ap (λ (x : ℕ). before ++ map (λ m. at_opening) (take x modes)) (sym (add-one i))

pages_clean : (n : ℕ) → map page_of_flag (replicate n false) ≡ replicate n clean_page
pages_clean zero = refl
pages_clean (suc n) = ap (λ (x : List Page). clean_page ∷ x) (pages_clean n)

-- a replica at the opening
opened : (c : Config) (leads : Bool) (faults : ℕ) → (let h = opening_home c.pages leads faults in node_of h (stripes_in h (replicate 16 1)) (leading_of [] 0 (if leads then synced_at_opening c.modes else 0) (if leads then opening_peers c.modes else []))) ≡ opening_replica c leads
unfolding opening_replica
opened c true faults = λ i. record (let h = opening_home c.pages true faults in node_of h (stripes_in h (replicate 16 1)) (leading_of [] 0 (synced_at_opening c.modes) (opening_peers c.modes))) { pages = pages_clean c.pages i }
opened c false faults = λ i. record (let h = opening_home c.pages false faults in node_of h (stripes_in h (replicate 16 1)) (leading_of [] 0 0 [])) { pages = pages_clean c.pages i }

pub node_opened : (c : Config) (leads : Bool) (h : Home) (published : List ℕ) (buffer : List Record) (synced : ℕ) (peers : List Peer)
    → h ≡ opening_home c.pages leads h.faults → published ≡ replicate 16 1 → buffer ≡ [] → synced ≡ (if leads then synced_at_opening c.modes else 0) → peers ≡ (if leads then opening_peers c.modes else [])
    → node_of h (stripes_in h published) (leading_of buffer 0 synced peers) ≡ opening_replica c leads
node_opened c leads h published buffer synced peers at a b s p = (λ i. node_of (at i) (stripes_in (at i) (a i)) (leading_of (b i) 0 (s i) (p i))) ∙ opened c leads h.faults
