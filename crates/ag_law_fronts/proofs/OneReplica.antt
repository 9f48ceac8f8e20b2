-- The replica that a front is.
use Rattle.std.specs.Prelude.{◌≡◌, ℕ, ◌%◌, ◌<◌, true, false, List, [], map}
use Rattle.std.specs.List.{range_with_len}
use Rattle.std.proofs.Common.{refl, sym, ap, subst, ◌∙◌}
use Rattle.std.proofs.lemmas.List.FromFn.{length-map-range_with_len, get_or-map-range_with_len}
use mathlib.Core.Option.{Option, some}
use lib.ListN.{get_elem?}
use Rattle.atomic_table.specs.Table.{State}
use Rattle.ag_model.specs.declared.record.Log.{Log}
use Rattle.ag_model.specs.Page.{value}
use Rattle.ag_model.specs.Stripes.{Standing, IsPageOf}
use Rattle.ag_rules.specs.Replica.{Replica, Master, Stripe, no_stripe, no_following, no_leading, stripe, applied_of, page_value}
use Rattle.ag_model.specs.Rows.{stripe_of}
use Rattle.ag_model.specs.Prefixes.{IsBlockEnd}
use native.Mathlib.Omega.{arith}
use Rattle.ag_front.specs.declared.rule.Slot.{Slot}
use Rattle.ag_front.specs.declared.rule.Slot.TheVariants.{Stripe as TheStripe}
use Rattle.ag_front.specs.declared.view.View.{View}
use Rattle.ag_front.specs.Rule.{FollowsRule, IsLaid, StandsAt, published, turn_of}
use Rattle.ag_law_fronts.specs.Shared.{IsReplica, IsStripe}

-- stripe k, which has applied and published so much
abbrev stripe_at : List ℕ → (ℕ → ℕ) → ℕ → Stripe
stripe_at words at k = record { applied = at k; published = published words k }

-- a master that says nothing
abbrev blank_master : Master
blank_master = record { term = 0; state = 0; incarnation = 0; redo_start = 0; undo = 0; foreign = [] }

-- a secondary with this log, these published words and these applied LSNs
abbrev replica_of : Log → List ℕ → (ℕ → ℕ) → Replica
replica_of log words at = record {
  up = true;
  cut_off = false;
  leads = false;
  term = 1;
  state = 1;
  kept = record { log = log; master = blank_master; suspects = []; images = [] };
  pages = [];
  stripes = map (stripe_at words at) (range_with_len 0 16);
  following = no_following;
  leading = no_leading;
}

stripe-is : (log : Log) (words : List ℕ) (at : ℕ → ℕ) (k : ℕ) → k < 16 → stripe (replica_of log words at) k ≡ stripe_at words at k
stripe-is log words at k low = get_or-map-range_with_len (stripe_at words at) 0 16 k k no_stripe low (omega arith)

applied-is : (log : Log) (words : List ℕ) (at : ℕ → ℕ) (k : ℕ) → k < 16 → (stripe (replica_of log words at) k).applied ≡ at k
applied-is log words at k low = ap (λ s. s.applied) (stripe-is log words at k low)

published-is : (log : Log) (words : List ℕ) (at : ℕ → ℕ) (k : ℕ) → k < 16 → (stripe (replica_of log words at) k).published ≡ published words k
published-is log words at k low = ap (λ s. s.published) (stripe-is log words at k low)

module _ {T : Type 0} (standing : T → Standing) (count : ℕ) where
  value-is : (log : Log) (words : List ℕ) (at : ℕ → ℕ) (k : ℕ) (t : T) → k < 16 → StandsAt standing count log k (at k) t
      → (p : ℕ) → IsPageOf (standing t) p → (standing t).is_bad p ≡ false → (standing t).value p ≡ page_value count (replica_of log words at) p
  value-is log words at k t low stands p mine sound =
      let number : stripe_of p ≡ k = mine.stripe ∙ stands.numbered in
      let place : (standing t).applied ≡ applied_of (replica_of log words at) p =
      stands.at ∙ sym (applied-is log words at k low) ∙ ap (λ i. (stripe (replica_of log words at) i).applied) (sym number) in
      stands.stands.values p mine sound
      ∙ ap (λ c. value c log.records (standing t).applied p) stands.paged
      ∙ ap (λ n. value count log.records n p) place

  stripe-home : (log : Log) (words : List ℕ) (at : ℕ → ℕ) (k : ℕ) (t : T) → k < 16 → StandsAt standing count log k (at k) t
      → IsStripe count (replica_of log words at) k (standing t)
  stripe-home log words at k t low stands = record {
    numbered = stands.numbered;
    paged = stands.paged;
    applied = stands.at ∙ sym (applied-is log words at k low);
    pages = value-is log words at k t low stands;
  }

  home-is : (words : List ℕ) (homes : List (Option (Slot T))) (log : Log) (at : ℕ → ℕ) → IsLaid standing count words homes log at
      → (k : ℕ) → k < 16 → turn_of words k % 2 ≡ 0
      → (t : T) × (get_elem? homes k ≡ some (some (TheStripe t))) × IsStripe count (replica_of log words at) k (standing t)
  home-is words homes log at laid k low even =
      let home : (t : T) × (get_elem? homes k ≡ some (some (TheStripe t))) × StandsAt standing count log k (at k) t = laid.stripe_home k low even in
      (home.0, home.1, stripe-home log words at k home.0 low home.2)

  is-replica : (s : State (Slot T) View) (f : FollowsRule standing count s) → IsReplica standing count s (replica_of f.log s.words f.at)
  is-replica s f = record {
    stripes = length-map-range_with_len (stripe_at s.words f.at) 0 16;
    proper = f.laid.proper;
    words = λ k low. sym (published-is f.log s.words f.at k low);
    raised = λ k low. omega (arith, published-is f.log s.words f.at k low, applied-is f.log s.words f.at k low, f.laid.published_low k low);
    published_ends = λ k low. subst (IsBlockEnd f.log) (sym (published-is f.log s.words f.at k low)) (f.laid.published_end k low);
    applied_ends = λ k low. subst (IsBlockEnd f.log) (sym (applied-is f.log s.words f.at k low)) (f.laid.ends k low);
    front = refl;
    homes = home-is s.words s.homes f.log f.at f.laid;
    log = f.laid.log_home;
    seen = λ j v e p. (f.each j v e p).seen;
    authors = λ j v e p a. ((f.each j v e p).author a).1;
  }

  pub one-replica : (s : State (Slot T) View) → FollowsRule standing count s → (r : Replica) × IsReplica standing count s r
  one-replica s f = (replica_of f.log s.words f.at, is-replica s f)
