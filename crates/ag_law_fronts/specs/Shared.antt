-- When the table of a front is one replica.
use Rattle.std.specs.Prelude.{◌≡◌, ℕ, ◌%◌, ◌<◌, ◌≤◌, true, false, map, length}
use Rattle.std.specs.List.{range_with_len}
use mathlib.Core.Option.{some}
use lib.ListN.{get_elem?}
use Rattle.atomic_table.specs.Table.{State}
use Rattle.ag_model.specs.Prefixes.{IsPrefix, IsBlockEnd}
use Rattle.ag_model.specs.Proper.{IsProper}
use Rattle.ag_model.specs.Stripes.{Standing, IsPageOf}
use Rattle.ag_rules.specs.Replica.{Replica, stripe, front, least, page_value}
use Rattle.ag_front.specs.declared.rule.Slot.{Slot}
use Rattle.ag_front.specs.declared.rule.Slot.TheVariants.{Stripe, History}
use Rattle.ag_front.specs.declared.view.View.{View}
use Rattle.ag_front.specs.Rule.{published, turn_of}

-- this is stripe k of the replica: it has applied as much, and each of its pages that isn't bad holds what the replica's does
pub record IsStripe (count : ℕ) (r : Replica) (k : ℕ) (t : Standing) : Type 0 where
  pub numbered : t.number ≡ k
  pub paged : t.pages ≡ count
  pub applied : t.applied ≡ (stripe r k).applied
  pub pages : (p : ℕ) → IsPageOf t p → t.is_bad p ≡ false → t.value p ≡ page_value count r p

module _ {T : Type 0} (standing : T → Standing) (count : ℕ) where
  -- the words are what the replica has published, what is at home is its stripes and its log, and no pass has seen more
  pub record IsReplica (s : State (Slot T) View) (r : Replica) : Type 0 where
    pub stripes : length r.stripes ≡ 16
    pub proper : IsProper count r.kept.log
    pub words : (k : ℕ) → k < 16 → published s.words k ≡ (stripe r k).published
    pub raised : (k : ℕ) → k < 16 → (stripe r k).published ≤ (stripe r k).applied
    pub published_ends : (k : ℕ) → k < 16 → IsBlockEnd r.kept.log (stripe r k).published
    pub applied_ends : (k : ℕ) → k < 16 → IsBlockEnd r.kept.log (stripe r k).applied
    pub front : front r ≡ least (map (published s.words) (range_with_len 0 16))
    pub homes : (k : ℕ) → k < 16 → turn_of s.words k % 2 ≡ 0 → (t : T) × (get_elem? s.homes k ≡ some (some (Stripe t))) × IsStripe count r k (standing t)
    pub log : turn_of s.words 16 % 2 ≡ 0 → get_elem? s.homes 16 ≡ some (some (History r.kept.log))
    pub seen : (j : ℕ) (v : View) → get_elem? s.views j ≡ some v → 0 < v.parts → IsPrefix v.seen r.kept.log
    pub authors : (j : ℕ) (v : View) → get_elem? s.views j ≡ some v → 0 < v.parts → v.author ≡ true → v.seen ≡ r.kept.log
