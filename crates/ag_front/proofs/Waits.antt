-- A read that waits for its stripe.
use Rattle.std.proofs.Common.{◌≡◌, ℕ, ◌≤◌, List, get_or, sym, ap, ◌∙◌, subst, arith}
use Rattle.atomic_table.specs.Table.{Me}
use Rattle.ag_model.specs.Prefixes.{end_of, IsBlockEnd}
use Rattle.ag_front.specs.declared.view.View.{View}
use Rattle.ag_front.specs.declared.rule.Slot.{Slot}
use Rattle.ag_front.specs.Rule.{IsSound, least}
use Rattle.ag_front.specs.Applies.{StripeVisited}
use Rattle.ag_front.specs.Passes.{OnlyFloors, Loaded, Waiting}
use Rattle.ag_front.proofs.Loads.{least_place}

pub waiting_first : (at : ℕ) (v w : View) → OnlyFloors v w → at ≡ least w.floor → least v.floor ≤ at → Loaded 16 v.loads w.loads → Waiting at v w
waiting_first at v w only is low more = record {
  only = only ∙ (λ i. record v { floor = w.floor; loads = w.loads; turn = (sym (λ j. (only j).turn)) i; tries = (sym (λ j. (only j).tries)) i });
  front = is;
  no_lower = omega arith;
  more = more;
}

module _ {T : Type 0} where
  pub waited_front : (at k n : ℕ) (v : View) (m1 m' : Me (Slot T) View) → Waiting at v m1.0 → StripeVisited k n m1 m' → (at ≡ least m'.0.floor) × (least v.floor ≤ least m'.0.floor) × Loaded 16 v.loads m'.0.loads
  waited_front at k n v m1 m' was s = (
    was.front ∙ ap least (sym s.floor),
    subst (λ (xs : List ℕ). least v.floor ≤ least xs) (sym s.floor) was.no_lower,
    subst (λ (xs : List ℕ). Loaded 16 v.loads xs) (sym s.loads) was.more,
  )

-- the least of the floors is a block end where the view reaches it
pub front_ends : (w : View) (at : ℕ) → IsSound w → at ≡ least w.floor → at ≤ end_of w.seen → IsBlockEnd w.seen at
front_ends w at ok is reached =
    let size = ok.sized.floor_size in
    let p = least_place w.floor (omega arith) in
    let here : get_or w.floor p.0 0 ≡ at = p.2 ∙ sym is in
    subst (λ (n : ℕ). IsBlockEnd w.seen n) here (ok.floors p.0 (omega (arith, p.1)) (omega arith))
