use Rattle.std.proofs.Common.{◌≡◌, ◌+◌, ◌%◌, ◌^◌, ℕ, List, [], ◌∷◌, arith, sym, subst, ap, ◌∙◌, get_or}
use Rattle.atomic_table.specs.Table.{Me, rest, step, Allows}
use mathlib.Core.Option.{none}
use Rattle.ag_front.specs.declared.view.View.{View}
use Rattle.ag_front.specs.declared.rule.Slot.{Slot}
use Rattle.ag_front.specs.declared.rule.Slot.TheVariants.{Stripe}
use Rattle.ag_front.specs.Rule.{FollowsRule}
use Rattle.ag_front.specs.Slots.{stripe_given}
use Rattle.ag_front.proofs.Giving.{gives_stripe}
use Rattle.ag_front.proofs.shared.Front.give_stripe.Goals as goal

pub fetch_add-found-requires : goal.fetch_add-found-requires
fetch_add-found-requires g c = let wide = c.args.self.now.sized.0 in let o = c.requires.own in let small = o.1 in let held = c.requires.held in let e = c.exchange-left.ensures in
    let S : Type 0 = Slot g.row.T.Denot in
    let v : View = c.args.seat.now.me.0 in let k : ℕ = c.args.stripe in
    let is : c.exchange-left.new.seat.me ≡ (v, (k, Stripe c.args.value) ∷ []) = e.3 ∙ ap (λ (l : List (ℕ × S)). (v, (k, Stripe c.args.value) ∷ rest l)) held.0 in (
      e.0 ∙ o.0,
      omega arith,
      subst (λ (m : Me S View). Allows (FollowsRule g.T.Stands.standing c.args.self.now.table.shared.key.pages) c.args.self.now.table.shared.table_id.slots c.exchange-left.new.seat.id m (16 + k) (λ n. (n + 1) % 2 ^ 64)
          (stripe_given g.T.Stands.standing (step c.args.self.now.table.shared.table_id.slots (16 + k) 1 0 none) m)) (sym is)
          (gives_stripe _ _ _ _ v k c.args.value small o.2 held.1 c.requires.value.0 c.requires.value.1),
    )

pub overflow_add-result : goal.overflow_add-result
overflow_add-result g c = let S : Type 0 = Slot g.row.T.Denot in let k : ℕ = c.args.stripe in
    let q : c.exchange-left.new.seat.me.1 ≡ (k, Stripe c.args.value) ∷ [] = (λ i. (c.exchange-left.ensures.3 i).1) ∙ ap (λ (l : List (ℕ × S)). (k, Stripe c.args.value) ∷ rest l) c.requires.held.0 in
    let low = (c.fetch_add-found.ensures.2 k c.args.value q).0 in omega arith

pub returns-clause-turn : goal.returns-clause-turn
returns-clause-turn g c = let S : Type 0 = Slot g.row.T.Denot in let k : ℕ = c.args.stripe in
    let q : c.exchange-left.new.seat.me.1 ≡ (k, Stripe c.args.value) ∷ [] = (λ i. (c.exchange-left.ensures.3 i).1) ∙ ap (λ (l : List (ℕ × S)). (k, Stripe c.args.value) ∷ rest l) c.requires.held.0 in
    let up = (c.fetch_add-found.ensures.2 k c.args.value q).2 in
    let same : get_or c.exchange-left.new.seat.me.0.turn k 0 ≡ get_or c.args.seat.now.me.0.turn k 0 = λ i. get_or ((c.exchange-left.ensures.3 i).0).turn k 0 in omega arith

pub returns-clause-sound : goal.returns-clause-sound
returns-clause-sound g c = let S : Type 0 = Slot g.row.T.Denot in let k : ℕ = c.args.stripe in
    let q : c.exchange-left.new.seat.me.1 ≡ (k, Stripe c.args.value) ∷ [] = (λ i. (c.exchange-left.ensures.3 i).1) ∙ ap (λ (l : List (ℕ × S)). (k, Stripe c.args.value) ∷ rest l) c.requires.held.0 in
    (c.fetch_add-found.ensures.2 k c.args.value q).3
