use Rattle.std.proofs.Common.{rules, ◌≡◌, ◌<◌, ◌≤◌, ◌+◌, ℕ, ◌∷◌, arith, sym, subst, ◌∙◌, get_or, set}
use Rattle.atomic_table.specs.Table.{rest}
use Rattle.ag_front.specs.declared.rule.Slot.{Slot}
use Rattle.ag_front.specs.declared.rule.Slot.TheVariants.{Stripe}
use Rattle.ag_front.specs.Applies.{StripeVisited}
use Rattle.ag_front.proofs.Applying.{in_hand, visited, can_bring, may_give}
use Rattle.ag_front.proofs.shared.Front.try_apply.Goals as goal

pub exchange-slot-requires : goal.exchange-slot-requires
exchange-slot-requires g c = let h = c.grab_stripe-has.ensures.taken c.if-not-has.false in let S : Type 0 = Slot g.row.T.Denot in
    let is : c.grab_stripe-has.new.seat.me.1 ≡ (c.from-place.result, Stripe h.has.stripe) ∷ c.args.pass.now.seat.me.1 = λ i. (h.has.is i).1 in
    (c.grab_stripe-has.ensures.own.0 ∙ c.requires.own, (Stripe h.has.stripe, is ∙ (λ i. (c.from-place.result, Stripe h.has.stripe) ∷ rest (sym is i))))

pub give_stripe-turn-requires-clause-value : goal.give_stripe-turn-requires-clause-value
give_stripe-turn-requires-clause-value g c = let h = c.grab_stripe-has.ensures.taken c.if-not-has.false in let p = c.args.pass.now in let k : ℕ = c.from-place.result in
    let same : k ≡ c.args.stripe = search rules in
    let t = in_hand _ k _ p.seat.me c.grab_stripe-has.new.seat.me c.exchange-slot.result c.in-Stripe.value h c.exchange-slot.ensures.2 c.in-Stripe.is in
    let reached = subst (λ (j : ℕ). c.args.block.now.first ≤ get_or p.seat.me.0.done j 0 + 1) (sym same) c.requires.reached in
    let on = c.bring_on.ensures.on h.has.seen p.seat.me.0.pages k (can_bring _ k _ p.seat.me c.grab_stripe-has.new.seat.me c.in-Stripe.value c.args.block.now h t c.requires.seen reached) in
    may_give _ k _ p.seat.me c.grab_stripe-has.new.seat.me c.exchange-slot.new.seat.me c.in-Stripe.value c.bring_on.new.value h t c.exchange-slot.ensures.3 on.stands on.further

pub invariant_of-pass-2 : goal.invariant_of-pass-2
invariant_of-pass-2 g c = let h = c.grab_stripe-has.ensures.taken c.if-not-has.false in let p = c.args.pass.now in let k : ℕ = c.from-place.result in
    let small : k < 16 = search rules in
    let e = visited _ k _ c.give_stripe-turn.result (g.T.Stands.standing c.bring_on.new.value).applied p.seat.me c.grab_stripe-has.new.seat.me c.exchange-slot.new.seat.me c.give_stripe-turn.new.seat.me h small c.exchange-slot.ensures.3 c.give_stripe-turn.ensures.home c.give_stripe-turn.ensures.sound in
    let same : c.applied-applied.result ≡ (g.T.Stands.standing c.bring_on.new.value).applied = c.applied-applied.ensures.answer in let some = p.some_part in let q = e.0.parts in record {
      done_is = (λ i. set (p.done_is i) k (same i)) ∙ sym e.0.done;
      turn_is = (λ i. set (p.turn_is i) k c.give_stripe-turn.result) ∙ sym e.1;
      pages_is = p.pages_is ∙ sym e.0.pages;
      some_pages = p.some_pages;
      free = e.0.free;
      some_part = omega arith;
    }

pub returns-clause-visited : goal.returns-clause-visited
returns-clause-visited g c = let h = c.grab_stripe-has.ensures.taken c.if-not-has.false in let p = c.args.pass.now in let k : ℕ = c.from-place.result in
    let small : k < 16 = search rules in let same : k ≡ c.args.stripe = search rules in
    let a : c.applied-applied.result ≡ (g.T.Stands.standing c.bring_on.new.value).applied = c.applied-applied.ensures.answer in
    let e = visited _ k _ c.give_stripe-turn.result (g.T.Stands.standing c.bring_on.new.value).applied p.seat.me c.grab_stripe-has.new.seat.me c.exchange-slot.new.seat.me c.give_stripe-turn.new.seat.me h small c.exchange-slot.ensures.3 c.give_stripe-turn.ensures.home c.give_stripe-turn.ensures.sound in
    subst (λ (x : ℕ × ℕ). StripeVisited x.0 x.1 p.seat.me c.give_stripe-turn.new.seat.me) (λ i. (same i, sym a i)) e.0

pub returns-clause-applied : goal.returns-clause-applied
returns-clause-applied g c = let h = c.grab_stripe-has.ensures.taken c.if-not-has.false in let p = c.args.pass.now in let k : ℕ = c.from-place.result in
    let same : k ≡ c.args.stripe = search rules in
    let t = in_hand _ k _ p.seat.me c.grab_stripe-has.new.seat.me c.exchange-slot.result c.in-Stripe.value h c.exchange-slot.ensures.2 c.in-Stripe.is in
    let reached = subst (λ (j : ℕ). c.args.block.now.first ≤ get_or p.seat.me.0.done j 0 + 1) (sym same) c.requires.reached in
    let on = (c.bring_on.ensures.on h.has.seen p.seat.me.0.pages k (can_bring _ k _ p.seat.me c.grab_stripe-has.new.seat.me c.in-Stripe.value c.args.block.now h t c.requires.seen reached)).reached in
    let a : c.applied-applied.result ≡ (g.T.Stands.standing c.bring_on.new.value).applied = c.applied-applied.ensures.answer in
    omega arith

pub bring_on-requires : goal.bring_on-requires
bring_on-requires g c = let h = c.grab_stripe-has.ensures.taken c.if-not-has.false in let p = c.args.pass.now in let k : ℕ = c.from-place.result in
    let same : k ≡ c.args.stripe = search rules in
    let t = in_hand _ k _ p.seat.me c.grab_stripe-has.new.seat.me c.exchange-slot.result c.in-Stripe.value h c.exchange-slot.ensures.2 c.in-Stripe.is in
    let reached = subst (λ (j : ℕ). c.args.block.now.first ≤ get_or p.seat.me.0.done j 0 + 1) (sym same) c.requires.reached in record {
      ready = (h.has.seen, p.seat.me.0.pages, k, can_bring _ k _ p.seat.me c.grab_stripe-has.new.seat.me c.in-Stripe.value c.args.block.now h t c.requires.seen reached);
    }
