use Rattle.std.proofs.Common.{rules, ◌≡◌, ◌<◌, ℕ, [], ◌∷◌, arith, sym, subst, ap, ◌∙◌, get_or, set}
use Rattle.atomic_table.specs.Table.{rest}
use Rattle.ag_model.specs.Rows.{page_of}
use Rattle.ag_front.specs.declared.rule.Slot.{Slot}
use Rattle.ag_front.specs.declared.rule.Slot.TheVariants.{Stripe}
use Rattle.ag_front.specs.Applies.{StripeVisited, stripe_of_key}
use Rattle.ag_front.proofs.Applying.{in_hand, visited, row_read, old_read}
use Rattle.ag_front.proofs.shared.Front.try_read.Goals as goal

pub exchange-slot-requires : goal.exchange-slot-requires
exchange-slot-requires g c = let h = c.grab_stripe-has.ensures.taken c.if-not-has.false in let S : Type 0 = Slot g.row.T.Denot in let k : ℕ = c.stripe_of_page-place.result in
    let is : c.grab_stripe-has.new.seat.me.1 ≡ (k, Stripe h.has.stripe) ∷ c.args.pass.now.seat.me.1 = λ i. (h.has.is i).1 in
    (c.grab_stripe-has.ensures.own.0 ∙ c.requires.own, (Stripe h.has.stripe, is ∙ (λ i. (k, Stripe h.has.stripe) ∷ rest (sym is i))))

pub invariant_of-pass-2 : goal.invariant_of-pass-2
invariant_of-pass-2 g c = let h = c.grab_stripe-has.ensures.taken c.if-not-has.false in let p = c.args.pass.now in let k : ℕ = c.stripe_of_page-place.result in
    let small : k < 16 = search rules in
    let e = visited _ k _ c.give_stripe-turn.result (g.T.Stands.standing c.row_at-row.new.self).applied p.seat.me c.grab_stripe-has.new.seat.me c.exchange-slot.new.seat.me c.give_stripe-turn.new.seat.me h small c.exchange-slot.ensures.3 c.give_stripe-turn.ensures.home c.give_stripe-turn.ensures.sound in
    let same : c.applied-applied.result ≡ (g.T.Stands.standing c.row_at-row.new.self).applied = c.applied-applied.ensures.answer in let some = p.some_part in let q = e.0.parts in record {
      done_is = (λ i. set (p.done_is i) k (same i)) ∙ sym e.0.done;
      turn_is = (λ i. set (p.turn_is i) k c.give_stripe-turn.result) ∙ sym e.1;
      pages_is = p.pages_is ∙ sym e.0.pages;
      some_pages = p.some_pages;
      free = e.0.free;
      some_part = omega arith;
    }

pub returns-in-Ok-clause-row : goal.returns-in-Ok-clause-row
returns-in-Ok-clause-row g c = let h = c.grab_stripe-has.ensures.taken c.if-not-has.false in let p = c.args.pass.now in let k : ℕ = c.stripe_of_page-place.result in
    let small : k < 16 = search rules in
    let here : k ≡ stripe_of_key p.pages c.args.key = search rules in
    let own : k ≡ stripe_of_key p.seat.me.0.pages c.args.key = here ∙ ap (λ (n : ℕ). stripe_of_key n c.args.key) p.pages_is in
    let some = p.some_pages in let pages = p.pages_is in
    let t = in_hand _ k _ p.seat.me c.grab_stripe-has.new.seat.me c.exchange-slot.result c.in-Stripe.value h c.exchange-slot.ensures.2 c.in-Stripe.is in
    let home = c.give_stripe-turn.ensures.home ∙ (λ i. (record c.exchange-slot.new.seat.me.0 { done = set c.exchange-slot.new.seat.me.0.done k (c.row_at-row.ensures.applied i); turn = set c.exchange-slot.new.seat.me.0.turn k c.give_stripe-turn.result; hand = 0 }, [])) in
    row_read _ k _ c.give_stripe-turn.result c.args.key c.args.at p.seat.me c.grab_stripe-has.new.seat.me c.exchange-slot.new.seat.me c.give_stripe-turn.new.seat.me c.in-Stripe.value c.in-Ok.row small own (omega arith)
    (g.met.T.Stands.none_bad g.met.T.Steps.never_bad c.in-Stripe.value (page_of p.seat.me.0.pages c.args.key)) c.requires.front h t c.exchange-slot.ensures.3 home c.in-Ok.ensures.row.0 c.in-Ok.ensures.row.1

pub returns-in-Err-clause-fault : goal.returns-in-Err-clause-fault
returns-in-Err-clause-fault g c = let h = c.grab_stripe-has.ensures.taken c.if-not-has.false in let p = c.args.pass.now in let k : ℕ = c.stripe_of_page-place.result in
    let small : k < 16 = search rules in
    let here : k ≡ stripe_of_key p.pages c.args.key = search rules in
    let own : k ≡ stripe_of_key p.seat.me.0.pages c.args.key = here ∙ ap (λ (n : ℕ). stripe_of_key n c.args.key) p.pages_is in
    let some = p.some_pages in let pages = p.pages_is in
    let t = in_hand _ k _ p.seat.me c.grab_stripe-has.new.seat.me c.exchange-slot.result c.in-Stripe.value h c.exchange-slot.ensures.2 c.in-Stripe.is in
    let home = c.give_stripe-turn.ensures.home ∙ (λ i. (record c.exchange-slot.new.seat.me.0 { done = set c.exchange-slot.new.seat.me.0.done k (c.row_at-row.ensures.applied i); turn = set c.exchange-slot.new.seat.me.0.turn k c.give_stripe-turn.result; hand = 0 }, [])) in
    let v = visited _ k _ c.give_stripe-turn.result (g.T.Stands.standing c.row_at-row.new.self).applied p.seat.me c.grab_stripe-has.new.seat.me c.exchange-slot.new.seat.me c.give_stripe-turn.new.seat.me h small c.exchange-slot.ensures.3 c.give_stripe-turn.ensures.home c.give_stripe-turn.ensures.sound in (
      old_read _ k _ c.give_stripe-turn.result c.args.key c.args.at p.seat.me c.grab_stripe-has.new.seat.me c.exchange-slot.new.seat.me c.give_stripe-turn.new.seat.me c.in-Stripe.value c.in-Err.fault small own (omega arith)
          (g.met.T.Stands.none_bad g.met.T.Steps.never_bad c.in-Stripe.value (page_of p.seat.me.0.pages c.args.key)) h t c.exchange-slot.ensures.3 home c.in-Err.ensures.row.0 c.in-Err.ensures.row.1,
      subst (λ (j : ℕ). StripeVisited j (get_or c.give_stripe-turn.new.seat.me.0.done j 0) p.seat.me c.give_stripe-turn.new.seat.me) own
          (subst (λ (n : ℕ). StripeVisited k n p.seat.me c.give_stripe-turn.new.seat.me) (sym v.2) v.0),
    )
