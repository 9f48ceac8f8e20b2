use Rattle.std.proofs.Common.{◌≡◌, ◌+◌, List, arith, sym, subst, ◌∙◌}
use Rattle.ag_front.specs.declared.rule.Slot.{Slot}
use Rattle.ag_front.specs.Closes.{AllHome, ClosedStripes}
use Rattle.ag_front.proofs.Closing.{all_home, closed_none, closed_next, emptied, still_full, same_slot}
use Rattle.ag_front.proofs.shared.Front.close.Goals as goal

pub loop-k-init : goal.loop-k-init
loop-k-init g c = let e = c.close_with-closed.ensures in let wide = c.args.self.sized.1 in let v = e.values in let n : c.close_with-closed.result.slots.len ≡ 17 = e.counts.1 ∙ wide in record {
  wide = n;
  filled = λ j _ l. v.1 j (omega arith) (omega arith);
  empty = λ j l. absurd (omega arith);
  home = all_home _ _ _ c.args.pass.seat.me.0 _ c.close_with-closed.result.slots.items c.requires.parts c.args.pass.free.1 v.2;
  got = subst (λ (xs : List g.row.T.Denot). ClosedStripes g.T.Stands.standing c.args.pass.seat.me.0 xs 0) (sym c.in-Ok.ensures.items) (closed_none _ 0 c.args.pass.seat.me.0);
  room = c.in-Ok.ensures.capacity;
}

pub unreachable-requires : goal.unreachable-requires
unreachable-requires g c = let h = c.loop-k.invariant.home.stripes c.loop-k.k c.loop-k-test.true in
    c.in_default-slot.not-Stripe h.0 (same_slot c.loop-k.closed.slots.items c.loop-k.k _ _ h.1 c.take-slot.ensures.value)

pub loop-k-preserved : goal.loop-k-preserved
loop-k-preserved g c = let inv = c.loop-k.invariant in let o = c.take-slot.ensures.others in let wide = inv.wide in let room = inv.room in let cap = c.push_reserved.ensures.capacity in let home = inv.home in record {
  wide = o.2 ∙ inv.wide;
  filled = still_full c.loop-k.closed.slots.filled _ c.loop-k.k 17 o.1 inv.filled;
  empty = emptied c.loop-k.closed.slots.filled _ c.loop-k.k o.1 inv.empty;
  home = subst (λ (xs : List (Slot g.row.T.Denot)). AllHome g.T.Stands.standing c.args.pass.seat.me.0 xs) (sym o.0) home;
  got = subst (λ (xs : List g.row.T.Denot). ClosedStripes g.T.Stands.standing c.args.pass.seat.me.0 xs (c.loop-k.k + 1)) (sym c.push_reserved.ensures.items)
      (closed_next _ 0 c.args.pass.seat.me.0 c.loop-k.closed.slots.items c.loop-k.stripes.items c.loop-k.k c.in-Stripe.stripe c.take-slot.result c.loop-k-test.true home c.take-slot.ensures.value c.in-Stripe.is inv.got);
  room = omega arith;
}

pub free-requires : goal.free-requires
free-requires g c = let inv = c.loop-k.invariant in let o = c.take-slot-2.ensures.others in let t = c.loop-k-test.false in let len = o.2 in let wide = inv.wide in
    λ k l. emptied c.loop-k.closed.slots.filled _ 16 o.1 (λ j m. inv.empty j (omega arith)) k (omega arith)
