use Rattle.std.proofs.Common.{◌≡◌, arith, subst}
use Rattle.ag_threads_t.proofs.Logs.{AreNew, next_new, are_stripes, sixteen_pages}
use Rattle.ag_threads_t.proofs.Pages.{standing_of}
use Rattle.ag_threads_t.proofs.opening.stripes.Goals as goal

pub loop-number-preserved : goal.loop-number-preserved
loop-number-preserved g c = let e = c.new_stripe.ensures in let n = e.numbers in let t = c.loop-number-test.true in record {
  new = rw c.in_ok-push.ensures.items (next_new (λ s. standing_of s.number s.opening s.applied s.value) c.loop-number.all.items c.loop-number.number c.new_stripe.result c.loop-number.invariant.new (λ i. standing_of (n.0 i) (n.1 i) (n.2 i) (e.page i)));
  most = omega arith;
}

pub returns-clause-stripes : goal.returns-clause-stripes
returns-clause-stripes g c = let most = c.loop-number.invariant.most in let t = c.loop-number-test.false in let e : c.loop-number.number ≡ 16 = omega arith in
    are_stripes (λ s. standing_of s.number s.opening s.applied s.value) c.loop-number.all.items (subst (AreNew (λ s. standing_of s.number s.opening s.applied s.value) c.loop-number.all.items) e c.loop-number.invariant.new)

pub returns-clause-pages : goal.returns-clause-pages
returns-clause-pages g c = let most = c.loop-number.invariant.most in let t = c.loop-number-test.false in let e : c.loop-number.number ≡ 16 = omega arith in
    sixteen_pages (λ s. standing_of s.number s.opening s.applied s.value) c.loop-number.all.items (subst (AreNew (λ s. standing_of s.number s.opening s.applied s.value) c.loop-number.all.items) e c.loop-number.invariant.new)
