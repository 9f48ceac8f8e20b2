use Rattle.std.proofs.Common.{◌≡◌, ◌≤◌, ℕ, arith, refl, length-set, ◌∙◌}
use Rattle.ag_front.proofs.Opening.{asked_next}
use Rattle.ag_front.proofs.open.openings.Goals as goal

pub loop-k-init : goal.loop-k-init
loop-k-init g c = record { long = refl; asked = λ k l. absurd (omega arith) }

pub loop-k-preserved : goal.loop-k-preserved
loop-k-preserved g c = let inv = c.loop-k.invariant in let t = c.loop-k-test.true in let n = inv.long in let m = c.requires in let e = c.opening.ensures in let is = e.answer in let low = e.low in record {
  long = length-set c.loop-k.all c.loop-k.k c.opening.result ∙ n;
  asked = asked_next (λ (x : ℕ) (s : g.row.T.Denot). (x ≡ (g.T.Stands.standing s).opening) × ((g.T.Stands.standing s).opening ≤ (g.T.Stands.standing s).applied))
      c.args.stripes.now c.loop-k.k c.opening.result c.index-stripes-k.result c.loop-k.all (omega arith) (omega arith) c.index-stripes-k.is (is, omega arith) inv.asked;
}

pub returns : goal.returns
returns g c = let t = c.loop-k-test.false in λ k l. c.loop-k.invariant.asked k (omega arith)
