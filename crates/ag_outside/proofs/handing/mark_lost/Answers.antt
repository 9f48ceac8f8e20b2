use Rattle.std.proofs.Common.{◌+◌, ◌-◌, ◌<◌, ◌∙◌, ap, sym, arith}
use Rattle.std.specs.HashMap.{spare}
use Rattle.ag_outside.specs.Scripts.{marked}
use Rattle.ag_outside.proofs.Losing.{marked_more, mark-turned, at_ok}
use Rattle.ag_outside.proofs.handing.mark_lost.Goals as goal

pub marks-preserved : goal.marks-preserved
marks-preserved c =
    let k = c.marks.k in
    let room : 0 < spare c.marks.lost = omega (arith, c.marks.invariant.room, c.marks-test.true) in
    let inserted = at_ok c.insert.result _ (c.insert.ensures.succeeds room) c.insert.ensures.updates in
    record {
      marks = λ at. ap (marked (c.args.first + (k + 1)) (18 + (k + 1)) (c.args.count - (k + 1)) at) (inserted.0 at ∙ mark-turned at (c.args.first + k) _ _) ∙ sym (marked_more c.args.first 18 c.args.count k at _ c.marks-test.true) ∙ c.marks.invariant.marks at;
      room = omega (arith, c.insert.ensures.spare, c.marks.invariant.room, c.marks-test.true);
    }
