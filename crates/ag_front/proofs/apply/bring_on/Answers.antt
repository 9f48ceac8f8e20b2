use Rattle.std.proofs.Common.{arith}
use Rattle.ag_front.proofs.Applying.{can_apply, brought, stays_on}
use Rattle.ag_front.proofs.apply.bring_on.Goals as goal

pub apply-requires : goal.apply-requires
apply-requires g c = let r = c.requires.ready in let low = c.if-applied-block.true in let e = c.applied.ensures.answer in record {
  next = (r.0, can_apply _ r.0 r.1 r.2 c.args.value.now c.args.block.now r.3 (omega arith));
}

pub returns-then-applied-block : goal.returns-then-applied-block
returns-then-applied-block g c = let low = c.if-applied-block.true in let e = c.applied.ensures.answer in let a = c.apply.ensures in record {
  on = λ seen count k h. brought _ seen count k c.args.value.now c.apply.new.self c.args.block.now h (omega arith) a.applied a.same a.stands;
}

pub returns-else-applied-block : goal.returns-else-applied-block
returns-else-applied-block g c = let low = c.if-applied-block.false in let e = c.applied.ensures.answer in record {
  on = λ seen count k h. stays_on _ seen count k c.args.value.now c.args.block.now h (omega arith);
}
