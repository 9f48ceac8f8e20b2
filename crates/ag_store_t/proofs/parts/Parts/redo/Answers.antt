use Rattle.std.proofs.Common.{◌∙◌, ap, arith}
use Rattle.ag_model.specs.declared.message.Block.{Block}
use Rattle.ag_outside.specs.MemDisks.{mem_reads}
use Rattle.ag_store_t.proofs.Redone.{redone}
use Rattle.ag_store_t.proofs.parts.Parts.redo.Goals as goal

pub invariant_of-result-in-Ok : goal.invariant_of-result-in-Ok
invariant_of-result-in-Ok c =
    redone (mem_reads c.self.inside.disk) (mem_reads c.redo.new.disk) c.self.inside.pages c.redo.new.self c.args.stripe c.as_slice.result.now c.self.invariant
    (omega (arith, c.applied.ensures, c.if-applied-ne1.false)) (c.as_slice.ensures ∙ ap (λ (b : Block). b.records) c.in_ok-block.ensures)
    c.in-Ok.ensures.disk.content c.in-Ok.ensures.count c.in-Ok.ensures.others c.in-Ok.ensures.values
