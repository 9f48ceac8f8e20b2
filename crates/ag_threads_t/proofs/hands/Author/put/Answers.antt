use Rattle.std.proofs.Common.{ℕ, ◌+◌, sym, subst, ◌∙◌, arith}
use Rattle.ag_model.specs.Blocks.{with_block}
use Rattle.ag_model.specs.Proper.{IsProper}
use Rattle.ag_threads_t.specs.Script.{IsScript}
use Rattle.ag_threads_t.proofs.Scripts.{IsNextOf, more_written, written_proper}
use Rattle.ag_threads_t.proofs.hands.Author.put.Goals as goal

pub dispatch-requires-clause-block : goal.dispatch-requires-clause-block
dispatch-requires-clause-block g c =
    let b = c.in-Ok.ensures in
    let was = c.args.self.now in
    let few = c.if-self-ge-MOST.false in
    let next : IsNextOf was.done c.in-Ok.block.records = record { write = record { key = c.args.write.now.key; value = b.0 }; short = b.1; is = b.2 } in
    λ first. subst (λ (pages : ℕ). IsProper pages (with_block was.hand.pass.seat.me.0.seen c.in-Ok.block.records)) (sym was.paged)
    (written_proper (was.done + 1) (with_block was.hand.pass.seat.me.0.seen c.in-Ok.block.records) (more_written was.done was.hand.pass.seat.me.0.seen c.in-Ok.block.records was.written next) (omega arith))

pub invariant_of-self-in-Ok-dispatch : goal.invariant_of-self-in-Ok-dispatch
invariant_of-self-in-Ok-dispatch g c =
    let b = c.in-Ok.ensures in
    let was = c.args.self.now in
    let few = c.if-self-ge-MOST.false in
    let e = c.dispatch.ensures in
    let added = c.in-Ok-dispatch.ensures in
    let next : IsNextOf was.done c.in-Ok.block.records = record { write = record { key = c.args.write.now.key; value = b.0 }; short = b.1; is = b.2 } in
    record {
      author = e.visited.author ∙ was.author;
      paged = e.visited.pages ∙ was.paged;
      written = subst (IsScript (was.done + 1)) (sym added.added) (more_written was.done was.hand.pass.seat.me.0.seen c.in-Ok.block.records was.written next);
      few = omega arith;
    }
