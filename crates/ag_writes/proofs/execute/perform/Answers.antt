use Rattle.std.proofs.Common.{◌≡◌, [], get_or, take, false, sym, ap, ◌∙◌, subst}
use Rattle.std.proofs.lemmas.List.{get_or_default}
use Rattle.ag_rules.specs.Plan.{Batch}
use Rattle.ag_writes.specs.Performing.{after_batch, after_batches}
use Rattle.ag_writes.specs.Homes.{goes_on}
use Rattle.ag_writes.proofs.Performs.{not_end, ended_at}
use Rattle.ag_writes.proofs.execute.perform.Goals as goal

pub write-requires-clause-can : goal.write-requires-clause-can
write-requires-clause-can g c =
    let inv = c.loop-batch.invariant in
    let item : get_or c.args.batches.now c.loop-batch.batch-index [] ≡ c.batch-item.result =
    get_or_default c.args.batches.now c.loop-batch.batch-index [] c.batch-item.result c.loop-batch-test.true ∙ sym c.batch-item.is in
    subst (λ (b : Batch). g.H.Keeps.can_write c.loop-batch.home b) item (c.requires.can c.loop-batch.batch-index c.loop-batch.home c.loop-batch-test.true inv.same inv.reached inv.goes_on)

pub returns-in_default-clause-reached : goal.returns-in_default-clause-reached
returns-in_default-clause-reached g c =
    let inv = c.loop-batch.invariant in
    let i = c.loop-batch.batch-index in
    let batches = c.args.batches.now in
    let first = g.H.Keeps.reached c.args.home.now in
    let last = g.H.Keeps.reached c.write.new.self in
    let item : get_or batches i [] ≡ c.batch-item.result =
    get_or_default batches i [] c.batch-item.result c.loop-batch-test.true ∙ sym c.batch-item.is in
    let step : last ≡ after_batch (after_batches first (take i batches)) (get_or batches i []) =
    c.in_ok-end.ensures.reached
    ∙ ap (λ r. after_batch r c.batch-item.result) inv.reached
    ∙ ap (λ (b : Batch). after_batch (after_batches first (take i batches)) b) (sym item) in
    let stopped : goes_on last ≡ false = not_end (g.H.Keeps.pages c.write.new.self) last (λ e. c.in_default.not-End (c.in_ok-end.ensures.reach ∙ e)) in
    ended_at batches i first last c.loop-batch-test.true step stopped
