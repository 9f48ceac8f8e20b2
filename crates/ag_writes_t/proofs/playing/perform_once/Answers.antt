use Rattle.std.proofs.Common.{◌≡◌, ◌<◌, List, length, subst}
use Rattle.std.specs.List.{sum_by}
use Rattle.ag_rules.specs.Plan.{Batch}
use Rattle.ag_writes.specs.Performing.{disk_of}
use Rattle.ag_writes_t.proofs.Performed.{AllRows, all_rows, came, can_rows, room_begun}
use Rattle.ag_writes_t.proofs.playing.perform_once.Goals as goal

pub perform-requires-clause-can : goal.perform-requires-clause-can
perform-requires-clause-can c =
    let items : c.args.plan.now.batches.items ≡ c.as_slice.result.now = cc c.as_slice.ensures.value in
    let rows : AllRows c.as_slice.result.now = subst AllRows items (all_rows c.args.plan.now.batches.items c.args.plan.now.rows) in
    let few : sum_by length c.as_slice.result.now < 1000 = subst (λ (bs : List Batch). sum_by length bs < 1000) items c.args.plan.now.few in
    can_rows c.begin.new.self c.as_slice.result.now rows
    (room_begun (came c.begin.new.self) c.args.suffix.now (disk_of (came c.args.home.now)) (sum_by length c.as_slice.result.now) c.begin.ensures.begun few)
