use Rattle.std.proofs.Common.{◌≡◌, ◌<◌, List, length, take, drop, sym, ap, ◌∙◌, subst}
use Rattle.std.specs.List.{sum_by, AllByRecursion}
use Rattle.ag_lists.proofs.Each.{all_take, all_drop}
use Rattle.ag_rules.specs.Plan.{Batch}
use Rattle.ag_writes.specs.Performing.{Reached, disk_of, after_batches}
use Rattle.ag_writes_t.specs.RowHomes.{IsRow}
use Rattle.ag_writes_t.proofs.Performed.{AllRows, RoomFor, all_rows, came, can_rows, room_begun, room_for_first, room_for_rest}
use Rattle.ag_writes_t.proofs.playing.perform_in_parts.Goals as goal

pub perform-requires-clause-can : goal.perform-requires-clause-can
perform-requires-clause-can c =
    let bs = c.as_slice.result.now in
    let i = c.args.first in
    let first = came c.begin.new.self in
    let front = c.split_at.ensures.front in
    let items : c.args.plan.now.batches.items ≡ c.as_slice.result.now = cc c.as_slice.ensures.value in
    let rows : AllRows c.as_slice.result.now = subst AllRows items (all_rows c.args.plan.now.batches.items c.args.plan.now.rows) in
    let few : sum_by length c.as_slice.result.now < 1000 = subst (λ (x : List Batch). sum_by length x < 1000) items c.args.plan.now.few in
    let room = room_begun first c.args.suffix.now (disk_of (came c.args.home.now)) (sum_by length bs) c.begin.ensures.begun few in
    can_rows c.begin.new.self c.split_at.result.0.now
    (subst AllRows (sym front) (all_take (AllByRecursion IsRow) i bs rows))
    (subst (λ (x : List Batch). RoomFor first (sum_by length x)) (sym front) (room_for_first first bs i room))

pub perform-requires-in-End-clause-can : goal.perform-requires-in-End-clause-can
perform-requires-in-End-clause-can c =
    let bs = c.as_slice.result.now in
    let i = c.args.first in
    let first = came c.begin.new.self in
    let back = c.split_at.ensures.back in
    let items : c.args.plan.now.batches.items ≡ c.as_slice.result.now = cc c.as_slice.ensures.value in
    let rows : AllRows c.as_slice.result.now = subst AllRows items (all_rows c.args.plan.now.batches.items c.args.plan.now.rows) in
    let few : sum_by length c.as_slice.result.now < 1000 = subst (λ (x : List Batch). sum_by length x < 1000) items c.args.plan.now.few in
    let room = room_begun first c.args.suffix.now (disk_of (came c.args.home.now)) (sum_by length bs) c.begin.ensures.begun few in
    let then : came c.perform.new.home ≡ after_batches first (take i bs) = c.in_ok-end.ensures.reached ∙ ap (after_batches first) c.split_at.ensures.front in
    can_rows c.perform.new.home c.split_at.result.1.now
    (subst AllRows (sym back) (all_drop (AllByRecursion IsRow) i bs rows))
    (subst (λ (x : List Batch). RoomFor (came c.perform.new.home) (sum_by length x)) (sym back)
    (subst (λ (r : Reached). RoomFor r (sum_by length (drop i bs))) (sym then) (room_for_rest first bs i rows room)))
