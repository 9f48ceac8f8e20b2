-- What performing the writes of an event leaves, batch by batch, where its suffix stops it or has a call fail.
use Rattle.std.specs.Prelude.{ℕ, ◌+◌, ◌-◌, List, [], ◌++◌, length, take, nat_lt, if◌then◌else◌}
use Rattle.std.specs.List.{fold, flat_map}
use Rattle.ag_model.specs.declared.event.Suffix.{Suffix}
use Rattle.ag_model.specs.declared.event.Suffix.TheVariants.{Whole, Stop, Fail}
use Rattle.ag_model.specs.declared.answer.Answer.TheVariants.{Stopped, DeviceFailed}
use Rattle.ag_rules.specs.Replica.{Kept}
use Rattle.ag_rules.specs.Plan.{Plan, Batch, Write, batch_written}
use Rattle.ag_rules.specs.Cut.{page_named, steps_kept, steps_of, batch_partly_written, torn_pages, fallen_with, disk_before}
use Rattle.ag_writes.specs.declared.order.Order.{Order}
use Rattle.ag_writes.specs.declared.order.Order.TheVariants.{Free, StopAt, FailAt}

-- how far an event has come: what is still ordered, its disk, its step writes and its writes so far, and the pages that these name
pub record Progress : Type 0 where
  pub order : Order
  pub kept : Kept
  pub steps : ℕ
  pub writes : ℕ
  pub named : List ℕ

-- what came of some batches: all went through, or the event was stopped in a write, counted from 1, or a call failed
pub data Reached : Type 0 where
  Through : (progress : Progress) → Reached
  StoppedIn : (write steps : ℕ) (named : List ℕ) (kept : Kept) → Reached
  FailedAfter : (steps : ℕ) (kept : Kept) → Reached

-- what a suffix orders of an event that begins
abbrev pub order_of : Suffix → Order
order_of Whole = Free
order_of (Stop w mask) = StopAt (w - 1) mask
order_of (Fail c) = FailAt (c - 1)

-- what is ordered once so many writes, each a call, and their sync went through
abbrev pub nearer : ℕ → Order → Order
nearer count Free = Free
nearer count (StopAt w mask) = StopAt (w - count) mask
nearer count (FailAt c) = FailAt (c - (count + 1))

-- an event that begins on this disk
abbrev pub begun : Suffix → Kept → Reached
begun suffix k = Through (record { order = order_of suffix; kept = k; steps = 0; writes = 0; named = [] })

-- the pages that some writes name
abbrev pub pages_named : List Write → List ℕ
pages_named writes = flat_map page_named writes

-- the event once a batch went through, with this still ordered
abbrev pub passed : Order → Progress → Batch → Progress
passed order p b = record {
  order = order;
  kept = batch_written p.kept b;
  steps = p.steps + steps_of b;
  writes = p.writes + length b;
  named = p.named ++ pages_named b;
}

-- the event stopped after these writes of a batch, of which the last is the one that is stopped
abbrev pub stopped_after : ℕ → ℕ → Progress → Batch → Reached
stopped_after count mask p ws = StoppedIn (p.writes + count) (p.steps + steps_kept mask 0 ws) (p.named ++ pages_named ws) (batch_partly_written mask 0 p.kept ws)

-- the event stopped in write w of a batch, counted from 0
abbrev pub stopped_in : ℕ → ℕ → Progress → Batch → Reached
stopped_in w mask p b = stopped_after (w + 1) mask p (take (w + 1) b)

-- what comes of one more batch, where this is ordered
abbrev pub by_order : Order → Progress → Batch → Reached
by_order Free p b = Through (passed Free p b)
by_order (StopAt w mask) p b = if nat_lt w (length b) then stopped_in w mask p b else Through (passed (nearer (length b) (StopAt w mask)) p b)
by_order (FailAt c) p b = if nat_lt c (length b + 1) then FailedAfter p.steps p.kept else Through (passed (nearer (length b) (FailAt c)) p b)

-- what comes of one more batch; nothing is written after an end
abbrev pub after_batch : Reached → Batch → Reached
after_batch (Through p) b = by_order p.order p b
after_batch (StoppedIn write steps named k) b = StoppedIn write steps named k
after_batch (FailedAfter steps k) b = FailedAfter steps k

-- what comes of more batches, one after the other
abbrev pub after_batches : Reached → List Batch → Reached
after_batches r batches = fold after_batch r batches

-- the disk then
abbrev pub disk_of : Reached → Kept
disk_of (Through p) = p.kept
disk_of (StoppedIn write steps named k) = k
disk_of (FailedAfter steps k) = k

-- a plan, once this came of its writes
abbrev pub with_reached : Plan → Reached → Plan
with_reached p (Through done) = p
with_reached p (StoppedIn write steps named k) = record p { answer = Stopped write steps (torn_pages p.before.config.pages k named); after = fallen_with p k }
with_reached p (FailedAfter steps k) = record p { answer = DeviceFailed p.writer steps; after = fallen_with p k }

-- what comes of all writes of a plan with this suffix
abbrev pub performed : Suffix → Plan → Reached
performed suffix p = after_batches (begun suffix (disk_before p)) p.writes
