-- What a replica is once it has given a batch of writes to its disk.
use Rattle.std.specs.Prelude.{◌≡◌, ◌≢◌, ℕ, Bool}
use Rattle.ag_outside.specs.Disks.{Image}
use Rattle.ag_rules.specs.Plan.{Write, Batch, written, batch_written}
use Rattle.ag_writes.specs.Performing.{after_batch}
use Rattle.ag_durable.specs.Views.{DurableView, kept_of, reached_of}
use Rattle.ag_durable.specs.declared.progress.Came.TheVariants.{Underway, Unknown}
use Rattle.ag_law_pages.specs.Right.{IsRightDisk, IsRight}
use Rattle.ag_replica.specs.declared.up.Up.{Up}
use Rattle.ag_replica.specs.Ups.{IsUp, said_of}

-- the disk and memory agree with the log once this was written that names no page
pub record CanWrite {D : Type 0} (reads : D → Image) (u : Up D) (w : Write) : Type 0 where
  pub disk : IsRightDisk u.durable.master.pages (written (kept_of reads u.durable) w) (said_of reads u.durable)
  pub memory : (ahead : Bool) → IsUp reads ahead u → IsRight ahead u.durable.master.pages (written (kept_of reads u.durable) w) (said_of reads u.durable) u.standing.state u.pool

-- The batch was performed, as far as the event's order let it come. Where more can be written, memory still agrees with the log and
-- the disk, and else what is on the disk can be started from, unless a fault came.
pub record Wrote {D : Type 0} (reads : D → Image) (old : Up D) (b : Batch) (new : Up D) : Type 0 where
  pub reached : reached_of reads new.durable ≡ after_batch (reached_of reads old.durable) b
  pub pages : new.durable.master.pages ≡ old.durable.master.pages
  pub pool : new.pool ≡ old.pool
  pub standing : new.standing ≡ old.standing
  pub following : new.following ≡ old.following
  pub leading : new.leading ≡ old.leading
  pub disk : new.durable.progress.came ≢ Unknown → IsRightDisk old.durable.master.pages (kept_of reads new.durable) (said_of reads new.durable)
  pub kept : new.durable.progress.came ≡ Underway → kept_of reads new.durable ≡ batch_written (kept_of reads old.durable) b
  pub up : (ahead : Bool) → IsUp reads ahead old → new.durable.progress.came ≡ Underway → IsUp reads ahead new
