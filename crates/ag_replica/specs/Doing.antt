-- What an act does to a replica that is up.
use Rattle.std.specs.Prelude.{◌≡◌, ◌≢◌, ℕ, List, [], ◌∷◌, Bool, Option, Some, None, false}
use Rattle.ag_outside.specs.Disks.{Image}
use Rattle.ag_writes.specs.Performing.{after_batches}
use Rattle.ag_durable.specs.Views.{DurableView, kept_of, reached_of}
use Rattle.ag_durable.specs.declared.progress.Came.TheVariants.{Underway, Unknown}
use Rattle.ag_rules.specs.Plan.{Part, Posting}
use Rattle.ag_law_pages.specs.Right.{IsRightDisk}
use Rattle.ag_replica.specs.declared.up.Up.{Up}
use Rattle.ag_replica.specs.declared.done.Done.{Done}
use Rattle.ag_replica.specs.declared.done.Posting.{Posting as Sent}
use Rattle.ag_replica.specs.Ups.{replica_of, said_of, IsUp}

-- the messages of an act
abbrev pub postings : Option Sent → List Posting
postings None = []
postings (Some p) = record { to = p.to; message = p.message } ∷ []

-- A replica did a part of the rules, as far as its event's order let it come: its writes came so far. Where more can be written the
-- part is done to its end, and else what is on the disk can be started from, unless a fault came.
pub record Does {D : Type 0} (reads : D → Image) (old : Up D) (part : Part) (new : Up D) (done : Done) : Type 0 where
  pub reached : reached_of reads new.durable ≡ after_batches (reached_of reads old.durable) part.writes
  pub pages : new.durable.master.pages ≡ old.durable.master.pages
  pub disk : new.durable.progress.came ≢ Unknown → IsRightDisk old.durable.master.pages (kept_of reads new.durable) (said_of reads new.durable)
  pub right : new.durable.progress.came ≡ Underway → IsUp reads false new
  pub after : new.durable.progress.came ≡ Underway → replica_of reads new ≡ part.after
  pub answer : new.durable.progress.came ≡ Underway → done.answer ≡ part.answer
  pub out : new.durable.progress.came ≡ Underway → postings done.out ≡ part.out
