-- A replica that is up, as the rules see it, and what holds of it.
use Rattle.std.specs.Prelude.{◌≡◌, ℕ, Bool, true, Some}
use Rattle.ag_outside.specs.Disks.{Image}
use Rattle.ag_outside.specs.Shown.{reads_of}
use Rattle.ag_pagestore.specs.Places.{image_of}
use Rattle.ag_stripe.specs.Known.{Known, in_home}
use Rattle.ag_pool.specs.Frames.{marks_of}
use Rattle.ag_durable.specs.Views.{DurableView, kept_of}
use Rattle.ag_durable.specs.declared.progress.Came.TheVariants.{Underway}
use Rattle.ag_rules.specs.Replica.{Replica, Kept}
use Rattle.ag_law_pages.specs.Right.{IsRight}
use Rattle.ag_replica.specs.declared.up.Up.{Up}

-- what the image of each page says, on a disk
abbrev pub said_on : Image → ℕ → Known
said_on image page = in_home (Some (image_of image)) page

module _ {D : Type 0} (reads : D → Image) where
  -- the replica of the rules
  abbrev pub replica_of : Up D → Replica
  replica_of u = record {
    up = true;
    cut_off = u.standing.cut_off;
    leads = u.standing.leads;
    term = u.standing.term;
    state = u.standing.state;
    kept = kept_of reads u.durable;
    pages = marks_of u.pool.frames;
    stripes = u.pool.stripes;
    following = u.following;
    leading = u.leading;
  }

  -- what the image of each page says
  abbrev pub said_of : DurableView D → ℕ → Known
  said_of v = said_on (reads_of reads v.disk)

  -- more can be written, and what memory has of the pages agrees with the log and with the disk; ahead: they may be ahead of their stripes
  pub record IsUp (ahead : Bool) (u : Up D) : Type 0 where
    pub underway : u.durable.progress.came ≡ Underway
    pub right : IsRight ahead u.durable.master.pages (kept_of reads u.durable) (said_of u.durable) u.standing.state u.pool
