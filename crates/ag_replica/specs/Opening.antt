-- A replica as its group opens.
use Rattle.std.specs.Prelude.{ℕ, [], ◌∷◌, replicate, Bool, true, false, if◌then◌else◌}
use Rattle.ag_model.specs.declared.record.Record.TheVariants.{Term}
use Rattle.ag_model.specs.declared.answer.Cell.TheVariants.{Mark}
use Rattle.std.specs.Prelude.{◌≡◌}
use Rattle.ag_outside.specs.Disks.{Image}
use Rattle.ag_stripe.specs.Known.{empty_page}
use Rattle.ag_stripe.specs.Known.Known.{Value}
use Rattle.ag_pool.specs.Frames.{empty_frame}
use Rattle.ag_pool.specs.View.{PoolView}
use Rattle.ag_durable.specs.Views.{DurableView, kept_of}
use Rattle.ag_durable.specs.declared.progress.Came.TheVariants.{Underway}
use Rattle.ag_law_pages.specs.Images.{IsDataPage}
use Rattle.ag_replica.specs.Ups.{said_of}
use Rattle.ag_rules.specs.Replica.{Replica, Kept, Leading, clean_page, all_at, no_following}

-- its disk: a log of one record, and pages that were never written
abbrev pub opened_disk : ℕ → Kept
opened_disk pages = record {
  log = record { records = Term 1 ∷ []; ends = 1 ∷ [] };
  master = record { term = 1; state = 0; incarnation = 1; redo_start = 1; undo = 0; foreign = [] };
  suspects = [];
  images = replicate pages (replicate 16 (Mark 0));
}

-- a replica with so many data pages that leads, or follows, and knows this as primary
abbrev pub opened_replica : ℕ → Bool → Leading → Replica
opened_replica pages leads leading = record {
  up = true;
  cut_off = false;
  leads = leads;
  term = 1;
  state = if leads then 0 else 1;
  kept = opened_disk pages;
  pages = replicate pages clean_page;
  stripes = all_at 1;
  following = no_following;
  leading = leading;
}

-- its pages in memory: nothing is read in
abbrev pub opened_pool : ℕ → PoolView
opened_pool pages = record { pages = pages; frames = replicate pages empty_frame; stripes = all_at 1 }

-- its disk was formatted and has the block that starts the first term; each image says the empty page, and more can be written
pub record IsOpened {D : Type 0} (reads : D → Image) (pages : ℕ) (v : DurableView D) : Type 0 where
  pub underway : v.progress.came ≡ Underway
  pub kept : kept_of reads v ≡ opened_disk pages
  pub pages_are : v.master.pages ≡ pages
  pub says : (page : ℕ) → IsDataPage pages page → said_of reads v page ≡ Value (empty_page page)
  pub appends : v.appends ≡ true
