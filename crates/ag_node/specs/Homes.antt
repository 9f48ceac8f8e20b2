-- What a node keeps on its disk, and where it stands.
use Rattle.std.specs.Prelude.{◌≡◌, ℕ, ◌+◌, List, length, replicate, get_or, set, Bool, true, false, not, ◌&&◌, ◌==◌, if◌then◌else◌}
use Rattle.ag_model.specs.declared.answer.Cell.{Cell}
use Rattle.ag_model.specs.declared.answer.Cell.TheVariants.{Mark}
use Rattle.ag_model.specs.declared.record.Record.{Record}
use Rattle.ag_model.specs.declared.record.Log.{Log}
use Rattle.ag_model.specs.Blocks.{with_block}
use Rattle.ag_model.specs.Rows.{stripe_of}
use Rattle.ag_model.specs.Stripes.{opening_log}
use Rattle.ag_rules.specs.Replica.{least}
use Rattle.ag_kept.specs.declared.reach.Reach.{Reach}
use Rattle.ag_kept.specs.declared.reach.Reach.TheVariants.{End, Stop, Fault}
use Rattle.ag_kept.specs.Kept.{Kept}
use Rattle.ag_store.specs.Images.{is_touched_between}
use Rattle.ag_store.specs.declared.fault.ReadFault.{ReadFault}
use Rattle.ag_store.specs.declared.fault.ReadFault.TheVariants.{TooOld, Gave}
use Rattle.ag_store.specs.Views.{StoreView, set_where, flushed_cells}
use Rattle.ag_node.specs.Activity.{Activity}

-- where a node stands, the log on its disk and the LSN from which redo starts, how many data pages there are, the cells of
-- their images, to which LSN each stripe was redone, which pages are dirty, and how often the disk has failed
pub record Home : Type 0 where
  pub activity : Activity
  pub log : Log
  pub redo : ℕ
  pub pages : ℕ
  pub cells : List (List Cell)
  pub applied : List ℕ
  pub dirty : List Bool
  pub faults : ℕ

-- images of pages that were never written
abbrev pub blank_images : ℕ → List (List Cell)
blank_images pages = replicate pages (replicate 16 (Mark 0))

-- after a fault of its store a node is down, with the log of a group that opens, and nothing is known of its number
abbrev pub lost_kept : ℕ → Kept
lost_kept pages = record { log = opening_log; incarnation = 1; cut = 0; redo = 1; pages = pages; replica = 0; loaded = false }

-- such a store with so many data pages
abbrev pub lost_store : ℕ → ℕ → StoreView
lost_store pages faults = record { kept = lost_kept pages; pages = pages; cells = blank_images pages; applied = replicate 16 1; dirty = replicate pages false; sound = false; faults = faults }

-- a node that leads or follows, with what its store shows
abbrev pub home_with : Bool → Bool → StoreView → Home
home_with leads follows s = record {
  activity = record { up = s.kept.loaded; leads = leads; follows = follows; incarnation = s.kept.incarnation };
  log = s.kept.log;
  redo = s.kept.redo;
  pages = s.pages;
  cells = s.cells;
  applied = s.applied;
  dirty = s.dirty;
  faults = s.faults;
}

-- after a fault, with so many data pages, on a disk that has failed so often
abbrev pub lost_home : ℕ → ℕ → Home
lost_home pages faults = home_with false false (lost_store pages faults)

-- a node that leads or follows, with what is known of its store: nothing after a fault, where there are so many data pages
abbrev pub home_of : Bool → Bool → ℕ → StoreView → Home
home_of leads follows pages s = if s.sound then home_with leads follows s else lost_home pages s.faults

-- as a group opens with so many data pages, on a disk that has failed so often
abbrev pub opening_home : ℕ → Bool → ℕ → Home
opening_home pages leads faults = record {
  activity = record { up = true; leads = leads; follows = not leads; incarnation = 1 };
  log = opening_log;
  redo = 1;
  pages = pages;
  cells = blank_images pages;
  applied = replicate 16 1;
  dirty = replicate pages false;
  faults = faults;
}

-- a node as this, on a disk that has failed so often
abbrev pub but_faults : Home → ℕ → Home
but_faults h faults = record h { faults = faults }

-- a node that is down: its stripes stand at the redo start, and no page is dirty
abbrev pub down_home : Home → Home
down_home h = record h { activity = record h.activity { up = false; leads = false; follows = false }; applied = replicate 16 h.redo; dirty = replicate h.pages false }

-- a node that leads or doesn't, and doesn't follow
abbrev pub stands : Bool → Home → Home
stands leads h = record h { activity = record h.activity { leads = leads; follows = false } }

-- the log with a block more
abbrev pub with_more : Home → List Record → Home
with_more h new = record h { log = with_block h.log new }

-- once a block was written so far
abbrev pub hardened_home : Home → List Record → Reach → Home
hardened_home h new End = with_more h new
hardened_home h new (Stop whole) = down_home (if whole then with_more h new else h)
hardened_home h new Fault = down_home h

-- with the next incarnation
abbrev pub raised_home : Home → Home
raised_home h = record h { activity = record h.activity { incarnation = h.activity.incarnation + 1 } }

-- the pages that a record touches between where their stripe stands and an LSN
abbrev pub is_touched_to : Home → ℕ → ℕ → Bool
is_touched_to h lsn page = is_touched_between h.pages h.log.records page (get_or h.applied (stripe_of page) 0) lsn

-- once all stripes were redone to an LSN
abbrev pub redone_home : Home → ℕ → Home
redone_home h lsn = record h { applied = replicate 16 lsn; dirty = set_where (is_touched_to h lsn) 16 h.dirty }

-- the pages of a stripe that a record touches between where it stands and an LSN
abbrev pub is_touched_in : Home → ℕ → ℕ → ℕ → Bool
is_touched_in h stripe lsn page = (stripe_of page == stripe) && is_touched_between h.pages h.log.records page (get_or h.applied stripe 0) lsn

-- once a stripe was redone to an LSN
abbrev pub applied_home : Home → ℕ → ℕ → Home
applied_home h stripe lsn = record h { applied = set h.applied stripe lsn; dirty = set_where (is_touched_in h stripe lsn) 16 h.dirty }

-- once all records after the redo start were redone on clean pages
abbrev pub caught_up_home : Home → Home
caught_up_home h = record h {
  applied = replicate 16 (length h.log.records);
  dirty = set_where (λ page. is_touched_between h.pages h.log.records page h.redo (length h.log.records)) 16 (replicate h.pages false);
}

-- a node that is down comes up, and neither leads nor follows
abbrev pub woken_home : Home → Home
woken_home h = record h { activity = record h.activity { up = true; incarnation = h.activity.incarnation + 1 } }

-- once a start came so far
abbrev pub started_home : Home → Reach → Home
started_home h End = caught_up_home (woken_home h)
started_home h (Stop whole) = if whole then raised_home h else h
started_home h Fault = h

-- once the dirty pages were written, and the master with the least LSN to which a stripe was redone
abbrev pub flushed_home : Home → Home
flushed_home h = record h { redo = least h.applied; cells = flushed_cells h.dirty h.cells; dirty = replicate h.pages false }

-- a row that isn't answered leaves the node as it was where the snapshot is too old, and else lost
abbrev pub LeavesHome : Home → Home → ReadFault → Type 0
LeavesHome old new (TooOld snapshot horizon) = new ≡ but_faults old new.faults
LeavesHome old new (Gave up) = new ≡ lost_home old.pages new.faults
