-- What redo does to the frame of a page, and to the frames of a stripe.
use Rattle.std.specs.Prelude.{◌≡◌, ℕ, ◌+◌, ◌<◌, ◌≤◌, true, Some, IfSome, is_some, ◌||◌, ◌==◌, if◌then◌else◌, List, ◌∷◌, ◌++◌, length, map, set}
use Rattle.std.specs.List.{enumerate_from, filter, fold}
use Rattle.ag_model.specs.declared.record.Record.{Record}
use Rattle.ag_model.specs.declared.value.PageValue.{PageValue}
use Rattle.ag_model.specs.Page.{value}
use Rattle.ag_model.specs.Rows.{stripe_of, touches}
use Rattle.ag_model.specs.Sizes.{versions_size}
use Rattle.ag_stripe.specs.Redo.{redone_value, HasRoom}
use Rattle.ag_pool.specs.declared.fault.PoolFault.{PoolFault}
use Rattle.ag_pool.specs.declared.fault.PoolFault.TheVariants.{Full, NoMemory}
use Rattle.ag_pool.specs.declared.frame.Frame.{Frame}
use Rattle.ag_pool.specs.View.{PoolView, frame, is_page, stripe_at}

-- a frame after redo of a record that touches its page: one with a value is dirty, and one without stays as it is
abbrev pub redone_frame : ℕ → Record → Frame → Frame
redone_frame lsn r f = record {
  value = redone_value lsn r f.value;
  dirty = f.dirty || is_some f.value;
  pending = f.pending;
  held = f.held;
  came = f.came;
}

-- the page has room, unless it has the record already
abbrev pub CanTake : ℕ → Record → Frame → Type 0
CanTake lsn r f = (v : PageValue) → f.value ≡ Some v → v.lsn < lsn → HasRoom r v

-- the records that come next after an LSN, each with its own
abbrev pub numbered_after : ℕ → List Record → List (ℕ × Record)
numbered_after lsn records = enumerate_from (lsn + 1) records

-- a frame after redo of those of these records that touch its page, each with its LSN
abbrev pub redone_by : ℕ → ℕ → List (ℕ × Record) → Frame → Frame
redone_by pages page entries f = fold (λ g e. redone_frame e.0 e.1 g) f (filter (λ e. touches pages page e.1) entries)

-- the frames, of which the first is that of page 16, each as this makes it of its page
abbrev pub each_with_page : (ℕ → Frame → Frame) → List Frame → List Frame
each_with_page g frames = map (λ e. g e.0 e.1) (enumerate_from 16 frames)

-- the frame of a page after redo of a stripe through the records that come next after an LSN
abbrev pub redone_page : ℕ → ℕ → ℕ → List Record → ℕ → Frame → Frame
redone_page x pages lsn records page f = if stripe_of page == x then redone_by pages page (numbered_after lsn records) f else f

-- a pool after redo of a stripe through the records that come next after its applied LSN
abbrev pub redone_stripe : ℕ → List Record → PoolView → PoolView
redone_stripe x records v = record {
  pages = v.pages;
  frames = each_with_page (redone_page x v.pages (stripe_at v x).applied records) v.frames;
  stripes = set v.stripes x (record { applied = (stripe_at v x).applied + length records; published = (stripe_at v x).published });
}

-- one of the records that come next after an LSN finds no room on a page that it touches
pub record HasNoRoom (pages page lsn : ℕ) (records : List Record) (f : Frame) : Type 0 where
  pub before : List Record
  pub entry : Record
  pub after : List Record
  pub parts : records ≡ before ++ entry ∷ after
  pub touched : touches pages page entry ≡ true
  pub full : CanTake (lsn + 1 + length before) entry (redone_by pages page (numbered_after lsn before) f) → ⊥

-- why a stripe isn't redone: one of its pages has no room, or memory was refused
abbrev pub IsFullBy : ℕ → List Record → PoolView → PoolFault → Type 0
IsFullBy x records v (Full page) = (stripe_of page ≡ x) × (is_page v page ≡ true) × HasNoRoom v.pages page (stripe_at v x).applied records (frame v page)
IsFullBy x records v NoMemory = Unit {0}

-- a page has the value that it has after some record of the log, from this LSN on
pub record IsValueFrom (pages : ℕ) (log : List Record) (lsn page : ℕ) (v : PageValue) : Type 0 where
  pub at : ℕ
  pub low : lsn ≤ at
  pub high : at ≤ length log
  pub value : v ≡ value pages log at page

-- the same of each page of a stripe that was read in, from the stripe's applied LSN on
abbrev pub AreValuesFrom : ℕ → List Record → PoolView → Type 0
AreValuesFrom x log v = (page : ℕ) → is_page v page ≡ true → stripe_of page ≡ x → IfSome (frame v page).value (IsValueFrom v.pages log (stripe_at v x).applied page)

-- the versions of each page fit, after each record
abbrev pub AreFitting : ℕ → List Record → Type 0
AreFitting pages log = (n page : ℕ) → versions_size (value pages log n page).versions ≤ 8144
