-- What redo does to what memory keeps of a page.
use Rattle.std.specs.Prelude.{◌≡◌, ℕ, ◌<◌, ◌≤◌, List, Bool, true, false, ◌&&◌, nat_lt, if◌then◌else◌, Option, Some, None}
use Rattle.std.specs.List.{list_any}
use Rattle.ag_model.specs.declared.record.Log.{Log}
use Rattle.ag_model.specs.declared.record.Record.{Record}
use Rattle.ag_model.specs.declared.record.Record.TheVariants.{Put, Del, Commit, Abort, Trim, Term}
use Rattle.ag_model.specs.declared.value.Change.TheVariants.{Put as PutChange, Del as DelChange}
use Rattle.ag_model.specs.declared.value.PageValue.{PageValue}
use Rattle.ag_model.specs.Rows.{touches}
use Rattle.ag_model.specs.Sizes.{change_size, free_bytes}
use Rattle.ag_version.specs.Edits.{after_change, after_commit, after_abort, after_trim}
use Rattle.ag_stripe.specs.declared.fault.StripeFault.{StripeFault}
use Rattle.ag_stripe.specs.declared.fault.StripeFault.TheVariants.{Bad, Pending, TooOld, Home, Unlawful, NoMemory}
use Rattle.ag_stripe.specs.declared.slot.Slot.{Slot}
use Rattle.ag_stripe.specs.Ahead.{IsAhead, AreNext}
use Rattle.ag_stripe.specs.Known.{Told, known}
use Rattle.ag_stripe.specs.Tables.{Table, is_own, slot_of, is_dirty}

-- a page after the record at this LSN, which touches it
abbrev pub after_record : ℕ → Record → PageValue → PageValue
after_record lsn (Put txn key value) v = after_change lsn txn key (PutChange value) v
after_record lsn (Del txn key) v = after_change lsn txn key DelChange v
after_record lsn (Commit txn listed) v = after_commit lsn txn v
after_record lsn (Abort txn listed) v = after_abort lsn txn v
after_record lsn (Trim page horizon) v = after_trim lsn horizon v
after_record lsn (Term term) v = v

-- a page after redo went through the record: one that has it already stays
unfoldable pub redone : ℕ → Record → PageValue → PageValue
redone lsn r v = if nat_lt v.lsn lsn then after_record lsn r v else v

-- the same of a page that may not have been read in
abbrev pub redone_value : ℕ → Record → Option PageValue → Option PageValue
redone_value lsn r (Some v) = Some (redone lsn r v)
redone_value lsn r None = None

-- what is kept of a page that redo went through: it is dirty, also where it had the record already
abbrev pub redone_slot : ℕ → Record → Slot → Slot
redone_slot lsn r s = record { value = redone_value lsn r s.value; dirty = true }

-- the page has room for what the record adds
abbrev pub HasRoom : Record → PageValue → Type 0
HasRoom (Put txn key value) v = change_size (PutChange value) ≤ free_bytes v
HasRoom (Del txn key) v = change_size DelChange ≤ free_bytes v
HasRoom (Commit txn listed) v = Unit {0}
HasRoom (Abort txn listed) v = Unit {0}
HasRoom (Trim page horizon) v = Unit {0}
HasRoom (Term term) v = Unit {0}

-- the page has room, unless it has the record already
abbrev pub CanTake : ℕ → Record → Slot → Type 0
CanTake lsn r s = (v : PageValue) → s.value ≡ Some v → v.lsn < lsn → HasRoom r v

-- why a record isn't redone: a page of the stripe that it touches has no room, or memory was refused
abbrev pub IsRefusal : ℕ → Record → Table → StripeFault → Type 0
IsRefusal lsn r t (Unlawful page) = (is_own t page ≡ true) × (touches t.pages page r ≡ true) × (CanTake lsn r (slot_of t page) → ⊥)
IsRefusal lsn r t NoMemory = Unit {0}
IsRefusal lsn r t (Bad page) = ⊥
IsRefusal lsn r t (Pending page) = ⊥
IsRefusal lsn r t (TooOld snapshot horizon) = ⊥
IsRefusal lsn r t Home = ⊥

-- whether one of these records touches a page of the stripe
abbrev pub is_touched : Table → List Record → ℕ → Bool
is_touched t records page = is_own t page && list_any (touches t.pages page) records

-- the value of a page was read in
abbrev pub IsKept : Table → ℕ → Type 0
IsKept t page = (v : PageValue) × ((slot_of t page).value ≡ Some v)

-- no page but these was edited, and what was read in stays so
pub record OnlyEdits (old new : Table) (edited : ℕ → Bool) : Type 0 where
  pub kept : (page : ℕ) → IsKept old page → IsKept new page
  pub others : (page : ℕ) → edited page ≡ false → slot_of new page ≡ slot_of old page

-- each page of the stripe that records touch was read in
abbrev pub AreKept : Table → List Record → Type 0
AreKept t records = (page : ℕ) → is_touched t records page ≡ true → IsKept t page

-- each dirty page was read in
abbrev pub AreDirtyKept : Table → Type 0
AreDirtyKept t = (page : ℕ) → is_dirty t page ≡ true → IsKept t page

-- why records aren't redone: a page that they touch isn't one of such a log, or memory was refused
abbrev pub IsUnlawful : Table → ℕ → List Record → StripeFault → Type 0
IsUnlawful t applied records (Unlawful page) = (is_touched t records page ≡ true)
    × ((told : Told) (log : Log) → AreNext t.pages applied log records → AreKept t records → IsAhead t.pages log applied page (known told t page) → ⊥)
IsUnlawful t applied records NoMemory = Unit {0}
IsUnlawful t applied records (Bad page) = ⊥
IsUnlawful t applied records (Pending page) = ⊥
IsUnlawful t applied records (TooOld snapshot horizon) = ⊥
IsUnlawful t applied records Home = ⊥
