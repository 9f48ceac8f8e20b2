-- What the calls of a stripe answer.
use Rattle.std.specs.Prelude.{◌≡◌, ℕ, ◌<◌, ◌≤◌, List, true, false}
use Rattle.ag_model.specs.declared.record.Log.{Log}
use Rattle.ag_model.specs.declared.record.Record.{Record}
use Rattle.ag_model.specs.declared.value.Row.{Row}
use Rattle.ag_model.specs.declared.value.PageValue.{PageValue}
use Rattle.ag_model.specs.Page.{pick}
use Rattle.ag_page.specs.Image.{image}
use Rattle.ag_page.specs.Spelling.{has_image, page_bytes}
use Rattle.ag_stripe.specs.declared.fault.StripeFault.{StripeFault}
use Rattle.ag_stripe.specs.declared.fault.StripeFault.TheVariants.{Bad, Pending, TooOld, Home, Unlawful, NoMemory}
use Rattle.ag_stripe.specs.Tables.{Table}
use Rattle.ag_stripe.specs.Known.{Told, Known, Says, known}
use Rattle.ag_stripe.specs.Known.Known.{Value, NotSound, NotItsImage, Untold}
use Rattle.ag_stripe.specs.Ahead.{IsAhead, AreNext}
use Rattle.ag_stripe.specs.Redo.{is_touched}

-- the row of a key at a snapshot, by what is known of its page
abbrev pub IsRow : ℕ → ℕ → Known → Row → Type 0
IsRow key snapshot (Value v) row = (v.horizon ≤ snapshot) × (row ≡ pick v key snapshot)
IsRow key snapshot Untold row = Unit {0}
IsRow key snapshot NotSound row = ⊥
IsRow key snapshot NotItsImage row = ⊥

-- a snapshot below the horizon of a page value
abbrev pub IsOldAt : ℕ → PageValue → StripeFault → Type 0
IsOldAt snapshot v e = (snapshot < v.horizon) × (e ≡ TooOld snapshot v.horizon)

-- the snapshot is below the horizon of the page
abbrev pub IsTooOld : ℕ → ℕ → Known → Type 0
IsTooOld snapshot horizon (Value v) = (snapshot < v.horizon) × (horizon ≡ v.horizon)
IsTooOld snapshot horizon Untold = snapshot < horizon
IsTooOld snapshot horizon NotSound = ⊥
IsTooOld snapshot horizon NotItsImage = ⊥

-- why a row isn't answered, by what is known of the page
abbrev pub IsRowFault : ℕ → ℕ → Known → StripeFault → Type 0
IsRowFault page snapshot k (Bad q) = (q ≡ page) × Says k NotSound
IsRowFault page snapshot k (Unlawful q) = (q ≡ page) × Says k NotItsImage
IsRowFault page snapshot k (TooOld s horizon) = (s ≡ snapshot) × IsTooOld snapshot horizon k
IsRowFault page snapshot k (Pending q) = ⊥
IsRowFault page snapshot k Home = Unit {0}
IsRowFault page snapshot k NoMemory = Unit {0}

-- the image of a page, with the mark 0, by what is known of the page
abbrev pub IsImageOf : Known → List (List ℕ) → Type 0
IsImageOf (Value v) out = (has_image v ≡ true) × (out ≡ image 0 (page_bytes v))
IsImageOf Untold out = Unit {0}
IsImageOf NotSound out = ⊥
IsImageOf NotItsImage out = ⊥

-- the page has no image: its sound image is none of it, or its value fits none
abbrev pub HasNoImage : Known → Type 0
HasNoImage (Value v) = has_image v ≡ false
HasNoImage NotItsImage = Unit {0}
HasNoImage Untold = Unit {0}
HasNoImage NotSound = ⊥

-- why an image isn't given, by what is known of the page
abbrev pub IsImageFault : ℕ → Known → StripeFault → Type 0
IsImageFault page k (Bad q) = (q ≡ page) × Says k NotSound
IsImageFault page k (Unlawful q) = (q ≡ page) × HasNoImage k
IsImageFault page k (Pending q) = ⊥
IsImageFault page k (TooOld snapshot horizon) = ⊥
IsImageFault page k Home = Unit {0}
IsImageFault page k NoMemory = Unit {0}

-- the page is bad, and no page that the records touch is bad below it
pub record IsLeastBad (told : Told) (t : Table) (records : List Record) (page : ℕ) : Type 0 where
  pub touched : is_touched t records page ≡ true
  pub bad : Says (known told t page) NotSound
  pub least : (q : ℕ) → is_touched t records q ≡ true → known told t q ≡ NotSound → page ≤ q

-- no log whose next records these are gives the page, which they touch, such a value
pub record IsForeign (told : Told) (t : Table) (applied : ℕ) (records : List Record) (page : ℕ) : Type 0 where
  pub touched : is_touched t records page ≡ true
  pub never : (log : Log) → AreNext t.pages applied log records → IsAhead t.pages log applied page (known told t page) → ⊥

-- why records aren't applied
abbrev pub IsApplyFault : Told → Table → ℕ → List Record → StripeFault → Type 0
IsApplyFault told t applied records (Bad page) = IsLeastBad told t records page
IsApplyFault told t applied records (Unlawful page) = IsForeign told t applied records page
IsApplyFault told t applied records (Pending page) = ⊥
IsApplyFault told t applied records (TooOld snapshot horizon) = ⊥
IsApplyFault told t applied records Home = Unit {0}
IsApplyFault told t applied records NoMemory = Unit {0}
