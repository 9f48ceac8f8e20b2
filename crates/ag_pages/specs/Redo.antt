-- Which pages of a stripe records touch, and why they aren't redone.
use Rattle.std.specs.Prelude.{◌≡◌, ℕ, ◌≤◌, List, Bool, true, ◌&&◌}
use Rattle.std.specs.List.{list_any}
use Rattle.ag_model.specs.declared.record.Log.{Log}
use Rattle.ag_model.specs.declared.record.Record.{Record}
use Rattle.ag_model.specs.Rows.{touches}
use Rattle.ag_stripe.specs.declared.fault.StripeFault.{StripeFault}
use Rattle.ag_stripe.specs.declared.fault.StripeFault.TheVariants.{Bad, Pending, TooOld, Home, Unlawful, NoMemory}
use Rattle.ag_stripe.specs.Ahead.{IsAhead, AreNext}
use Rattle.ag_stripe.specs.Known.{Told, Says}
use Rattle.ag_stripe.specs.Known.Known.{NotSound}
use Rattle.ag_pages.specs.Views.{PagesView, applied_of, is_of, known_of}

-- whether one of these records touches a page of the stripe
abbrev pub is_touched : PagesView → ℕ → List Record → ℕ → Bool
is_touched v stripe records page = is_of v stripe page && list_any (touches v.count page) records

-- the page is bad, and no page of the stripe that the records touch is bad below it
pub record IsLeastBad (told : Told) (v : PagesView) (stripe : ℕ) (records : List Record) (page : ℕ) : Type 0 where
  pub touched : is_touched v stripe records page ≡ true
  pub bad : Says (known_of told v page) NotSound
  pub least : (q : ℕ) → is_touched v stripe records q ≡ true → known_of told v q ≡ NotSound → page ≤ q

-- no log whose next records these are gives the page, which they touch, such a value
pub record IsForeign (told : Told) (v : PagesView) (stripe : ℕ) (records : List Record) (page : ℕ) : Type 0 where
  pub touched : is_touched v stripe records page ≡ true
  pub never : (log : Log) → AreNext v.count (applied_of v stripe) log records → IsAhead v.count log (applied_of v stripe) page (known_of told v page) → ⊥

-- why records aren't redone on a stripe
abbrev pub IsRedoFault : Told → PagesView → ℕ → List Record → StripeFault → Type 0
IsRedoFault told v stripe records (Bad page) = IsLeastBad told v stripe records page
IsRedoFault told v stripe records (Unlawful page) = IsForeign told v stripe records page
IsRedoFault told v stripe records (Pending page) = ⊥
IsRedoFault told v stripe records (TooOld snapshot horizon) = ⊥
IsRedoFault told v stripe records Home = Unit {0}
IsRedoFault told v stripe records NoMemory = Unit {0}
