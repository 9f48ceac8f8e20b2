-- What calls that only read leave, and what their faults say.
use Rattle.std.specs.Prelude.{◌≡◌, ℕ, ◌≤◌, List, [], Bool, true, Some}
use Rattle.ag_model.specs.declared.value.PageValue.{PageValue}
use Rattle.ag_page.specs.Home.{PutBack}
use Rattle.ag_stripe.specs.declared.fault.StripeFault.{StripeFault}
use Rattle.ag_stripe.specs.declared.fault.StripeFault.TheVariants.{Bad, Pending, TooOld, Home, Unlawful, NoMemory}
use Rattle.ag_stripe.specs.Tables.{Table, IsSameTable, is_own, slot_of, is_dirty}
use Rattle.ag_stripe.specs.Known.{Told, Known, Says, known}
use Rattle.ag_stripe.specs.Known.Known.{NotSound, NotItsImage}

-- pages were read in, and nothing else: what was kept stays, and what is known of each page
pub record OnlyReads (told : Told) (old new : Table) : Type 0 where
  pub same : IsSameTable old new
  pub dirty : (page : ℕ) → is_dirty new page ≡ is_dirty old page
  pub kept : (page : ℕ) (v : PageValue) → (slot_of old page).value ≡ Some v → (slot_of new page).value ≡ Some v
  pub known : (page : ℕ) → Says (known told old page) (known told new page)

-- a home was read, and nothing else
pub record WasRead {H : Type 0} (has_page : H → ℕ → Bool) (told : H → Told) (faults refusals : H → ℕ) (leaves : H → List PutBack → H → Type 0) (old new : H) : Type 0 where
  pub tells : told new ≡ told old
  pub pages : has_page new ≡ has_page old
  pub faulty : faults old ≤ faults new
  pub refused : refusals old ≤ refusals new
  pub left : leaves old [] new

-- why a page isn't read in: this fact, which tells that its sound image is none of it, or the home failed, or memory was refused
abbrev pub IsReadFault : ℕ → Type 0 → StripeFault → Type 0
IsReadFault page Foreign (Unlawful q) = (q ≡ page) × Foreign
IsReadFault page Foreign Home = Unit {0}
IsReadFault page Foreign NoMemory = Unit {0}
IsReadFault page Foreign (Bad q) = ⊥
IsReadFault page Foreign (Pending q) = ⊥
IsReadFault page Foreign (TooOld snapshot horizon) = ⊥

-- why the value of a page isn't given, by what is known of the page
abbrev pub IsFaultOf : ℕ → Known → StripeFault → Type 0
IsFaultOf page k (Bad q) = (q ≡ page) × Says k NotSound
IsFaultOf page k (Unlawful q) = (q ≡ page) × Says k NotItsImage
IsFaultOf page k Home = Unit {0}
IsFaultOf page k NoMemory = Unit {0}
IsFaultOf page k (Pending q) = ⊥
IsFaultOf page k (TooOld snapshot horizon) = ⊥

-- a home has the pages of a stripe
abbrev pub HasPages : {H : Type 0} → (H → ℕ → Bool) → Table → H → Type 0
HasPages has_page t home = (page : ℕ) → is_own t page ≡ true → has_page home page ≡ true
