-- What calls that only read leave.
use Rattle.std.specs.Prelude.{◌≡◌, ℕ, Bool, Some}
use Rattle.ag_model.specs.declared.value.PageValue.{PageValue}
use Rattle.ag_outside.specs.Calls.{Call, IsReadOnly}
use Rattle.ag_outside.specs.Disks.{Content, Image, SameImages}
use Rattle.ag_stripe.specs.Known.{Told, Says}
use Rattle.ag_pages.specs.Views.{slot, PagesView, is_dirty, known_of}

-- a disk was read, and nothing else
pub record WasOnlyRead {D : Type 0} (size : D → ℕ) (keeps : D → Bool) (reads : D → Image) (may_hold : D → ℕ → Content → Type 0) (did : D → Call → D → Type 0) (old new : D) : Type 0 where
  pub content : reads new ≡ reads old
  pub images : SameImages (may_hold old) (may_hold new)
  pub keeping : keeps new ≡ keeps old
  pub sectors : size new ≡ size old
  pub calls : IsReadOnly did old new

-- pages were read in, and nothing else: what was kept stays, and what is known of each page
pub record OnlyReadsIn (told : Told) (old new : PagesView) : Type 0 where
  pub count : new.count ≡ old.count
  pub applied : new.applied ≡ old.applied
  pub dirty : (page : ℕ) → is_dirty new page ≡ is_dirty old page
  pub kept : (page : ℕ) (v : PageValue) → (slot old page).value ≡ Some v → (slot new page).value ≡ Some v
  pub known : (page : ℕ) → Says (known_of told old page) (known_of told new page)
