-- Pages read in one after the other, and the least bad one.
use Rattle.std.specs.Prelude.{◌≡◌, ℕ, ◌≤◌, ◌⊎◌, Bool, true, false, Option, Some, None, min}
use Rattle.ag_stripe.specs.declared.fault.StripeFault.{StripeFault}
use Rattle.ag_stripe.specs.declared.fault.StripeFault.TheVariants.{Bad, Pending, TooOld, Home, Unlawful, NoMemory}
use Rattle.ag_stripe.specs.Tables.{Table, is_own, slot_of}
use Rattle.ag_stripe.specs.Known.{Told, Says, known}
use Rattle.ag_stripe.specs.Known.Known.{NotSound, NotItsImage}
use Rattle.ag_stripe.specs.Reading.{OnlyReads}
use Rattle.ag_stripe.specs.Redo.{IsKept}

-- a page was found that isn't above this one
abbrev pub IsAtMost : Option ℕ → ℕ → Type 0
IsAtMost None page = ⊥
IsAtMost (Some found) page = found ≤ page

-- the lesser of the page that was found and one more
abbrev pub lesser : Option ℕ → ℕ → Option ℕ
lesser None page = Some page
lesser (Some found) page = Some (min found page)

-- some pages of the stripe were visited: each was read in, or it is bad; the others are left; `after` has the least bad page so far, `before` the one before
pub record Visits (told : Told) (old new : Table) (before after : Option ℕ) (visited : ℕ → Bool) : Type 0 where
  pub reads : OnlyReads told old new
  pub found : (page : ℕ) → is_own old page ≡ true → visited page ≡ true → IsKept new page ⊎ IsAtMost after page
  pub others : (page : ℕ) → visited page ≡ false → slot_of new page ≡ slot_of old page
  pub lower : (page : ℕ) → IsAtMost before page → IsAtMost after page
  pub from : (page : ℕ) → after ≡ Some page → (before ≡ Some page) ⊎ ((is_own old page ≡ true) × (visited page ≡ true) × Says (known told old page) NotSound)

-- why a visit ends: a page of those visited has a sound image that is none of it, the home failed, or memory was refused
abbrev pub IsVisitFault : Told → Table → (ℕ → Bool) → StripeFault → Type 0
IsVisitFault told old visited (Unlawful page) = (is_own old page ≡ true) × (visited page ≡ true) × Says (known told old page) NotItsImage
IsVisitFault told old visited Home = Unit {0}
IsVisitFault told old visited NoMemory = Unit {0}
IsVisitFault told old visited (Bad page) = ⊥
IsVisitFault told old visited (Pending page) = ⊥
IsVisitFault told old visited (TooOld snapshot horizon) = ⊥
