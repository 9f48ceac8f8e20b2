-- A stripe as the layers above see it.
use Rattle.std.specs.Prelude.{ℕ, [], Bool, true, false}
use Rattle.ag_model.specs.declared.value.PageValue.{PageValue}
use Rattle.ag_model.specs.Stripes.{Standing}
use Rattle.ag_stripe.specs.Known.{Told, Known, known}
use Rattle.ag_stripe.specs.Known.Known.{Value, NotSound, NotItsImage, Untold}
use Rattle.ag_stripe.specs.Tables.{Table}

-- the value of a page, where it is known, and else that of no page
abbrev pub value_or_none : Known → PageValue
value_or_none (Value v) = v
value_or_none NotSound = record { page = 0; lsn = 0; horizon = 0; versions = [] }
value_or_none NotItsImage = record { page = 0; lsn = 0; horizon = 0; versions = [] }
value_or_none Untold = record { page = 0; lsn = 0; horizon = 0; versions = [] }

-- whether the image isn't sound
abbrev pub is_bad : Known → Bool
is_bad NotSound = true
is_bad (Value v) = false
is_bad NotItsImage = false
is_bad Untold = false

-- how a stripe stands, by its pages and its LSNs
abbrev pub standing : Told → Table → ℕ → ℕ → Standing
standing told t opening applied = record {
  number = t.number;
  pages = t.pages;
  opening = opening;
  applied = applied;
  value = λ page. value_or_none (known told t page);
  is_bad = λ page. is_bad (known told t page);
  is_pending = λ page. false;
}
