-- A stripe as its contracts see it.
use Rattle.std.specs.Prelude.{ℕ}
use Rattle.ag_stripe.specs.Tables.{Table}

-- what is seen of a stripe: what memory keeps of its pages, its opening and its applied LSN, and the home of its images
pub record StripeView (H : Type 0) : Type 0 where
  pub table : Table
  pub opening : ℕ
  pub applied : ℕ
  pub home : H
