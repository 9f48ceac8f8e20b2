-- Where a node stands.
use Rattle.std.specs.Prelude.{ℕ, Bool}

-- whether it is up, leads and follows, and how often it was started; 1 at the opening
pub record Activity : Type 0 where
  pub up : Bool
  pub leads : Bool
  pub follows : Bool
  pub incarnation : ℕ
