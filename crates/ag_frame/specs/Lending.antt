-- What the frames end as, once a borrow of a page has ended.
use Rattle.std.specs.Prelude.{ℕ, List, ◌∷◌, Option, Some}
use Rattle.std.specs.Borrow.{Fml, RattleType, MutBor, LendsIf}
use Rattle.ag_frame.specs.Frames.{without}
use Rattle.ag_frame.specs.contracts.frames.Frames.{the_row}

-- the page's frame goes first, with the last value written through r, and where no frame holds it all stays
abbrev pub LendsPage : (T : RattleType) → MutBor (List (Option (ℕ × T.Denot))) → ℕ → Option (MutBor T.Denot) → Fml
LendsPage T s page r = LendsIf (the_row T) T s r (λ w. Some (page, w) ∷ without page s.now) s.now
