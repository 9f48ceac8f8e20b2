use Rattle.std.proofs.Common.{◌≡◌, ◌<◌, ℕ, [], length, get_or}
use Rattle.ag_pages.proofs.flush.write_of.Given as goal

-- the sectors before this one are long
abbrev pub invariant-loop-sector : goal.invariant-loop-sector
invariant-loop-sector l = (k : ℕ) → k < l.sector-index → length (get_or l.image k []) ≡ 512
