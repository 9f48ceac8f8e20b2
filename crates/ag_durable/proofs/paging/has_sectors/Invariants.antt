use Rattle.std.proofs.Common.{◌≡◌, ◌<◌, ℕ, [], get_or, length}
use Rattle.ag_durable.proofs.paging.has_sectors.Given as goal

-- the sectors so far have 512 bytes
abbrev pub invariant-loop-place : goal.invariant-loop-place
invariant-loop-place l = (k : ℕ) → k < l.place → length (get_or l.image k []) ≡ 512
