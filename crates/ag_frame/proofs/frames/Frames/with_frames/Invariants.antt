use Rattle.std.proofs.Common.{◌≡◌, None, length}
use Rattle.std.specs.List.{AllByRecursion}
use Rattle.ag_frame.specs.Frames.{shown, AllBelow}
use Rattle.ag_frame.proofs.frames.Frames.with_frames.Given as goal

-- each number so far has a free frame
abbrev pub invariant-loop-number : goal.invariant-loop-number
invariant-loop-number g l = (length l.cache.entries ≡ l.number) × AllBelow l.number l.cache.entries × AllByRecursion (λ e. shown e.1 ≡ None) l.cache.entries × (l.cache.cap ≡ l.count)
