use Rattle.std.proofs.Common.{◌≤◌}
use Rattle.ag_threads_t.proofs.Logs.{AreNew}
use Rattle.ag_threads_t.proofs.Pages.{standing_of}
use Rattle.ag_threads_t.proofs.opening.stripes.Given as goal

abbrev pub invariant-loop-number : goal.invariant-loop-number
invariant-loop-number g l = record { new : AreNew (λ s. standing_of s.number s.opening s.applied s.value) l.all.items l.number; most : l.number ≤ 16 }
