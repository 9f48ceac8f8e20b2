use Rattle.std.proofs.Common.{◌≡◌, ℕ, ◌<◌, false}
use Rattle.ag_rules.specs.AckEvent.{is_late}
use Rattle.ag_capture.proofs.capture.Capture.first_late.Given as goal

abbrev pub invariant-loop-m : goal.invariant-loop-m
invariant-loop-m l = (k : ℕ) → k < l.m → is_late l.self.peers l.lsn l.synced k ≡ false
