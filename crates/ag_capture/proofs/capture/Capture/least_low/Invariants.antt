use Rattle.std.proofs.Common.{◌≡◌, map, min, take}
use Rattle.std.specs.List.{filter, fold}
use Rattle.ag_capture.proofs.capture.Capture.least_low.Given as goal

abbrev pub invariant-loop-peer : goal.invariant-loop-peer
invariant-loop-peer l = l.least ≡ fold min l.start (map (λ p. p.low) (filter (λ p. p.connected) (take l.peer-index l.self.peers)))
