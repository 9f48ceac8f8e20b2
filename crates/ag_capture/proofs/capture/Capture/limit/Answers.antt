use Rattle.std.proofs.Common.{◌∷◌, ◌∙◌, sym, ap, min}
use Rattle.std.specs.List.{fold}
use Rattle.ag_rules.specs.TrimEvent.{connected_lows}
use Rattle.ag_capture.proofs.Least.{least-fold}
use Rattle.ag_capture.proofs.capture.Capture.limit.Goals as goal

pub returns-in-Some : goal.returns-in-Some
returns-in-Some c =
    rw c.in-Some.is (c.least_low.ensures ∙ ap (λ x. fold min x (connected_lows c.args.self.now.peers)) c.min.ensures ∙ sym (least-fold c.args.own (c.in-Some.snapshot ∷ connected_lows c.args.self.now.peers)))

pub returns-in-None : goal.returns-in-None
returns-in-None c =
    rw c.in-None.is (c.least_low-in-None.ensures ∙ sym (least-fold c.args.own (connected_lows c.args.self.now.peers)))
