use Rattle.std.proofs.Common.{◌≡◌, true, ◌<◌, ◌∙◌, length, get_or, sym, ap, arith}
use Rattle.std.proofs.lemmas.List.{get_or_read}
use Rattle.ag_rules.specs.Group.{has}
use Rattle.ag_rules.specs.Replica.{no_peer}
use Rattle.ag_capture.specs.Captured.{peer_of}
use Rattle.ag_capture.proofs.Members.{late_first, late_none, late_is}
use Rattle.ag_capture.proofs.capture.Capture.first_late.Goals as goal

pub returns-then-peer-lsn : goal.returns-then-peer-lsn
returns-then-peer-lsn c =
    let member : has c.args.synced c.loop-m.m ≡ true = sym c.has_member.ensures ∙ c.if-has_member.true in
    let within : c.from.result < length c.self.inside.peers = omega (arith, c.self.invariant, c.from.ensures) in
    let found = ap (λ p. p.hardened) (get_or_read c.self.inside.peers c.from.result c.index-self-from.result within c.index-self-from.is no_peer) in
    let read = ap (λ p. p.hardened) c.index-self-from.is in
    let view = ap (λ p. p.hardened) c.peer.view_is in
    let whole = ap (λ s. (get_or s.peers c.from.result no_peer).hardened) c.self.view_is in
    let place = ap (λ k. (peer_of c.args.self.now k).hardened) c.from.ensures in
    let below : (peer_of c.args.self.now c.loop-m.m).hardened < c.args.lsn = omega (arith, found, read, view, whole, place, c.if-peer-lsn.true) in
    late_first c.args.self.now c.args.lsn c.args.synced c.loop-m.m (omega arith) (late_is c.args.self.now c.args.lsn c.args.synced c.loop-m.m member below) c.loop-m.invariant

pub returns : goal.returns
returns c = late_none c.args.self.now c.args.lsn c.args.synced (λ k h. c.loop-m.invariant k (omega arith))
