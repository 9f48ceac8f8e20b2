use Rattle.ag_node.proofs.OpeningSteps.{one_more}
use Rattle.ag_node.proofs.opening.push_secondaries.Goals as goal

pub loop-preserved : goal.loop-preserved
loop-preserved c = one_more c.args.peers.now.items c.loop.peers.items c.push.new.self.items c.args.modes.now c.loop.index c.loop-test.true c.loop.invariant c.in_ok-push.ensures.items
