use Rattle.ag_node.proofs.OpeningSteps.{node_opened}
use Rattle.ag_node.proofs.node.Node.opening.Goals as goal

pub returns-in-Ok-opening-clause-node : goal.returns-in-Ok-opening-clause-node
returns-in-Ok-opening-clause-node g c =
    let home = c.in-Ok-opening.home in
    let memory = c.in-Ok.memory in
    node_opened c.args.config.now c.args.leads home c.all_at.result c.new.result memory.synced memory.peers.items
    c.in-Ok-opening.ensures.home c.all_at.ensures c.new.ensures c.in-Ok.ensures.synced c.in-Ok.ensures.peers
