use Rattle.std.proofs.Common.{refl}
use Rattle.ag_rules.specs.Plan.{Block_write}
use Rattle.ag_replica.proofs.Singles.{wrote-one}
use Rattle.ag_replica.proofs.writing.append.Goals as goal

pub returns-clause-wrote : goal.returns-clause-wrote
returns-clause-wrote g c =
    wrote-one g.D.Disk.reads c.args.up.now c.append.new.self (Block_write c.args.block.now.records) c.in_ok-append.ensures.performs c.requires.up refl c.requires.can
