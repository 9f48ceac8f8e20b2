use Rattle.std.proofs.Common.{refl}
use Rattle.ag_rules.specs.Plan.{Master_write}
use Rattle.ag_writes.specs.Writes.{master_of}
use Rattle.ag_replica.proofs.Singles.{wrote-one}
use Rattle.ag_replica.proofs.writing.save.Goals as goal

pub returns-clause-wrote : goal.returns-clause-wrote
returns-clause-wrote g c =
    wrote-one g.D.Disk.reads c.args.up.now c.save.new.self (Master_write (master_of c.args.words.now) c.args.log_end) c.in_ok-save.ensures.performs c.requires.up refl c.requires.can
