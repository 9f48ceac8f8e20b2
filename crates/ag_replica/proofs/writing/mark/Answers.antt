use Rattle.std.proofs.Common.{[], ◌∷◌, map, refl}
use Rattle.ag_rules.specs.Plan.{Repaired_write, repaired_row}
use Rattle.ag_durable.specs.Views.{kept_of}
use Rattle.ag_replica.proofs.Singles.{wrote-one, can-reword}
use Rattle.ag_replica.proofs.writing.mark.Goals as goal

pub returns-clause-wrote : goal.returns-clause-wrote
returns-clause-wrote g c =
    let reads = g.D.Disk.reads in
    wrote-one reads c.args.up.now c.mark.new.self (Repaired_write c.args.page) c.in_ok-mark.ensures.performs c.requires.up refl
    (can-reword reads c.args.up.now (Repaired_write c.args.page) (map (repaired_row c.args.page) (kept_of reads c.args.up.now.durable).suspects) refl c.requires.up)
