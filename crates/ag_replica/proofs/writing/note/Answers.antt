use Rattle.std.proofs.Common.{[], ◌∷◌, refl}
use Rattle.ag_rules.specs.Plan.{Note_write, noted}
use Rattle.ag_durable.specs.Views.{kept_of}
use Rattle.ag_replica.proofs.Singles.{wrote-one, can-reword}
use Rattle.ag_replica.proofs.writing.note.Goals as goal

pub returns-clause-wrote : goal.returns-clause-wrote
returns-clause-wrote g c =
    let reads = g.D.Disk.reads in
    wrote-one reads c.args.up.now c.note.new.self (Note_write c.args.page c.args.kind) c.in_ok-note.ensures.performs c.requires.up refl
    (can-reword reads c.args.up.now (Note_write c.args.page c.args.kind) (noted c.args.page c.args.kind (kept_of reads c.args.up.now.durable).suspects) refl c.requires.up)
