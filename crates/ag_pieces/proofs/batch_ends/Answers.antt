use Rattle.ag_pieces.proofs.Broken.{batch_broke}
use Rattle.ag_pieces.proofs.batch_ends.Goals as goal

pub returns : goal.returns
returns g c = batch_broke g.D.Disk.keeps g.D.Disk.reads g.D.Disk.may_hold g.D.Disk.faults
