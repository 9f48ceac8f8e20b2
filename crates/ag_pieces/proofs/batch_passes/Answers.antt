use Rattle.ag_pieces.proofs.Passed.{batch_passed}
use Rattle.ag_pieces.proofs.batch_passes.Goals as goal

pub returns : goal.returns
returns g c = batch_passed g.D.Disk.keeps g.D.Disk.reads g.D.Disk.may_hold g.D.Disk.faults
