use Rattle.std.proofs.Common.{ap}
use Rattle.ag_outside.specs.Disks.{Image, or_zeros}
use Rattle.ag_kept_t.proofs.replicas.opened.Goals as goal

pub opened-requires-clause-zeros : goal.opened-requires-clause-zeros
opened-requires-clause-zeros c = λ at. ap (λ (image : Image). or_zeros (image at)) c.new-disk.ensures.reads
