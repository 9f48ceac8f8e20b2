use Rattle.std.proofs.Common.{refl}
use Rattle.ag_durable_t.proofs.held.reloaded.Goals as goal

pub load-requires : goal.load-requires
load-requires c = record { can = c.into_disk.ensures.can (c.if-not-is_known.ensures refl) }
