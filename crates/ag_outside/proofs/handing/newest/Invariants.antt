use Rattle.std.proofs.Common.{◌≡◌, None, drop}
use Rattle.ag_outside.specs.Disks.{put_all}
use Rattle.ag_outside.proofs.handing.newest.Given as goal

abbrev pub invariant-writes : goal.invariant-writes
invariant-writes l = put_all (λ _. l.found) (drop l.write-index l.unsynced) l.at ≡ put_all (λ _. None) l.unsynced l.at
