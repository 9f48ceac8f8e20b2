use Rattle.ag_suspect.proofs.Found.{blank}
use Rattle.ag_suspect.proofs.laws.blank_disks.Goals as goal

pub returns : goal.returns
returns c = blank
