use Rattle.ag_wire.proofs.Messages.{spelling-once, reading_again}
use Rattle.ag_wire.proofs.laws.spellings.Goals as goal

pub returns : goal.returns
returns c = record { apart = spelling-once; again = reading_again }
