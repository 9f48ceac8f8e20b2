use Rattle.ag_law_proper.proofs.Runs.{logs_have}
use Rattle.ag_law_room.specs.Room.{HasRoom}
use Rattle.ag_law_room.proofs.Found.{FoundLog, FoundLead, found_law, has_room}
use Rattle.ag_law_room.proofs.pages_have_room.Goals as goal

pub returns : goal.returns
returns c = record { room = λ config es h is. logs_have (HasRoom config.pages) (FoundLog config.pages) (FoundLead config.pages) config es (found_law config.pages) (has_room config.pages) h is }
