use Rattle.ag_law_sessions.proofs.RunSessions.{sessions_go_forward}
use Rattle.ag_law_sessions.proofs.sessions_never_fall.Goals as goal

pub returns : goal.returns
returns c = record { sessions = sessions_go_forward }
