use Rattle.ag_session.proofs.NeverFall.{above_token, never_falls}
use Rattle.ag_session.proofs.laws.session_law.Goals as goal

pub returns-clause-never_falls : goal.returns-clause-never_falls
returns-clause-never_falls c = never_falls

pub returns-clause-above_token : goal.returns-clause-above_token
returns-clause-above_token c = above_token
