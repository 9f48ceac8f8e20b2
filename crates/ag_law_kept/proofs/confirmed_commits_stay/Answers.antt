use Rattle.ag_law_kept.proofs.Local.{confirmed_stay}
use Rattle.ag_law_kept.proofs.confirmed_commits_stay.Goals as goal

pub returns : goal.returns
returns c = record { stays = confirmed_stay }
