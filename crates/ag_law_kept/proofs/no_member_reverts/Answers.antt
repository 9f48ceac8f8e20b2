use Rattle.ag_law_kept.proofs.Moments.{members_in_runs}
use Rattle.ag_law_kept.proofs.no_member_reverts.Goals as goal

pub returns : goal.returns
returns c = record { members = members_in_runs }
