use Rattle.ag_inplace.proofs.Fields.{version-is}
use Rattle.ag_inplace.proofs.entries.version_in.Goals as goal

pub returns : goal.returns
returns c = λ w h. version-is _ _ _ _ _ w (c.lsn_in.ensures w h) (c.txn_in.ensures w h) (c.commit_in.ensures w h) (c.key_in.ensures w h) (c.change_in.ensures w h)
