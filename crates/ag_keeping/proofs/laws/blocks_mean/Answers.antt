use Rattle.std.proofs.Common.{sym, subst}
use Rattle.std.proofs.lemmas.List.{append-nil}
use Rattle.ag_outside.specs.Disks.{put_all, writes}
use Rattle.ag_logstore.specs.Stored.{sectors_of}
use Rattle.ag_logstore.specs.Stores.{IsCurrent, sector_after}
use Rattle.ag_kept.specs.Starting.{own_log}
use Rattle.ag_keeping.specs.Keeping.{store_on, next_block}
use Rattle.ag_keeping.proofs.Meanings.{block_means}
use Rattle.ag_keeping.proofs.Blocks.{block_current}
use Rattle.ag_keeping.proofs.laws.blocks_mean.Goals as goal

pub returns-clause-means : goal.returns-clause-means
returns-clause-means c = λ pages replica image term new h cur f. block_means pages replica image h cur term new f

pub returns-clause-current : goal.returns-clause-current
returns-clause-current c = λ pages replica image term new h cur f.
    let ws = writes (sector_after (own_log image)) (sectors_of (next_block image term new)) in
    subst (λ vs. IsCurrent (put_all image vs) (store_on (put_all image vs))) (sym (append-nil ws)) (block_current pages replica image h cur term new f)
