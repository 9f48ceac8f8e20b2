use Rattle.ag_pagestore.proofs.Writings.{all_same, all_synced, all_outside}
use Rattle.ag_pagestore.proofs.laws.writings.Goals as goal

pub returns-clause-same : goal.returns-clause-same
returns-clause-same g c = λ old new ws. all_same g.D.Disk.size g.D.Disk.keeps g.D.Disk.reads g.D.Disk.may_hold g.D.Disk.did g.D.Disk.moment g.D.Disk.left_since ws old new

pub returns-clause-synced : goal.returns-clause-synced
returns-clause-synced g c = λ old new ws. all_synced g.D.Disk.size g.D.Disk.keeps g.D.Disk.reads g.D.Disk.may_hold g.D.Disk.did g.D.Disk.moment g.D.Disk.left_since ws old new

pub returns-clause-outside : goal.returns-clause-outside
returns-clause-outside g c = λ old new ws at. all_outside g.D.Disk.size g.D.Disk.keeps g.D.Disk.reads g.D.Disk.may_hold g.D.Disk.did g.D.Disk.moment g.D.Disk.left_since ws old new at
