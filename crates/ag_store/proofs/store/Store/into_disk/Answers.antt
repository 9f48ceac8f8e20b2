use Rattle.ag_store.proofs.Handed.{handed_cells, handed_images}
use Rattle.ag_store.proofs.store.Store.into_disk.Goals as goal

pub returns-clause-images : goal.returns-clause-images
returns-clause-images g c sound =
    let d = g.D.Disk in
    let i = c.self.inside in
    handed_images d.size d.keeps d.reads d.may_hold i.disk i.pages i.memory i.is_sound c.self.invariant (d.faults i.disk.disk) c.args.self c.self.view_is sound (d.reads c.into_inner.result) c.into_inner.ensures.reads

pub returns-clause-cells : goal.returns-clause-cells
returns-clause-cells g c sound page here =
    let d = g.D.Disk in
    let i = c.self.inside in
    handed_cells d.size d.keeps d.reads d.may_hold i.disk i.pages i.memory i.is_sound c.self.invariant (d.faults i.disk.disk) c.args.self c.self.view_is sound (d.reads c.into_inner.result) c.into_inner.ensures.reads page here
