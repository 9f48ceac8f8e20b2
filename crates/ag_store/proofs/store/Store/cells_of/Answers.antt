use Rattle.std.proofs.Common.{ap, ◌∙◌, arith}
use Rattle.ag_store.specs.Views.{StoreView}
use Rattle.ag_store.proofs.Read.{same_store, same_view, place_of, cells_seen}
use Rattle.ag_store.proofs.store.Store.cells_of.Goals as goal

pub cells_on-requires-clause-home : goal.cells_on-requires-clause-home
cells_on-requires-clause-home g c = c.self.invariant.stands (ap (λ (v : StoreView). v.sound) c.self.view_is ∙ c.requires.sound)

pub cells_on-requires-clause-page : goal.cells_on-requires-clause-page
cells_on-requires-clause-page g c =
    let d = g.D.Disk in
    let i = c.self.inside in
    place_of d.size d.keeps d.reads d.may_hold i.disk i.pages i.memory i.is_sound (d.faults i.disk.disk) c.args.self.now c.self.view_is c.args.page c.self.invariant.high c.requires.page

pub invariant_of-self : goal.invariant_of-self
invariant_of-self g c =
    let d = g.D.Disk in
    let i = c.self.inside in
    same_store d.size d.keeps d.reads d.may_hold i.disk i.pages i.memory i.is_sound c.cells_on.new.disk c.cells_on.ensures.disk c.self.invariant (omega (arith, c.self.invariant.room, c.cells_on.ensures.size))

pub returns-in-Ok-clause-cells : goal.returns-in-Ok-clause-cells
returns-in-Ok-clause-cells g c =
    let d = g.D.Disk in
    let i = c.self.inside in
    c.in-Ok.ensures.cells ∙ cells_seen d.size d.keeps d.reads d.may_hold i.disk i.pages i.memory i.is_sound (d.faults i.disk.disk) c.args.self.now c.self.view_is c.args.page c.requires.page

pub returns-in-Ok-clause-store : goal.returns-in-Ok-clause-store
returns-in-Ok-clause-store g c =
    let d = g.D.Disk in
    let i = c.self.inside in
    same_view d.size d.keeps d.reads d.may_hold i.disk i.pages i.memory i.is_sound c.cells_on.new.disk c.cells_on.ensures.disk (d.faults i.disk.disk) (d.faults c.cells_on.new.disk.disk)
    ∙ ap (λ (v : StoreView). record v { faults = d.faults c.cells_on.new.disk.disk }) c.self.view_is
