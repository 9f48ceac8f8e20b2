use Rattle.std.proofs.Common.{◌≡◌, Some, true, sym, ap, ◌∙◌, arith}
use Rattle.ag_store.specs.Views.{MemoryView, StoreView}
use Rattle.ag_store.proofs.Asked.{value_now, known_at, page_is, data_page, read_store, read_view, value_seen}
use Rattle.ag_store.proofs.store.Store.value_of.Goals as goal

pub value_by-requires-clause-home : goal.value_by-requires-clause-home
value_by-requires-clause-home g c = c.self.invariant.stands (ap (λ (v : StoreView). v.sound) c.self.view_is ∙ c.requires.sound)

pub value_by-requires-clause-page : goal.value_by-requires-clause-page
value_by-requires-clause-page g c =
    let d = g.D.Disk in
    let i = c.self.inside in
    let m : MemoryView = record { log = c.memory.inside.log; pages = c.memory.inside.pages; redo = c.memory.inside.redo } in
    let has : i.memory ≡ Some m = sym c.take.ensures.value ∙ c.in-Some.is ∙ ap (λ (v : MemoryView). Some v) (sym c.memory.view_is) in
    let sound : i.is_sound ≡ true = ap (λ (v : StoreView). v.sound) c.self.view_is ∙ c.requires.sound in
    page_is d.size d.keeps d.reads d.may_hold i.disk i.pages i.memory i.is_sound m c.self.invariant sound has c.args.page (data_page d.size d.keeps d.reads d.may_hold i.disk i.pages i.memory i.is_sound m c.self.invariant sound has (d.faults i.disk.disk) c.args.self.now c.self.view_is c.args.page c.requires.page)

pub value_by-requires-clause-known : goal.value_by-requires-clause-known
value_by-requires-clause-known g c =
    let d = g.D.Disk in
    let i = c.self.inside in
    let m : MemoryView = record { log = c.memory.inside.log; pages = c.memory.inside.pages; redo = c.memory.inside.redo } in
    let has : i.memory ≡ Some m = sym c.take.ensures.value ∙ c.in-Some.is ∙ ap (λ (v : MemoryView). Some v) (sym c.memory.view_is) in
    let sound : i.is_sound ≡ true = ap (λ (v : StoreView). v.sound) c.self.view_is ∙ c.requires.sound in
    (value_now d.size d.keeps d.reads d.may_hold i.disk i.pages i.memory i.is_sound m c.self.invariant sound has c.args.page, known_at d.size d.keeps d.reads d.may_hold i.disk i.pages i.memory i.is_sound m c.self.invariant sound has c.args.page (data_page d.size d.keeps d.reads d.may_hold i.disk i.pages i.memory i.is_sound m c.self.invariant sound has (d.faults i.disk.disk) c.args.self.now c.self.view_is c.args.page c.requires.page))

pub invariant_of-self : goal.invariant_of-self
invariant_of-self g c =
    let d = g.D.Disk in
    let i = c.self.inside in
    let m : MemoryView = record { log = c.memory.inside.log; pages = c.memory.inside.pages; redo = c.memory.inside.redo } in
    let has : i.memory ≡ Some m = sym c.take.ensures.value ∙ c.in-Some.is ∙ ap (λ (v : MemoryView). Some v) (sym c.memory.view_is) in
    let sound : i.is_sound ≡ true = ap (λ (v : StoreView). v.sound) c.self.view_is ∙ c.requires.sound in
    read_store d.size d.keeps d.reads d.may_hold i.disk i.pages i.memory i.is_sound m c.self.invariant sound has c.value_by.new.pages c.value_by.ensures.pages c.value_by.new.disk c.value_by.ensures.disk (omega (arith, c.self.invariant.room, c.value_by.ensures.size))

pub returns-in-Ok-clause-value : goal.returns-in-Ok-clause-value
returns-in-Ok-clause-value g c =
    let d = g.D.Disk in
    let i = c.self.inside in
    let m : MemoryView = record { log = c.memory.inside.log; pages = c.memory.inside.pages; redo = c.memory.inside.redo } in
    let has : i.memory ≡ Some m = sym c.take.ensures.value ∙ c.in-Some.is ∙ ap (λ (v : MemoryView). Some v) (sym c.memory.view_is) in
    let sound : i.is_sound ≡ true = ap (λ (v : StoreView). v.sound) c.self.view_is ∙ c.requires.sound in
    value_seen d.size d.keeps d.reads d.may_hold i.disk i.pages i.memory i.is_sound m c.self.invariant sound has (d.faults i.disk.disk) c.args.self.now c.self.view_is c.args.page c.in-Ok.value c.requires.page c.in-Ok.ensures.value

pub returns-in-Ok-clause-store : goal.returns-in-Ok-clause-store
returns-in-Ok-clause-store g c =
    let d = g.D.Disk in
    let i = c.self.inside in
    let m : MemoryView = record { log = c.memory.inside.log; pages = c.memory.inside.pages; redo = c.memory.inside.redo } in
    let has : i.memory ≡ Some m = sym c.take.ensures.value ∙ c.in-Some.is ∙ ap (λ (v : MemoryView). Some v) (sym c.memory.view_is) in
    let sound : i.is_sound ≡ true = ap (λ (v : StoreView). v.sound) c.self.view_is ∙ c.requires.sound in
    read_view d.size d.keeps d.reads d.may_hold i.disk i.pages i.memory i.is_sound m c.self.invariant sound has c.value_by.new.pages c.value_by.ensures.pages c.value_by.new.disk c.value_by.ensures.disk i.is_sound (d.faults i.disk.disk) (d.faults c.value_by.new.disk.disk) ∙ ap (λ (v : StoreView). record v { sound = i.is_sound; faults = d.faults c.value_by.new.disk.disk }) c.self.view_is ∙ ap (λ b. record c.args.self.now { sound = b; faults = d.faults c.value_by.new.disk.disk }) (sound ∙ sym c.requires.sound)
