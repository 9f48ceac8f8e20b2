use Rattle.std.proofs.Common.{◌≡◌, get_or, Some, true, false, sym, ap, ◌∙◌, subst, arith}
use Rattle.ag_model.specs.Page.{value}
use Rattle.ag_model.specs.Rows.{page_of, stripe_of}
use Rattle.ag_store.specs.Asking.{IsTooOldBy}
use Rattle.ag_store.specs.Views.{MemoryView, StoreView}
use Rattle.ag_store.specs.declared.fault.ReadFault.{ReadFault}
use Rattle.ag_store.proofs.Asked.{value_now, known_row, read_store, read_view, row_seen, young_seen, old_seen}
use Rattle.ag_store.proofs.store.Store.row_at.Goals as goal

pub row_by-requires-clause-home : goal.row_by-requires-clause-home
row_by-requires-clause-home g c = c.self.invariant.stands (ap (λ (v : StoreView). v.sound) c.self.view_is ∙ c.requires.sound)

pub row_by-requires-clause-known : goal.row_by-requires-clause-known
row_by-requires-clause-known g c =
    let d = g.D.Disk in
    let i = c.self.inside in
    let m : MemoryView = record { log = c.memory.inside.log; pages = c.memory.inside.pages; redo = c.memory.inside.redo } in
    let has : i.memory ≡ Some m = sym c.take.ensures.value ∙ c.in-Some.is ∙ ap (λ (v : MemoryView). Some v) (sym c.memory.view_is) in
    let sound : i.is_sound ≡ true = ap (λ (v : StoreView). v.sound) c.self.view_is ∙ c.requires.sound in
    (value_now d.size d.keeps d.reads d.may_hold i.disk i.pages i.memory i.is_sound m c.self.invariant sound has (page_of i.pages c.args.key), known_row d.size d.keeps d.reads d.may_hold i.disk i.pages i.memory i.is_sound m c.self.invariant sound has c.args.key)

pub invariant_of-self : goal.invariant_of-self
invariant_of-self g c =
    let d = g.D.Disk in
    let i = c.self.inside in
    let m : MemoryView = record { log = c.memory.inside.log; pages = c.memory.inside.pages; redo = c.memory.inside.redo } in
    let has : i.memory ≡ Some m = sym c.take.ensures.value ∙ c.in-Some.is ∙ ap (λ (v : MemoryView). Some v) (sym c.memory.view_is) in
    let sound : i.is_sound ≡ true = ap (λ (v : StoreView). v.sound) c.self.view_is ∙ c.requires.sound in
    read_store d.size d.keeps d.reads d.may_hold i.disk i.pages i.memory i.is_sound m c.self.invariant sound has c.row_by.new.pages c.row_by.ensures.pages c.row_by.new.disk c.row_by.ensures.disk (omega (arith, c.self.invariant.room, c.row_by.ensures.size))

pub invariant_of-self-in-Err-TooOld : goal.invariant_of-self-in-Err-TooOld
invariant_of-self-in-Err-TooOld g c =
    let d = g.D.Disk in
    let i = c.self.inside in
    let m : MemoryView = record { log = c.memory.inside.log; pages = c.memory.inside.pages; redo = c.memory.inside.redo } in
    let has : i.memory ≡ Some m = sym c.take.ensures.value ∙ c.in-Some.is ∙ ap (λ (v : MemoryView). Some v) (sym c.memory.view_is) in
    let sound : i.is_sound ≡ true = ap (λ (v : StoreView). v.sound) c.self.view_is ∙ c.requires.sound in
    read_store d.size d.keeps d.reads d.may_hold i.disk i.pages i.memory i.is_sound m c.self.invariant sound has c.row_by.new.pages c.row_by.ensures.pages c.row_by.new.disk c.row_by.ensures.disk (omega (arith, c.self.invariant.room, c.row_by.ensures.size))

pub returns-in-Ok-clause-row : goal.returns-in-Ok-clause-row
returns-in-Ok-clause-row g c =
    let d = g.D.Disk in
    let i = c.self.inside in
    let m : MemoryView = record { log = c.memory.inside.log; pages = c.memory.inside.pages; redo = c.memory.inside.redo } in
    let has : i.memory ≡ Some m = sym c.take.ensures.value ∙ c.in-Some.is ∙ ap (λ (v : MemoryView). Some v) (sym c.memory.view_is) in
    let sound : i.is_sound ≡ true = ap (λ (v : StoreView). v.sound) c.self.view_is ∙ c.requires.sound in
    row_seen d.size d.keeps d.reads d.may_hold i.disk i.pages i.memory i.is_sound m c.self.invariant sound has (d.faults i.disk.disk) c.args.self.now c.self.view_is c.args.key c.args.snapshot c.picks_are_rows.ensures c.in-Ok.row c.requires.redone c.in-Ok.ensures.row

pub returns-in-Ok-clause-young : goal.returns-in-Ok-clause-young
returns-in-Ok-clause-young g c =
    let d = g.D.Disk in
    let i = c.self.inside in
    let m : MemoryView = record { log = c.memory.inside.log; pages = c.memory.inside.pages; redo = c.memory.inside.redo } in
    let has : i.memory ≡ Some m = sym c.take.ensures.value ∙ c.in-Some.is ∙ ap (λ (v : MemoryView). Some v) (sym c.memory.view_is) in
    let sound : i.is_sound ≡ true = ap (λ (v : StoreView). v.sound) c.self.view_is ∙ c.requires.sound in
    young_seen d.size d.keeps d.reads d.may_hold i.disk i.pages i.memory i.is_sound m c.self.invariant sound has (d.faults i.disk.disk) c.args.self.now c.self.view_is c.args.key c.args.snapshot c.in-Ok.row c.in-Ok.ensures.row

pub returns-in-Ok-clause-store : goal.returns-in-Ok-clause-store
returns-in-Ok-clause-store g c =
    let d = g.D.Disk in
    let i = c.self.inside in
    let m : MemoryView = record { log = c.memory.inside.log; pages = c.memory.inside.pages; redo = c.memory.inside.redo } in
    let has : i.memory ≡ Some m = sym c.take.ensures.value ∙ c.in-Some.is ∙ ap (λ (v : MemoryView). Some v) (sym c.memory.view_is) in
    let sound : i.is_sound ≡ true = ap (λ (v : StoreView). v.sound) c.self.view_is ∙ c.requires.sound in
    read_view d.size d.keeps d.reads d.may_hold i.disk i.pages i.memory i.is_sound m c.self.invariant sound has c.row_by.new.pages c.row_by.ensures.pages c.row_by.new.disk c.row_by.ensures.disk i.is_sound (d.faults i.disk.disk) (d.faults c.row_by.new.disk.disk) ∙ ap (λ (v : StoreView). record v { sound = i.is_sound; faults = d.faults c.row_by.new.disk.disk }) c.self.view_is

pub returns-in-Err-TooOld-clause-too_old : goal.returns-in-Err-TooOld-clause-too_old
returns-in-Err-TooOld-clause-too_old g c =
    let d = g.D.Disk in
    let i = c.self.inside in
    let m : MemoryView = record { log = c.memory.inside.log; pages = c.memory.inside.pages; redo = c.memory.inside.redo } in
    let has : i.memory ≡ Some m = sym c.take.ensures.value ∙ c.in-Some.is ∙ ap (λ (v : MemoryView). Some v) (sym c.memory.view_is) in
    let sound : i.is_sound ≡ true = ap (λ (v : StoreView). v.sound) c.self.view_is ∙ c.requires.sound in
    subst (λ (e : ReadFault). IsTooOldBy c.args.snapshot (value c.args.self.now.pages c.args.self.now.kept.log.records (get_or c.args.self.now.applied (stripe_of (page_of c.args.self.now.pages c.args.key)) 0) (page_of c.args.self.now.pages c.args.key)).horizon e) c.in-Err-TooOld.field-0-is (old_seen d.size d.keeps d.reads d.may_hold i.disk i.pages i.memory i.is_sound m c.self.invariant sound has (d.faults i.disk.disk) c.args.self.now c.self.view_is c.args.key c.args.snapshot c.in-Err-TooOld.field-0 c.in-Err-TooOld.ensures.too_old)

pub returns-in-Err-TooOld-clause-store : goal.returns-in-Err-TooOld-clause-store
returns-in-Err-TooOld-clause-store g c =
    let d = g.D.Disk in
    let i = c.self.inside in
    let m : MemoryView = record { log = c.memory.inside.log; pages = c.memory.inside.pages; redo = c.memory.inside.redo } in
    let has : i.memory ≡ Some m = sym c.take.ensures.value ∙ c.in-Some.is ∙ ap (λ (v : MemoryView). Some v) (sym c.memory.view_is) in
    let sound : i.is_sound ≡ true = ap (λ (v : StoreView). v.sound) c.self.view_is ∙ c.requires.sound in
    read_view d.size d.keeps d.reads d.may_hold i.disk i.pages i.memory i.is_sound m c.self.invariant sound has c.row_by.new.pages c.row_by.ensures.pages c.row_by.new.disk c.row_by.ensures.disk i.is_sound (d.faults i.disk.disk) (d.faults c.row_by.new.disk.disk) ∙ ap (λ (v : StoreView). record v { sound = i.is_sound; faults = d.faults c.row_by.new.disk.disk }) c.self.view_is

pub returns-in-Err-Gave-clause-store : goal.returns-in-Err-Gave-clause-store
returns-in-Err-Gave-clause-store g c =
    let d = g.D.Disk in
    let i = c.self.inside in
    let m : MemoryView = record { log = c.memory.inside.log; pages = c.memory.inside.pages; redo = c.memory.inside.redo } in
    let has : i.memory ≡ Some m = sym c.take.ensures.value ∙ c.in-Some.is ∙ ap (λ (v : MemoryView). Some v) (sym c.memory.view_is) in
    let sound : i.is_sound ≡ true = ap (λ (v : StoreView). v.sound) c.self.view_is ∙ c.requires.sound in
    read_view d.size d.keeps d.reads d.may_hold i.disk i.pages i.memory i.is_sound m c.self.invariant sound has c.row_by.new.pages c.row_by.ensures.pages c.row_by.new.disk c.row_by.ensures.disk false (d.faults i.disk.disk) (d.faults c.row_by.new.disk.disk) ∙ ap (λ (v : StoreView). record v { sound = false; faults = d.faults c.row_by.new.disk.disk }) c.self.view_is
