use Rattle.std.proofs.Common.{◌≡◌, ◌+◌, ◌≤◌, Ok, Some, true, length, sym, ap, ◌∙◌, subst}
use Rattle.std.specs.Prelude.{Option}
use Rattle.ag_model.specs.declared.record.Log.{Log}
use Rattle.ag_model.specs.Blocks.{with_block}
use Rattle.ag_model.specs.Proper.{IsProper}
use Rattle.ag_model.specs.Sizes.{block_sectors, free_sectors}
use Rattle.ag_outside.specs.Shown.{reads_of}
use Rattle.ag_kept.specs.declared.reach.Reach.{Reach}
use Rattle.ag_kept.specs.declared.reach.Reach.TheVariants.{End}
use Rattle.ag_kept.specs.Kept.{kept_on}
use Rattle.ag_kept.specs.Standing.{LeavesLog, reached_log}
use Rattle.ag_store.specs.Standing.{IsStore}
use Rattle.ag_store.specs.Views.{MemoryView, StoreView, hardened_store, store_on}
use Rattle.ag_store.proofs.Hardening.{same_log, store_up, store_down, seen_up, seen_down}
use Rattle.ag_store.proofs.Stores.{loaded_of}
use Rattle.ag_store.proofs.store.Store.harden.Goals as goal

pub append-requires-clause-first : goal.append-requires-clause-first
append-requires-clause-first g c =
    let d = g.D.Disk in
    let i = c.self.inside in
    let m : MemoryView = record { log = c.memory.inside.log; pages = c.memory.inside.pages; redo = c.memory.inside.redo } in
    let has : i.memory ≡ Some m = sym c.take.ensures.value ∙ c.in-Some.is ∙ ap (λ (v : MemoryView). Some v) (sym c.memory.view_is) in
    let sound : i.is_sound ≡ true = ap (λ (v : StoreView). v.sound) c.self.view_is ∙ c.requires.sound in
    let same = sym (ap (λ (v : StoreView). v.kept.log) c.self.view_is) ∙ same_log d.size d.keeps d.reads d.may_hold i.disk i.pages i.memory i.is_sound m c.self.invariant sound has in
    subst (λ (l : Log). c.args.block.now.first ≡ length l.records + 1) same c.requires.first

pub append-requires-clause-room : goal.append-requires-clause-room
append-requires-clause-room g c =
    let d = g.D.Disk in
    let i = c.self.inside in
    let m : MemoryView = record { log = c.memory.inside.log; pages = c.memory.inside.pages; redo = c.memory.inside.redo } in
    let has : i.memory ≡ Some m = sym c.take.ensures.value ∙ c.in-Some.is ∙ ap (λ (v : MemoryView). Some v) (sym c.memory.view_is) in
    let sound : i.is_sound ≡ true = ap (λ (v : StoreView). v.sound) c.self.view_is ∙ c.requires.sound in
    let same = sym (ap (λ (v : StoreView). v.kept.log) c.self.view_is) ∙ same_log d.size d.keeps d.reads d.may_hold i.disk i.pages i.memory i.is_sound m c.self.invariant sound has in
    subst (λ (l : Log). block_sectors c.args.block.now.records ≤ free_sectors l) same c.requires.room

pub append-requires-clause-open : goal.append-requires-clause-open
append-requires-clause-open g c =
    let d = g.D.Disk in
    let i = c.self.inside in
    let m : MemoryView = record { log = c.memory.inside.log; pages = c.memory.inside.pages; redo = c.memory.inside.redo } in
    let has : i.memory ≡ Some m = sym c.take.ensures.value ∙ c.in-Some.is ∙ ap (λ (v : MemoryView). Some v) (sym c.memory.view_is) in
    let sound : i.is_sound ≡ true = ap (λ (v : StoreView). v.sound) c.self.view_is ∙ c.requires.sound in
    (loaded_of d.size d.keeps d.reads d.may_hold i.disk i.pages i.memory i.is_sound m c.self.invariant sound has).log.is_open

pub append-requires-clause-ready : goal.append-requires-clause-ready
append-requires-clause-ready g c =
    let d = g.D.Disk in
    let i = c.self.inside in
    let m : MemoryView = record { log = c.memory.inside.log; pages = c.memory.inside.pages; redo = c.memory.inside.redo } in
    let has : i.memory ≡ Some m = sym c.take.ensures.value ∙ c.in-Some.is ∙ ap (λ (v : MemoryView). Some v) (sym c.memory.view_is) in
    let sound : i.is_sound ≡ true = ap (λ (v : StoreView). v.sound) c.self.view_is ∙ c.requires.sound in
    (loaded_of d.size d.keeps d.reads d.may_hold i.disk i.pages i.memory i.is_sound m c.self.invariant sound has).log.ready

pub invariant_of-self : goal.invariant_of-self
invariant_of-self g c =
    let d = g.D.Disk in
    let i = c.self.inside in
    let m : MemoryView = record { log = c.memory.inside.log; pages = c.memory.inside.pages; redo = c.memory.inside.redo } in
    let has : i.memory ≡ Some m = sym c.take.ensures.value ∙ c.in-Some.is ∙ ap (λ (v : MemoryView). Some v) (sym c.memory.view_is) in
    let sound : i.is_sound ≡ true = ap (λ (v : StoreView). v.sound) c.self.view_is ∙ c.requires.sound in
    let proper : IsProper i.pages (with_block (kept_on (reads_of d.reads i.disk) true).log c.args.block.now.records) = subst (λ (v : StoreView). IsProper v.pages (with_block v.kept.log c.args.block.now.records)) (sym c.self.view_is) c.requires.proper in
    let done = c.in-Ok-End.is ∙ ap (λ (r : Reach). Ok r) c.in-Ok-End.field-0-is in
    let whole = subst (λ (r : Reach). LeavesLog (reads_of d.reads i.disk) m.log.cut m.log.incarnation (reached_log m.log c.args.block.now.records r) (reads_of d.reads c.append.new.disk)) c.in-Ok-End.field-0-is c.in-Ok-End.ensures.log in
    store_up d.size d.keeps d.reads d.may_hold i.disk i.pages i.memory i.is_sound m c.self.invariant sound has c.append.new.disk c.args.block.now.records End c.in-Ok-End.ensures.settled whole c.append.ensures.size proper c.append.new.store (c.append.ensures.store done) (c.append.ensures.ready done)

pub invariant_of-self-in-Stop-1 : goal.invariant_of-self-in-Stop-1
invariant_of-self-in-Stop-1 g c =
    let d = g.D.Disk in
    let i = c.self.inside in
    let m : MemoryView = record { log = c.memory.inside.log; pages = c.memory.inside.pages; redo = c.memory.inside.redo } in
    let has : i.memory ≡ Some m = sym c.take.ensures.value ∙ c.in-Some.is ∙ ap (λ (v : MemoryView). Some v) (sym c.memory.view_is) in
    let sound : i.is_sound ≡ true = ap (λ (v : StoreView). v.sound) c.self.view_is ∙ c.requires.sound in
    let proper : IsProper i.pages (with_block (kept_on (reads_of d.reads i.disk) true).log c.args.block.now.records) = subst (λ (v : StoreView). IsProper v.pages (with_block v.kept.log c.args.block.now.records)) (sym c.self.view_is) c.requires.proper in
    subst (λ (o : Option MemoryView). IsStore d.size d.keeps d.reads d.may_hold c.append.new.disk i.pages o i.is_sound) (sym c.take.ensures.after) (store_down d.size d.keeps d.reads d.may_hold i.disk i.pages i.memory i.is_sound m c.self.invariant sound has c.append.new.disk c.args.block.now.records c.in-Ok-Stop.field-0 c.in-Ok-Stop.ensures.settled c.in-Ok-Stop.ensures.log c.append.ensures.size proper)

pub invariant_of-self-in-Fault-1 : goal.invariant_of-self-in-Fault-1
invariant_of-self-in-Fault-1 g c =
    let d = g.D.Disk in
    let i = c.self.inside in
    let m : MemoryView = record { log = c.memory.inside.log; pages = c.memory.inside.pages; redo = c.memory.inside.redo } in
    let has : i.memory ≡ Some m = sym c.take.ensures.value ∙ c.in-Some.is ∙ ap (λ (v : MemoryView). Some v) (sym c.memory.view_is) in
    let sound : i.is_sound ≡ true = ap (λ (v : StoreView). v.sound) c.self.view_is ∙ c.requires.sound in
    let proper : IsProper i.pages (with_block (kept_on (reads_of d.reads i.disk) true).log c.args.block.now.records) = subst (λ (v : StoreView). IsProper v.pages (with_block v.kept.log c.args.block.now.records)) (sym c.self.view_is) c.requires.proper in
    subst (λ (o : Option MemoryView). IsStore d.size d.keeps d.reads d.may_hold c.append.new.disk i.pages o i.is_sound) (sym c.take.ensures.after) (store_down d.size d.keeps d.reads d.may_hold i.disk i.pages i.memory i.is_sound m c.self.invariant sound has c.append.new.disk c.args.block.now.records c.in-Ok-Fault.field-0 c.in-Ok-Fault.ensures.settled c.in-Ok-Fault.ensures.log c.append.ensures.size proper)

pub returns-in-Ok-End-clause-store : goal.returns-in-Ok-End-clause-store
returns-in-Ok-End-clause-store g c =
    let d = g.D.Disk in
    let i = c.self.inside in
    let m : MemoryView = record { log = c.memory.inside.log; pages = c.memory.inside.pages; redo = c.memory.inside.redo } in
    let has : i.memory ≡ Some m = sym c.take.ensures.value ∙ c.in-Some.is ∙ ap (λ (v : MemoryView). Some v) (sym c.memory.view_is) in
    let sound : i.is_sound ≡ true = ap (λ (v : StoreView). v.sound) c.self.view_is ∙ c.requires.sound in
    let whole = subst (λ (r : Reach). LeavesLog (reads_of d.reads i.disk) m.log.cut m.log.incarnation (reached_log m.log c.args.block.now.records r) (reads_of d.reads c.append.new.disk)) c.in-Ok-End.field-0-is c.in-Ok-End.ensures.log in
    seen_up d.size d.keeps d.reads d.may_hold i.disk i.pages i.memory i.is_sound m c.self.invariant sound has c.append.new.disk c.args.block.now.records c.append.new.store (d.faults i.disk.disk) (d.faults c.append.new.disk.disk) c.in-Ok-End.ensures.settled whole
    ∙ ap (λ (v : StoreView). record (hardened_store v c.args.block.now.records End) { faults = d.faults c.append.new.disk.disk }) (ap (λ (o : Option MemoryView). store_on (reads_of d.reads i.disk) i.pages o i.is_sound (d.faults i.disk.disk)) (sym has) ∙ c.self.view_is)

pub returns-in-Ok-Stop-clause-store : goal.returns-in-Ok-Stop-clause-store
returns-in-Ok-Stop-clause-store g c =
    let d = g.D.Disk in
    let i = c.self.inside in
    let m : MemoryView = record { log = c.memory.inside.log; pages = c.memory.inside.pages; redo = c.memory.inside.redo } in
    let has : i.memory ≡ Some m = sym c.take.ensures.value ∙ c.in-Some.is ∙ ap (λ (v : MemoryView). Some v) (sym c.memory.view_is) in
    let sound : i.is_sound ≡ true = ap (λ (v : StoreView). v.sound) c.self.view_is ∙ c.requires.sound in
    let proper : IsProper i.pages (with_block (kept_on (reads_of d.reads i.disk) true).log c.args.block.now.records) = subst (λ (v : StoreView). IsProper v.pages (with_block v.kept.log c.args.block.now.records)) (sym c.self.view_is) c.requires.proper in
    ap (λ (o : Option MemoryView). store_on (reads_of d.reads c.append.new.disk) i.pages o i.is_sound (d.faults c.append.new.disk.disk)) c.take.ensures.after
    ∙ seen_down d.size d.keeps d.reads d.may_hold i.disk i.pages i.memory i.is_sound m c.self.invariant sound has c.append.new.disk c.args.block.now.records c.in-Ok-Stop.field-0 c.in-Ok-Stop.ensures.settled c.in-Ok-Stop.ensures.log c.append.ensures.size proper (d.faults i.disk.disk) (d.faults c.append.new.disk.disk) (λ e. absurd (cc (sym c.in-Ok-Stop.field-0-is ∙ e)))
    ∙ ap (λ (v : StoreView). record (hardened_store v c.args.block.now.records c.in-Ok-Stop.field-0) { faults = d.faults c.append.new.disk.disk }) (ap (λ (o : Option MemoryView). store_on (reads_of d.reads i.disk) i.pages o i.is_sound (d.faults i.disk.disk)) (sym has) ∙ c.self.view_is)
    ∙ ap (λ (r : Reach). record (hardened_store c.args.self.now c.args.block.now.records r) { faults = d.faults c.append.new.disk.disk }) c.in-Ok-Stop.field-0-is

pub returns-in-Ok-Fault-clause-store : goal.returns-in-Ok-Fault-clause-store
returns-in-Ok-Fault-clause-store g c =
    let d = g.D.Disk in
    let i = c.self.inside in
    let m : MemoryView = record { log = c.memory.inside.log; pages = c.memory.inside.pages; redo = c.memory.inside.redo } in
    let has : i.memory ≡ Some m = sym c.take.ensures.value ∙ c.in-Some.is ∙ ap (λ (v : MemoryView). Some v) (sym c.memory.view_is) in
    let sound : i.is_sound ≡ true = ap (λ (v : StoreView). v.sound) c.self.view_is ∙ c.requires.sound in
    let proper : IsProper i.pages (with_block (kept_on (reads_of d.reads i.disk) true).log c.args.block.now.records) = subst (λ (v : StoreView). IsProper v.pages (with_block v.kept.log c.args.block.now.records)) (sym c.self.view_is) c.requires.proper in
    ap (λ (o : Option MemoryView). store_on (reads_of d.reads c.append.new.disk) i.pages o i.is_sound (d.faults c.append.new.disk.disk)) c.take.ensures.after
    ∙ seen_down d.size d.keeps d.reads d.may_hold i.disk i.pages i.memory i.is_sound m c.self.invariant sound has c.append.new.disk c.args.block.now.records c.in-Ok-Fault.field-0 c.in-Ok-Fault.ensures.settled c.in-Ok-Fault.ensures.log c.append.ensures.size proper (d.faults i.disk.disk) (d.faults c.append.new.disk.disk) (λ e. absurd (cc (sym c.in-Ok-Fault.field-0-is ∙ e)))
    ∙ ap (λ (v : StoreView). record (hardened_store v c.args.block.now.records c.in-Ok-Fault.field-0) { faults = d.faults c.append.new.disk.disk }) (ap (λ (o : Option MemoryView). store_on (reads_of d.reads i.disk) i.pages o i.is_sound (d.faults i.disk.disk)) (sym has) ∙ c.self.view_is)
    ∙ ap (λ (r : Reach). record (hardened_store c.args.self.now c.args.block.now.records r) { faults = d.faults c.append.new.disk.disk }) c.in-Ok-Fault.field-0-is
