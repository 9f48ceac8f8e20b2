use Rattle.std.proofs.Common.{IsTrue, Err, sym, ap, ◌∙◌, subst}
use Rattle.ag_outside.specs.Scripts.{ScriptedView}
use Rattle.ag_outside.specs.Shown.{reads_of, holds_of, did_of}
use Rattle.ag_pagestore.specs.Places.{page_cells}
use Rattle.ag_kept.proofs.Calls.{free_fails}
use Rattle.ag_pages.specs.Reading.{WasOnlyRead}
use Rattle.ag_store.proofs.Redone.{shown_same, same_size, read_later}
use Rattle.ag_store.proofs.reading.cells_on.Goals as goal

pub returns-in-Ok : goal.returns-in-Ok
returns-in-Ok g c =
    let d = g.D.Disk in
    let e = c.read_cells.ensures in
    let was : WasOnlyRead (λ (s : ScriptedView _). d.size s.disk) (λ (s : ScriptedView _). d.keeps s.disk) (reads_of d.reads) (holds_of d.keeps d.may_hold) (did_of d.keeps d.reads d.may_hold d.faults) c.arm.new.self c.read_cells.new.disk =
    record { content = e.reads; images = e.crash; keeping = e.keeps; sectors = e.size; calls = e.calls } in
    record {
      cells = c.in-Ok.ensures.cells (subst (λ (v : ScriptedView _). IsTrue (d.keeps v.disk)) (sym c.arm.ensures) c.requires.home.modelled) ∙ ap (λ (v : ScriptedView _). page_cells (reads_of d.reads v) c.args.page) c.arm.ensures;
      disk = shown_same d.size d.keeps d.reads d.may_hold d.faults c.args.disk.now c.arm.new.self c.read_cells.new.disk c.arm.ensures was;
      later = read_later d.size d.keeps d.reads d.may_hold d.faults c.args.disk.now c.arm.new.self c.read_cells.new.disk c.arm.ensures was;
      size = same_size d.size d.keeps d.reads d.may_hold d.faults c.args.disk.now c.arm.new.self c.read_cells.new.disk c.arm.ensures was;
      fault = λ e. absurd (cc e);
    }

pub returns-in-Err-Failed : goal.returns-in-Err-Failed
returns-in-Err-Failed g c =
    let d = g.D.Disk in
    let e = c.read_cells.ensures in
    let was : WasOnlyRead (λ (s : ScriptedView _). d.size s.disk) (λ (s : ScriptedView _). d.keeps s.disk) (reads_of d.reads) (holds_of d.keeps d.may_hold) (did_of d.keeps d.reads d.may_hold d.faults) c.arm.new.self c.read_cells.new.disk =
    record { content = e.reads; images = e.crash; keeping = e.keeps; sectors = e.size; calls = e.calls } in
    record {
      cells = tt;
      disk = shown_same d.size d.keeps d.reads d.may_hold d.faults c.args.disk.now c.arm.new.self c.read_cells.new.disk c.arm.ensures was;
      later = read_later d.size d.keeps d.reads d.may_hold d.faults c.args.disk.now c.arm.new.self c.read_cells.new.disk c.arm.ensures was;
      size = same_size d.size d.keeps d.reads d.may_hold d.faults c.args.disk.now c.arm.new.self c.read_cells.new.disk c.arm.ensures was;
      fault = λ x. free_fails d.keeps d.reads d.may_hold d.faults c.args.disk.now c.arm.new.self c.read_cells.new.disk c.arm.ensures c.requires.home.unsynced (e.broken (c.in-Err-Failed.is ∙ ap (λ y. Err y) c.in-Err-Failed.field-0-is));
    }

pub returns-in-Err-NoMemory : goal.returns-in-Err-NoMemory
returns-in-Err-NoMemory g c =
    let d = g.D.Disk in
    let e = c.read_cells.ensures in
    let was : WasOnlyRead (λ (s : ScriptedView _). d.size s.disk) (λ (s : ScriptedView _). d.keeps s.disk) (reads_of d.reads) (holds_of d.keeps d.may_hold) (did_of d.keeps d.reads d.may_hold d.faults) c.arm.new.self c.read_cells.new.disk =
    record { content = e.reads; images = e.crash; keeping = e.keeps; sectors = e.size; calls = e.calls } in
    record {
      cells = tt;
      disk = shown_same d.size d.keeps d.reads d.may_hold d.faults c.args.disk.now c.arm.new.self c.read_cells.new.disk c.arm.ensures was;
      later = read_later d.size d.keeps d.reads d.may_hold d.faults c.args.disk.now c.arm.new.self c.read_cells.new.disk c.arm.ensures was;
      size = same_size d.size d.keeps d.reads d.may_hold d.faults c.args.disk.now c.arm.new.self c.read_cells.new.disk c.arm.ensures was;
      fault = λ x. absurd (cc x);
    }
