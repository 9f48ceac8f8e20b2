use Rattle.std.proofs.Common.{◌≡◌, ◌+◌, ◌^◌, ◌<◌, true, false, None, is_some, refl, sym, ap, ◌∙◌, subst}
use Rattle.std.specs.Prelude.{Option}
use Rattle.std.specs.Option.{MatchOption}
use Rattle.ag_outside.specs.Disks.{Image}
use Rattle.ag_outside.specs.Shown.{reads_of}
use Rattle.ag_master.specs.declared.master.Master.{Master}
use Rattle.ag_logstore.specs.Stores.{StoreView as LogView}
use Rattle.ag_kept.specs.declared.reach.Reach.{Reach}
use Rattle.ag_kept.specs.declared.reach.Reach.TheVariants.{End}
use Rattle.ag_kept.specs.Kept.{Kept, kept_on, master_on, started}
use Rattle.ag_kept.specs.Standing.{IsMemory}
use Rattle.ag_store.specs.Views.{store_on, started_store}
use Rattle.ag_store.proofs.Started.{read_store, moved_store, started-log, started-redo, started-loaded, seen-started, seen-stopped}
use Rattle.ag_store.proofs.starting.start_whole.Goals as goal

pub start_on-requires-clause-home : goal.start_on-requires-clause-home
start_on-requires-clause-home g c =
    let d = g.D.Disk in
    let old = c.args.disk.now in
    let mid = c.read_master.new.disk in
    let same = c.in_ok-master.ensures.same in
    let store = read_store d.size d.keeps d.reads d.may_hold c.args.pages old mid c.requires.store same c.in_ok-master.ensures.settled c.read_master.ensures.size in
    store.stands refl

pub start_on-requires-clause-small : goal.start_on-requires-clause-small
start_on-requires-clause-small g c =
    let same = c.in_ok-master.ensures.same in
    subst (λ (i : Image). (master_on i).incarnation + 1 < 2 ^ 64) (sym same) c.requires.small

pub load_pages-requires-clause-store : goal.load_pages-requires-clause-store
load_pages-requires-clause-store g c =
    let d = g.D.Disk in
    let old = c.args.disk.now in
    let mid = c.read_master.new.disk in
    let same = c.in_ok-master.ensures.same in
    let store = read_store d.size d.keeps d.reads d.may_hold c.args.pages old mid c.requires.store same c.in_ok-master.ensures.settled c.read_master.ensures.size in
    let new = c.start_on.new.disk in
    let did = c.in_ok-started.ensures in
    let x = c.in_ok-started.started in
    let moved = moved_store d.size d.keeps d.reads d.may_hold c.args.pages mid new store did.home did.pages c.start_on.ensures.size
    (ap (λ (k : Kept). k.log) did.kept ∙ started-log (kept_on (reads_of d.reads mid) false) x.0) (ap (λ (k : Kept). k.redo) did.kept ∙ started-redo (kept_on (reads_of d.reads mid) false) x.0) in
    moved

pub load_pages-requires-clause-redo : goal.load_pages-requires-clause-redo
load_pages-requires-clause-redo g c =
    let d = g.D.Disk in
    let mid = c.read_master.new.disk in
    let same = c.in_ok-master.ensures.same in
    let did = c.in_ok-started.ensures in
    let x = c.in_ok-started.started in
    ap (λ (m : Master). m.redo) c.in_ok-master.ensures.master ∙ ap (λ (i : Image). (master_on i).redo) (sym same) ∙ sym (ap (λ (k : Kept). k.redo) did.kept ∙ started-redo (kept_on (reads_of d.reads mid) false) x.0)

pub load_pages-requires-clause-log : goal.load_pages-requires-clause-log
load_pages-requires-clause-log g c =
    let d = g.D.Disk in
    let new = c.start_on.new.disk in
    let did = c.in_ok-started.ensures in
    subst (λ (o : Option LogView). MatchOption o (Unit {0}) (IsMemory d.keeps d.reads d.may_hold new)) c.in-Some.is did.memory

pub returns-in_ok-memory-in-Some-clause-view : goal.returns-in_ok-memory-in-Some-clause-view
returns-in_ok-memory-in-Some-clause-view g c =
    let d = g.D.Disk in
    let old = c.args.disk.now in
    let mid = c.read_master.new.disk in
    let same = c.in_ok-master.ensures.same in
    let store = read_store d.size d.keeps d.reads d.may_hold c.args.pages old mid c.requires.store same c.in_ok-master.ensures.settled c.read_master.ensures.size in
    let new = c.start_on.new.disk in
    let did = c.in_ok-started.ensures in
    let x = c.in_ok-started.started in
    let end : x.0 ≡ End = started-loaded (kept_on (reads_of d.reads mid) false) x.0 refl (sym (ap (λ (k : Kept). k.loaded) did.kept) ∙ ap (λ (o : Option LogView). is_some o) c.in-Some.is) in
    let kept : kept_on (reads_of d.reads new) true ≡ started (kept_on (reads_of d.reads mid) false) End = ap (λ (o : Option LogView). kept_on (reads_of d.reads new) (is_some o)) (sym c.in-Some.is) ∙ did.kept ∙ ap (started (kept_on (reads_of d.reads mid) false)) end in
    c.in_ok-memory-in-Some.ensures.view
    ∙ seen-started d.size d.keeps d.reads d.may_hold c.args.pages mid new store.high did.pages kept
    ∙ ap (λ (i : Image). started_store (store_on i c.args.pages None true 0) End) same
    ∙ ap (λ (r : Reach). started_store (store_on (reads_of d.reads old) c.args.pages None true 0) r) (sym end)

pub returns-in-None-clause-store : goal.returns-in-None-clause-store
returns-in-None-clause-store g c =
    let d = g.D.Disk in
    let old = c.args.disk.now in
    let mid = c.read_master.new.disk in
    let same = c.in_ok-master.ensures.same in
    let store = read_store d.size d.keeps d.reads d.may_hold c.args.pages old mid c.requires.store same c.in_ok-master.ensures.settled c.read_master.ensures.size in
    let new = c.start_on.new.disk in
    let did = c.in_ok-started.ensures in
    let x = c.in_ok-started.started in
    let moved = moved_store d.size d.keeps d.reads d.may_hold c.args.pages mid new store did.home did.pages c.start_on.ensures.size
    (ap (λ (k : Kept). k.log) did.kept ∙ started-log (kept_on (reads_of d.reads mid) false) x.0) (ap (λ (k : Kept). k.redo) did.kept ∙ started-redo (kept_on (reads_of d.reads mid) false) x.0) in
    moved

pub returns-in-None-clause-view : goal.returns-in-None-clause-view
returns-in-None-clause-view g c =
    let d = g.D.Disk in
    let old = c.args.disk.now in
    let mid = c.read_master.new.disk in
    let same = c.in_ok-master.ensures.same in
    let store = read_store d.size d.keeps d.reads d.may_hold c.args.pages old mid c.requires.store same c.in_ok-master.ensures.settled c.read_master.ensures.size in
    let new = c.start_on.new.disk in
    let did = c.in_ok-started.ensures in
    let x = c.in_ok-started.started in
    let kept : kept_on (reads_of d.reads new) false ≡ started (kept_on (reads_of d.reads mid) false) x.0 = ap (λ (o : Option LogView). kept_on (reads_of d.reads new) (is_some o)) (sym c.in-None.is) ∙ did.kept in
    seen-stopped d.size d.keeps d.reads d.may_hold c.args.pages mid new x.0 store.high did.pages kept (λ e. absurd (cc (ap (λ (k : Kept). k.loaded) kept ∙ ap (λ (r : Reach). (started (kept_on (reads_of d.reads mid) false) r).loaded) e)))
    ∙ ap (λ (i : Image). started_store (store_on i c.args.pages None true 0) x.0) same
