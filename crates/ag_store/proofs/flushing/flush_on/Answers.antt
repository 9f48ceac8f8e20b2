use Rattle.std.proofs.Common.{◌≡◌, ℕ, ◌≤◌, Some, true, refl, sym, ap, ◌∙◌, subst, arith}
use Rattle.ag_outside.specs.Shown.{reads_of}
use Rattle.ag_rules.specs.Replica.{least}
use Rattle.ag_kept.specs.Standing.{IsAtHome}
use Rattle.ag_store.specs.Flushing.{PagesThenMaster}
use Rattle.ag_store.specs.Standing.{IsStore}
use Rattle.ag_store.specs.Views.{MemoryView, flushed_store, store_on}
use Rattle.ag_store.proofs.Flushes.{after_flush, flushed_view, have_image, page_of_own, left_kept, written_memory, first_stays, logs_stay, clean_then, known_then, wrote_then, left_then, cells_then, only_then}
use Rattle.ag_store.proofs.Stores.{loaded_of}
use Rattle.ag_store.proofs.flushing.flush_on.Goals as goal

pub flush_pages-requires-clause-count : goal.flush_pages-requires-clause-count
flush_pages-requires-clause-count g c =
    let d = g.D.Disk in
    let old = c.args.disk.now in
    let m : MemoryView = record { log = c.memory.inside.log; pages = c.memory.inside.pages; redo = c.memory.inside.redo } in
    let has : Some c.args.memory ≡ Some m = ap (λ (v : MemoryView). Some v) (sym c.memory.view_is) in
    let loaded = loaded_of d.size d.keeps d.reads d.may_hold old c.args.pages (Some c.args.memory) true m c.requires refl has in
    (let high = c.requires.high in let is = loaded.count in omega (arith, high, is))

pub flush_pages-requires-clause-images : goal.flush_pages-requires-clause-images
flush_pages-requires-clause-images g c page is_own none =
    let d = g.D.Disk in
    let old = c.args.disk.now in
    let m : MemoryView = record { log = c.memory.inside.log; pages = c.memory.inside.pages; redo = c.memory.inside.redo } in
    let has : Some c.args.memory ≡ Some m = ap (λ (v : MemoryView). Some v) (sym c.memory.view_is) in
    have_image d.size d.keeps d.reads d.may_hold old c.args.pages (Some c.args.memory) true m c.requires refl has c.have_images.ensures page (page_of_own d.size d.keeps d.reads d.may_hold old c.args.pages (Some c.args.memory) true m c.requires refl has page is_own) none

pub returns-clause-store : goal.returns-clause-store
returns-clause-store g c =
    let d = g.D.Disk in
    let old = c.args.disk.now in
    let m : MemoryView = record { log = c.memory.inside.log; pages = c.memory.inside.pages; redo = c.memory.inside.redo } in
    let has : Some c.args.memory ≡ Some m = ap (λ (v : MemoryView). Some v) (sym c.memory.view_is) in
    let v = c.flush_pages.new.pages in
    let new = c.flush_pages.new.disk in
    let o : PagesThenMaster d.size d.keeps d.reads d.may_hold d.faults old m.pages (least m.pages.applied) v new = c.in_ok-redo.ensures.order in
    let home : IsAtHome d.keeps d.reads old = c.requires.stands refl in
    let loaded = loaded_of d.size d.keeps d.reads d.may_hold old c.args.pages (Some c.args.memory) true m c.requires refl has in
    let few : m.pages.count ≤ 2048 = (let high = c.requires.high in let is = loaded.count in omega (arith, high, is)) in
    let first = first_stays d.keeps d.reads old o.between m.pages v o.wrote few in
    let logs = logs_stay d.keeps d.reads old o.between m.pages v o.wrote few in
    let memory = written_memory d.keeps d.reads d.may_hold old o.between home first logs m.log (only_then d.size d.keeps d.reads d.may_hold old c.args.pages (Some c.args.memory) true m c.requires refl has o.between v o.written_home o.wrote o.durable) loaded.log in
    subst (λ (n : ℕ). IsStore d.size d.keeps d.reads d.may_hold new c.args.pages (Some (record { log = m.log; pages = v; redo = n })) true) (sym c.in_ok-redo.ensures.lsn)
    (after_flush d.size d.keeps d.reads d.may_hold old c.args.pages (Some c.args.memory) true m c.requires refl has o.between new v c.flush_pages.ensures.applied (clean_then d.size d.keeps d.reads d.may_hold old c.args.pages (Some c.args.memory) true m c.requires refl has o.between v o.written_home o.wrote) (known_then d.size d.keeps d.reads d.may_hold old c.args.pages (Some c.args.memory) true m c.requires refl has o.between v o.written_home o.wrote) (wrote_then d.size d.keeps d.reads d.may_hold old c.args.pages (Some c.args.memory) true m c.requires refl has o.between v o.written_home o.wrote) (left_then d.size d.keeps d.reads d.may_hold old c.args.pages (Some c.args.memory) true m c.requires refl has o.between v o.written_home o.wrote) (left_kept (reads_of d.reads old) (reads_of d.reads o.between) home.home first logs) o.kept o.same_pages (omega (arith, c.requires.room, c.flush_pages.ensures.size)) (c.flush_pages.ensures.count ∙ loaded.count) o.home (o.memory m.log memory))

pub returns-clause-view : goal.returns-clause-view
returns-clause-view g c =
    let d = g.D.Disk in
    let old = c.args.disk.now in
    let m : MemoryView = record { log = c.memory.inside.log; pages = c.memory.inside.pages; redo = c.memory.inside.redo } in
    let has : Some c.args.memory ≡ Some m = ap (λ (v : MemoryView). Some v) (sym c.memory.view_is) in
    let v = c.flush_pages.new.pages in
    let new = c.flush_pages.new.disk in
    let o : PagesThenMaster d.size d.keeps d.reads d.may_hold d.faults old m.pages (least m.pages.applied) v new = c.in_ok-redo.ensures.order in
    let home : IsAtHome d.keeps d.reads old = c.requires.stands refl in
    let loaded = loaded_of d.size d.keeps d.reads d.may_hold old c.args.pages (Some c.args.memory) true m c.requires refl has in
    let few : m.pages.count ≤ 2048 = (let high = c.requires.high in let is = loaded.count in omega (arith, high, is)) in
    let first = first_stays d.keeps d.reads old o.between m.pages v o.wrote few in
    let logs = logs_stay d.keeps d.reads old o.between m.pages v o.wrote few in
    subst (λ (n : ℕ). store_on (reads_of d.reads new) c.args.pages (Some (record { log = m.log; pages = v; redo = n })) true 0 ≡ flushed_store (store_on (reads_of d.reads old) c.args.pages (Some c.args.memory) true 0)) (sym c.in_ok-redo.ensures.lsn)
    (flushed_view d.size d.keeps d.reads d.may_hold old c.args.pages (Some c.args.memory) true m c.requires refl has o.between new v c.flush_pages.ensures.applied (clean_then d.size d.keeps d.reads d.may_hold old c.args.pages (Some c.args.memory) true m c.requires refl has o.between v o.written_home o.wrote) (known_then d.size d.keeps d.reads d.may_hold old c.args.pages (Some c.args.memory) true m c.requires refl has o.between v o.written_home o.wrote) (wrote_then d.size d.keeps d.reads d.may_hold old c.args.pages (Some c.args.memory) true m c.requires refl has o.between v o.written_home o.wrote) (left_then d.size d.keeps d.reads d.may_hold old c.args.pages (Some c.args.memory) true m c.requires refl has o.between v o.written_home o.wrote) (left_kept (reads_of d.reads old) (reads_of d.reads o.between) home.home first logs) o.kept o.same_pages (cells_then d.size d.keeps d.reads d.may_hold old c.args.pages (Some c.args.memory) true m c.requires refl has o.between v o.written_home o.wrote) 0 0)
