use Rattle.std.proofs.Common.{◌≡◌, ◌≤◌, ℕ, get_or, Some, true, length, sym, ap, ◌∙◌, subst, arith}
use Rattle.std.specs.Prelude.{Option, replicate}
use Rattle.ag_model.specs.declared.record.Log.{Log}
use Rattle.ag_model.specs.Prefixes.{end_of}
use Rattle.ag_model.specs.Proper.{IsProper}
use Rattle.ag_model.specs.Rows.{stripe_of}
use Rattle.ag_outside.specs.Shown.{reads_of}
use Rattle.ag_logstore.specs.Stored.{log_end}
use Rattle.ag_stripe.specs.Ahead.{IsAhead}
use Rattle.ag_kept.specs.Kept.{kept_on}
use Rattle.ag_pages.specs.Views.{applied_of, known_of}
use Rattle.ag_store.specs.Images.{is_touched_between}
use Rattle.ag_store.specs.Redoing.{AreRedone}
use Rattle.ag_store.specs.Standing.{told_on}
use Rattle.ag_store.specs.Views.{MemoryView, StoreView, set_where, store_on}
use Rattle.ag_store.proofs.Applying.{redo_proper, within_all, ahead_all, redone_all_store, redone_all_flags, seen-redone}
use Rattle.ag_store.proofs.Hardening.{same_log}
use Rattle.ag_store.proofs.Stores.{loaded_of}
use Rattle.ag_store.proofs.store.Store.redo.Goals as goal

pub redo_to_end-requires-clause-keeps : goal.redo_to_end-requires-clause-keeps
redo_to_end-requires-clause-keeps g c =
    let i = c.self.inside in
    let sound : i.is_sound ≡ true = ap (λ (v : StoreView). v.sound) c.self.view_is ∙ c.requires.sound in
    (c.self.invariant.stands sound).modelled

pub redo_to_end-requires-clause-proper : goal.redo_to_end-requires-clause-proper
redo_to_end-requires-clause-proper g c =
    let d = g.D.Disk in
    let i = c.self.inside in
    let m : MemoryView = record { log = c.memory.inside.log; pages = c.memory.inside.pages; redo = c.memory.inside.redo } in
    let has : i.memory ≡ Some m = sym c.take.ensures.value ∙ c.in-Some.is ∙ ap (λ (v : MemoryView). Some v) (sym c.memory.view_is) in
    let sound : i.is_sound ≡ true = ap (λ (v : StoreView). v.sound) c.self.view_is ∙ c.requires.sound in
    subst (λ (l : Log). IsProper m.pages.count l) (sym c.log.ensures) (redo_proper d.size d.keeps d.reads d.may_hold i.disk i.pages i.memory i.is_sound m c.self.invariant sound has)

pub redo_to_end-requires-clause-sixteen : goal.redo_to_end-requires-clause-sixteen
redo_to_end-requires-clause-sixteen g c =
    let d = g.D.Disk in
    let i = c.self.inside in
    let m : MemoryView = record { log = c.memory.inside.log; pages = c.memory.inside.pages; redo = c.memory.inside.redo } in
    let has : i.memory ≡ Some m = sym c.take.ensures.value ∙ c.in-Some.is ∙ ap (λ (v : MemoryView). Some v) (sym c.memory.view_is) in
    let sound : i.is_sound ≡ true = ap (λ (v : StoreView). v.sound) c.self.view_is ∙ c.requires.sound in
    (loaded_of d.size d.keeps d.reads d.may_hold i.disk i.pages i.memory i.is_sound m c.self.invariant sound has).ends.sixteen

pub redo_to_end-requires-clause-within : goal.redo_to_end-requires-clause-within
redo_to_end-requires-clause-within g c =
    let d = g.D.Disk in
    let i = c.self.inside in
    let m : MemoryView = record { log = c.memory.inside.log; pages = c.memory.inside.pages; redo = c.memory.inside.redo } in
    let has : i.memory ≡ Some m = sym c.take.ensures.value ∙ c.in-Some.is ∙ ap (λ (v : MemoryView). Some v) (sym c.memory.view_is) in
    let sound : i.is_sound ≡ true = ap (λ (v : StoreView). v.sound) c.self.view_is ∙ c.requires.sound in
    λ stripe lt. subst (λ (l : Log). applied_of m.pages stripe ≤ end_of l) (sym c.log.ensures) (within_all d.size d.keeps d.reads d.may_hold i.disk i.pages i.memory i.is_sound m c.self.invariant sound has stripe lt)

pub redo_to_end-requires-clause-ahead : goal.redo_to_end-requires-clause-ahead
redo_to_end-requires-clause-ahead g c =
    let d = g.D.Disk in
    let i = c.self.inside in
    let m : MemoryView = record { log = c.memory.inside.log; pages = c.memory.inside.pages; redo = c.memory.inside.redo } in
    let has : i.memory ≡ Some m = sym c.take.ensures.value ∙ c.in-Some.is ∙ ap (λ (v : MemoryView). Some v) (sym c.memory.view_is) in
    let sound : i.is_sound ≡ true = ap (λ (v : StoreView). v.sound) c.self.view_is ∙ c.requires.sound in
    λ page is. subst (λ (l : Log). IsAhead m.pages.count l (applied_of m.pages (stripe_of page)) page (known_of (told_on (reads_of d.reads i.disk)) m.pages page)) (sym c.log.ensures) (ahead_all d.size d.keeps d.reads d.may_hold i.disk i.pages i.memory i.is_sound m c.self.invariant sound has page is)

pub invariant_of-self : goal.invariant_of-self
invariant_of-self g c =
    let d = g.D.Disk in
    let i = c.self.inside in
    let m : MemoryView = record { log = c.memory.inside.log; pages = c.memory.inside.pages; redo = c.memory.inside.redo } in
    let has : i.memory ≡ Some m = sym c.take.ensures.value ∙ c.in-Some.is ∙ ap (λ (v : MemoryView). Some v) (sym c.memory.view_is) in
    let sound : i.is_sound ≡ true = ap (λ (v : StoreView). v.sound) c.self.view_is ∙ c.requires.sound in
    let all : AreRedone (reads_of d.reads i.disk) m.log.log m.pages c.redo_to_end.new.pages = subst (λ (l : Log). AreRedone (reads_of d.reads i.disk) l m.pages c.redo_to_end.new.pages) c.log.ensures c.in-Ok.ensures.pages in
    let room : log_end ≤ d.size c.redo_to_end.new.disk.disk = omega (arith, c.self.invariant.room, c.redo_to_end.ensures.size) in
    redone_all_store d.size d.keeps d.reads d.may_hold i.disk i.pages i.memory i.is_sound m c.self.invariant sound has c.redo_to_end.new.disk c.redo_to_end.new.pages c.in-Ok.ensures.disk room all

pub returns-in-Ok-clause-lsn : goal.returns-in-Ok-clause-lsn
returns-in-Ok-clause-lsn g c =
    let d = g.D.Disk in
    let i = c.self.inside in
    let m : MemoryView = record { log = c.memory.inside.log; pages = c.memory.inside.pages; redo = c.memory.inside.redo } in
    let has : i.memory ≡ Some m = sym c.take.ensures.value ∙ c.in-Some.is ∙ ap (λ (v : MemoryView). Some v) (sym c.memory.view_is) in
    let sound : i.is_sound ≡ true = ap (λ (v : StoreView). v.sound) c.self.view_is ∙ c.requires.sound in
    let end_is : end_of (kept_on (reads_of d.reads i.disk) true).log ≡ c.in-Ok.end = ap (λ (l : Log). end_of l) (same_log d.size d.keeps d.reads d.may_hold i.disk i.pages i.memory i.is_sound m c.self.invariant sound has ∙ sym c.log.ensures) ∙ sym c.in-Ok.ensures.lsn in
    sym end_is ∙ ap (λ (s : StoreView). length s.kept.log.records) (ap (λ (o : Option MemoryView). store_on (reads_of d.reads i.disk) i.pages o i.is_sound (d.faults i.disk.disk)) (sym has) ∙ c.self.view_is)

pub returns-in-Ok-clause-store : goal.returns-in-Ok-clause-store
returns-in-Ok-clause-store g c =
    let d = g.D.Disk in
    let i = c.self.inside in
    let m : MemoryView = record { log = c.memory.inside.log; pages = c.memory.inside.pages; redo = c.memory.inside.redo } in
    let has : i.memory ≡ Some m = sym c.take.ensures.value ∙ c.in-Some.is ∙ ap (λ (v : MemoryView). Some v) (sym c.memory.view_is) in
    let sound : i.is_sound ≡ true = ap (λ (v : StoreView). v.sound) c.self.view_is ∙ c.requires.sound in
    let all : AreRedone (reads_of d.reads i.disk) m.log.log m.pages c.redo_to_end.new.pages = subst (λ (l : Log). AreRedone (reads_of d.reads i.disk) l m.pages c.redo_to_end.new.pages) c.log.ensures c.in-Ok.ensures.pages in
    let room : log_end ≤ d.size c.redo_to_end.new.disk.disk = omega (arith, c.self.invariant.room, c.redo_to_end.ensures.size) in
    let end_is : end_of (kept_on (reads_of d.reads i.disk) true).log ≡ c.in-Ok.end = ap (λ (l : Log). end_of l) (same_log d.size d.keeps d.reads d.may_hold i.disk i.pages i.memory i.is_sound m c.self.invariant sound has ∙ sym c.log.ensures) ∙ sym c.in-Ok.ensures.lsn in
    seen-redone d.reads i.disk c.redo_to_end.new.disk i.pages m c.redo_to_end.new.pages i.is_sound (d.faults i.disk.disk) (d.faults c.redo_to_end.new.disk.disk) (replicate 16 (end_of (kept_on (reads_of d.reads i.disk) true).log)) _ c.in-Ok.ensures.disk.content (all.applied ∙ ap (λ (l : Log). replicate 16 (end_of l)) (sym (same_log d.size d.keeps d.reads d.may_hold i.disk i.pages i.memory i.is_sound m c.self.invariant sound has))) (redone_all_flags d.size d.keeps d.reads d.may_hold i.disk i.pages i.memory i.is_sound m c.self.invariant sound has c.redo_to_end.new.disk c.redo_to_end.new.pages c.in-Ok.ensures.disk room all)
    ∙ ap (λ (n : ℕ). (λ (s : StoreView). record s { applied = replicate 16 n; dirty = set_where (λ page. is_touched_between s.pages s.kept.log.records page (get_or s.applied (stripe_of page) 0) n) 16 s.dirty; faults = d.faults c.redo_to_end.new.disk.disk }) (store_on (reads_of d.reads i.disk) i.pages (Some m) i.is_sound (d.faults i.disk.disk))) end_is
    ∙ ap (λ (s : StoreView). record s { applied = replicate 16 c.in-Ok.end; dirty = set_where (λ page. is_touched_between s.pages s.kept.log.records page (get_or s.applied (stripe_of page) 0) c.in-Ok.end) 16 s.dirty; faults = d.faults c.redo_to_end.new.disk.disk }) (ap (λ (o : Option MemoryView). store_on (reads_of d.reads i.disk) i.pages o i.is_sound (d.faults i.disk.disk)) (sym has) ∙ c.self.view_is)
