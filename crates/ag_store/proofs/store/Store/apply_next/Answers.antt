use Rattle.std.proofs.Common.{◌≡◌, ◌≤◌, ◌&&◌, ℕ, get_or, Some, true, length, sym, ap, ◌∙◌, subst, arith}
use Rattle.std.specs.Prelude.{Option, set, ◌==◌}
use Rattle.ag_model.specs.declared.record.Log.{Log}
use Rattle.ag_model.specs.Blocks.{cut_at, next_end}
use Rattle.ag_model.specs.Prefixes.{IsBlockEnd}
use Rattle.ag_model.specs.Proper.{IsProper}
use Rattle.ag_model.specs.Rows.{stripe_of}
use Rattle.ag_outside.specs.Shown.{reads_of}
use Rattle.ag_logstore.specs.Stored.{log_end}
use Rattle.ag_stripe.specs.Ahead.{IsAhead}
use Rattle.ag_pages.specs.Views.{applied_of, known_of}
use Rattle.ag_store.specs.Images.{is_touched_between}
use Rattle.ag_store.specs.Redoing.{IsRedone}
use Rattle.ag_store.specs.Standing.{told_on}
use Rattle.ag_store.specs.Views.{MemoryView, StoreView, set_where, store_on}
use Rattle.ag_store.proofs.Applying.{redo_proper, within_all, next_is_end, ahead_one, applied_store, applied_flags, seen-redone}
use Rattle.ag_store.proofs.Hardening.{same_log}
use Rattle.ag_store.proofs.store.Store.apply_next.Goals as goal

pub redo_stripe-requires-clause-keeps : goal.redo_stripe-requires-clause-keeps
redo_stripe-requires-clause-keeps g c =
    let i = c.self.inside in
    let sound : i.is_sound ≡ true = ap (λ (v : StoreView). v.sound) c.self.view_is ∙ c.requires.sound in
    (c.self.invariant.stands sound).modelled

pub redo_stripe-requires-clause-proper : goal.redo_stripe-requires-clause-proper
redo_stripe-requires-clause-proper g c =
    let d = g.D.Disk in
    let i = c.self.inside in
    let m : MemoryView = record { log = c.memory.inside.log; pages = c.memory.inside.pages; redo = c.memory.inside.redo } in
    let has : i.memory ≡ Some m = sym c.take.ensures.value ∙ c.in-Some.is ∙ ap (λ (v : MemoryView). Some v) (sym c.memory.view_is) in
    let sound : i.is_sound ≡ true = ap (λ (v : StoreView). v.sound) c.self.view_is ∙ c.requires.sound in
    subst (λ (l : Log). IsProper m.pages.count l) (sym c.log-log.ensures) (redo_proper d.size d.keeps d.reads d.may_hold i.disk i.pages i.memory i.is_sound m c.self.invariant sound has)

pub redo_stripe-requires-clause-end : goal.redo_stripe-requires-clause-end
redo_stripe-requires-clause-end g c =
    let d = g.D.Disk in
    let i = c.self.inside in
    let m : MemoryView = record { log = c.memory.inside.log; pages = c.memory.inside.pages; redo = c.memory.inside.redo } in
    let has : i.memory ≡ Some m = sym c.take.ensures.value ∙ c.in-Some.is ∙ ap (λ (v : MemoryView). Some v) (sym c.memory.view_is) in
    let sound : i.is_sound ≡ true = ap (λ (v : StoreView). v.sound) c.self.view_is ∙ c.requires.sound in
    let end_is : c.end_after-end.result ≡ next_end (applied_of m.pages c.args.stripe) m.log.log.ends = c.end_after-end.ensures.end ∙ ap (λ (n : ℕ). next_end n c.log.result.now.ends) c.applied-from.ensures ∙ ap (λ (l : Log). next_end (applied_of m.pages c.args.stripe) l.ends) c.log.ensures in
    let is_end : IsBlockEnd m.log.log c.end_after-end.result = subst (λ (n : ℕ). IsBlockEnd m.log.log n) (sym end_is) (next_is_end d.size d.keeps d.reads d.may_hold i.disk i.pages i.memory i.is_sound m c.self.invariant sound has c.args.stripe c.requires.stripe) in
    subst (λ (l : Log). IsBlockEnd l c.end_after-end.result) (sym c.log-log.ensures) is_end

pub redo_stripe-requires-clause-within : goal.redo_stripe-requires-clause-within
redo_stripe-requires-clause-within g c =
    let d = g.D.Disk in
    let i = c.self.inside in
    let m : MemoryView = record { log = c.memory.inside.log; pages = c.memory.inside.pages; redo = c.memory.inside.redo } in
    let has : i.memory ≡ Some m = sym c.take.ensures.value ∙ c.in-Some.is ∙ ap (λ (v : MemoryView). Some v) (sym c.memory.view_is) in
    let sound : i.is_sound ≡ true = ap (λ (v : StoreView). v.sound) c.self.view_is ∙ c.requires.sound in
    subst (λ (l : Log). c.end_after-end.result ≤ length l.records) (c.log.ensures ∙ sym c.log-log.ensures) (c.end_after-end.ensures.within (subst (λ (l : Log). c.applied-from.result ≤ length l.records) (sym c.log.ensures) (subst (λ (n : ℕ). n ≤ length m.log.log.records) (sym c.applied-from.ensures) (within_all d.size d.keeps d.reads d.may_hold i.disk i.pages i.memory i.is_sound m c.self.invariant sound has c.args.stripe c.requires.stripe))))

pub redo_stripe-requires-clause-from : goal.redo_stripe-requires-clause-from
redo_stripe-requires-clause-from g c =
    omega (arith, c.end_after-end.ensures.least, c.applied-from.ensures)

pub redo_stripe-requires-clause-ahead : goal.redo_stripe-requires-clause-ahead
redo_stripe-requires-clause-ahead g c =
    let d = g.D.Disk in
    let i = c.self.inside in
    let m : MemoryView = record { log = c.memory.inside.log; pages = c.memory.inside.pages; redo = c.memory.inside.redo } in
    let has : i.memory ≡ Some m = sym c.take.ensures.value ∙ c.in-Some.is ∙ ap (λ (v : MemoryView). Some v) (sym c.memory.view_is) in
    let sound : i.is_sound ≡ true = ap (λ (v : StoreView). v.sound) c.self.view_is ∙ c.requires.sound in
    let end_is : c.end_after-end.result ≡ next_end (applied_of m.pages c.args.stripe) m.log.log.ends = c.end_after-end.ensures.end ∙ ap (λ (n : ℕ). next_end n c.log.result.now.ends) c.applied-from.ensures ∙ ap (λ (l : Log). next_end (applied_of m.pages c.args.stripe) l.ends) c.log.ensures in
    let is_end : IsBlockEnd m.log.log c.end_after-end.result = subst (λ (n : ℕ). IsBlockEnd m.log.log n) (sym end_is) (next_is_end d.size d.keeps d.reads d.may_hold i.disk i.pages i.memory i.is_sound m c.self.invariant sound has c.args.stripe c.requires.stripe) in
    let low : applied_of m.pages c.args.stripe ≤ c.end_after-end.result = omega (arith, c.end_after-end.ensures.least, c.applied-from.ensures) in
    λ page own. subst (λ (l : Log). IsAhead m.pages.count (cut_at c.end_after-end.result l) (applied_of m.pages c.args.stripe) page (known_of (told_on (reads_of d.reads i.disk)) m.pages page)) (sym c.log-log.ensures) (ahead_one d.size d.keeps d.reads d.may_hold i.disk i.pages i.memory i.is_sound m c.self.invariant sound has c.args.stripe c.end_after-end.result is_end low page own)

pub invariant_of-self : goal.invariant_of-self
invariant_of-self g c =
    let d = g.D.Disk in
    let i = c.self.inside in
    let m : MemoryView = record { log = c.memory.inside.log; pages = c.memory.inside.pages; redo = c.memory.inside.redo } in
    let has : i.memory ≡ Some m = sym c.take.ensures.value ∙ c.in-Some.is ∙ ap (λ (v : MemoryView). Some v) (sym c.memory.view_is) in
    let sound : i.is_sound ≡ true = ap (λ (v : StoreView). v.sound) c.self.view_is ∙ c.requires.sound in
    let end_is : c.end_after-end.result ≡ next_end (applied_of m.pages c.args.stripe) m.log.log.ends = c.end_after-end.ensures.end ∙ ap (λ (n : ℕ). next_end n c.log.result.now.ends) c.applied-from.ensures ∙ ap (λ (l : Log). next_end (applied_of m.pages c.args.stripe) l.ends) c.log.ensures in
    let is_end : IsBlockEnd m.log.log c.end_after-end.result = subst (λ (n : ℕ). IsBlockEnd m.log.log n) (sym end_is) (next_is_end d.size d.keeps d.reads d.may_hold i.disk i.pages i.memory i.is_sound m c.self.invariant sound has c.args.stripe c.requires.stripe) in
    let low : applied_of m.pages c.args.stripe ≤ c.end_after-end.result = omega (arith, c.end_after-end.ensures.least, c.applied-from.ensures) in
    let one : IsRedone (reads_of d.reads i.disk) m.log.log c.args.stripe c.end_after-end.result m.pages c.redo_stripe.new.pages = subst (λ (l : Log). IsRedone (reads_of d.reads i.disk) l c.args.stripe c.end_after-end.result m.pages c.redo_stripe.new.pages) c.log-log.ensures c.in-Ok.ensures.pages in
    let room : log_end ≤ d.size c.redo_stripe.new.disk.disk = omega (arith, c.self.invariant.room, c.redo_stripe.ensures.size) in
    applied_store d.size d.keeps d.reads d.may_hold i.disk i.pages i.memory i.is_sound m c.self.invariant sound has c.args.stripe c.end_after-end.result c.requires.stripe is_end low c.redo_stripe.new.disk c.redo_stripe.new.pages c.in-Ok.ensures.disk room one

pub returns-in-Ok-clause-lsn : goal.returns-in-Ok-clause-lsn
returns-in-Ok-clause-lsn g c =
    let d = g.D.Disk in
    let i = c.self.inside in
    let m : MemoryView = record { log = c.memory.inside.log; pages = c.memory.inside.pages; redo = c.memory.inside.redo } in
    let has : i.memory ≡ Some m = sym c.take.ensures.value ∙ c.in-Some.is ∙ ap (λ (v : MemoryView). Some v) (sym c.memory.view_is) in
    let sound : i.is_sound ≡ true = ap (λ (v : StoreView). v.sound) c.self.view_is ∙ c.requires.sound in
    let end_is : c.end_after-end.result ≡ next_end (applied_of m.pages c.args.stripe) m.log.log.ends = c.end_after-end.ensures.end ∙ ap (λ (n : ℕ). next_end n c.log.result.now.ends) c.applied-from.ensures ∙ ap (λ (l : Log). next_end (applied_of m.pages c.args.stripe) l.ends) c.log.ensures in
    end_is ∙ ap (λ (l : Log). next_end (applied_of m.pages c.args.stripe) l.ends) (sym (same_log d.size d.keeps d.reads d.may_hold i.disk i.pages i.memory i.is_sound m c.self.invariant sound has)) ∙ ap (λ (s : StoreView). next_end (get_or s.applied c.args.stripe 0) s.kept.log.ends) (ap (λ (o : Option MemoryView). store_on (reads_of d.reads i.disk) i.pages o i.is_sound (d.faults i.disk.disk)) (sym has) ∙ c.self.view_is)

pub returns-in-Ok-clause-store : goal.returns-in-Ok-clause-store
returns-in-Ok-clause-store g c =
    let d = g.D.Disk in
    let i = c.self.inside in
    let m : MemoryView = record { log = c.memory.inside.log; pages = c.memory.inside.pages; redo = c.memory.inside.redo } in
    let has : i.memory ≡ Some m = sym c.take.ensures.value ∙ c.in-Some.is ∙ ap (λ (v : MemoryView). Some v) (sym c.memory.view_is) in
    let sound : i.is_sound ≡ true = ap (λ (v : StoreView). v.sound) c.self.view_is ∙ c.requires.sound in
    let end_is : c.end_after-end.result ≡ next_end (applied_of m.pages c.args.stripe) m.log.log.ends = c.end_after-end.ensures.end ∙ ap (λ (n : ℕ). next_end n c.log.result.now.ends) c.applied-from.ensures ∙ ap (λ (l : Log). next_end (applied_of m.pages c.args.stripe) l.ends) c.log.ensures in
    let is_end : IsBlockEnd m.log.log c.end_after-end.result = subst (λ (n : ℕ). IsBlockEnd m.log.log n) (sym end_is) (next_is_end d.size d.keeps d.reads d.may_hold i.disk i.pages i.memory i.is_sound m c.self.invariant sound has c.args.stripe c.requires.stripe) in
    let low : applied_of m.pages c.args.stripe ≤ c.end_after-end.result = omega (arith, c.end_after-end.ensures.least, c.applied-from.ensures) in
    let one : IsRedone (reads_of d.reads i.disk) m.log.log c.args.stripe c.end_after-end.result m.pages c.redo_stripe.new.pages = subst (λ (l : Log). IsRedone (reads_of d.reads i.disk) l c.args.stripe c.end_after-end.result m.pages c.redo_stripe.new.pages) c.log-log.ensures c.in-Ok.ensures.pages in
    let room : log_end ≤ d.size c.redo_stripe.new.disk.disk = omega (arith, c.self.invariant.room, c.redo_stripe.ensures.size) in
    seen-redone d.reads i.disk c.redo_stripe.new.disk i.pages m c.redo_stripe.new.pages i.is_sound (d.faults i.disk.disk) (d.faults c.redo_stripe.new.disk.disk) (set m.pages.applied c.args.stripe c.end_after-end.result) _ c.in-Ok.ensures.disk.content one.applied (applied_flags d.size d.keeps d.reads d.may_hold i.disk i.pages i.memory i.is_sound m c.self.invariant sound has c.args.stripe c.end_after-end.result c.requires.stripe is_end low c.redo_stripe.new.disk c.redo_stripe.new.pages c.in-Ok.ensures.disk room one)
    ∙ ap (λ (s : StoreView). record s { applied = set s.applied c.args.stripe c.end_after-end.result; dirty = set_where (λ page. (stripe_of page == c.args.stripe) && is_touched_between s.pages s.kept.log.records page (get_or s.applied c.args.stripe 0) c.end_after-end.result) 16 s.dirty; faults = d.faults c.redo_stripe.new.disk.disk }) (ap (λ (o : Option MemoryView). store_on (reads_of d.reads i.disk) i.pages o i.is_sound (d.faults i.disk.disk)) (sym has) ∙ c.self.view_is)
