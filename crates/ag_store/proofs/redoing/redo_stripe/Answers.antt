use Rattle.std.proofs.Common.{◌≡◌, ◌-◌, ◌≤◌, ℕ, List, take, drop, sym, ap, ◌∙◌, subst, arith}
use Rattle.ag_model.specs.declared.record.Record.{Record}
use Rattle.ag_model.specs.Blocks.{after_to}
use Rattle.ag_outside.specs.Scripts.{ScriptedView}
use Rattle.ag_outside.specs.Shown.{reads_of}
use Rattle.ag_pagestore.specs.Homes.{told_images}
use Rattle.ag_stripe.specs.Known.{known_by}
use Rattle.ag_stripe.specs.declared.fault.StripeFault.{StripeFault}
use Rattle.ag_pages.specs.Redo.{IsRedoFault}
use Rattle.ag_pages.specs.Views.{applied_of}
use Rattle.ag_store.specs.Standing.{told_on}
use Rattle.ag_kept.specs.declared.fault.KeptFault.TheVariants.{DiskFault}
use Rattle.ag_store.proofs.Redone.{fault-in, not_bad, not_foreign, told-is, shown_same, same_size, read_later, read_risen, reaches, is_redone}
use Rattle.ag_store.proofs.Touching.{slice-between}
use Rattle.ag_store.proofs.redoing.redo_stripe.Goals as goal

pub redo-requires-clause-room : goal.redo-requires-clause-room
redo-requires-clause-room g c =
    let d = g.D.Disk in
    let old = c.args.disk.now in
    let from = c.applied-from.result in
    let rs : List Record = take (c.args.end - from) (drop from c.records.result.now) in
    let low : from ≤ c.args.end = omega (arith, c.applied-from.ensures, c.requires.from) in
    let e : rs ≡ after_to (applied_of c.args.pages.now c.args.stripe) c.args.end c.args.log.now.records
    = slice-between from c.args.end c.records.result.now low ∙ ap (after_to from c.args.end) c.records.ensures ∙ ap (λ (n : ℕ). after_to n c.args.end c.args.log.now.records) c.applied-from.ensures in
    let told = told_images (d.keeps c.arm.new.self.disk) (reads_of d.reads c.arm.new.self) in
    let t : told_images (d.keeps c.arm.new.self.disk) (reads_of d.reads c.arm.new.self) ≡ told_on (reads_of d.reads old)
    = ap (λ (v : ScriptedView _). told_images (d.keeps v.disk) (reads_of d.reads v)) c.arm.ensures ∙ told-is (d.keeps old.disk) (reads_of d.reads old) c.requires.keeps in
    omega (arith, reaches (reads_of d.reads old) c.args.log.now c.args.stripe c.args.end c.args.pages.now rs told t c.requires.proper c.requires.end c.requires.from e c.requires.ahead, c.ranges.end.fits)

pub returns-in-Ok-clause-pages : goal.returns-in-Ok-clause-pages
returns-in-Ok-clause-pages g c =
    let d = g.D.Disk in
    let old = c.args.disk.now in
    let from = c.applied-from.result in
    let rs : List Record = take (c.args.end - from) (drop from c.records.result.now) in
    let low : from ≤ c.args.end = omega (arith, c.applied-from.ensures, c.requires.from) in
    let e : rs ≡ after_to (applied_of c.args.pages.now c.args.stripe) c.args.end c.args.log.now.records
    = slice-between from c.args.end c.records.result.now low ∙ ap (after_to from c.args.end) c.records.ensures ∙ ap (λ (n : ℕ). after_to n c.args.end c.args.log.now.records) c.applied-from.ensures in
    let told = told_images (d.keeps c.arm.new.self.disk) (reads_of d.reads c.arm.new.self) in
    let t : told_images (d.keeps c.arm.new.self.disk) (reads_of d.reads c.arm.new.self) ≡ told_on (reads_of d.reads old)
    = ap (λ (v : ScriptedView _). told_images (d.keeps v.disk) (reads_of d.reads v)) c.arm.ensures ∙ told-is (d.keeps old.disk) (reads_of d.reads old) c.requires.keeps in
    is_redone (reads_of d.reads old) c.args.log.now c.args.stripe c.args.end c.args.pages.now rs told t c.requires.proper c.requires.end c.requires.from e c.requires.ahead c.redo.new.self c.redo.ensures.count c.in-Ok.ensures.applied c.in-Ok.ensures.values c.in-Ok.ensures.dirty
    (λ page off. ap (λ s. known_by told page s.value) (c.redo.ensures.others page off)) (λ page off. ap (λ s. s.dirty) (c.redo.ensures.others page off))

pub returns-in-Ok-clause-disk : goal.returns-in-Ok-clause-disk
returns-in-Ok-clause-disk g c =
    let d = g.D.Disk in
    let old = c.args.disk.now in
    shown_same d.size d.keeps d.reads d.may_hold d.faults old c.arm.new.self c.redo.new.disk c.arm.ensures c.redo.ensures.disk

pub returns-in-Ok-clause-later : goal.returns-in-Ok-clause-later
returns-in-Ok-clause-later g c =
    let d = g.D.Disk in
    let old = c.args.disk.now in
    read_later d.size d.keeps d.reads d.may_hold d.faults old c.arm.new.self c.redo.new.disk c.arm.ensures c.redo.ensures.disk

pub returns-in-Ok-clause-size : goal.returns-in-Ok-clause-size
returns-in-Ok-clause-size g c =
    let d = g.D.Disk in
    let old = c.args.disk.now in
    same_size d.size d.keeps d.reads d.may_hold d.faults old c.arm.new.self c.redo.new.disk c.arm.ensures c.redo.ensures.disk

pub returns-in-Err-Home-clause-later : goal.returns-in-Err-Home-clause-later
returns-in-Err-Home-clause-later g c =
    let d = g.D.Disk in
    let old = c.args.disk.now in
    read_later d.size d.keeps d.reads d.may_hold d.faults old c.arm.new.self c.redo.new.disk c.arm.ensures c.redo.ensures.disk

pub returns-in-Err-Home-clause-size : goal.returns-in-Err-Home-clause-size
returns-in-Err-Home-clause-size g c =
    let d = g.D.Disk in
    let old = c.args.disk.now in
    same_size d.size d.keeps d.reads d.may_hold d.faults old c.arm.new.self c.redo.new.disk c.arm.ensures c.redo.ensures.disk

pub returns-in-Err-NoMemory-clause-later : goal.returns-in-Err-NoMemory-clause-later
returns-in-Err-NoMemory-clause-later g c =
    let d = g.D.Disk in
    let old = c.args.disk.now in
    read_later d.size d.keeps d.reads d.may_hold d.faults old c.arm.new.self c.redo.new.disk c.arm.ensures c.redo.ensures.disk

pub returns-in-Err-NoMemory-clause-size : goal.returns-in-Err-NoMemory-clause-size
returns-in-Err-NoMemory-clause-size g c =
    let d = g.D.Disk in
    let old = c.args.disk.now in
    same_size d.size d.keeps d.reads d.may_hold d.faults old c.arm.new.self c.redo.new.disk c.arm.ensures c.redo.ensures.disk

pub returns-in-Err-Home-clause-fault : goal.returns-in-Err-Home-clause-fault
returns-in-Err-Home-clause-fault g c =
    let d = g.D.Disk in
    let old = c.args.disk.now in
    λ failed. read_risen d.size d.keeps d.reads d.may_hold d.faults old c.arm.new.self c.redo.new.disk c.arm.ensures c.redo.ensures.disk (sym c.why.ensures ∙ c.fault_of_read.ensures (fault-in {T = Unit {0}} c.fault_of_read.result DiskFault failed))

pub unreachable-requires : goal.unreachable-requires
unreachable-requires g c =
    let d = g.D.Disk in
    let old = c.args.disk.now in
    let from = c.applied-from.result in
    let rs : List Record = take (c.args.end - from) (drop from c.records.result.now) in
    let low : from ≤ c.args.end = omega (arith, c.applied-from.ensures, c.requires.from) in
    let e : rs ≡ after_to (applied_of c.args.pages.now c.args.stripe) c.args.end c.args.log.now.records
    = slice-between from c.args.end c.records.result.now low ∙ ap (after_to from c.args.end) c.records.ensures ∙ ap (λ (n : ℕ). after_to n c.args.end c.args.log.now.records) c.applied-from.ensures in
    let told = told_images (d.keeps c.arm.new.self.disk) (reads_of d.reads c.arm.new.self) in
    let t : told_images (d.keeps c.arm.new.self.disk) (reads_of d.reads c.arm.new.self) ≡ told_on (reads_of d.reads old)
    = ap (λ (v : ScriptedView _). told_images (d.keeps v.disk) (reads_of d.reads v)) c.arm.ensures ∙ told-is (d.keeps old.disk) (reads_of d.reads old) c.requires.keeps in
    not_bad (reads_of d.reads old) c.args.log.now c.args.stripe c.args.end c.args.pages.now rs told t c.requires.proper c.requires.end c.requires.from e c.requires.ahead c.in-Err-Bad.field-0-0
    (subst (λ (x : StripeFault). IsRedoFault told c.args.pages.now c.args.stripe rs x) c.in-Err-Bad.field-0-is c.in-Err-Bad.ensures.fault)

pub unreachable-requires-in-Err-Unlawful : goal.unreachable-requires-in-Err-Unlawful
unreachable-requires-in-Err-Unlawful g c =
    let d = g.D.Disk in
    let old = c.args.disk.now in
    let from = c.applied-from.result in
    let rs : List Record = take (c.args.end - from) (drop from c.records.result.now) in
    let low : from ≤ c.args.end = omega (arith, c.applied-from.ensures, c.requires.from) in
    let e : rs ≡ after_to (applied_of c.args.pages.now c.args.stripe) c.args.end c.args.log.now.records
    = slice-between from c.args.end c.records.result.now low ∙ ap (after_to from c.args.end) c.records.ensures ∙ ap (λ (n : ℕ). after_to n c.args.end c.args.log.now.records) c.applied-from.ensures in
    let told = told_images (d.keeps c.arm.new.self.disk) (reads_of d.reads c.arm.new.self) in
    let t : told_images (d.keeps c.arm.new.self.disk) (reads_of d.reads c.arm.new.self) ≡ told_on (reads_of d.reads old)
    = ap (λ (v : ScriptedView _). told_images (d.keeps v.disk) (reads_of d.reads v)) c.arm.ensures ∙ told-is (d.keeps old.disk) (reads_of d.reads old) c.requires.keeps in
    not_foreign (reads_of d.reads old) c.args.log.now c.args.stripe c.args.end c.args.pages.now rs told t c.requires.proper c.requires.end c.requires.from e c.requires.ahead c.in-Err-Unlawful.field-0-0
    (subst (λ (x : StripeFault). IsRedoFault told c.args.pages.now c.args.stripe rs x) c.in-Err-Unlawful.field-0-is c.in-Err-Unlawful.ensures.fault)
