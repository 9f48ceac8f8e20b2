use Rattle.std.proofs.Common.{◌≡◌, ℕ, IsTrue, Err, true, false, sym, ap, ◌∙◌, subst}
use Rattle.ag_outside.specs.Disks.{Only}
use Rattle.ag_outside.specs.Scripts.{ScriptedView}
use Rattle.ag_outside.specs.Shown.{reads_of, holds_of, did_of}
use Rattle.ag_kept.specs.declared.fault.KeptFault.TheVariants.{DiskFault}
use Rattle.ag_kept.specs.Ending.{IsSettled}
use Rattle.ag_pagestore.specs.Homes.{told_images}
use Rattle.ag_stripe.specs.Answers.{HasNoImage}
use Rattle.ag_stripe.specs.Known.{Told}
use Rattle.ag_pages.specs.declared.flush.FlushFault.{FlushFault}
use Rattle.ag_pages.specs.Flush.{TakesBatches, batches, IsFlushFault}
use Rattle.ag_pages.specs.Views.{is_page, is_dirty, known_of}
use Rattle.ag_store.specs.Flushing.{WrotePages}
use Rattle.ag_store.proofs.Asking.{armed_told}
use Rattle.ag_store.proofs.Flushes.{first_stays, logs_stay, wrote_freed, written_home}
use Rattle.ag_store.proofs.Redone.{fault-in}
use Rattle.ag_store.proofs.Writing.{batches_settle, armed_breaks, armed_later}
use Rattle.ag_store.proofs.flushing.write_pages.Goals as goal

pub flush-requires-clause-keeps : goal.flush-requires-clause-keeps
flush-requires-clause-keeps g c =
    let d = g.D.Disk in
    subst (λ (v : ScriptedView _). IsTrue (d.keeps v.disk)) (sym c.arm.ensures) c.requires.home.modelled

pub returns-in-Ok-clause-home : goal.returns-in-Ok-clause-home
returns-in-Ok-clause-home g c =
    let d = g.D.Disk in
    let old = c.args.disk.now in
    let new = c.flush.new.disk in
    let v = c.args.pages.now in
    let s : IsSettled d.keeps c.arm.new.self new = batches_settle d.size d.keeps d.reads d.may_hold d.faults (batches v) c.arm.new.self new (ap (λ (v : ScriptedView _). v.unsynced) c.arm.ensures ∙ c.requires.home.unsynced) (ap (λ (v : ScriptedView _). v.order) c.arm.ensures) c.in-Ok.ensures.calls in
    let settled : IsSettled d.keeps old new = record { unsynced = s.unsynced; keeps_same = s.keeps_same ∙ ap (λ (v : ScriptedView _). d.keeps v.disk) c.arm.ensures } in
    let f : WrotePages d.keeps d.reads old new v c.flush.new.self = wrote_freed d.keeps d.reads old new v c.flush.new.self c.arm.new.self c.arm.ensures (record { clean = c.in-Ok.ensures.clean; known = c.in-Ok.ensures.known; cells = c.in-Ok.ensures.cells; images = c.in-Ok.ensures.images; other_images = c.in-Ok.ensures.other_images; others = c.in-Ok.ensures.others }) in
    written_home d.keeps d.reads d.may_hold old new c.requires.home (first_stays d.keeps d.reads old new v c.flush.new.self f c.requires.count) (logs_stay d.keeps d.reads old new v c.flush.new.self f c.requires.count) settled

pub returns-in-Ok-clause-wrote : goal.returns-in-Ok-clause-wrote
returns-in-Ok-clause-wrote g c =
    let d = g.D.Disk in
    wrote_freed d.keeps d.reads c.args.disk.now c.flush.new.disk c.args.pages.now c.flush.new.self c.arm.new.self c.arm.ensures (record { clean = c.in-Ok.ensures.clean; known = c.in-Ok.ensures.known; cells = c.in-Ok.ensures.cells; images = c.in-Ok.ensures.images; other_images = c.in-Ok.ensures.other_images; others = c.in-Ok.ensures.others })

pub returns-in-Ok-clause-calls : goal.returns-in-Ok-clause-calls
returns-in-Ok-clause-calls g c =
    let d = g.D.Disk in
    subst (λ (v : ScriptedView _). TakesBatches (λ s. d.size s.disk) (λ s. d.keeps s.disk) (reads_of d.reads) (holds_of d.keeps d.may_hold) (did_of d.keeps d.reads d.may_hold d.faults) v (batches c.args.pages.now) c.flush.new.disk) c.arm.ensures c.in-Ok.ensures.calls

pub returns-in-Ok-clause-durable : goal.returns-in-Ok-clause-durable
returns-in-Ok-clause-durable g c =
    let d = g.D.Disk in
    subst (λ (v : ScriptedView _). (((page : ℕ) → is_page c.args.pages.now page ≡ true → is_dirty c.args.pages.now page ≡ false) → Only (reads_of d.reads v) (holds_of d.keeps d.may_hold v)) → Only (reads_of d.reads c.flush.new.disk) (holds_of d.keeps d.may_hold c.flush.new.disk)) c.arm.ensures c.in-Ok.ensures.durable

pub returns-in-Ok-clause-later : goal.returns-in-Ok-clause-later
returns-in-Ok-clause-later g c =
    let d = g.D.Disk in
    armed_later d.size d.keeps d.reads d.may_hold d.faults c.args.disk.now c.arm.new.self c.flush.new.disk c.arm.ensures c.requires.home.unsynced (batches c.args.pages.now) c.in-Ok.ensures.calls

pub returns-in-Err-Disk-clause-fault : goal.returns-in-Err-Disk-clause-fault
returns-in-Err-Disk-clause-fault g c =
    let d = g.D.Disk in
    λ e. armed_breaks d.size d.keeps d.reads d.may_hold d.faults c.args.disk.now c.arm.new.self c.flush.new.disk c.arm.ensures c.requires.home.unsynced (batches c.args.pages.now) (c.flush.ensures.broken (c.in-Err-Disk.is ∙ ap (λ x. Err x) c.in-Err-Disk.field-0-is)) (sym c.why.ensures ∙ c.fault_of_read.ensures (fault-in {T = Unit {0}} c.fault_of_read.result DiskFault e))

pub unreachable-requires : goal.unreachable-requires
unreachable-requires g c =
    let d = g.D.Disk in
    let old = c.args.disk.now in
    let page = c.in-Err-Unlawful.field-0-0 in
    let f = subst (λ (e : FlushFault). IsFlushFault (told_images (d.keeps c.arm.new.self.disk) (reads_of d.reads c.arm.new.self)) c.args.pages.now e) c.in-Err-Unlawful.field-0-is c.in-Err-Unlawful.ensures.fault in
    c.requires.images page f.0
    (subst (λ (t : Told). HasNoImage (known_of t c.args.pages.now page)) (armed_told d.keeps d.reads old c.arm.new.self c.arm.ensures c.requires.home.modelled) f.2)
