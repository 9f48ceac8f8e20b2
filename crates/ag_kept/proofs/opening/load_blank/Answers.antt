use Rattle.std.proofs.Common.{IsTrue, Err, sym, ap, ◌∙◌, subst}
use Rattle.ag_outside.specs.Disks.{Image, or_zeros, Only}
use Rattle.ag_outside.specs.Scripts.{ScriptedView}
use Rattle.ag_outside.specs.Shown.{reads_of, holds_of}
use Rattle.ag_logstore.specs.LogOf.{IsLogOf}
use Rattle.ag_kept.proofs.Calls.{free_fails}
use Rattle.ag_kept.proofs.Opened.{store_is, blank_ready, free_load_settles}
use Rattle.ag_kept.proofs.opening.load_blank.Goals as goal

pub returns-in-Ok-clause-blank : goal.returns-in-Ok-clause-blank
returns-in-Ok-clause-blank g c =
    let d = g.D.Disk in
    let blank = c.requires.blank in
    let k : IsTrue (d.keeps c.arm.new.self.disk) = subst (λ (v : ScriptedView _). IsTrue (d.keeps v.disk)) (sym c.arm.ensures) blank.modelled in
    let settled = (free_load_settles d.keeps d.reads d.may_hold d.faults c.args.disk.now c.arm.new.self c.load.new.disk c.arm.ensures blank.unsynced c.in-Ok.ensures.calls).0 in
    let same = c.in-Ok.ensures.reads k ∙ ap (reads_of d.reads) c.arm.ensures in
    record {
      modelled = subst IsTrue (sym settled.keeps_same) blank.modelled;
      unsynced = settled.unsynced;
      zeros = λ at. ap (λ (image : Image). or_zeros (image at)) same ∙ blank.zeros at;
    }

pub returns-in-Ok-clause-store : goal.returns-in-Ok-clause-store
returns-in-Ok-clause-store g c =
    let d = g.D.Disk in
    let blank = c.requires.blank in
    let k : IsTrue (d.keeps c.arm.new.self.disk) = subst (λ (v : ScriptedView _). IsTrue (d.keeps v.disk)) (sym c.arm.ensures) blank.modelled in
    let log = subst (λ (v : ScriptedView _). IsLogOf (reads_of d.reads v) 0 1 c.in-Ok.store.log) c.arm.ensures (c.in-Ok.ensures.log k) in
    store_is (reads_of d.reads c.args.disk.now) c.in-Ok.store blank.zeros log c.in-Ok.ensures.fields.0 c.in-Ok.ensures.fields.1 c.in-Ok.ensures.fields.2

pub returns-in-Ok-clause-ready : goal.returns-in-Ok-clause-ready
returns-in-Ok-clause-ready g c =
    let d = g.D.Disk in
    let blank = c.requires.blank in
    let k : IsTrue (d.keeps c.arm.new.self.disk) = subst (λ (v : ScriptedView _). IsTrue (d.keeps v.disk)) (sym c.arm.ensures) blank.modelled in
    let log = subst (λ (v : ScriptedView _). IsLogOf (reads_of d.reads v) 0 1 c.in-Ok.store.log) c.arm.ensures (c.in-Ok.ensures.log k) in
    let is = store_is (reads_of d.reads c.args.disk.now) c.in-Ok.store blank.zeros log c.in-Ok.ensures.fields.0 c.in-Ok.ensures.fields.1 c.in-Ok.ensures.fields.2 in
    let same = c.in-Ok.ensures.reads k ∙ ap (reads_of d.reads) c.arm.ensures in
    blank_ready (d.keeps c.load.new.disk.disk) (reads_of d.reads c.load.new.disk) (holds_of d.keeps d.may_hold c.load.new.disk) c.in-Ok.store (λ at. ap (λ (image : Image). or_zeros (image at)) same ∙ blank.zeros at) is
    (subst (λ (image : Image). Only image (holds_of d.keeps d.may_hold c.load.new.disk)) (sym (c.in-Ok.ensures.reads k)) c.in-Ok.ensures.durable)

pub returns-in-Ok-clause-later : goal.returns-in-Ok-clause-later
returns-in-Ok-clause-later g c =
    let d = g.D.Disk in
    (free_load_settles d.keeps d.reads d.may_hold d.faults c.args.disk.now c.arm.new.self c.load.new.disk c.arm.ensures c.requires.blank.unsynced c.in-Ok.ensures.calls).1

pub returns-in-Err-DiskFault-clause-fault : goal.returns-in-Err-DiskFault-clause-fault
returns-in-Err-DiskFault-clause-fault g c = λ e.
    let d = g.D.Disk in
    free_fails d.keeps d.reads d.may_hold d.faults c.args.disk.now c.arm.new.self c.load.new.disk c.arm.ensures c.requires.blank.unsynced (c.load.ensures.broken (c.in-Err-DiskFault.is ∙ ap (λ e. Err e) c.in-Err-DiskFault.field-0-is))

pub returns-in-Ok-clause-same : goal.returns-in-Ok-clause-same
returns-in-Ok-clause-same g c =
    let d = g.D.Disk in
    let k : IsTrue (d.keeps c.arm.new.self.disk) = subst (λ (v : ScriptedView _). IsTrue (d.keeps v.disk)) (sym c.arm.ensures) c.requires.blank.modelled in
    c.in-Ok.ensures.reads k ∙ ap (reads_of d.reads) c.arm.ensures
