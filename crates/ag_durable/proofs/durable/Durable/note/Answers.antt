use Rattle.std.proofs.Common.{◌≡◌, ◌≤◌, ◌∷◌, [], true, refl, sym, ap, ◌∙◌, subst}
use Rattle.std.specs.Prelude.{OnOk, IsErrOf}
use Rattle.ag_outside.specs.Counts.{HasRisen}
use Rattle.ag_outside.specs.Shown.{reads_of}
use Rattle.ag_logstore.specs.Stored.{log_end}
use Rattle.ag_suspect.specs.Places.{noted_sector}
use Rattle.ag_rules.specs.Plan.{Note_write, can_note, noted}
use Rattle.ag_durable.specs.declared.fault.DurableFault.TheVariants.{DiskFault}
use Rattle.ag_durable.specs.declared.progress.Came.TheVariants.{Underway}
use Rattle.ag_durable.specs.Views.{DurableView}
use Rattle.ag_durable.specs.Coming.{Performs}
use Rattle.ag_durable.proofs.Appends.{under_goes}
use Rattle.ag_durable.proofs.Rows.{note_facts, row_performs, row_stands, row_risen}
use Rattle.ag_suspect.specs.declared.fault.SuspectFault.TheVariants.{DiskFault as RowDiskFault}
use Rattle.ag_durable.proofs.Laters.{batch_later}
use Rattle.ag_durable.proofs.durable.Durable.note.Goals as goal

pub invariant_of-self : goal.invariant_of-self
invariant_of-self g c =
    let d = g.D.Disk in
    let i = c.self.inside in
    let old : DurableView _ = record { disk = i.disk; log = i.log; master = i.master; suspects = i.suspects; appends = i.appends; progress = i.progress } in
    let under : old.progress.came ≡ Underway = ap (λ (v : DurableView _). v.progress.came) c.self.view_is ∙ c.requires.underway in
    let goes = under_goes d.size d.keeps d.reads d.may_hold d.faults old under c.self.invariant in
    let can : can_note c.args.page old.suspects ≡ true = subst (λ (v : DurableView _). can_note c.args.page v.suspects ≡ true) (sym c.self.view_is) c.requires.can in
    let f = note_facts old.master.pages old.master.replica (reads_of d.reads old.disk) goes.rest.keeping old.suspects c.args.page c.args.kind goes.suspects c.requires.page c.row_fits.ensures.0 c.row_fits.ensures.1 can in
    row_stands d.size d.keeps d.reads d.may_hold d.faults old c.note.new.disk c.note.new.self c.after_step.new.progress under c.self.invariant (Note_write c.args.page c.args.kind) (record { step = refl; sectors_are = refl; no_page = refl }) (noted_sector c.args.page c.args.kind i.suspects) f.low f.high (noted c.args.page c.args.kind i.suspects) f.stand f.means
    c.note.result c.taken-went.result c.after_step.result c.why.result c.why.ensures c.taken-went.ensures.refused c.taken-went.ensures.fault c.note.ensures.noted c.note.ensures.saved c.note.ensures.durable c.note.ensures.calls c.note.ensures.broken
    c.after_step.ensures.went c.after_step.ensures.broke c.after_step.ensures.known c.after_step.ensures.fault c.after_step.ensures.unknown
    (subst (λ n. log_end ≤ n) (sym c.note.ensures.size) c.self.invariant.room)

pub returns-clause-performs : goal.returns-clause-performs
returns-clause-performs g c =
    let d = g.D.Disk in
    let i = c.self.inside in
    let old : DurableView _ = record { disk = i.disk; log = i.log; master = i.master; suspects = i.suspects; appends = i.appends; progress = i.progress } in
    let under : old.progress.came ≡ Underway = ap (λ (v : DurableView _). v.progress.came) c.self.view_is ∙ c.requires.underway in
    let goes = under_goes d.size d.keeps d.reads d.may_hold d.faults old under c.self.invariant in
    let can : can_note c.args.page old.suspects ≡ true = subst (λ (v : DurableView _). can_note c.args.page v.suspects ≡ true) (sym c.self.view_is) c.requires.can in
    let f = note_facts old.master.pages old.master.replica (reads_of d.reads old.disk) goes.rest.keeping old.suspects c.args.page c.args.kind goes.suspects c.requires.page c.row_fits.ensures.0 c.row_fits.ensures.1 can in
    let new : DurableView _ = record { disk = c.note.new.disk; log = i.log; master = i.master; suspects = c.note.new.self; appends = i.appends; progress = c.after_step.new.progress } in
    subst (λ (v : DurableView _). OnOk c.after_step.result (Performs d.reads v ((Note_write c.args.page c.args.kind) ∷ []) new)) c.self.view_is
    (row_performs d.size d.keeps d.reads d.may_hold d.faults old c.note.new.disk c.note.new.self c.after_step.new.progress under c.self.invariant (Note_write c.args.page c.args.kind) (record { step = refl; sectors_are = refl; no_page = refl }) (noted_sector c.args.page c.args.kind i.suspects) f.low f.high (noted c.args.page c.args.kind i.suspects) f.stand f.means
    c.note.result c.taken-went.result c.after_step.result c.why.result c.why.ensures c.taken-went.ensures.refused c.taken-went.ensures.fault c.note.ensures.noted c.note.ensures.saved c.note.ensures.durable c.note.ensures.calls c.note.ensures.broken
    c.after_step.ensures.went c.after_step.ensures.broke c.after_step.ensures.known c.after_step.ensures.fault c.after_step.ensures.unknown)

pub returns-clause-fault : goal.returns-clause-fault
returns-clause-fault g c =
    let d = g.D.Disk in
    let i = c.self.inside in
    let old : DurableView _ = record { disk = i.disk; log = i.log; master = i.master; suspects = i.suspects; appends = i.appends; progress = i.progress } in
    let under : old.progress.came ≡ Underway = ap (λ (v : DurableView _). v.progress.came) c.self.view_is ∙ c.requires.underway in
    let goes = under_goes d.size d.keeps d.reads d.may_hold d.faults old under c.self.invariant in
    let can : can_note c.args.page old.suspects ≡ true = subst (λ (v : DurableView _). can_note c.args.page v.suspects ≡ true) (sym c.self.view_is) c.requires.can in
    let f = note_facts old.master.pages old.master.replica (reads_of d.reads old.disk) goes.rest.keeping old.suspects c.args.page c.args.kind goes.suspects c.requires.page c.row_fits.ensures.0 c.row_fits.ensures.1 can in
    subst (λ (v : DurableView _). IsErrOf c.after_step.result DiskFault → HasRisen (d.faults v.disk.disk) (d.faults c.note.new.disk.disk)) c.self.view_is
    (row_risen d.size d.keeps d.reads d.may_hold d.faults old c.note.new.disk c.note.new.self c.after_step.new.progress under c.self.invariant (Note_write c.args.page c.args.kind) (record { step = refl; sectors_are = refl; no_page = refl }) (noted_sector c.args.page c.args.kind i.suspects) f.low f.high (noted c.args.page c.args.kind i.suspects) f.stand f.means
    c.note.result c.taken-went.result c.after_step.result c.why.result c.why.ensures c.taken-went.ensures.refused c.taken-went.ensures.fault c.note.ensures.noted c.note.ensures.saved c.note.ensures.durable c.note.ensures.calls c.note.ensures.broken
    c.after_step.ensures.went c.after_step.ensures.broke c.after_step.ensures.known c.after_step.ensures.fault c.after_step.ensures.unknown)

pub returns-clause-later : goal.returns-clause-later
returns-clause-later g c =
    let d = g.D.Disk in
    let i = c.self.inside in
    subst (λ (v : DurableView _). OnOk c.after_step.result (d.faults v.disk.disk ≤ d.faults c.note.new.disk.disk)) c.self.view_is
    (batch_later d.keeps d.reads d.may_hold d.faults RowDiskFault i.disk c.note.new.disk _ c.note.result c.taken-went.result c.after_step.result
    c.taken-went.ensures.refused c.taken-went.ensures.fault c.after_step.ensures.known c.note.ensures.calls c.note.ensures.broken)
