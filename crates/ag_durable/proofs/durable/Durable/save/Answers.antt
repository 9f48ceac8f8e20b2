use Rattle.std.proofs.Common.{◌≡◌, ◌≤◌, ◌∷◌, [], sym, ap, ◌∙◌, subst}
use Rattle.std.specs.Prelude.{OnOk, IsErrOf}
use Rattle.ag_outside.specs.Counts.{HasRisen}
use Rattle.ag_logstore.specs.Stored.{log_end}
use Rattle.ag_rules.specs.Plan.{Master_write}
use Rattle.ag_writes.specs.Writes.{master_of}
use Rattle.ag_keeping.specs.Cutting.{CanCut}
use Rattle.ag_durable.specs.declared.fault.DurableFault.TheVariants.{DiskFault}
use Rattle.ag_durable.specs.declared.progress.Came.TheVariants.{Underway}
use Rattle.ag_durable.specs.Views.{DurableView}
use Rattle.ag_durable.specs.Coming.{Performs}
use Rattle.ag_durable.proofs.Saves.{save_performs, save_stands, save_risen}
use Rattle.ag_master.specs.declared.store.MasterFault.TheVariants.{DiskFault as MasterDiskFault}
use Rattle.ag_durable.proofs.Laters.{batch_later}
use Rattle.ag_durable.proofs.durable.Durable.save.Goals as goal

pub invariant_of-self : goal.invariant_of-self
invariant_of-self g c =
    let d = g.D.Disk in
    let i = c.self.inside in
    let old : DurableView _ = record { disk = i.disk; log = i.log; master = i.master; suspects = i.suspects; appends = i.appends; progress = i.progress } in
    let m = master_of c.args.words.now in
    let under : old.progress.came ≡ Underway = ap (λ (v : DurableView _). v.progress.came) c.self.view_is ∙ c.requires.underway in
    let can : CanCut old.master old.log.log m c.args.log_end = subst (λ (v : DurableView _). CanCut v.master v.log.log m c.args.log_end) (sym c.self.view_is) c.requires.cut in
    save_stands d.size d.keeps d.reads d.may_hold d.faults old c.save.new.disk c.follow.new.log c.follow.new.master c.follow.new.appends c.after_step.new.progress m c.args.log_end c.sector_master-next.result under c.self.invariant can c.sector_master-next.ensures c.has_spelling.ensures.fits
    c.save.result c.taken-went.result c.after_step.result c.why.result c.why.ensures c.taken-went.ensures.refused c.taken-went.ensures.fault c.follow.ensures.went c.follow.ensures.kept c.save.ensures.saved c.save.ensures.durable c.save.ensures.calls c.save.ensures.broken
    c.after_step.ensures.went c.after_step.ensures.broke c.after_step.ensures.known c.after_step.ensures.fault c.after_step.ensures.unknown
    (subst (λ n. log_end ≤ n) (sym c.save.ensures.size) c.self.invariant.room)

pub returns-clause-performs : goal.returns-clause-performs
returns-clause-performs g c =
    let d = g.D.Disk in
    let i = c.self.inside in
    let old : DurableView _ = record { disk = i.disk; log = i.log; master = i.master; suspects = i.suspects; appends = i.appends; progress = i.progress } in
    let m = master_of c.args.words.now in
    let under : old.progress.came ≡ Underway = ap (λ (v : DurableView _). v.progress.came) c.self.view_is ∙ c.requires.underway in
    let can : CanCut old.master old.log.log m c.args.log_end = subst (λ (v : DurableView _). CanCut v.master v.log.log m c.args.log_end) (sym c.self.view_is) c.requires.cut in
    let new : DurableView _ = record { disk = c.save.new.disk; log = c.follow.new.log; master = c.follow.new.master; suspects = i.suspects; appends = c.follow.new.appends; progress = c.after_step.new.progress } in
    subst (λ (v : DurableView _). OnOk c.after_step.result (Performs d.reads v (Master_write m c.args.log_end ∷ []) new)) c.self.view_is
    (save_performs d.size d.keeps d.reads d.may_hold d.faults old c.save.new.disk c.follow.new.log c.follow.new.master c.follow.new.appends c.after_step.new.progress m c.args.log_end c.sector_master-next.result under c.self.invariant can c.sector_master-next.ensures c.has_spelling.ensures.fits
    c.save.result c.taken-went.result c.after_step.result c.why.result c.why.ensures c.taken-went.ensures.refused c.taken-went.ensures.fault c.follow.ensures.went c.follow.ensures.kept c.save.ensures.saved c.save.ensures.durable c.save.ensures.calls c.save.ensures.broken
    c.after_step.ensures.went c.after_step.ensures.broke c.after_step.ensures.known c.after_step.ensures.fault c.after_step.ensures.unknown)

pub returns-clause-fault : goal.returns-clause-fault
returns-clause-fault g c =
    let d = g.D.Disk in
    let i = c.self.inside in
    let old : DurableView _ = record { disk = i.disk; log = i.log; master = i.master; suspects = i.suspects; appends = i.appends; progress = i.progress } in
    let m = master_of c.args.words.now in
    let under : old.progress.came ≡ Underway = ap (λ (v : DurableView _). v.progress.came) c.self.view_is ∙ c.requires.underway in
    let can : CanCut old.master old.log.log m c.args.log_end = subst (λ (v : DurableView _). CanCut v.master v.log.log m c.args.log_end) (sym c.self.view_is) c.requires.cut in
    subst (λ (v : DurableView _). IsErrOf c.after_step.result DiskFault → HasRisen (d.faults v.disk.disk) (d.faults c.save.new.disk.disk)) c.self.view_is
    (save_risen d.size d.keeps d.reads d.may_hold d.faults old c.save.new.disk c.follow.new.log c.follow.new.master c.follow.new.appends c.after_step.new.progress m c.args.log_end c.sector_master-next.result under c.self.invariant can c.sector_master-next.ensures c.has_spelling.ensures.fits
    c.save.result c.taken-went.result c.after_step.result c.why.result c.why.ensures c.taken-went.ensures.refused c.taken-went.ensures.fault c.follow.ensures.went c.follow.ensures.kept c.save.ensures.saved c.save.ensures.durable c.save.ensures.calls c.save.ensures.broken
    c.after_step.ensures.went c.after_step.ensures.broke c.after_step.ensures.known c.after_step.ensures.fault c.after_step.ensures.unknown)

pub returns-clause-later : goal.returns-clause-later
returns-clause-later g c =
    let d = g.D.Disk in
    let i = c.self.inside in
    subst (λ (v : DurableView _). OnOk c.after_step.result (d.faults v.disk.disk ≤ d.faults c.save.new.disk.disk)) c.self.view_is
    (batch_later d.keeps d.reads d.may_hold d.faults MasterDiskFault i.disk c.save.new.disk _ c.save.result c.taken-went.result c.after_step.result
    c.taken-went.ensures.refused c.taken-went.ensures.fault c.after_step.ensures.known c.save.ensures.calls c.save.ensures.broken)
