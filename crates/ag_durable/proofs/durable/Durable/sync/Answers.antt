use Rattle.std.proofs.Common.{◌≡◌, ◌≤◌, [], sym, ap, ◌∙◌, subst}
use Rattle.std.specs.Prelude.{OnOk, IsErrOf}
use Rattle.ag_outside.specs.Counts.{HasRisen}
use Rattle.ag_logstore.specs.Stored.{log_end}
use Rattle.ag_durable.specs.declared.fault.DurableFault.TheVariants.{DiskFault}
use Rattle.ag_durable.specs.declared.progress.Came.TheVariants.{Underway}
use Rattle.ag_durable.specs.Views.{DurableView}
use Rattle.ag_durable.specs.Coming.{Performs}
use Rattle.ag_durable.proofs.Syncs.{sync_performs, sync_stands, sync_risen}
use Rattle.ag_durable.proofs.durable.Durable.sync.Goals as goal

pub invariant_of-self : goal.invariant_of-self
invariant_of-self g c =
    let d = g.D.Disk in
    let i = c.self.inside in
    let old : DurableView _ = record { disk = i.disk; log = i.log; master = i.master; suspects = i.suspects; appends = i.appends; progress = i.progress } in
    let under : old.progress.came ≡ Underway = ap (λ (v : DurableView _). v.progress.came) c.self.view_is ∙ c.requires.underway in
    sync_stands d.size d.keeps d.reads d.may_hold d.faults old c.sync.new.self c.after_sync.new.progress under c.self.invariant
    c.sync.result c.taken-went.result c.after_sync.result c.why.result c.why.ensures c.taken-went.ensures.refused c.taken-went.ensures.fault c.sync.ensures.reads c.sync.ensures.durable c.sync.ensures.did
    c.after_sync.ensures.went c.after_sync.ensures.broke c.after_sync.ensures.known c.after_sync.ensures.fault c.after_sync.ensures.unknown
    (subst (λ n. log_end ≤ n) (sym c.sync.ensures.size) c.self.invariant.room)

pub returns-clause-performs : goal.returns-clause-performs
returns-clause-performs g c =
    let d = g.D.Disk in
    let i = c.self.inside in
    let old : DurableView _ = record { disk = i.disk; log = i.log; master = i.master; suspects = i.suspects; appends = i.appends; progress = i.progress } in
    let under : old.progress.came ≡ Underway = ap (λ (v : DurableView _). v.progress.came) c.self.view_is ∙ c.requires.underway in
    let new : DurableView _ = record { disk = c.sync.new.self; log = i.log; master = i.master; suspects = i.suspects; appends = i.appends; progress = c.after_sync.new.progress } in
    subst (λ (v : DurableView _). OnOk c.after_sync.result (Performs d.reads v [] new)) c.self.view_is
    (sync_performs d.size d.keeps d.reads d.may_hold d.faults old c.sync.new.self c.after_sync.new.progress under c.self.invariant
    c.sync.result c.taken-went.result c.after_sync.result c.why.result c.why.ensures c.taken-went.ensures.refused c.taken-went.ensures.fault c.sync.ensures.reads c.sync.ensures.durable c.sync.ensures.did
    c.after_sync.ensures.went c.after_sync.ensures.broke c.after_sync.ensures.known c.after_sync.ensures.fault c.after_sync.ensures.unknown)

pub returns-clause-fault : goal.returns-clause-fault
returns-clause-fault g c =
    let d = g.D.Disk in
    let i = c.self.inside in
    let old : DurableView _ = record { disk = i.disk; log = i.log; master = i.master; suspects = i.suspects; appends = i.appends; progress = i.progress } in
    let under : old.progress.came ≡ Underway = ap (λ (v : DurableView _). v.progress.came) c.self.view_is ∙ c.requires.underway in
    subst (λ (v : DurableView _). IsErrOf c.after_sync.result DiskFault → HasRisen (d.faults v.disk.disk) (d.faults c.sync.new.self.disk)) c.self.view_is
    (sync_risen d.size d.keeps d.reads d.may_hold d.faults old c.sync.new.self c.after_sync.new.progress under c.self.invariant
    c.sync.result c.taken-went.result c.after_sync.result c.why.result c.why.ensures c.taken-went.ensures.refused c.taken-went.ensures.fault c.sync.ensures.reads c.sync.ensures.durable c.sync.ensures.did
    c.after_sync.ensures.went c.after_sync.ensures.broke c.after_sync.ensures.known c.after_sync.ensures.fault c.after_sync.ensures.unknown)

pub returns-clause-later : goal.returns-clause-later
returns-clause-later g c =
    let d = g.D.Disk in
    subst (λ (v : DurableView _). d.faults v.disk.disk ≤ d.faults c.sync.new.self.disk) c.self.view_is c.sync.ensures.did.later
