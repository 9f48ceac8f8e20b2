use Rattle.std.proofs.Common.{◌≡◌, ◌+◌, ◌≤◌, ◌∷◌, [], true, length, sym, ap, ◌∙◌, subst}
use Rattle.std.specs.Prelude.{OnOk, IsErrOf}
use Rattle.ag_model.specs.Sizes.{block_sectors, free_sectors}
use Rattle.ag_outside.specs.Counts.{HasRisen}
use Rattle.ag_logstore.specs.Stored.{log_end}
use Rattle.ag_kept.proofs.Coming.{follows_so, sectors_is}
use Rattle.ag_rules.specs.Plan.{Block_write}
use Rattle.ag_durable.specs.declared.fault.DurableFault.TheVariants.{DiskFault}
use Rattle.ag_durable.specs.declared.progress.Came.TheVariants.{Underway}
use Rattle.ag_durable.specs.Views.{DurableView}
use Rattle.ag_durable.specs.Coming.{Performs}
use Rattle.ag_durable.proofs.Appends.{goes_ready, append_performs, append_stands, append_risen}
use Rattle.ag_logstore.specs.declared.fault.LogFault.TheVariants.{DiskFault as LogDiskFault}
use Rattle.ag_durable.proofs.Laters.{batch_later}
use Rattle.ag_durable.proofs.durable.Durable.append.Goals as goal

pub invariant_of-self : goal.invariant_of-self
invariant_of-self g c =
    let d = g.D.Disk in
    let i = c.self.inside in
    let old : DurableView _ = record { disk = i.disk; log = i.log; master = i.master; suspects = i.suspects; appends = i.appends; progress = i.progress } in
    let block = c.args.block.now in
    let under : old.progress.came ≡ Underway = ap (λ (v : DurableView _). v.progress.came) c.self.view_is ∙ c.requires.underway in
    let appends : old.appends ≡ true = ap (λ (v : DurableView _). v.appends) c.self.view_is ∙ c.requires.appends in
    let first : block.first ≡ length old.log.log.records + 1 = c.requires.first ∙ ap (λ (v : DurableView _). length v.log.log.records + 1) (sym c.self.view_is) in
    let room : block_sectors block.records ≤ free_sectors old.log.log = subst (λ (v : DurableView _). block_sectors block.records ≤ free_sectors v.log.log) (sym c.self.view_is) c.requires.room in
    let sectors = sectors_is block.records c.as_slice.result.now c.in_ok-records_size.field-0 c.block_sectors_of-sectors.result c.in_ok-records_size.ensures c.as_slice.ensures c.block_sectors_of-sectors.ensures in
    let ready = goes_ready d.size d.keeps d.reads d.may_hold d.faults old under c.self.invariant in
    let f = follows_so old.log block c.requires.payload ready.0 ready.1 c.head_fits.ensures first room in
    append_stands d.size d.keeps d.reads d.may_hold d.faults old c.append_harden.new.disk c.append_harden.new.self c.after_step.new.progress block c.block_sectors_of-sectors.result under c.self.invariant appends f first sectors
    c.append_harden.result c.taken-went.result c.after_step.result c.why.result c.why.ensures c.taken-went.ensures.refused c.taken-went.ensures.fault c.append_harden.ensures.ok c.append_harden.ensures.written c.append_harden.ensures.durable c.append_harden.ensures.calls c.append_harden.ensures.broken
    c.after_step.ensures.went c.after_step.ensures.broke c.after_step.ensures.known c.after_step.ensures.fault c.after_step.ensures.unknown
    (subst (λ n. log_end ≤ n) (sym c.append_harden.ensures.size) c.self.invariant.room)

pub returns-clause-performs : goal.returns-clause-performs
returns-clause-performs g c =
    let d = g.D.Disk in
    let i = c.self.inside in
    let old : DurableView _ = record { disk = i.disk; log = i.log; master = i.master; suspects = i.suspects; appends = i.appends; progress = i.progress } in
    let block = c.args.block.now in
    let under : old.progress.came ≡ Underway = ap (λ (v : DurableView _). v.progress.came) c.self.view_is ∙ c.requires.underway in
    let appends : old.appends ≡ true = ap (λ (v : DurableView _). v.appends) c.self.view_is ∙ c.requires.appends in
    let first : block.first ≡ length old.log.log.records + 1 = c.requires.first ∙ ap (λ (v : DurableView _). length v.log.log.records + 1) (sym c.self.view_is) in
    let room : block_sectors block.records ≤ free_sectors old.log.log = subst (λ (v : DurableView _). block_sectors block.records ≤ free_sectors v.log.log) (sym c.self.view_is) c.requires.room in
    let sectors = sectors_is block.records c.as_slice.result.now c.in_ok-records_size.field-0 c.block_sectors_of-sectors.result c.in_ok-records_size.ensures c.as_slice.ensures c.block_sectors_of-sectors.ensures in
    let ready = goes_ready d.size d.keeps d.reads d.may_hold d.faults old under c.self.invariant in
    let f = follows_so old.log block c.requires.payload ready.0 ready.1 c.head_fits.ensures first room in
    let new : DurableView _ = record { disk = c.append_harden.new.disk; log = c.append_harden.new.self; master = i.master; suspects = i.suspects; appends = i.appends; progress = c.after_step.new.progress } in
    subst (λ (v : DurableView _). OnOk c.after_step.result (Performs d.reads v (Block_write block.records ∷ []) new)) c.self.view_is
    (append_performs d.size d.keeps d.reads d.may_hold d.faults old c.append_harden.new.disk c.append_harden.new.self c.after_step.new.progress block c.block_sectors_of-sectors.result under c.self.invariant appends f first sectors
    c.append_harden.result c.taken-went.result c.after_step.result c.why.result c.why.ensures c.taken-went.ensures.refused c.taken-went.ensures.fault c.append_harden.ensures.ok c.append_harden.ensures.written c.append_harden.ensures.durable c.append_harden.ensures.calls c.append_harden.ensures.broken
    c.after_step.ensures.went c.after_step.ensures.broke c.after_step.ensures.known c.after_step.ensures.fault c.after_step.ensures.unknown)

pub returns-clause-fault : goal.returns-clause-fault
returns-clause-fault g c =
    let d = g.D.Disk in
    let i = c.self.inside in
    let old : DurableView _ = record { disk = i.disk; log = i.log; master = i.master; suspects = i.suspects; appends = i.appends; progress = i.progress } in
    let block = c.args.block.now in
    let under : old.progress.came ≡ Underway = ap (λ (v : DurableView _). v.progress.came) c.self.view_is ∙ c.requires.underway in
    let appends : old.appends ≡ true = ap (λ (v : DurableView _). v.appends) c.self.view_is ∙ c.requires.appends in
    let first : block.first ≡ length old.log.log.records + 1 = c.requires.first ∙ ap (λ (v : DurableView _). length v.log.log.records + 1) (sym c.self.view_is) in
    let room : block_sectors block.records ≤ free_sectors old.log.log = subst (λ (v : DurableView _). block_sectors block.records ≤ free_sectors v.log.log) (sym c.self.view_is) c.requires.room in
    let sectors = sectors_is block.records c.as_slice.result.now c.in_ok-records_size.field-0 c.block_sectors_of-sectors.result c.in_ok-records_size.ensures c.as_slice.ensures c.block_sectors_of-sectors.ensures in
    let ready = goes_ready d.size d.keeps d.reads d.may_hold d.faults old under c.self.invariant in
    let f = follows_so old.log block c.requires.payload ready.0 ready.1 c.head_fits.ensures first room in
    subst (λ (v : DurableView _). IsErrOf c.after_step.result DiskFault → HasRisen (d.faults v.disk.disk) (d.faults c.append_harden.new.disk.disk)) c.self.view_is
    (append_risen d.size d.keeps d.reads d.may_hold d.faults old c.append_harden.new.disk c.append_harden.new.self c.after_step.new.progress block c.block_sectors_of-sectors.result under c.self.invariant appends f first sectors
    c.append_harden.result c.taken-went.result c.after_step.result c.why.result c.why.ensures c.taken-went.ensures.refused c.taken-went.ensures.fault c.append_harden.ensures.ok c.append_harden.ensures.written c.append_harden.ensures.durable c.append_harden.ensures.calls c.append_harden.ensures.broken
    c.after_step.ensures.went c.after_step.ensures.broke c.after_step.ensures.known c.after_step.ensures.fault c.after_step.ensures.unknown)

pub returns-clause-later : goal.returns-clause-later
returns-clause-later g c =
    let d = g.D.Disk in
    let i = c.self.inside in
    subst (λ (v : DurableView _). OnOk c.after_step.result (d.faults v.disk.disk ≤ d.faults c.append_harden.new.disk.disk)) c.self.view_is
    (batch_later d.keeps d.reads d.may_hold d.faults LogDiskFault i.disk c.append_harden.new.disk _ c.append_harden.result c.taken-went.result c.after_step.result
    c.taken-went.ensures.refused c.taken-went.ensures.fault c.after_step.ensures.known c.append_harden.ensures.calls c.append_harden.ensures.broken)
