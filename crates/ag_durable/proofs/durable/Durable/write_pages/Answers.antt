use Rattle.std.proofs.Common.{◌≡◌, ◌+◌, ◌<◌, ◌≤◌, sym, ap, ◌∙◌, subst}
use Rattle.std.specs.Prelude.{OnOk, IsErrOf}
use Rattle.std.specs.List.{AllByRecursion}
use Rattle.ag_outside.specs.Counts.{HasRisen}
use Rattle.ag_logstore.specs.Stored.{log_end}
use Rattle.ag_keeping.proofs.Pages.{page_writes}
use Rattle.ag_durable.specs.declared.fault.DurableFault.TheVariants.{DiskFault}
use Rattle.ag_durable.specs.declared.progress.Came.TheVariants.{Underway}
use Rattle.ag_durable.specs.Views.{DurableView}
use Rattle.ag_durable.specs.Coming.{Performs}
use Rattle.ag_durable.specs.Imaging.{WritesImages}
use Rattle.ag_durable.proofs.Pagings.{pages_perform, pages_image, pages_stand, pages_rise}
use Rattle.ag_pagestore.specs.declared.fault.PageWriteFault.TheVariants.{DiskFault as PageDiskFault}
use Rattle.ag_durable.proofs.Appends.{under_goes}
use Rattle.ag_durable.proofs.Settled.{on_ok1}
use Rattle.ag_durable.proofs.Laters.{batch_later}
use Rattle.ag_durable.proofs.durable.Durable.write_pages.Goals as goal

pub invariant_of-self : goal.invariant_of-self
invariant_of-self g c =
    let d = g.D.Disk in
    let i = c.self.inside in
    let old : DurableView _ = record { disk = i.disk; log = i.log; master = i.master; suspects = i.suspects; appends = i.appends; progress = i.progress } in
    let under : old.progress.came ≡ Underway = ap (λ (v : DurableView _). v.progress.came) c.self.view_is ∙ c.requires.underway in
    let ws = c.args.pages.now in
    let within : AllByRecursion (λ w. w.page < 16 + old.master.pages) ws = subst (λ (v : DurableView _). AllByRecursion (λ w. w.page < 16 + v.master.pages) ws) (sym c.self.view_is) c.requires.within in
    pages_stand d.size d.keeps d.reads d.may_hold d.faults old c.write_batch.new.disk c.after_pages.new.progress ws under c.self.invariant c.requires.batch c.are_whole.ensures within
    c.write_batch.result c.taken-went.result c.after_pages.result c.why.result c.why.ensures c.taken-went.ensures.refused c.taken-went.ensures.fault c.write_batch.ensures.sectors c.write_batch.ensures.durable c.write_batch.ensures.calls c.write_batch.ensures.broken
    c.after_pages.ensures.went c.after_pages.ensures.broke c.after_pages.ensures.known c.after_pages.ensures.fault c.after_pages.ensures.unknown
    (subst (λ n. log_end ≤ n) (sym c.write_batch.ensures.size) c.self.invariant.room)

pub returns-clause-performs : goal.returns-clause-performs
returns-clause-performs g c =
    let d = g.D.Disk in
    let i = c.self.inside in
    let old : DurableView _ = record { disk = i.disk; log = i.log; master = i.master; suspects = i.suspects; appends = i.appends; progress = i.progress } in
    let under : old.progress.came ≡ Underway = ap (λ (v : DurableView _). v.progress.came) c.self.view_is ∙ c.requires.underway in
    let ws = c.args.pages.now in
    let within : AllByRecursion (λ w. w.page < 16 + old.master.pages) ws = subst (λ (v : DurableView _). AllByRecursion (λ w. w.page < 16 + v.master.pages) ws) (sym c.self.view_is) c.requires.within in
    let new : DurableView _ = record { disk = c.write_batch.new.disk; log = i.log; master = i.master; suspects = i.suspects; appends = i.appends; progress = c.after_pages.new.progress } in
    subst (λ (v : DurableView _). OnOk c.after_pages.result (Performs d.reads v (page_writes ws) new)) c.self.view_is
    (pages_perform d.size d.keeps d.reads d.may_hold d.faults old c.write_batch.new.disk c.after_pages.new.progress ws under c.self.invariant c.requires.batch c.are_whole.ensures within
    c.write_batch.result c.taken-went.result c.after_pages.result c.why.result c.why.ensures c.taken-went.ensures.refused c.taken-went.ensures.fault c.write_batch.ensures.sectors c.write_batch.ensures.durable c.write_batch.ensures.calls c.write_batch.ensures.broken
    c.after_pages.ensures.went c.after_pages.ensures.broke c.after_pages.ensures.known c.after_pages.ensures.fault c.after_pages.ensures.unknown)

pub returns-clause-images : goal.returns-clause-images
returns-clause-images g c =
    let d = g.D.Disk in
    let i = c.self.inside in
    let old : DurableView _ = record { disk = i.disk; log = i.log; master = i.master; suspects = i.suspects; appends = i.appends; progress = i.progress } in
    let under : old.progress.came ≡ Underway = ap (λ (v : DurableView _). v.progress.came) c.self.view_is ∙ c.requires.underway in
    let ws = c.args.pages.now in
    let within : AllByRecursion (λ w. w.page < 16 + old.master.pages) ws = subst (λ (v : DurableView _). AllByRecursion (λ w. w.page < 16 + v.master.pages) ws) (sym c.self.view_is) c.requires.within in
    let new : DurableView _ = record { disk = c.write_batch.new.disk; log = i.log; master = i.master; suspects = i.suspects; appends = i.appends; progress = c.after_pages.new.progress } in
    subst (λ (v : DurableView _). OnOk c.after_pages.result (WritesImages d.reads v ws new)) c.self.view_is
    (pages_image d.size d.keeps d.reads d.may_hold d.faults old c.write_batch.new.disk c.after_pages.new.progress ws under c.self.invariant c.requires.batch c.are_whole.ensures within
    c.write_batch.result c.taken-went.result c.after_pages.result c.why.result c.why.ensures c.taken-went.ensures.refused c.taken-went.ensures.fault c.write_batch.ensures.sectors c.write_batch.ensures.durable c.write_batch.ensures.calls c.write_batch.ensures.broken
    c.after_pages.ensures.went c.after_pages.ensures.broke c.after_pages.ensures.known c.after_pages.ensures.fault c.after_pages.ensures.unknown)

pub returns-clause-fault : goal.returns-clause-fault
returns-clause-fault g c =
    let d = g.D.Disk in
    let i = c.self.inside in
    let old : DurableView _ = record { disk = i.disk; log = i.log; master = i.master; suspects = i.suspects; appends = i.appends; progress = i.progress } in
    let under : old.progress.came ≡ Underway = ap (λ (v : DurableView _). v.progress.came) c.self.view_is ∙ c.requires.underway in
    let ws = c.args.pages.now in
    let within : AllByRecursion (λ w. w.page < 16 + old.master.pages) ws = subst (λ (v : DurableView _). AllByRecursion (λ w. w.page < 16 + v.master.pages) ws) (sym c.self.view_is) c.requires.within in
    subst (λ (v : DurableView _). IsErrOf c.after_pages.result DiskFault → HasRisen (d.faults v.disk.disk) (d.faults c.write_batch.new.disk.disk)) c.self.view_is
    (pages_rise d.size d.keeps d.reads d.may_hold d.faults old c.write_batch.new.disk c.after_pages.new.progress ws under c.self.invariant c.requires.batch c.are_whole.ensures within
    c.write_batch.result c.taken-went.result c.after_pages.result c.why.result c.why.ensures c.taken-went.ensures.refused c.taken-went.ensures.fault c.write_batch.ensures.sectors c.write_batch.ensures.durable c.write_batch.ensures.calls c.write_batch.ensures.broken
    c.after_pages.ensures.went c.after_pages.ensures.broke c.after_pages.ensures.known c.after_pages.ensures.fault c.after_pages.ensures.unknown)

pub returns-clause-later : goal.returns-clause-later
returns-clause-later g c =
    let d = g.D.Disk in
    let i = c.self.inside in
    let old : DurableView _ = record { disk = i.disk; log = i.log; master = i.master; suspects = i.suspects; appends = i.appends; progress = i.progress } in
    let under : old.progress.came ≡ Underway = ap (λ (v : DurableView _). v.progress.came) c.self.view_is ∙ c.requires.underway in
    let k = (under_goes d.size d.keeps d.reads d.may_hold d.faults old under c.self.invariant).rest.modelled in
    subst (λ (v : DurableView _). OnOk c.after_pages.result (d.faults v.disk.disk ≤ d.faults c.write_batch.new.disk.disk)) c.self.view_is
    (batch_later d.keeps d.reads d.may_hold d.faults PageDiskFault i.disk c.write_batch.new.disk _ c.write_batch.result c.taken-went.result c.after_pages.result
    c.taken-went.ensures.refused c.taken-went.ensures.fault c.after_pages.ensures.known (on_ok1 _ _ c.write_batch.result c.write_batch.ensures.calls (λ f. f k)) (λ e. c.write_batch.ensures.broken e k))
