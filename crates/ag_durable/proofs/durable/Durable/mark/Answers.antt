use Rattle.std.proofs.Common.{◌≡◌, ◌≤◌, ◌∷◌, [], true, refl, sym, ap, ◌∙◌, subst}
use Rattle.std.specs.Prelude.{OnOk, IsErrOf, IsTrue}
use Rattle.ag_outside.specs.Counts.{HasRisen}
use Rattle.ag_outside.specs.Disks.{Only, put}
use Rattle.ag_outside.specs.Calls.{TakesAll}
use Rattle.ag_outside.specs.Shown.{reads_of, holds_of, did_of}
use Rattle.ag_logstore.specs.Stored.{log_end}
use Rattle.ag_suspect.specs.Places.{repaired, repaired_sector, piece_of}
use Rattle.ag_rules.specs.Plan.{Repaired_write, has_row}
use Rattle.ag_durable.specs.declared.fault.DurableFault.TheVariants.{DiskFault}
use Rattle.ag_durable.specs.declared.progress.Came.TheVariants.{Underway}
use Rattle.ag_durable.specs.Views.{DurableView}
use Rattle.ag_durable.specs.Coming.{Performs}
use Rattle.ag_durable.proofs.Appends.{under_goes}
use Rattle.ag_durable.proofs.Rows.{mark_facts, when_marked, row_performs, row_stands, row_risen}
use Rattle.ag_suspect.specs.declared.fault.SuspectFault.TheVariants.{DiskFault as RowDiskFault}
use Rattle.ag_durable.proofs.Laters.{batch_later}
use Rattle.ag_durable.proofs.durable.Durable.mark.Goals as goal

pub invariant_of-self : goal.invariant_of-self
invariant_of-self g c =
    let d = g.D.Disk in
    let i = c.self.inside in
    let old : DurableView _ = record { disk = i.disk; log = i.log; master = i.master; suspects = i.suspects; appends = i.appends; progress = i.progress } in
    let under : old.progress.came ≡ Underway = ap (λ (v : DurableView _). v.progress.came) c.self.view_is ∙ c.requires.underway in
    let goes = under_goes d.size d.keeps d.reads d.may_hold d.faults old under c.self.invariant in
    let had : has_row c.args.page old.suspects ≡ true = subst (λ (v : DurableView _). has_row c.args.page v.suspects ≡ true) (sym c.self.view_is) c.requires.had in
    let f = mark_facts old.master.pages old.master.replica (reads_of d.reads old.disk) goes.rest.keeping old.suspects c.args.page goes.suspects had in
    row_stands d.size d.keeps d.reads d.may_hold d.faults old c.mark.new.disk c.mark.new.self c.after_step.new.progress under c.self.invariant (Repaired_write c.args.page) (record { step = refl; sectors_are = refl; no_page = refl }) (repaired_sector c.args.page i.suspects) f.low f.high (repaired c.args.page i.suspects) f.stand f.means
    c.mark.result c.taken-went.result c.after_step.result c.why.result c.why.ensures c.taken-went.ensures.refused c.taken-went.ensures.fault c.mark.ensures.marked (when_marked (IsTrue (d.keeps i.disk.disk) → reads_of d.reads c.mark.new.disk ≡ put (reads_of d.reads i.disk) (repaired_sector c.args.page i.suspects)) c.mark.result (has_row c.args.page i.suspects) had c.mark.ensures.told c.mark.ensures.saved) (when_marked (IsTrue (d.keeps i.disk.disk) → Only (reads_of d.reads c.mark.new.disk) (holds_of d.keeps d.may_hold c.mark.new.disk)) c.mark.result (has_row c.args.page i.suspects) had c.mark.ensures.told c.mark.ensures.durable) (when_marked (TakesAll (did_of d.keeps d.reads d.may_hold d.faults) i.disk (piece_of (repaired_sector c.args.page i.suspects) ∷ []) c.mark.new.disk) c.mark.result (has_row c.args.page i.suspects) had c.mark.ensures.told c.mark.ensures.calls) c.mark.ensures.broken
    c.after_step.ensures.went c.after_step.ensures.broke c.after_step.ensures.known c.after_step.ensures.fault c.after_step.ensures.unknown
    (subst (λ n. log_end ≤ n) (sym c.mark.ensures.size) c.self.invariant.room)

pub returns-clause-performs : goal.returns-clause-performs
returns-clause-performs g c =
    let d = g.D.Disk in
    let i = c.self.inside in
    let old : DurableView _ = record { disk = i.disk; log = i.log; master = i.master; suspects = i.suspects; appends = i.appends; progress = i.progress } in
    let under : old.progress.came ≡ Underway = ap (λ (v : DurableView _). v.progress.came) c.self.view_is ∙ c.requires.underway in
    let goes = under_goes d.size d.keeps d.reads d.may_hold d.faults old under c.self.invariant in
    let had : has_row c.args.page old.suspects ≡ true = subst (λ (v : DurableView _). has_row c.args.page v.suspects ≡ true) (sym c.self.view_is) c.requires.had in
    let f = mark_facts old.master.pages old.master.replica (reads_of d.reads old.disk) goes.rest.keeping old.suspects c.args.page goes.suspects had in
    let new : DurableView _ = record { disk = c.mark.new.disk; log = i.log; master = i.master; suspects = c.mark.new.self; appends = i.appends; progress = c.after_step.new.progress } in
    subst (λ (v : DurableView _). OnOk c.after_step.result (Performs d.reads v ((Repaired_write c.args.page) ∷ []) new)) c.self.view_is
    (row_performs d.size d.keeps d.reads d.may_hold d.faults old c.mark.new.disk c.mark.new.self c.after_step.new.progress under c.self.invariant (Repaired_write c.args.page) (record { step = refl; sectors_are = refl; no_page = refl }) (repaired_sector c.args.page i.suspects) f.low f.high (repaired c.args.page i.suspects) f.stand f.means
    c.mark.result c.taken-went.result c.after_step.result c.why.result c.why.ensures c.taken-went.ensures.refused c.taken-went.ensures.fault c.mark.ensures.marked (when_marked (IsTrue (d.keeps i.disk.disk) → reads_of d.reads c.mark.new.disk ≡ put (reads_of d.reads i.disk) (repaired_sector c.args.page i.suspects)) c.mark.result (has_row c.args.page i.suspects) had c.mark.ensures.told c.mark.ensures.saved) (when_marked (IsTrue (d.keeps i.disk.disk) → Only (reads_of d.reads c.mark.new.disk) (holds_of d.keeps d.may_hold c.mark.new.disk)) c.mark.result (has_row c.args.page i.suspects) had c.mark.ensures.told c.mark.ensures.durable) (when_marked (TakesAll (did_of d.keeps d.reads d.may_hold d.faults) i.disk (piece_of (repaired_sector c.args.page i.suspects) ∷ []) c.mark.new.disk) c.mark.result (has_row c.args.page i.suspects) had c.mark.ensures.told c.mark.ensures.calls) c.mark.ensures.broken
    c.after_step.ensures.went c.after_step.ensures.broke c.after_step.ensures.known c.after_step.ensures.fault c.after_step.ensures.unknown)

pub returns-clause-fault : goal.returns-clause-fault
returns-clause-fault g c =
    let d = g.D.Disk in
    let i = c.self.inside in
    let old : DurableView _ = record { disk = i.disk; log = i.log; master = i.master; suspects = i.suspects; appends = i.appends; progress = i.progress } in
    let under : old.progress.came ≡ Underway = ap (λ (v : DurableView _). v.progress.came) c.self.view_is ∙ c.requires.underway in
    let goes = under_goes d.size d.keeps d.reads d.may_hold d.faults old under c.self.invariant in
    let had : has_row c.args.page old.suspects ≡ true = subst (λ (v : DurableView _). has_row c.args.page v.suspects ≡ true) (sym c.self.view_is) c.requires.had in
    let f = mark_facts old.master.pages old.master.replica (reads_of d.reads old.disk) goes.rest.keeping old.suspects c.args.page goes.suspects had in
    subst (λ (v : DurableView _). IsErrOf c.after_step.result DiskFault → HasRisen (d.faults v.disk.disk) (d.faults c.mark.new.disk.disk)) c.self.view_is
    (row_risen d.size d.keeps d.reads d.may_hold d.faults old c.mark.new.disk c.mark.new.self c.after_step.new.progress under c.self.invariant (Repaired_write c.args.page) (record { step = refl; sectors_are = refl; no_page = refl }) (repaired_sector c.args.page i.suspects) f.low f.high (repaired c.args.page i.suspects) f.stand f.means
    c.mark.result c.taken-went.result c.after_step.result c.why.result c.why.ensures c.taken-went.ensures.refused c.taken-went.ensures.fault c.mark.ensures.marked (when_marked (IsTrue (d.keeps i.disk.disk) → reads_of d.reads c.mark.new.disk ≡ put (reads_of d.reads i.disk) (repaired_sector c.args.page i.suspects)) c.mark.result (has_row c.args.page i.suspects) had c.mark.ensures.told c.mark.ensures.saved) (when_marked (IsTrue (d.keeps i.disk.disk) → Only (reads_of d.reads c.mark.new.disk) (holds_of d.keeps d.may_hold c.mark.new.disk)) c.mark.result (has_row c.args.page i.suspects) had c.mark.ensures.told c.mark.ensures.durable) (when_marked (TakesAll (did_of d.keeps d.reads d.may_hold d.faults) i.disk (piece_of (repaired_sector c.args.page i.suspects) ∷ []) c.mark.new.disk) c.mark.result (has_row c.args.page i.suspects) had c.mark.ensures.told c.mark.ensures.calls) c.mark.ensures.broken
    c.after_step.ensures.went c.after_step.ensures.broke c.after_step.ensures.known c.after_step.ensures.fault c.after_step.ensures.unknown)

pub returns-clause-later : goal.returns-clause-later
returns-clause-later g c =
    let d = g.D.Disk in
    let i = c.self.inside in
    let old : DurableView _ = record { disk = i.disk; log = i.log; master = i.master; suspects = i.suspects; appends = i.appends; progress = i.progress } in
    let had : has_row c.args.page old.suspects ≡ true = subst (λ (v : DurableView _). has_row c.args.page v.suspects ≡ true) (sym c.self.view_is) c.requires.had in
    let pieces = piece_of (repaired_sector c.args.page i.suspects) ∷ [] in
    subst (λ (v : DurableView _). OnOk c.after_step.result (d.faults v.disk.disk ≤ d.faults c.mark.new.disk.disk)) c.self.view_is
    (batch_later d.keeps d.reads d.may_hold d.faults RowDiskFault i.disk c.mark.new.disk pieces c.mark.result c.taken-went.result c.after_step.result
    c.taken-went.ensures.refused c.taken-went.ensures.fault c.after_step.ensures.known
    (when_marked (TakesAll (did_of d.keeps d.reads d.may_hold d.faults) i.disk pieces c.mark.new.disk) c.mark.result (has_row c.args.page i.suspects) had c.mark.ensures.told c.mark.ensures.calls) c.mark.ensures.broken)
