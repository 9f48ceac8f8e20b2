use Rattle.std.proofs.Common.{◌≡◌, ℕ, [], ◌∷◌, Err, sym, ap, ◌∙◌, subst}
use Rattle.std.specs.Prelude.{IfOk, IsErrOf}
use Rattle.ag_outside.specs.Calls.{Piece}
use Rattle.ag_master.specs.declared.master.Master.{Master}
use Rattle.ag_master.specs.Spelling.{spelling}
use Rattle.ag_kept.specs.declared.fault.KeptFault.TheVariants.{DiskFault}
use Rattle.ag_kept.specs.Ending.{reach_of}
use Rattle.ag_kept.specs.Starting.{raised_master}
use Rattle.ag_outside.proofs.Quiet.{leads_later}
use Rattle.ag_kept.proofs.Calls.{write_ends, went_through}
use Rattle.ag_kept.proofs.Coming.{if_ok, on_ok, always_ok}
use Rattle.ag_kept.proofs.Beginning.{Wrote, wrote, write_below}
use Rattle.ag_kept.proofs.starting.raise.Goals as goal

abbrev piece : Master → Piece
piece m = record { first = 0; sectors = spelling m ∷ [] }

pub returns-in-Ok-clause-settled : goal.returns-in-Ok-clause-settled
returns-in-Ok-clause-settled g c =
    let d = g.D.Disk in
    (went_through d.keeps d.reads d.may_hold d.faults c.args.disk.now c.save.new.disk (piece (raised_master c.args.master.now c.end-end.result)) c.in-Ok.ensures.calls).settled

pub returns-in-Ok-clause-reach : goal.returns-in-Ok-clause-reach
returns-in-Ok-clause-reach g c =
    let d = g.D.Disk in
    let w = went_through d.keeps d.reads d.may_hold d.faults c.args.disk.now c.save.new.disk (piece (raised_master c.args.master.now c.end-end.result)) c.in-Ok.ensures.calls in
    (w.no_stop, w.no_fail, w.no_fail_at_sync)

pub returns-in-Err-DiskFault-clause-image : goal.returns-in-Err-DiskFault-clause-image
returns-in-Err-DiskFault-clause-image g c =
    let d = g.D.Disk in
    let master = c.args.master.now in
    let made : ℕ → Master = λ n. raised_master master n in
    let broken = c.save.ensures.broken (c.in-Err-DiskFault.is ∙ ap (λ e. Err e) c.in-Err-DiskFault.field-0-is) in
    let ends = write_ends d.keeps d.reads d.may_hold d.faults c.args.disk.now c.save.new.disk (piece (made c.end-end.result)) c.requires.unsynced broken in
    let told : c.reached.result ≡ reach_of c.save.new.disk.why 1 = c.reached.ensures ∙ ap (λ w. reach_of w 1) c.why.ensures in
    let far = subst (λ n. IfOk c.reached.result (Wrote d.keeps d.reads c.args.disk.now c.save.new.disk (made n))) c.end-end.ensures
    (subst (λ r. IfOk r (Wrote d.keeps d.reads c.args.disk.now c.save.new.disk (made c.end-end.result))) (sym told) (wrote d.keeps d.reads d.may_hold d.faults c.args.disk.now c.save.new.disk (made c.end-end.result) c.requires.keeps c.save.new.disk.why ends)) in
    if_ok c.reached.result far (λ r x. x.image)

pub returns-in-Err-DiskFault-clause-settled : goal.returns-in-Err-DiskFault-clause-settled
returns-in-Err-DiskFault-clause-settled g c =
    let d = g.D.Disk in
    let master = c.args.master.now in
    let made : ℕ → Master = λ n. raised_master master n in
    let broken = c.save.ensures.broken (c.in-Err-DiskFault.is ∙ ap (λ e. Err e) c.in-Err-DiskFault.field-0-is) in
    let ends = write_ends d.keeps d.reads d.may_hold d.faults c.args.disk.now c.save.new.disk (piece (made c.end-end.result)) c.requires.unsynced broken in
    let told : c.reached.result ≡ reach_of c.save.new.disk.why 1 = c.reached.ensures ∙ ap (λ w. reach_of w 1) c.why.ensures in
    let far = subst (λ n. IfOk c.reached.result (Wrote d.keeps d.reads c.args.disk.now c.save.new.disk (made n))) c.end-end.ensures
    (subst (λ r. IfOk r (Wrote d.keeps d.reads c.args.disk.now c.save.new.disk (made c.end-end.result))) (sym told) (wrote d.keeps d.reads d.may_hold d.faults c.args.disk.now c.save.new.disk (made c.end-end.result) c.requires.keeps c.save.new.disk.why ends)) in
    on_ok c.reached.result far (λ r x. x.settled)

pub returns-in-Err-DiskFault-clause-reach : goal.returns-in-Err-DiskFault-clause-reach
returns-in-Err-DiskFault-clause-reach g c =
    let d = g.D.Disk in
    let master = c.args.master.now in
    let made : ℕ → Master = λ n. raised_master master n in
    let broken = c.save.ensures.broken (c.in-Err-DiskFault.is ∙ ap (λ e. Err e) c.in-Err-DiskFault.field-0-is) in
    let ends = write_ends d.keeps d.reads d.may_hold d.faults c.args.disk.now c.save.new.disk (piece (made c.end-end.result)) c.requires.unsynced broken in
    let told : c.reached.result ≡ reach_of c.save.new.disk.why 1 = c.reached.ensures ∙ ap (λ w. reach_of w 1) c.why.ensures in
    let far = subst (λ n. IfOk c.reached.result (Wrote d.keeps d.reads c.args.disk.now c.save.new.disk (made n))) c.end-end.ensures
    (subst (λ r. IfOk r (Wrote d.keeps d.reads c.args.disk.now c.save.new.disk (made c.end-end.result))) (sym told) (wrote d.keeps d.reads d.may_hold d.faults c.args.disk.now c.save.new.disk (made c.end-end.result) c.requires.keeps c.save.new.disk.why ends)) in
    if_ok c.reached.result far (λ r x. x.far)

pub returns-in-Err-DiskFault-clause-fault : goal.returns-in-Err-DiskFault-clause-fault
returns-in-Err-DiskFault-clause-fault g c = λ e.
    let d = g.D.Disk in
    let master = c.args.master.now in
    let made : ℕ → Master = λ n. raised_master master n in
    let broken = c.save.ensures.broken (c.in-Err-DiskFault.is ∙ ap (λ e. Err e) c.in-Err-DiskFault.field-0-is) in
    let ends = write_ends d.keeps d.reads d.may_hold d.faults c.args.disk.now c.save.new.disk (piece (made c.end-end.result)) c.requires.unsynced broken in
    let told : c.reached.result ≡ reach_of c.save.new.disk.why 1 = c.reached.ensures ∙ ap (λ w. reach_of w 1) c.why.ensures in
    write_below d.keeps d.reads d.may_hold d.faults c.args.disk.now c.save.new.disk (made c.end-end.result) c.requires.keeps c.save.new.disk.why ends (subst (λ r. IsErrOf r DiskFault) told e)

pub returns-in-Ok-clause-later : goal.returns-in-Ok-clause-later
returns-in-Ok-clause-later g c =
    let d = g.D.Disk in
    (went_through d.keeps d.reads d.may_hold d.faults c.args.disk.now c.save.new.disk (piece (raised_master c.args.master.now c.end-end.result)) c.in-Ok.ensures.calls).later

pub returns-in-Err-DiskFault-clause-later : goal.returns-in-Err-DiskFault-clause-later
returns-in-Err-DiskFault-clause-later g c =
    let d = g.D.Disk in
    let broken = c.save.ensures.broken (c.in-Err-DiskFault.is ∙ ap (λ e. Err e) c.in-Err-DiskFault.field-0-is) in
    always_ok c.reached.result (leads_later d.keeps d.reads d.may_hold d.faults c.args.disk.now c.save.new.disk broken.calls broken.leads)
