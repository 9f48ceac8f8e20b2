use Rattle.std.proofs.Common.{Err, sym, ap, ◌∙◌, subst}
use Rattle.ag_kept.specs.Ending.{EndsSync}
use Rattle.ag_outside.proofs.Quiet.{leads_later}
use Rattle.ag_kept.proofs.Calls.{sync_ends, sync_below, was_synced}
use Rattle.ag_kept.proofs.starting.load_log.Goals as goal

pub returns-in-Ok-clause-loaded : goal.returns-in-Ok-clause-loaded
returns-in-Ok-clause-loaded g c =
    let d = g.D.Disk in
    let e = c.in-Ok.ensures in
    record { cut = e.fields.0; incarnation = e.fields.1; is_open = e.fields.2; log = e.log c.requires.home.modelled; synced = was_synced d.keeps d.reads d.may_hold d.faults c.args.disk.now c.load.new.disk e.calls; reads_same = e.reads c.requires.home.modelled }

pub returns-in-Ok-clause-settled : goal.returns-in-Ok-clause-settled
returns-in-Ok-clause-settled g c =
    let d = g.D.Disk in
    (was_synced d.keeps d.reads d.may_hold d.faults c.args.disk.now c.load.new.disk c.in-Ok.ensures.calls).settled

pub returns-in-Device-clause-loaded : goal.returns-in-Device-clause-loaded
returns-in-Device-clause-loaded g c =
    let d = g.D.Disk in
    let ends = sync_ends d.keeps d.reads d.may_hold d.faults c.args.disk.now c.load.new.disk c.requires.home.unsynced (c.load.ensures.broken (c.in-Err-DiskFault.is ∙ ap (λ e. Err e) c.in-Err-DiskFault.field-0-is)) in
    (subst (λ w. EndsSync d.keeps d.reads d.may_hold d.faults c.args.disk.now c.load.new.disk w) (sym c.why.ensures ∙ c.in-Device.is) ends).0

pub returns-in-Device-clause-same : goal.returns-in-Device-clause-same
returns-in-Device-clause-same g c =
    let d = g.D.Disk in
    let ends = sync_ends d.keeps d.reads d.may_hold d.faults c.args.disk.now c.load.new.disk c.requires.home.unsynced (c.load.ensures.broken (c.in-Err-DiskFault.is ∙ ap (λ e. Err e) c.in-Err-DiskFault.field-0-is)) in
    (subst (λ w. EndsSync d.keeps d.reads d.may_hold d.faults c.args.disk.now c.load.new.disk w) (sym c.why.ensures ∙ c.in-Device.is) ends).2 c.requires.home.modelled

pub returns-in-Device-clause-settled : goal.returns-in-Device-clause-settled
returns-in-Device-clause-settled g c =
    let d = g.D.Disk in
    let ends = sync_ends d.keeps d.reads d.may_hold d.faults c.args.disk.now c.load.new.disk c.requires.home.unsynced (c.load.ensures.broken (c.in-Err-DiskFault.is ∙ ap (λ e. Err e) c.in-Err-DiskFault.field-0-is)) in
    (subst (λ w. EndsSync d.keeps d.reads d.may_hold d.faults c.args.disk.now c.load.new.disk w) (sym c.why.ensures ∙ c.in-Device.is) ends).1

pub returns-in_default : goal.returns-in_default
returns-in_default g c =
    let d = g.D.Disk in
    let ends = sync_ends d.keeps d.reads d.may_hold d.faults c.args.disk.now c.load.new.disk c.requires.home.unsynced (c.load.ensures.broken (c.in-Err-DiskFault.is ∙ ap (λ e. Err e) c.in-Err-DiskFault.field-0-is)) in
    record {
      loaded = tt;
      durable = tt;
      same = tt;
      settled = tt;
      later = tt;
      fault = λ e. sync_below d.keeps d.reads d.may_hold d.faults c.args.disk.now c.load.new.disk c.load.new.disk.why ends (λ is. c.in_default.not-Device (c.why.ensures ∙ is));
      size = c.load.ensures.size;
    }

pub returns-in-Ok-clause-later : goal.returns-in-Ok-clause-later
returns-in-Ok-clause-later g c =
    let d = g.D.Disk in
    (was_synced d.keeps d.reads d.may_hold d.faults c.args.disk.now c.load.new.disk c.in-Ok.ensures.calls).later

pub returns-in-Device-clause-later : goal.returns-in-Device-clause-later
returns-in-Device-clause-later g c =
    let d = g.D.Disk in
    let broken = c.load.ensures.broken (c.in-Err-DiskFault.is ∙ ap (λ e. Err e) c.in-Err-DiskFault.field-0-is) in
    leads_later d.keeps d.reads d.may_hold d.faults c.args.disk.now c.load.new.disk broken.calls broken.leads
