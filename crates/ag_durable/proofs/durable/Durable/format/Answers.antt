use Rattle.std.proofs.Common.{◌≡◌, ◌≤◌, sym, ap, ◌∙◌, subst}
use Rattle.ag_outside.specs.Disks.{Image}
use Rattle.ag_outside.specs.Shown.{reads_of}
use Rattle.ag_master.specs.declared.master.Master.{Master}
use Rattle.ag_kept.specs.Kept.{master_on}
use Rattle.ag_kept.specs.Starting.{with_master}
use Rattle.ag_suspect.specs.Rows.{suspects_on}
use Rattle.ag_keeping.specs.Keeping.{kept_on, store_on}
use Rattle.ag_durable.specs.declared.progress.Came.TheVariants.{Underway}
use Rattle.ag_durable.specs.Views.{DurableView, reached_of}
use Rattle.ag_durable.specs.Opening.{at_first}
use Rattle.ag_durable.proofs.Firsts.{first_master, first_rows, first_store, first_current, itself, may_append}
use Rattle.ag_durable.proofs.durable.Durable.format.Goals as goal

pub invariant_of-durable : goal.invariant_of-durable
invariant_of-durable g c =
    let d = g.D.Disk in
    let i = c.durable.inside in
    let v = c.in_ok-durable-in-Ok.durable in
    let e = c.in_ok-durable-in-Ok.ensures in
    let image = reads_of d.reads c.args.disk in
    let m = c.first_master.result in
    let m_is = itself m c.args.pages c.args.replica c.first_master.ensures.is in
    let few : m.pages ≤ 2048 = subst (λ n. n ≤ 2048) (sym (ap (λ (x : Master). x.pages) c.first_master.ensures.is)) c.requires.few in
    let fits = c.first_master.ensures.fits in
    let written : reads_of d.reads c.write_first.new.disk ≡ with_master image m = c.in-Ok.ensures.written in
    let old : DurableView _ = record { disk = i.disk; log = i.log; master = i.master; suspects = i.suspects; appends = i.appends; progress = i.progress } in
    let under : old.progress.came ≡ Underway = ap (λ (w : DurableView _). w.progress.came) c.durable.view_is ∙ e.underway in
    let now : reads_of d.reads old.disk ≡ with_master image m = ap (λ (w : DurableView _). reads_of d.reads w.disk) c.durable.view_is ∙ e.same ∙ written in
    may_append d.size d.keeps d.reads d.may_hold old under c.durable.invariant (with_master image m) now (first_current image c.requires.blank.zeros m m_is fits few)

pub returns-in_ok-durable-in-Ok-clause-reached : goal.returns-in_ok-durable-in-Ok-clause-reached
returns-in_ok-durable-in-Ok-clause-reached g c =
    let d = g.D.Disk in
    let i = c.durable.inside in
    let v = c.in_ok-durable-in-Ok.durable in
    let e = c.in_ok-durable-in-Ok.ensures in
    let image = reads_of d.reads c.args.disk in
    let m = c.first_master.result in
    let m_is = itself m c.args.pages c.args.replica c.first_master.ensures.is in
    let few : m.pages ≤ 2048 = subst (λ n. n ≤ 2048) (sym (ap (λ (x : Master). x.pages) c.first_master.ensures.is)) c.requires.few in
    let fits = c.first_master.ensures.fits in
    let written : reads_of d.reads c.write_first.new.disk ≡ with_master image m = c.in-Ok.ensures.written in
    ap (reached_of d.reads) c.durable.view_is ∙ e.reached
    ∙ ap (λ (x : Image). at_first (kept_on (master_on x).pages x)) written
    ∙ ap (λ (x : Master). at_first (kept_on x.pages (with_master image m))) (first_master image c.requires.blank.zeros m m_is fits few)
    ∙ ap (λ (x : Master). at_first (kept_on x.pages (with_master image x))) c.first_master.ensures.is

pub returns-in_ok-durable-in-Ok-clause-master : goal.returns-in_ok-durable-in-Ok-clause-master
returns-in_ok-durable-in-Ok-clause-master g c =
    let d = g.D.Disk in
    let i = c.durable.inside in
    let v = c.in_ok-durable-in-Ok.durable in
    let e = c.in_ok-durable-in-Ok.ensures in
    let image = reads_of d.reads c.args.disk in
    let m = c.first_master.result in
    let m_is = itself m c.args.pages c.args.replica c.first_master.ensures.is in
    let few : m.pages ≤ 2048 = subst (λ n. n ≤ 2048) (sym (ap (λ (x : Master). x.pages) c.first_master.ensures.is)) c.requires.few in
    let fits = c.first_master.ensures.fits in
    let written : reads_of d.reads c.write_first.new.disk ≡ with_master image m = c.in-Ok.ensures.written in
    ap (λ (w : DurableView _). w.master) c.durable.view_is ∙ e.master ∙ ap master_on written ∙ first_master image c.requires.blank.zeros m m_is fits few ∙ c.first_master.ensures.is

pub returns-in_ok-durable-in-Ok-clause-log : goal.returns-in_ok-durable-in-Ok-clause-log
returns-in_ok-durable-in-Ok-clause-log g c =
    let d = g.D.Disk in
    let i = c.durable.inside in
    let v = c.in_ok-durable-in-Ok.durable in
    let e = c.in_ok-durable-in-Ok.ensures in
    let image = reads_of d.reads c.args.disk in
    let m = c.first_master.result in
    let m_is = itself m c.args.pages c.args.replica c.first_master.ensures.is in
    let few : m.pages ≤ 2048 = subst (λ n. n ≤ 2048) (sym (ap (λ (x : Master). x.pages) c.first_master.ensures.is)) c.requires.few in
    let fits = c.first_master.ensures.fits in
    let written : reads_of d.reads c.write_first.new.disk ≡ with_master image m = c.in-Ok.ensures.written in
    ap (λ (w : DurableView _). w.log) c.durable.view_is ∙ e.log ∙ ap store_on written ∙ first_store image c.requires.blank.zeros m m_is fits few

pub returns-in_ok-durable-in-Ok-clause-rows : goal.returns-in_ok-durable-in-Ok-clause-rows
returns-in_ok-durable-in-Ok-clause-rows g c =
    let d = g.D.Disk in
    let i = c.durable.inside in
    let v = c.in_ok-durable-in-Ok.durable in
    let e = c.in_ok-durable-in-Ok.ensures in
    let image = reads_of d.reads c.args.disk in
    let m = c.first_master.result in
    let m_is = itself m c.args.pages c.args.replica c.first_master.ensures.is in
    let few : m.pages ≤ 2048 = subst (λ n. n ≤ 2048) (sym (ap (λ (x : Master). x.pages) c.first_master.ensures.is)) c.requires.few in
    let fits = c.first_master.ensures.fits in
    let written : reads_of d.reads c.write_first.new.disk ≡ with_master image m = c.in-Ok.ensures.written in
    ap (λ (w : DurableView _). w.suspects) c.durable.view_is ∙ e.rows ∙ ap suspects_on written ∙ first_rows image c.requires.blank.zeros m m_is fits few

pub returns-in_ok-durable-in-Ok-clause-image : goal.returns-in_ok-durable-in-Ok-clause-image
returns-in_ok-durable-in-Ok-clause-image g c =
    let d = g.D.Disk in
    let i = c.durable.inside in
    let e = c.in_ok-durable-in-Ok.ensures in
    ap (λ (w : DurableView _). reads_of d.reads w.disk) c.durable.view_is ∙ e.same ∙ c.in-Ok.ensures.written ∙ ap (with_master (reads_of d.reads c.args.disk)) c.first_master.ensures.is
