use Rattle.std.proofs.Common.{◌≡◌, Bool, IsTrue, Some, Err, ap, sym, ◌∙◌, subst, inl, inr, refl}
use Rattle.std.specs.Option.{IfSome}
use Rattle.ag_pagestore.specs.declared.fault.PageWriteFault.{PageWriteFault}
use Rattle.ag_page.specs.Home.{with_page}
use Rattle.ag_pagestore.specs.Homes.{told_images, Held}
use Rattle.ag_pagestore.specs.HomeLaws.{untouched_itself}
use Rattle.ag_pagestore.proofs.Told.{told_after, counted}
use Rattle.ag_pagestore.proofs.store.PageStorePageHome.put_back.Goals as goal

pub returns-in-Ok-clause-told : goal.returns-in-Ok-clause-told
returns-in-Ok-clause-told g c =
    let d = c.args.self.now.disk.now in
    let new = c.write_batch.new.disk in
    subst (λ (k : Bool). IfSome (told_images (g.D.Disk.keeps d) (g.D.Disk.reads d)) (λ images. told_images k (g.D.Disk.reads new) ≡ Some (with_page images c.args.page c.args.image.now)))
    (sym c.write_batch.ensures.keeps) (told_after (g.D.Disk.keeps d) (g.D.Disk.reads d) (g.D.Disk.reads new) c.args.page c.args.image.now c.in-Ok.ensures.written)

pub returns-in-Ok-clause-leaves : goal.returns-in-Ok-clause-leaves
returns-in-Ok-clause-leaves g c =
    let d = c.args.self.now.disk.now in
    let new = c.write_batch.new.disk in
    let did = c.write_batch.ensures in
    let before : Held g.row.D.Denot = record { disk = d; refusals = c.args.self.now.refusals } in
    let after : Held g.row.D.Denot = record { disk = new; refusals = c.args.self.now.refusals } in (
      refl,
      (
        before,
        after,
        untouched_itself g.D.Disk.size g.D.Disk.keeps g.D.Disk.reads g.D.Disk.may_hold g.D.Disk.did before,
        record {
          keeping = did.keeps;
          sectors = did.size;
          written = λ _. c.in-Ok.ensures.written;
          durable = λ _. c.in-Ok.ensures.durable;
          calls = λ _. c.in-Ok.ensures.calls;
          broken = λ refused. absurd (cc refused);
          content = λ keeps only. (did.any_moment only).each (g.D.Disk.reads new) (g.met.D.Disk.counts_now new (g.D.Disk.moment d) (g.D.Disk.reads new) (did.any_moment only).later (g.met.D.Disk.reads_one new (subst IsTrue (sym did.keeps) keeps)));
          any_moment = did.any_moment;
        },
        untouched_itself g.D.Disk.size g.D.Disk.keeps g.D.Disk.reads g.D.Disk.may_hold g.D.Disk.did after,
      ),
    )

pub returns-in-Err-DiskFault-clause-leaves : goal.returns-in-Err-DiskFault-clause-leaves
returns-in-Err-DiskFault-clause-leaves g c =
    let d = c.args.self.now.disk.now in
    let new = c.write_batch.new.disk in
    let did = c.write_batch.ensures in
    let before : Held g.row.D.Denot = record { disk = d; refusals = c.args.self.now.refusals } in
    let after : Held g.row.D.Denot = record { disk = new; refusals = c.args.self.now.refusals } in (
      refl,
      (
        before,
        after,
        untouched_itself g.D.Disk.size g.D.Disk.keeps g.D.Disk.reads g.D.Disk.may_hold g.D.Disk.did before,
        record {
          keeping = did.keeps;
          sectors = did.size;
          written = λ refused. absurd (cc refused);
          durable = λ refused. absurd (cc refused);
          calls = λ refused. absurd (cc refused);
          broken = λ _ keeps. inl (c.write_batch.ensures.broken (c.in-Err-DiskFault.is ∙ ap (λ (f : PageWriteFault). Err f) c.in-Err-DiskFault.field-0-is) keeps);
          content = λ keeps only. (did.any_moment only).each (g.D.Disk.reads new) (g.met.D.Disk.counts_now new (g.D.Disk.moment d) (g.D.Disk.reads new) (did.any_moment only).later (g.met.D.Disk.reads_one new (subst IsTrue (sym did.keeps) keeps)));
          any_moment = did.any_moment;
        },
        untouched_itself g.D.Disk.size g.D.Disk.keeps g.D.Disk.reads g.D.Disk.may_hold g.D.Disk.did after,
      ),
    )

pub returns-in-Err-NoMemory-clause-leaves : goal.returns-in-Err-NoMemory-clause-leaves
returns-in-Err-NoMemory-clause-leaves g c =
    let d = c.args.self.now.disk.now in
    let new = c.write_batch.new.disk in
    let did = c.write_batch.ensures in
    let before : Held g.row.D.Denot = record { disk = d; refusals = c.args.self.now.refusals } in
    let after : Held g.row.D.Denot = record { disk = new; refusals = c.saturating_add-self.result } in (
      refl,
      (
        before,
        after,
        untouched_itself g.D.Disk.size g.D.Disk.keeps g.D.Disk.reads g.D.Disk.may_hold g.D.Disk.did before,
        record {
          keeping = did.keeps;
          sectors = did.size;
          written = λ refused. absurd (cc refused);
          durable = λ refused. absurd (cc refused);
          calls = λ refused. absurd (cc refused);
          broken = λ _ keeps. inr (counted c.args.self.now.refusals c.saturating_add-self.result c.saturating_add-self.ensures);
          content = λ keeps only. (did.any_moment only).each (g.D.Disk.reads new) (g.met.D.Disk.counts_now new (g.D.Disk.moment d) (g.D.Disk.reads new) (did.any_moment only).later (g.met.D.Disk.reads_one new (subst IsTrue (sym did.keeps) keeps)));
          any_moment = did.any_moment;
        },
        untouched_itself g.D.Disk.size g.D.Disk.keeps g.D.Disk.reads g.D.Disk.may_hold g.D.Disk.did after,
      ),
    )
