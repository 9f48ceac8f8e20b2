use Rattle.std.proofs.Common.{◌≡◌, [], ◌∷◌, sym, subst, ◌∙◌, refl, ap}
use Rattle.ag_model.specs.declared.message.Block.{Block}
use Rattle.ag_outside.specs.Shown.{reads_of}
use Rattle.ag_keeping.specs.Keeping.{rules_master, kept_on}
use Rattle.ag_kept.specs.Kept.{master_of}
use Rattle.ag_kept.specs.Starting.{with_master}
use Rattle.ag_logstore.specs.Stores.{StoreView}
use Rattle.ag_rules.specs.Plan.{Block_write}
use Rattle.ag_durable.specs.Coming.{Performs}
use Rattle.ag_replica.proofs.Openings.{opened-is}
use Rattle.ag_replica.proofs.opening.formatted.Goals as goal

pub returns-in-Ok-append : goal.returns-in-Ok-append
returns-in-Ok-append g c =
    let reads = g.D.Disk.reads in
    let pages = c.args.pages in
    let blank = reads_of reads c.args.disk in
    let m = master_of 1 0 1 pages c.args.number in
    let e = c.in-Ok.ensures in
    record {
      opened = opened-is reads pages c.in-Ok.durable c.append.new.self (kept_on pages (with_master blank m)) m blank c.requires.low c.requires.high c.requires.zeros (λ page. c.images.ensures.zeros 0 page)
          e.reached e.underway refl e.master e.image (c.agrees.ensures.log ∙ ap (λ (s : StoreView). s.log) e.log) (c.agrees.ensures.master ∙ ap rules_master e.master) (c.agrees.ensures.suspects ∙ e.rows)
          (subst (λ (b : Block). Performs reads c.in-Ok.durable (Block_write b.records ∷ []) c.append.new.self) c.requires.block c.in-Ok-append.ensures.performs) (c.in-Ok-append.ensures.appends ∙ e.appends);
      fault = tt;
    }
