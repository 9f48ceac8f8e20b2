use Rattle.std.proofs.Common.{◌≡◌, ◌+◌, ◌-◌, ℕ, List, ◌++◌, ◌∷◌, [], if◌then◌else◌, refl, sym, ap, ◌∙◌, arith}
use Rattle.std.specs.Prelude.{◌&&◌, not}
use Rattle.ag_model.specs.Cells.{is_sound}
use Rattle.ag_model.specs.Rows.{contains}
use Rattle.ag_outside.specs.Disks.{Image}
use Rattle.ag_outside.specs.Shown.{reads_of}
use Rattle.ag_pagestore.specs.Places.{page_cells}
use Rattle.ag_rules.specs.Cut.{torn_pages}
use Rattle.ag_keeping.specs.Keeping.{kept_on}
use Rattle.ag_durable.proofs.Torn.{torn_more}
use Rattle.ag_durable.proofs.reaching.torn.Goals as goal

pub loop-page-preserved : goal.loop-page-preserved
loop-page-preserved g c =
    let d = g.D.Disk in
    let i = c.loop-page.invariant in
    let e = c.in_ok-add_torn.ensures in
    let p = c.loop-page.page in
    let pages = c.args.pages in
    let named = c.args.named.now in
    let image : Image = reads_of d.reads c.args.disk.now in
    let number : 16 + (p - 16) ≡ p = omega (arith, i.low) in
    let next : p + 1 - 16 ≡ p - 16 + 1 = omega (arith, i.low) in
    record {
      low = omega (arith, i.low);
      high = omega (arith, c.loop-page-test.true);
      end = refl;
      torn = e.torn
          ∙ ap (λ (x : Image). c.loop-page.torn ++ (if contains p named && not (is_sound (page_cells x p)) then p ∷ [] else [])) i.same
          ∙ ap (λ (t : List ℕ). t ++ (if contains p named && not (is_sound (page_cells image p)) then p ∷ [] else [])) i.torn
          ∙ sym (torn_more pages (p - 16) p image named number (omega (arith, i.low, c.loop-page-test.true)))
          ∙ sym (ap (λ (n : ℕ). torn_pages n (kept_on pages image) named) next);
      can = e.can;
      same = e.same ∙ i.same;
      size = c.add_torn.ensures.size ∙ i.size;
      later = omega (arith, c.add_torn.ensures.later, i.later);
    }
