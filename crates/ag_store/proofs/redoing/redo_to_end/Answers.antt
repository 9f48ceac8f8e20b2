use Rattle.std.proofs.Common.{◌≡◌, ℕ, IsTrue, refl, sym, subst, ◌∙◌, arith}
use Rattle.ag_model.specs.Blocks.{cut_at}
use Rattle.ag_model.specs.Prefixes.{IsBlockEnd, end_of}
use Rattle.ag_model.proofs.Prefixes.{end_last}
use Rattle.ag_outside.specs.Disks.{Image}
use Rattle.ag_outside.specs.Shown.{reads_of}
use Rattle.ag_stripe.specs.Ahead.{IsAhead}
use Rattle.ag_pages.specs.Views.{applied_of, known_of}
use Rattle.ag_store.specs.Redoing.{AreRedoneBelow, IsRedone}
use Rattle.ag_store.specs.Standing.{told_on}
use Rattle.ag_store.proofs.Redone.{shows_itself, shows_then}
use Rattle.ag_store.proofs.Stripes.{none-redone, next-proper, next-within, next-ahead, one-more, all-redone}
use Rattle.ag_store.proofs.redoing.redo_to_end.Goals as goal

pub redo_stripe-requires-clause-keeps : goal.redo_stripe-requires-clause-keeps
redo_stripe-requires-clause-keeps g c = subst IsTrue (sym c.loop-stripe.invariant.shows.keeping) c.requires.keeps

pub redo_stripe-requires-clause-proper : goal.redo_stripe-requires-clause-proper
redo_stripe-requires-clause-proper g c = next-proper (reads_of g.D.Disk.reads c.args.disk.now) c.args.log.now c.loop-stripe.stripe c.args.pages.now c.loop-stripe.pages c.loop-stripe.invariant.below c.requires.proper

pub redo_stripe-requires-clause-end : goal.redo_stripe-requires-clause-end
redo_stripe-requires-clause-end g c = subst (IsBlockEnd c.args.log.now) (sym c.end-end.ensures) (end_last c.args.pages.now.count c.args.log.now c.requires.proper)

pub redo_stripe-requires-clause-from : goal.redo_stripe-requires-clause-from
redo_stripe-requires-clause-from g c =
    let le = next-within (reads_of g.D.Disk.reads c.args.disk.now) c.args.log.now c.loop-stripe.stripe c.args.pages.now c.loop-stripe.pages c.loop-stripe.invariant.below (omega arith) c.requires.within in
    omega (arith, le, c.end-end.ensures)

pub redo_stripe-requires-clause-ahead : goal.redo_stripe-requires-clause-ahead
redo_stripe-requires-clause-ahead g c = λ page own.
    let inv = c.loop-stripe.invariant in
    let d = g.D.Disk in
    subst (λ (i : Image). IsAhead c.loop-stripe.pages.count (cut_at c.end-end.result c.args.log.now) (applied_of c.loop-stripe.pages c.loop-stripe.stripe) page (known_of (told_on i) c.loop-stripe.pages page)) (sym inv.shows.content)
    (subst (λ (n : ℕ). IsAhead c.loop-stripe.pages.count (cut_at n c.args.log.now) (applied_of c.loop-stripe.pages c.loop-stripe.stripe) page (known_of (told_on (reads_of d.reads c.args.disk.now)) c.loop-stripe.pages page)) (sym c.end-end.ensures)
    (next-ahead (reads_of d.reads c.args.disk.now) c.args.log.now c.loop-stripe.stripe c.args.pages.now c.loop-stripe.pages inv.below c.requires.proper c.requires.ahead page own))

pub loop-stripe-init : goal.loop-stripe-init
loop-stripe-init g c =
    let d = g.D.Disk in
    record {
      below = none-redone (reads_of d.reads c.args.disk.now) c.args.log.now c.args.pages.now;
      shows = shows_itself d.keeps d.reads d.may_hold c.args.disk.now;
      later = omega arith;
      size = refl;
    }

pub loop-stripe-preserved : goal.loop-stripe-preserved
loop-stripe-preserved g c =
    let d = g.D.Disk in
    let inv = c.loop-stripe.invariant in
    let did = c.in_ok-redo_stripe.ensures in
    let old = c.args.pages.now in
    let one : IsRedone (reads_of d.reads c.args.disk.now) c.args.log.now c.loop-stripe.stripe (end_of c.args.log.now) c.loop-stripe.pages c.redo_stripe.new.pages
    = subst (λ (n : ℕ). IsRedone (reads_of d.reads c.args.disk.now) c.args.log.now c.loop-stripe.stripe n c.loop-stripe.pages c.redo_stripe.new.pages) c.end-end.ensures
    (subst (λ (i : Image). IsRedone i c.args.log.now c.loop-stripe.stripe c.end-end.result c.loop-stripe.pages c.redo_stripe.new.pages) inv.shows.content did.pages) in
    record {
      below = one-more (reads_of d.reads c.args.disk.now) c.args.log.now c.loop-stripe.stripe old c.loop-stripe.pages inv.below c.redo_stripe.new.pages one (omega (arith, c.requires.sixteen));
      shows = shows_then d.keeps d.reads d.may_hold c.args.disk.now c.loop-stripe.disk c.redo_stripe.new.disk inv.shows did.disk;
      later = omega (arith, inv.later, c.redo_stripe.ensures.later);
      size = c.redo_stripe.ensures.size ∙ inv.size;
    }

pub returns-clause-pages : goal.returns-clause-pages
returns-clause-pages g c =
    all-redone (reads_of g.D.Disk.reads c.args.disk.now) c.args.log.now c.args.pages.now c.loop-stripe.pages c.requires.sixteen
    (let end : c.loop-stripe.stripe ≡ 16 = omega arith in
    subst (λ (n : ℕ). AreRedoneBelow (reads_of g.D.Disk.reads c.args.disk.now) c.args.log.now n c.args.pages.now c.loop-stripe.pages) end c.loop-stripe.invariant.below)
