use Rattle.std.proofs.Common.{◌≤◌, refl, sym, subst}
use Rattle.ag_model.specs.declared.record.Log.{Log}
use Rattle.ag_model.specs.Prefixes.{end_of}
use Rattle.ag_model.specs.Proper.{IsProper}
use Rattle.ag_model.specs.Rows.{stripe_of}
use Rattle.ag_outside.specs.Shown.{reads_of}
use Rattle.ag_stripe.specs.Ahead.{IsAhead}
use Rattle.ag_pages.specs.Views.{applied_of, known_of}
use Rattle.ag_store.specs.Redoing.{AreRedone}
use Rattle.ag_store.specs.Standing.{told_on}
use Rattle.ag_store.proofs.Started.{clean_proper, clean_sixteen, clean_within, clean_ahead, started_up, seen_up}
use Rattle.ag_store.proofs.starting.load_pages.Goals as goal

pub redo_to_end-requires-clause-keeps : goal.redo_to_end-requires-clause-keeps
redo_to_end-requires-clause-keeps g c =
    (c.requires.store.stands refl).modelled

pub redo_to_end-requires-clause-proper : goal.redo_to_end-requires-clause-proper
redo_to_end-requires-clause-proper g c =
    let d = g.D.Disk in
    subst (λ (l : Log). IsProper c.in_ok-clean.clean.count l) (sym c.log-2.ensures) (clean_proper d.size d.keeps d.reads d.may_hold c.args.pages c.args.disk.now c.requires.store c.args.log c.requires.log c.args.redo c.requires.redo c.in_ok-clean.clean c.in_ok-clean.ensures.count c.in_ok-clean.ensures.applied c.in_ok-clean.ensures.empty c.starts.ensures.from_image)

pub redo_to_end-requires-clause-sixteen : goal.redo_to_end-requires-clause-sixteen
redo_to_end-requires-clause-sixteen g c =
    let d = g.D.Disk in
    clean_sixteen d.size d.keeps d.reads d.may_hold c.args.pages c.args.disk.now c.requires.store c.args.log c.requires.log c.args.redo c.requires.redo c.in_ok-clean.clean c.in_ok-clean.ensures.count c.in_ok-clean.ensures.applied c.in_ok-clean.ensures.empty c.starts.ensures.from_image

pub redo_to_end-requires-clause-within : goal.redo_to_end-requires-clause-within
redo_to_end-requires-clause-within g c =
    let d = g.D.Disk in
    λ stripe lt. subst (λ (l : Log). applied_of c.in_ok-clean.clean stripe ≤ end_of l) (sym c.log-2.ensures) (clean_within d.size d.keeps d.reads d.may_hold c.args.pages c.args.disk.now c.requires.store c.args.log c.requires.log c.args.redo c.requires.redo c.in_ok-clean.clean c.in_ok-clean.ensures.count c.in_ok-clean.ensures.applied c.in_ok-clean.ensures.empty c.starts.ensures.from_image stripe lt)

pub redo_to_end-requires-clause-ahead : goal.redo_to_end-requires-clause-ahead
redo_to_end-requires-clause-ahead g c =
    let d = g.D.Disk in
    λ page is. subst (λ (l : Log). IsAhead c.in_ok-clean.clean.count l (applied_of c.in_ok-clean.clean (stripe_of page)) page (known_of (told_on (reads_of d.reads c.args.disk.now)) c.in_ok-clean.clean page)) (sym c.log-2.ensures) (clean_ahead d.size d.keeps d.reads d.may_hold c.args.pages c.args.disk.now c.requires.store c.args.log c.requires.log c.args.redo c.requires.redo c.in_ok-clean.clean c.in_ok-clean.ensures.count c.in_ok-clean.ensures.applied c.in_ok-clean.ensures.empty c.starts.ensures.from_image page is)

pub returns-clause-store : goal.returns-clause-store
returns-clause-store g c =
    let d = g.D.Disk in
    let all : AreRedone (reads_of d.reads c.args.disk.now) c.args.log.log c.in_ok-clean.clean c.redo_to_end.new.pages = subst (λ (l : Log). AreRedone (reads_of d.reads c.args.disk.now) l c.in_ok-clean.clean c.redo_to_end.new.pages) c.log-2.ensures c.in_ok-redo_to_end.ensures.pages in
    started_up d.size d.keeps d.reads d.may_hold c.args.pages c.args.disk.now c.requires.store c.args.log c.requires.log c.args.redo c.requires.redo c.in_ok-clean.clean c.in_ok-clean.ensures.count c.in_ok-clean.ensures.applied c.in_ok-clean.ensures.empty c.starts.ensures.from_image c.redo_to_end.new.disk c.redo_to_end.new.pages c.in_ok-redo_to_end.ensures.disk c.redo_to_end.ensures.size all

pub returns-clause-view : goal.returns-clause-view
returns-clause-view g c =
    let d = g.D.Disk in
    let all : AreRedone (reads_of d.reads c.args.disk.now) c.args.log.log c.in_ok-clean.clean c.redo_to_end.new.pages = subst (λ (l : Log). AreRedone (reads_of d.reads c.args.disk.now) l c.in_ok-clean.clean c.redo_to_end.new.pages) c.log-2.ensures c.in_ok-redo_to_end.ensures.pages in
    seen_up d.size d.keeps d.reads d.may_hold c.args.pages c.args.disk.now c.requires.store c.args.log c.requires.log c.args.redo c.requires.redo c.in_ok-clean.clean c.in_ok-clean.ensures.count c.in_ok-clean.ensures.applied c.in_ok-clean.ensures.empty c.starts.ensures.from_image c.redo_to_end.new.disk c.redo_to_end.new.pages c.in_ok-redo_to_end.ensures.disk c.redo_to_end.ensures.size all
