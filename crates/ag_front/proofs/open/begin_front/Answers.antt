use Rattle.std.proofs.Common.{rules, ◌≡◌, List, subst}
use Rattle.ag_front.specs.Opens.{pages_of, OpeningsOf, AppliedOf}
use Rattle.ag_front.proofs.Opening.{opens}
use Rattle.ag_front.proofs.open.begin_front.Goals as goal

pub new-requires : goal.new-requires
new-requires g c = let r = c.requires.stripes in
    let count : pages_of g.T.Stands.standing c.args.stripes.items ≡ c.pages-pages.result = search rules in
    let log : c.args.log ≡ c.of.result.value = search rules in
    let opening : OpeningsOf g.T.Stands.standing c.args.stripes.items 16 c.openings-published.result = subst (λ (xs : List g.row.T.Denot). OpeningsOf g.T.Stands.standing xs 16 c.openings-published.result) c.as_slice.ensures.value c.openings-published.ensures in
    let applied : AppliedOf g.T.Stands.standing c.args.stripes.items 16 c.applieds-applied.result = subst (λ (xs : List g.row.T.Denot). AppliedOf g.T.Stands.standing xs 16 c.applieds-applied.result) c.as_slice-2.ensures.value c.applieds-applied.ensures in
    rw (← count, ← log, c.in_ok-slots.ensures) (opens g.T.Stands.standing c.args.log c.args.stripes.items _ c.words_of.result c.openings-published.result c.applieds-applied.result c.requires.proper r c.words_of.ensures (search rules) (search rules) opening applied)

pub returns-in-Ok-clause-floors : goal.returns-in-Ok-clause-floors
returns-in-Ok-clause-floors g c =
    let e : c.in-Ok.seat.me.0.floor ≡ c.openings-published.result = search rules in
    let opening : OpeningsOf g.T.Stands.standing c.args.stripes.items 16 c.openings-published.result = subst (λ (xs : List g.row.T.Denot). OpeningsOf g.T.Stands.standing xs 16 c.openings-published.result) c.as_slice.ensures.value c.openings-published.ensures in
    rw e opening
