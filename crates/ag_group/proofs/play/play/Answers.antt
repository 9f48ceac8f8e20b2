use Rattle.std.proofs.Common.{List, ℕ, sym, subst}
use Rattle.ag_group.specs.declared.status.Status.TheVariants.{BadLine}
use Rattle.ag_group.specs.Scenario.{IsScenario}
use Rattle.ag_group.proofs.Scenarios.{of_told, same_told, told_played, told_in_part, unless_stopped}
use Rattle.ag_group.proofs.play.play.Goals as goal

pub returns-in-Ok-clause-done : goal.returns-in-Ok-clause-done
returns-in-Ok-clause-done g c e =
    told_played (g.S.Source.left c.args.source.now) c.as_slice.result.now _ _ (same_told (g.S.Source.left c.args.source.now) c.as_slice.result.now c.in-Ok.text.items c.as_slice.ensures.value c.in-Ok.ensures.whole) (c.play_text.ensures.done e)

pub returns-in-Ok-clause-part : goal.returns-in-Ok-clause-part
returns-in-Ok-clause-part g c =
    told_in_part (g.S.Source.left c.args.source.now) c.as_slice.result.now _ _ (same_told (g.S.Source.left c.args.source.now) c.as_slice.result.now c.in-Ok.text.items c.as_slice.ensures.value c.in-Ok.ensures.whole) c.play_text.ensures.part

pub returns-in-Ok-clause-tells_bad_line : goal.returns-in-Ok-clause-tells_bad_line
returns-in-Ok-clause-tells_bad_line g c =
    of_told (g.S.Source.left c.args.source.now) c.as_slice.result.now _ (same_told (g.S.Source.left c.args.source.now) c.as_slice.result.now c.in-Ok.text.items c.as_slice.ensures.value c.in-Ok.ensures.whole) (λ line h. unless_stopped (BadLine line) c.play_text.result (c.play_text.ensures.tells_bad_line line h))

pub returns-in-Ok-clause-complete : goal.returns-in-Ok-clause-complete
returns-in-Ok-clause-complete g c = of_told (g.S.Source.left c.args.source.now) c.in-Ok.text.items _ c.in-Ok.ensures.whole (λ d events h calm quiet. c.play_text.ensures.complete d events (subst (λ (t : List ℕ). IsScenario t d events) (sym c.as_slice.ensures.value) h) quiet)
