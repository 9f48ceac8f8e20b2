use Rattle.std.proofs.Common.{◌≡◌, ℕ, suc, ◌-◌, List, drop, get_or, sym, ap, ◌∙◌, arith}
use Rattle.std.specs.Prelude.{min}
use Rattle.ag_rules.specs.Replica.{least}
use Rattle.ag_node.proofs.StripesOf.{least_before, least_last}
use Rattle.ag_node.proofs.published.Published.front.Goals as goal

pub loop-place-init : goal.loop-place-init
loop-place-init c = sym (least_last c.self.inside.lsns 15 0 c.self.told) ∙ ap (λ (ps : List ℕ). least (drop 15 ps)) c.self.view_is

pub loop-place-preserved : goal.loop-place-preserved
loop-place-preserved c =
    let ps = c.self.inside.lsns in
    let i : ℕ = c.loop-place.place - 1 in
    let place : suc i ≡ c.loop-place.place = omega (arith, c.loop-place-test.true) in
    let rest : c.loop-place.front ≡ least (drop (suc i) ps) = c.loop-place.invariant ∙ (λ j. least (drop (sym place j) (sym c.self.view_is j))) in
    let all : least (drop i ps) ≡ min (get_or ps i 0) (least (drop (suc i) ps)) = least_before ps i 0 (omega (arith, c.self.told, c.loop-place.auto.place, place)) in
    let same : c.min-front.result ≡ least (drop i ps) = omega (arith, c.min-front.ensures, rest, all) in
    same ∙ ap (λ (x : List ℕ). least (drop i x)) c.self.view_is
