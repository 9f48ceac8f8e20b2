use Rattle.std.proofs.Common.{◌≡◌, ◌+◌, ◌%◌, ◌^◌, ℕ, List, [], ◌∷◌, arith, sym, subst, ap, ◌∙◌}
use Rattle.atomic_table.specs.Table.{Me, rest, step, Allows}
use mathlib.Core.Option.{none}
use Rattle.ag_front.specs.declared.view.View.{View}
use Rattle.ag_front.specs.declared.rule.Slot.{Slot}
use Rattle.ag_front.specs.declared.rule.Slot.TheVariants.{History}
use Rattle.ag_front.specs.Rule.{FollowsRule}
use Rattle.ag_front.specs.Slots.{log_given}
use Rattle.ag_front.proofs.Giving.{gives_log}
use Rattle.ag_front.proofs.shared.Front.give_log.Goals as goal

pub fetch_add-found-requires : goal.fetch_add-found-requires
fetch_add-found-requires g c = let wide = c.args.self.now.sized.0 in let o = c.requires.own in let held = c.requires.held in let e = c.exchange-left.ensures in
    let S : Type 0 = Slot g.row.T.Denot in
    let v : View = c.args.seat.now.me.0 in
    let is : c.exchange-left.new.seat.me ≡ (v, (16, History c.args.log) ∷ []) = e.3 ∙ ap (λ (l : List (ℕ × S)). (v, (16, History c.args.log) ∷ rest l)) held.0 in (
      e.0 ∙ o.0,
      omega arith,
      subst (λ (m : Me S View). Allows (FollowsRule g.T.Stands.standing c.args.self.now.table.shared.key.pages) c.args.self.now.table.shared.table_id.slots c.exchange-left.new.seat.id m 32 (λ n. (n + 1) % 2 ^ 64)
          (log_given (step c.args.self.now.table.shared.table_id.slots 32 1 0 none) m)) (sym is)
          (gives_log _ _ _ _ v c.args.log o.1 held.1 c.requires.log),
    )

pub overflow_add-result : goal.overflow_add-result
overflow_add-result g c = let S : Type 0 = Slot g.row.T.Denot in
    let q : c.exchange-left.new.seat.me.1 ≡ (16, History c.args.log) ∷ [] = (λ i. (c.exchange-left.ensures.3 i).1) ∙ ap (λ (l : List (ℕ × S)). (16, History c.args.log) ∷ rest l) c.requires.held.0 in
    let low = (c.fetch_add-found.ensures.2 c.args.log q).0 in omega arith
