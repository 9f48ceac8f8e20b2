use Rattle.std.proofs.Common.{◌≡◌, ℕ, subst, arith}
use Rattle.ag_model.specs.Stripes.{opening_log}
use Rattle.ag_threads_t.specs.Script.{IsScript}
use Rattle.ag_threads_t.proofs.Logs.{trim_proper}
use Rattle.ag_threads_t.proofs.Scripts.{opened_only}
use Rattle.ag_threads_t.proofs.hands.Author.trim.Goals as goal

pub dispatch-end-requires-clause-block : goal.dispatch-end-requires-clause-block
dispatch-end-requires-clause-block g c =
    let b = c.in-Ok.ensures in
    let was = c.args.self in
    let test = c.if-done-ne0.false in
    let none : was.done ≡ 0 = omega arith in
    let seen : was.hand.pass.seat.me.0.seen ≡ opening_log = opened_only was.hand.pass.seat.me.0.seen (subst (λ (n : ℕ). IsScript n was.hand.pass.seat.me.0.seen) none was.written) in
    λ next. rw (was.paged, seen, b.2) (trim_proper b.0 b.1)
