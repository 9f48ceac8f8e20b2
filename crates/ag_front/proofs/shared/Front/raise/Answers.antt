use Rattle.std.proofs.Common.{rules, ◌≡◌, ap, arith, get_or}
use Rattle.ag_front.proofs.Keeps.{raises}
use Rattle.ag_front.proofs.shared.Front.raise.Goals as goal

pub fetch_max-found-requires : goal.fetch_max-found-requires
fetch_max-found-requires g c = let wide = c.args.self.now.sized.0 in let s = c.requires.stripe in let e : c.from-word.result ≡ c.args.stripe = search rules in
    (c.requires.own, omega arith, raises _ _ _ _ c.args.pass.now.seat.me c.from-word.result _ (omega arith) c.args.pass.now.some_part (ap (λ z. get_or z c.from-word.result 0) c.args.pass.now.done_is))
