use Rattle.std.proofs.Common.{arith}
use Rattle.std.proofs.lemmas.Grind.{common_steps}
use Rattle.ag_ends.proofs.Starts.{term_at_is}
use Rattle.ag_logstore.proofs.hardened.HardenedLog.term_at.Goals as goal

pub returns : goal.returns
returns c =
    let e = term_at_is c.args.last c.self.inside.records in
    grind (arith, common_steps, e, c.self.invariant.starts)
