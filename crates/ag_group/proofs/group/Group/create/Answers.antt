use Rattle.std.proofs.Common.{sym, subst}
use Rattle.ag_rules.specs.Group.{Group, opening}
use Rattle.ag_rules.specs.Script.{IsConfig}
use Rattle.ag_law_logs.specs.Reached.{IsReached}
use Rattle.ag_group.proofs.group.Group.create.Goals as goal

pub invariant_of-result : goal.invariant_of-result
unfolding opening
invariant_of-result g c _ =
    let known : IsConfig (opening c.args.config.now).config × IsReached (opening c.args.config.now).config (opening c.args.config.now) = (c.requires.config, c.reached_logs_are_proper.ensures.opening c.args.config.now) in
    subst (λ (x : Group). IsConfig x.config × IsReached x.config x) (sym c.in-Ok.ensures.opening) known
