use Rattle.std.proofs.Common.{ap, ◌∙◌}
use Rattle.ag_rules.specs.Group.{Group, is_full}
use Rattle.ag_group.proofs.Replies.{taken_back}
use Rattle.ag_group.proofs.members.Members.take_unless.Goals as goal

pub returns-then-not-stays-clause-back : goal.returns-then-not-stays-clause-back
returns-then-not-stays-clause-back g c =
    ap (λ (g : Group). is_full g c.args.m c.args.n) c.take.ensures.after ∙ taken_back c.args.self.now.group c.args.n c.args.m c.args.number c.requires.two
