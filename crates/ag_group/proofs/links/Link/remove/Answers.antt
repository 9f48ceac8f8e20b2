use Rattle.std.proofs.Common.{◌-◌, ◌++◌, List, take, drop, ap, ◌∙◌}
use Rattle.ag_model.specs.declared.message.Message.{Message}
use Rattle.ag_group.proofs.Taking.{taken_out}
use Rattle.ag_group.proofs.links.Link.remove.Goals as goal

pub returns : goal.returns
returns c =
    let d = c.drop_at.ensures in
    taken_out c.self.inside.messages c.drop_at.new.self c.args.number c.drop_at.result c.requires.some d.rest d.err d.some
    ∙ ap (λ (ms : List Message). take (c.args.number - 1) ms ++ drop c.args.number ms) c.self.view_is
