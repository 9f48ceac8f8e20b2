use Rattle.std.proofs.Common.{◌∙◌}
use Rattle.ag_inplace.proofs.Standing.{page-whole, horizon-there}
use Rattle.ag_inplace.proofs.header.horizon_in.Goals as goal

pub u64_in-requires-clause-whole : goal.u64_in-requires-clause-whole
u64_in-requires-clause-whole c = page-whole c.args.i.now c.requires.0 c.requires.1

pub returns : goal.returns
returns c = λ v h. c.u64_in.ensures ∙ horizon-there c.args.i.now v h
