use Rattle.std.proofs.Common.{sym, ◌∙◌, inr}
use Rattle.ag_kept_t.proofs.Ends.{is_end}
use Rattle.ag_kept_t.proofs.logs.cut.Goals as goal

pub cut-requires : goal.cut-requires
cut-requires c = inr (is_end 0 c.args.first c.in-Some.end c.args.log.now.ends (sym c.block_from.ensures.end ∙ c.in-Some.is))
