use Rattle.std.proofs.Common.{length, ap, rules}
use Rattle.ag_model.proofs.PageSets.{no_page, zero_where_none}
use Rattle.ag_model.proofs.page_set.PageSet.is_empty.Goals as goal

pub returns : goal.returns
returns c =
    rw (← c.self.view_is, c.all_zero.ensures) (
      λ zero. ap length (no_page c.self.inside.bytes (search rules)),
      λ none. rw (zero_where_none c.self.inside.bytes c.self.invariant none) (search rules),
    )
