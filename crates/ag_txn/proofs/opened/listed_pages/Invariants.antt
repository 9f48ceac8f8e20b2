use Rattle.std.proofs.Common.{◌≡◌, ◌-◌}
use Rattle.std.specs.List.{filter, range_with_len}
use Rattle.ag_model.specs.Rows.{contains}
use Rattle.ag_txn.proofs.opened.listed_pages.Given as goal

abbrev pub invariant-loop-page : goal.invariant-loop-page
invariant-loop-page l = l.listed.items ≡ filter (λ p. contains p l.set) (range_with_len 16 (l.page - 16))
