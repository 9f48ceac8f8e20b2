use Rattle.std.proofs.Common.{◌≡◌, ℕ, List, [], length, arith}
use Rattle.ag_lists.proofs.Each.{all_from}
use Rattle.ag_durable.proofs.paging.has_sectors.Goals as goal

pub returns-clause-bytes : goal.returns-clause-bytes
returns-clause-bytes c = all_from (λ (s : List ℕ). length s ≡ 512) [] c.args.image.now (λ k lt. c.loop-place.invariant k (omega (arith, c.told-image)))
