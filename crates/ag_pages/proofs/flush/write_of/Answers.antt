use Rattle.std.proofs.Common.{◌≡◌, ℕ, List, [], length, arith}
use Rattle.ag_lists.proofs.Each.{all_from}
use Rattle.ag_pages.proofs.flush.write_of.Goals as goal

pub returns-clause-whole : goal.returns-clause-whole
returns-clause-whole c = (c.told-image, all_from (λ (s : List ℕ). length s ≡ 512) [] c.args.image.now (λ k lt. c.loop-sector.invariant k (omega (arith, lt, c.told-image))))
