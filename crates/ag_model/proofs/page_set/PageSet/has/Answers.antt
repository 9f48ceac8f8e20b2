use Rattle.std.proofs.Common.{refl}
use Rattle.std.proofs.lemmas.Nat.Bits.{shr_and_one}
use Rattle.ag_model.specs.PageSets.{has_bit}
use Rattle.ag_model.specs.PageBits.{contains-pages_where}
use Rattle.ag_model.proofs.PageSets.{pages_where-contains}
use Rattle.ag_model.proofs.page_set.PageSet.has.Goals as goal

pub returns-clause-answer : goal.returns-clause-answer
returns-clause-answer c =
    rw (← c.self.view_is, contains-pages_where (has_bit c.self.inside.bytes) c.args.page c.requires.low c.requires.high, shr_and_one)
    refl

pub returns-clause-rising : goal.returns-clause-rising
returns-clause-rising c = rw (← c.self.view_is) (pages_where-contains (has_bit c.self.inside.bytes))
