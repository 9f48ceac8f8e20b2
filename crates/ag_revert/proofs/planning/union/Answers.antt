use Rattle.std.proofs.Common.{◌∙◌, ap}
use Rattle.ag_model.specs.PageSets.{pages_where, has_bit}
use Rattle.ag_revert.specs.Planned.{union}
use Rattle.ag_revert.proofs.Unions.{pages_of_both}
use Rattle.ag_revert.proofs.planning.union.Goals as goal

pub returns : goal.returns
returns c =
    c.from_bytes.ensures ∙ pages_of_both c.to_bytes.result c.to_bytes-2.result c.any_bits.result c.any_bits.ensures
    ∙ ap (λ ps. union ps (pages_where (has_bit c.to_bytes-2.result))) c.to_bytes.ensures.pages
    ∙ ap (union c.args.one.now) c.to_bytes-2.ensures.pages
