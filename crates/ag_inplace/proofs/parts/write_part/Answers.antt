use Rattle.std.proofs.Common.{◌∙◌, ◌+◌, ◌-◌, ap, length, take, drop, arith, List, ℕ}
use Rattle.std.proofs.lemmas.List.{length-take}
use Rattle.ag_page.specs.Image.{image_bytes}
use Rattle.ag_inplace.proofs.Splices.{spliced, splice_both, both-pieces}
use Rattle.ag_inplace.proofs.parts.write_part.Goals as goal

pub returns-then-count-part-clause-bytes : goal.returns-then-count-part-clause-bytes
returns-then-count-part-clause-bytes c =
    let at = c.args.at in
    let n = c.min-count.result in
    let part = c.args.part.now in
    let old = image_bytes c.args.i.now in
    splice_both at (at + n) (take n part) (take (length part - n) (drop n part)) old _ _ (omega arith) (omega (arith, length-take n part)) c.write_in_sector.ensures.bytes c.write_in_sector-then-count-part.ensures.bytes
    ∙ ap (λ (z : List ℕ). spliced at z old) (both-pieces n part)
