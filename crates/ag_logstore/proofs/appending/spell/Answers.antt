use Rattle.std.proofs.Common.{◌++◌, ℕ, List, ap, sym, ◌∙◌, subst}
use Rattle.ag_record.specs.Spelling.{records_spelling}
use Rattle.ag_logblock.specs.Block.{HasBlock}
use Rattle.ag_logstore.proofs.appending.spell.Goals as goal

pub cut_up-requires : goal.cut_up-requires
cut_up-requires c =
    let is = c.as_slice.ensures.value ∙ c.in_ok-encode_all.ensures.ok ∙ ap (λ (xs : List ℕ). xs ++ records_spelling c.args.records.now) c.new-payload.ensures.items in
    subst (HasBlock (record { term = c.args.term; incarnation = c.args.incarnation; first = c.args.first })) (sym is)
    (record { term = c.ranges.term.fits; incarnation = c.requires.least; incarnation_fits = c.ranges.incarnation.fits; first = c.ranges.first.fits; some = c.requires.payload.least; most = c.requires.payload.most })
