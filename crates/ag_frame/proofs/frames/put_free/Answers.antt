use Rattle.std.proofs.Common.{◌∷◌, ap, arith}
use Rattle.std.proofs.lemmas.List.{take_all}
use Rattle.ag_frame.specs.declared.frame.Frame.TheVariants.{Free}
use Rattle.ag_frame.proofs.Entries.{none_at}
use Rattle.ag_frame.proofs.frames.put_free.Goals as goal

pub returns-clause-entries : goal.returns-clause-entries
returns-clause-entries g c =
    let es = c.args.cache.now.entries in let room = c.requires.room in
    rw (c.in_ok-put.ensures.entries, none_at c.args.number es c.requires.new) (ap (λ xs. (c.args.number, Free) ∷ xs) (take_all _ es (omega arith)))
