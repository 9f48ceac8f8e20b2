use Rattle.std.proofs.Common.{append_assoc}
use Rattle.ag_script.specs.Words.{suffix_words}
use Rattle.ag_events.proofs.Tails.{tail_pairs}
use Rattle.ag_events.proofs.shapes.put_pairs_and_suffix.Goals as goal

pub returns : goal.returns
returns c =
    let written = rw c.in_ok-put_pairs.ensures at c.put_suffix.ensures in
    rw (tail_pairs c.args.pairs.now (suffix_words c.args.suffix.now)) (rw append_assoc at written)
