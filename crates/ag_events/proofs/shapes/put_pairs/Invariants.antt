-- What is written is what was there and the pairs so far.
use Rattle.std.proofs.Common.{◌≡◌, ◌++◌, take}
use Rattle.std.specs.List.{flat_map}
use Rattle.ag_script.specs.Words.{pair_words}
use Rattle.ag_events.specs.Texts.{tail_text}
use Rattle.ag_events.proofs.shapes.put_pairs.Given as goal

abbrev pub invariant-loop-pair : goal.invariant-loop-pair
invariant-loop-pair l = l.out.items ≡ l.initial.out.items ++ flat_map (λ pair. tail_text (pair_words pair)) (take l.pair-index l.pairs)
