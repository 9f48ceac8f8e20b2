-- What is written is what was there and the items so far, with a `,` before each.
use Rattle.std.proofs.Common.{◌≡◌, ◌++◌, take, codes}
use Rattle.std.specs.List.{flat_map}
use Rattle.ag_transcript.proofs.words.put_list.Given as goal

abbrev pub invariant-loop-item : goal.invariant-loop-item
invariant-loop-item g l = l.out.items ≡ l.initial.out.items ++ flat_map (λ item. codes "," ++ g.T.Print.text item) (take l.item-index l.others)
