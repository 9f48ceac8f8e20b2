use Rattle.std.proofs.Common.{◌≡◌, ◌≤◌, [], None, drop}
use Rattle.std.specs.List.{All}
use Rattle.ag_node.specs.Room.{used_after, first_full}
use Rattle.ag_node.proofs.room.spend.Given as goal

abbrev pub invariant-loop-pair : goal.invariant-loop-pair
invariant-loop-pair l = record {
  after : used_after l.pages (drop l.pair-index l.pairs) l.used ≡ used_after l.pages l.pairs l.initial.used;
  fits : first_full l.pages l.used [] (drop l.pair-index l.pairs) ≡ None;
  small : All (λ bytes. bytes ≤ 8144) l.used;
}
