use Rattle.std.proofs.Common.{◌≡◌, ◌≤◌, length, replicate, drop}
use Rattle.std.specs.List.{All, fold}
use Rattle.ag_node.specs.Room.{used_by}
use Rattle.ag_node.proofs.room.used_in.Given as goal

abbrev pub invariant-loop-entry : goal.invariant-loop-entry
invariant-loop-entry l = record {
  rest : fold (used_by l.pages) l.used.items (drop l.entry-index l.log) ≡ fold (used_by l.pages) (replicate l.pages 0) l.log;
  small : All (λ bytes. bytes ≤ 8144) l.used.items;
  each : length l.used.items ≡ l.pages;
}
