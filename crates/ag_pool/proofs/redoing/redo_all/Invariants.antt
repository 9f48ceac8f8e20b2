use Rattle.std.proofs.Common.{◌≡◌, ◌+◌, length, take}
use Rattle.ag_pool.specs.Redo.{each_with_page, redone_page}
use Rattle.ag_pool.proofs.redoing.redo_all.Given as goal

abbrev pub invariant-loop-entry : goal.invariant-loop-entry
invariant-loop-entry l = record {
  lsn : l.lsn ≡ l.applied + l.entry-index;
  count : length l.frames.items ≡ length l.fn.frames.items;
  frames : l.frames.items ≡ each_with_page (redone_page l.x l.pages l.applied (take l.entry-index l.records)) l.fn.frames.items;
}
