use Rattle.std.proofs.Common.{◌≡◌, length, take}
use Rattle.ag_model.specs.Rows.{contains}
use Rattle.ag_pool.specs.Passes.{redone_where}
use Rattle.ag_pool.specs.Redo.{each_with_page}
use Rattle.ag_pool.proofs.redoing.redo_listed.Given as goal

abbrev pub invariant-loop-page : goal.invariant-loop-page
invariant-loop-page l = record {
  count : length l.frames.items ≡ length l.fn.frames.items;
  frames : l.frames.items ≡ each_with_page (redone_where l.x l.lsn l.entry (λ q. contains q (take l.page-index l.listed))) l.fn.frames.items;
}
