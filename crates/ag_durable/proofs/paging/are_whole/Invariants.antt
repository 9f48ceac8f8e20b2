use Rattle.std.proofs.Common.{take}
use Rattle.std.specs.List.{AllByRecursion}
use Rattle.ag_pagestore.specs.Batches.{IsWhole}
use Rattle.ag_durable.proofs.paging.are_whole.Given as goal

-- the images so far are whole
abbrev pub invariant-loop-place : goal.invariant-loop-place
invariant-loop-place l = AllByRecursion IsWhole (take l.place l.pages)
