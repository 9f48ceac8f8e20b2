use Rattle.std.proofs.Common.{◌≡◌, ◌≤◌, length, take}
use Rattle.std.specs.List.{AllByRecursion}
use Rattle.ag_pagestore.specs.Batches.{IsWhole}
use Rattle.ag_pages.specs.Views.{slot, told_by}
use Rattle.ag_pages.specs.Reading.{WasOnlyRead, OnlyReadsIn}
use Rattle.ag_pages.specs.Flush.{HasItsImage, page_writes}
use Rattle.ag_pages.proofs.pages.Pages.page_writes.Given as goal

-- the pages before this one have their images in the buffer
abbrev pub invariant-loop-i : goal.invariant-loop-i
invariant-loop-i g l = let d = g.D.Disk in record {
  reads : OnlyReadsIn (told_by d.keeps d.reads l.fn.disk) l.fn.self l.self;
  disk : WasOnlyRead d.size d.keeps d.reads d.may_hold d.did l.fn.disk l.disk;
  long : length l.writes ≡ 8;
  writes : take l.i l.writes ≡ page_writes (slot l.fn.self) (take l.i l.pages);
  whole : AllByRecursion IsWhole (page_writes (slot l.fn.self) (take l.i l.pages));
  fit : AllByRecursion (HasItsImage (slot l.fn.self)) (take l.i l.pages);
  later : d.faults l.fn.disk ≤ d.faults l.disk;
}
