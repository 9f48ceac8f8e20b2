use Rattle.std.proofs.Common.{◌≡◌, ◌+◌, ◌-◌, ◌≤◌}
use Rattle.ag_outside.specs.Shown.{reads_of}
use Rattle.ag_rules.specs.Cut.{torn_pages}
use Rattle.ag_keeping.specs.Keeping.{kept_on}
use Rattle.ag_durable.specs.Opening.{CanLoad}
use Rattle.ag_durable.proofs.reaching.torn.Given as goal

-- the pages below this one are looked at, and the disk is only read
abbrev pub invariant-loop-page : goal.invariant-loop-page
invariant-loop-page g l = record {
  low : 16 ≤ l.page;
  high : l.page ≤ l.page-end;
  end : l.page-end ≡ 16 + l.pages;
  torn : l.torn ≡ torn_pages (l.page - 16) (kept_on l.pages (reads_of g.D.Disk.reads l.fn.disk)) l.named;
  can : CanLoad g.D.Disk.size g.D.Disk.keeps g.D.Disk.reads l.disk;
  same : reads_of g.D.Disk.reads l.disk ≡ reads_of g.D.Disk.reads l.fn.disk;
  size : g.D.Disk.size l.disk.disk ≡ g.D.Disk.size l.fn.disk.disk;
  later : g.D.Disk.faults l.fn.disk.disk ≤ g.D.Disk.faults l.disk.disk;
}
