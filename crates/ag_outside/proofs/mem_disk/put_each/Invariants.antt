use Rattle.std.proofs.Common.{◌≡◌, ◌+◌, ℕ, drop}
use Rattle.ag_outside.specs.Disks.{Content, put_all, writes, WroteSo}
use Rattle.ag_outside.specs.MemDisks.{image_of}
use Rattle.ag_outside.proofs.Went.{Went}
use Rattle.ag_outside.proofs.mem_disk.put_each.Given as goal

abbrev pub invariant-sectors : goal.invariant-sectors
invariant-sectors l = record {
  place : l.at ≡ l.first + l.sector-index;
  written : put_all (image_of l.sectors) (writes l.at (drop l.sector-index l.from)) ≡ put_all (image_of l.fn.sectors) (writes l.first l.from);
  among : (at : ℕ) (content : Content) → WroteSo (writes l.at (drop l.sector-index l.from)) at content → WroteSo (writes l.first l.from) at content;
  went : Went l.traced (image_of l.fn.sectors) l.fn.past.items (image_of l.sectors) l.past.items (writes l.first l.from);
}
