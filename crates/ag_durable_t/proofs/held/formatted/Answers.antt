use Rattle.std.proofs.Common.{refl, sym, ap, subst}
use Rattle.ag_outside.specs.Disks.{Image, or_zeros}
use Rattle.ag_outside.specs.MemDisks.{mem_reads}
use Rattle.ag_kept.specs.Standing.{IsBlank}
use Rattle.ag_durable_t.proofs.held.formatted.Goals as goal

pub format-requires-clause-blank : goal.format-requires-clause-blank
format-requires-clause-blank c = subst (IsBlank _ mem_reads) (sym c.new-disk.ensures) (record {
  modelled = refl;
  unsynced = refl;
  zeros = λ at. ap (λ (image : Image). or_zeros (image at)) c.new-2.ensures.reads;
})
