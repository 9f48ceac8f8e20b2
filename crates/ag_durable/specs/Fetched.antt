-- What a replica's data are once an image was read.
use Rattle.std.specs.Prelude.{◌≡◌}
use Rattle.ag_outside.specs.Disks.{Image}
use Rattle.ag_outside.specs.Shown.{reads_of}
use Rattle.ag_durable.specs.Views.{DurableView}

-- the disk was read, and nothing else
pub record OnlyFetches {D : Type 0} (reads : D → Image) (old new : DurableView D) : Type 0 where
  pub content : reads_of reads new.disk ≡ reads_of reads old.disk
  pub log : new.log ≡ old.log
  pub master : new.master ≡ old.master
  pub suspects : new.suspects ≡ old.suspects
  pub appends : new.appends ≡ old.appends
  pub progress : new.progress ≡ old.progress
