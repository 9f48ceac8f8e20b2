-- What becomes of the images of pages that are written.
use Rattle.std.specs.Prelude.{◌≡◌, List}
use Rattle.std.specs.List.{AllByRecursion}
use Rattle.ag_outside.specs.Disks.{Image}
use Rattle.ag_outside.specs.Shown.{reads_of}
use Rattle.ag_page.specs.Home.{written_over}
use Rattle.ag_pagestore.specs.declared.batch.PageWrite.{PageWrite}
use Rattle.ag_pagestore.specs.Places.{image_of}
use Rattle.ag_pagestore.specs.Moments.{IsOldNewOrUnsound}
use Rattle.ag_durable.specs.declared.progress.Came.TheVariants.{Underway}
use Rattle.ag_durable.specs.Views.{DurableView}

-- however far the event came, each of these pages has the image that it had, the new one, or one that isn't sound; and the new one where more can be written
pub record WritesImages {D : Type 0} (reads : D → Image) (old : DurableView D) (writes : List PageWrite) (new : DurableView D) : Type 0 where
  pub each : AllByRecursion (IsOldNewOrUnsound (reads_of reads old.disk) (reads_of reads new.disk)) writes
  pub written : new.progress.came ≡ Underway → AllByRecursion (λ w. image_of (reads_of reads new.disk) w.page ≡ written_over (image_of (reads_of reads old.disk) w.page) w.image) writes
