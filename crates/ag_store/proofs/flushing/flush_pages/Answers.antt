use Rattle.ag_outside.specs.Shown.{reads_of}
use Rattle.ag_store.proofs.Flushes.{still_images}
use Rattle.ag_store.proofs.flushing.flush_pages.Goals as goal

pub write_in_order-requires-clause-images : goal.write_in_order-requires-clause-images
write_in_order-requires-clause-images g c image same = still_images (reads_of g.D.Disk.reads c.args.disk.now) image c.args.pages.now c.requires.count same c.requires.images
