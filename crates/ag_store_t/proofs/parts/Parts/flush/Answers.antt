use Rattle.std.proofs.Common.{◌∙◌, ap, arith}
use Rattle.ag_outside.specs.MemDisks.{mem_reads}
use Rattle.ag_outside.specs.Scripts.{ScriptedView}
use Rattle.ag_outside.specs.Shown.{reads_of}
use Rattle.ag_pages.specs.Views.{known_of}
use Rattle.ag_store.specs.Standing.{told_on}
use Rattle.ag_store.proofs.Flushes.{still_images}
use Rattle.ag_store_t.specs.Parts.{new_log}
use Rattle.ag_store_t.proofs.Logs.{proper, spelled}
use Rattle.ag_store_t.proofs.parts.Parts.flush.Goals as goal

pub flush_pages-requires-clause-images : goal.flush_pages-requires-clause-images
flush_pages-requires-clause-images c =
    let on = mem_reads c.self.inside.disk in
    let v = c.self.inside.pages in
    still_images on (reads_of mem_reads c.open.new.disk) v (omega (arith, c.self.invariant.sixteen))
    (λ at is. c.in_ok-open.ensures.pages at is ∙ ap (λ (s : ScriptedView _). reads_of mem_reads s at) c.new-disk.ensures)
    (λ page is none. c.have_images.ensures 16 1 page (known_of (told_on on) v page) new_log proper spelled (c.self.invariant.ahead page is) none)
