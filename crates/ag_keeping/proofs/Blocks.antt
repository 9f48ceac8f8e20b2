-- What a block more makes of an image.
use Rattle.std.proofs.Common.{◌≡◌, ℕ, ◌<◌, List, false, if◌then◌else◌, sym, ap, ◌∙◌, subst, arith, inl}
use Rattle.ag_model.specs.declared.record.Record.{Record}
use Rattle.ag_model.specs.declared.record.Log.{Log}
use Rattle.ag_model.specs.Blocks.{with_block}
use Rattle.ag_model.specs.Cells.{keeps_all}
use Rattle.ag_model.specs.Sizes.{block_sectors}
use Rattle.ag_outside.specs.Disks.{Image, or_zeros, writes, put_all}
use Rattle.ag_outside.specs.Scripts.{kept}
use Rattle.ag_master.specs.Spelling.{fields}
use Rattle.ag_logstore.specs.Stored.{Stored, sectors_of}
use Rattle.ag_logstore.specs.Stores.{StoreView, IsCurrent, IsTorn, Follows, sector_after}
use Rattle.ag_logstore.proofs.Standing.{put_stands}
use Rattle.ag_logstore.proofs.Written.{is_writable, outside, current_with, torn_by_writes}
use Rattle.ag_kept.specs.Kept.{master_on}
use Rattle.ag_kept.specs.Standing.{HasLog}
use Rattle.ag_kept.specs.Starting.{own_log}
use Rattle.ag_kept.specs.Stopping.{stopped_image, log_where}
use Rattle.ag_kept.proofs.Stops.{torn_by_mask, stopped_log, stopped_greatest}
use Rattle.ag_suspect.specs.Rows.{suspects_on}
use Rattle.ag_keeping.specs.Keeping.{cells_on, kept_on, IsKeeping, store_on, next_block}
use Rattle.ag_keeping.specs.Meaning.{Says}
use Rattle.ag_keeping.proofs.Built.{says_so, master_is, log_is}
use Rattle.ag_keeping.proofs.Frames.{pages_stay}
use Rattle.ag_keeping.proofs.Suspects.{rows_stay, suspects_stay}

-- an image with another log, which is as it was elsewhere
module _ (pages replica : ℕ) (image now : Image) (h : IsKeeping pages replica image) (log : Log) (has : HasLog now (master_on image).cut (master_on image).incarnation log) (same : (at : ℕ) → at < 33088 → now at ≡ image at) where
  spelled_still : or_zeros (now 0) ≡ or_zeros (image 0)
  spelled_still = ap or_zeros (same 0 (omega arith))

  pub log_says : Says pages replica now (record (kept_on pages image) { log = log })
  log_says = says_so pages replica now (master_on image) h.fits (spelled_still ∙ h.spelled) log has h.few h.pages_named h.replica_named h.least
      (suspects_on image) (suspects_stay image now (λ x low high. ap or_zeros (same x (omega (arith, high)))))
      (rows_stay image now (suspects_on image) (λ x low high. ap or_zeros (same x (omega (arith, high)))) h.suspects)
      (cells_on pages image) (pages_stay image now pages h.few (λ at low high. same at high))

  pub store_still : store_on now ≡ record (store_on image) { log = log }
  store_still =
      let made : Log → _ → StoreView = λ l m. record { log = l; cut = m.cut; incarnation = m.incarnation; is_closed = false } in
      ap (λ (l : Log). made l (master_on now)) (log_is pages replica now (master_on image) h.fits (spelled_still ∙ h.spelled) log has)
      ∙ ap (made log) (master_is pages replica now (master_on image) h.fits (spelled_still ∙ h.spelled))

module _ (pages replica : ℕ) (image : Image) (h : IsKeeping pages replica image) (cur : IsCurrent image (store_on image)) (term : ℕ) (new : List Record) (f : Follows (store_on image) (next_block image term new)) where
  abbrev b : Stored
  b = next_block image term new

  abbrev at : ℕ
  at = sector_after (own_log image)

  abbrev now : Image
  now = put_all image (writes (sector_after (own_log image)) (sectors_of (next_block image term new)))

  -- no sector before the log is written
  elsewhere : (after : Image) → IsTorn image (sector_after (own_log image)) (sectors_of (next_block image term new)) after → (x : ℕ) → x < 33088 → after x ≡ image x
  elsewhere after torn x low = outside image after at x b (is_writable (store_on image) b f) torn (inl (omega (arith, low)))

  current_then : IsCurrent now (record (store_on image) { log = with_block (own_log image) new })
  current_then = current_with image now (store_on image) b cur f (torn_by_writes image at (sectors_of b)) (put_stands image at (sectors_of b))

  -- the block is there
  pub block_says : Says pages replica now (record (kept_on pages image) { log = with_block (own_log image) new })
  block_says = log_says pages replica image now h (with_block (own_log image) new) (record { is = current_then.log; greatest = current_then.greatest }) (elsewhere now (torn_by_writes image at (sectors_of b)))

  -- and one more can follow
  pub block_current : IsCurrent now (store_on now)
  block_current = subst (IsCurrent now)
      (sym (store_still pages replica image now h (with_block (own_log image) new) (record { is = current_then.log; greatest = current_then.greatest }) (elsewhere now (torn_by_writes image at (sectors_of b)))))
      current_then

  -- what memory has of the rest stays
  pub block_store : store_on now ≡ record (store_on image) { log = with_block (own_log image) new }
  block_store = store_still pages replica image now h (with_block (own_log image) new) (record { is = current_then.log; greatest = current_then.greatest }) (elsewhere now (torn_by_writes image at (sectors_of b)))

  pub block_master : master_on now ≡ master_on image
  block_master = ap (λ c. fields (or_zeros c)) (elsewhere now (torn_by_writes image at (sectors_of b)) 0 (omega arith))

  -- a stop leaves it where the mask keeps all of it
  pub block_stopped : (mask : ℕ) → Says pages replica (put_all image (kept mask 0 (writes (sector_after (own_log image)) (sectors_of (next_block image term new)))))
      (record (kept_on pages image) { log = if keeps_all mask 0 (block_sectors new) then with_block (own_log image) new else own_log image })
  block_stopped mask = log_says pages replica image (stopped_image image (store_on image) b mask) h (log_where (keeps_all mask 0 (block_sectors new)) (store_on image) b)
      (record { is = stopped_log image (store_on image) b mask cur f; greatest = stopped_greatest image (store_on image) b mask cur f })
      (elsewhere (stopped_image image (store_on image) b mask) (torn_by_mask image mask at (sectors_of b)))
