-- Suspect rows of images that have the same sectors 1 to 63, and of one in which a sector of theirs is written.
use Rattle.std.proofs.Common.{◌≡◌, ℕ, ◌<◌, ◌≤◌, List, false, sym, ap, ◌∙◌, arith}
use Rattle.ag_model.specs.declared.answer.SuspectRow.{SuspectRow}
use Rattle.ag_outside.specs.declared.disk.SectorWrite.{SectorWrite}
use Rattle.ag_outside.specs.Disks.{Image, or_zeros, put}
use Rattle.ag_outside.proofs.Past.{put-apart}
use Rattle.ag_logblock.specs.Fitting.{header_of}
use Rattle.ag_logstore.specs.Stored.{IsLogSector}
use Rattle.ag_logstore.specs.Stores.{StoreView, IsCurrent}
use Rattle.ag_logstore.proofs.Chains.{region_alone, current_alone}
use Rattle.ag_model.specs.declared.record.Log.{Log}
use Rattle.ag_master.specs.declared.master.Master.{Master as SectorMaster}
use Rattle.ag_master.specs.Spelling.{fields}
use Rattle.ag_kept.specs.Kept.{master_on}
use Rattle.ag_kept.specs.Standing.{HasLog}
use Rattle.ag_kept.specs.Starting.{own_log}
use Rattle.ag_suspect.specs.Rows.{suspects_on, HasRows}
use Rattle.ag_suspect.proofs.Found.{same_read, same_had, are_read}
use Rattle.ag_keeping.specs.Keeping.{cells_on, kept_on, IsKeeping, store_on}
use Rattle.ag_keeping.specs.Meaning.{Says}
use Rattle.ag_keeping.proofs.Frames.{pages_stay}
use Rattle.ag_keeping.proofs.Built.{says_so, log_is}

pub suspects_stay : (image other : Image) → ((x : ℕ) → 1 ≤ x → x < 64 → or_zeros (other x) ≡ or_zeros (image x)) → suspects_on other ≡ suspects_on image
suspects_stay image other same = same_read other image same

pub rows_stay : (image other : Image) (rows : List SuspectRow) → ((x : ℕ) → 1 ≤ x → x < 64 → or_zeros (other x) ≡ or_zeros (image x)) → HasRows image rows → HasRows other rows
rows_stay image other rows same h = same_had image other rows (λ x low high. sym (same x low high)) h

-- one of these sectors is written, and the rows are new
module _ (pages replica : ℕ) (image : Image) (h : IsKeeping pages replica image) (w : SectorWrite) (low : 1 ≤ w.at) (high : w.at < 64) (rows : List SuspectRow)
    (stand : HasRows (put image w) rows) where
  elsewhere : (at : ℕ) → (at ≡ w.at → ⊥) → put image w at ≡ image at
  elsewhere at apart = put-apart image w at apart

  log_same : (at : ℕ) → IsLogSector at → or_zeros (put image w at) ≡ or_zeros (image at)
  log_same at is = ap or_zeros (elsewhere at (λ e. absurd (omega (arith, e, high, is.0))))

  has : HasLog (put image w) (master_on image).cut (master_on image).incarnation (own_log image)
  has = record {
    is = region_alone image (put image w) (master_on image).cut (master_on image).incarnation (own_log image) h.log.is log_same;
    greatest = λ at is. omega (arith, h.log.greatest at is, ap (λ bytes. (header_of bytes).head.incarnation) (log_same at is));
  }

  pub rows_say : Says pages replica (put image w) (record (kept_on pages image) { suspects = rows })
  rows_say = says_so pages replica (put image w) (master_on image) h.fits (ap or_zeros (elsewhere 0 (λ e. absurd (omega (arith, e, low)))) ∙ h.spelled) (own_log image) has h.few h.pages_named h.replica_named h.least
      rows (are_read (put image w) rows stand) stand (cells_on pages image) (pages_stay image (put image w) pages h.few (λ at from to. elsewhere at (λ e. absurd (omega (arith, e, high, from)))))

  -- memory's master and log stay
  pub rows_master : master_on (put image w) ≡ master_on image
  rows_master = ap (λ c. fields (or_zeros c)) (elsewhere 0 (λ e. absurd (omega (arith, e, low))))

  pub rows_store : store_on (put image w) ≡ store_on image
  rows_store =
      let made : Log → SectorMaster → StoreView = λ l m. record { log = l; cut = m.cut; incarnation = m.incarnation; is_closed = false } in
      ap (λ (l : Log). made l (master_on (put image w))) (log_is pages replica (put image w) (master_on image) h.fits (ap or_zeros (elsewhere 0 (λ e. absurd (omega (arith, e, low)))) ∙ h.spelled) (own_log image) has)
      ∙ ap (made (own_log image)) rows_master

  pub rows_current : (t : StoreView) → IsCurrent image t → IsCurrent (put image w) t
  rows_current t cur = current_alone image (put image w) t cur log_same
