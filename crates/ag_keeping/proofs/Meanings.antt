-- What single pieces mean.
use Rattle.std.proofs.Common.{◌≡◌, ℕ, zero, suc, ◌+◌, ◌<◌, ◌≤◌, ◌^◌, List, [], ◌∷◌, take, Bool, true, false, if◌then◌else◌, refl, sym, subst, arith}
use Rattle.std.specs.Prelude.{◌&&◌}
use Rattle.std.proofs.lemmas.List.{append-nil}
use Rattle.ag_model.specs.declared.record.Record.{Record}
use Rattle.ag_model.specs.Blocks.{with_block}
use Rattle.ag_model.specs.Cells.{keeps, keeps_all}
use Rattle.ag_model.specs.Sizes.{block_sectors}
use Rattle.ag_outside.specs.declared.disk.SectorWrite.{SectorWrite}
use Rattle.ag_outside.specs.Calls.{Piece}
use Rattle.ag_outside.specs.Disks.{Image, put, put_all, writes}
use Rattle.ag_outside.specs.Scripts.{kept}
use Rattle.ag_master.specs.Spelling.{spelling, HasSpelling}
use Rattle.ag_logstore.specs.Stored.{sectors_of}
use Rattle.ag_logstore.specs.Stores.{IsCurrent, Follows, sector_after}
use Rattle.ag_kept.specs.Kept.{master_on}
use Rattle.ag_kept.specs.Starting.{own_log}
use Rattle.ag_pieces.specs.Pieces.{sectors_in}
use Rattle.ag_rules.specs.Replica.{Kept, Master}
use Rattle.ag_suspect.specs.Rows.{suspects_on}
use Rattle.ag_suspect.specs.Places.{row_place, repaired, noted_sector, repaired_sector, piece_of}
use Rattle.ag_suspect.proofs.Standing.{noted-stands, repaired-stands, noted-place, repaired-place, sector-within}
use Rattle.ag_rules.specs.Plan.{Write, Block_write, Master_write, Note_write, Repaired_write, written, has_row, can_note, noted}
use Rattle.ag_rules.specs.Cut.{partly_written, batch_partly_written}
use Rattle.ag_keeping.specs.Keeping.{kept_on, IsKeeping, store_on, next_block}
use Rattle.ag_keeping.specs.Cutting.{sector_master, CanCut}
use Rattle.ag_keeping.specs.Meaning.{Says, Mean}
use Rattle.ag_keeping.proofs.Masters.{master_says}
use Rattle.ag_keeping.proofs.Blocks.{block_says, block_stopped}
use Rattle.ag_keeping.proofs.Suspects.{rows_say}

module _ (pages replica : ℕ) (image : Image) (h : IsKeeping pages replica image) where
  -- nothing is written
  pub stays : Says pages replica image (kept_on pages image)
  stays = record { keeping = h; kept = refl }

  pub sync_means : Mean pages replica image [] []
  sync_means = record { count = refl; whole = stays; stopped = λ w mask lt. absurd (omega arith) }

  -- one piece
  module _ (piece : Piece) (w : Write) (whole : Says pages replica (put_all image (writes piece.first piece.sectors)) (written (kept_on pages image) w))
      (stopped : (mask : ℕ) → Says pages replica (put_all image (kept mask 0 (writes piece.first piece.sectors))) (partly_written mask 0 (kept_on pages image) w)) where
    sectors_are : sectors_in (piece ∷ []) ≡ writes piece.first piece.sectors
    sectors_are = append-nil (writes piece.first piece.sectors)

    one_stopped : (n mask : ℕ) → n < 1 → Says pages replica (put_all image (kept mask 0 (sectors_in (take (n + 1) (piece ∷ []))))) (batch_partly_written mask 0 (kept_on pages image) (take (n + 1) (w ∷ [])))
    one_stopped zero mask lt = subst (λ (ws : List SectorWrite). Says pages replica (put_all image (kept mask 0 ws)) (partly_written mask 0 (kept_on pages image) w)) (sym sectors_are) (stopped mask)
    one_stopped (suc n) mask lt = absurd (omega (arith, lt))

    pub one_means : Mean pages replica image (piece ∷ []) (w ∷ [])
    one_means = record {
      count = refl;
      whole = subst (λ (ws : List SectorWrite). Says pages replica (put_all image ws) (written (kept_on pages image) w)) (sym sectors_are) whole;
      stopped = one_stopped;
    }

  -- one sector, which a stop leaves as it was or as it is written
  module _ (at : ℕ) (bytes : List ℕ) (w : Write) (whole : Says pages replica (put image (record { at = at; sector = bytes })) (written (kept_on pages image) w))
      (partly : (mask : ℕ) → partly_written mask 0 (kept_on pages image) w ≡ (if keeps_all mask 0 1 then written (kept_on pages image) w else kept_on pages image)) where
    choose : (b : Bool) → Says pages replica (put_all image (if b then record { at = at; sector = bytes } ∷ [] else [])) (if b && true then written (kept_on pages image) w else kept_on pages image)
    choose true = whole
    choose false = stays

    pub sector_means : Mean pages replica image (record { first = at; sectors = bytes ∷ [] } ∷ []) (w ∷ [])
    sector_means = one_means (record { first = at; sectors = bytes ∷ [] }) w whole (λ mask. subst (Says pages replica (put_all image (kept mask 0 (writes at (bytes ∷ []))))) (sym (partly mask)) (choose (keeps mask 0)))

  -- the master
  pub master_means : (m : Master) (end : ℕ) → CanCut (master_on image) (own_log image) m end → HasSpelling (sector_master (master_on image) m end)
      → Mean pages replica image (record { first = 0; sectors = spelling (sector_master (master_on image) m end) ∷ [] } ∷ []) (Master_write m end ∷ [])
  master_means m end can fits = sector_means 0 (spelling (sector_master (master_on image) m end)) (Master_write m end) (master_says pages replica image h m end can fits) (λ mask. refl)

  -- a block
  module _ (cur : IsCurrent image (store_on image)) (term : ℕ) (new : List Record) (f : Follows (store_on image) (next_block image term new)) where
    log_choice : (b : Bool) → ◌≡◌ {A = Kept} (record (kept_on pages image) { log = if b then with_block (own_log image) new else own_log image }) (if b then record (kept_on pages image) { log = with_block (own_log image) new } else kept_on pages image)
    log_choice true = refl
    log_choice false = refl

    pub block_means : Mean pages replica image (record { first = sector_after (own_log image); sectors = sectors_of (next_block image term new) } ∷ []) (Block_write new ∷ [])
    block_means = one_means (record { first = sector_after (own_log image); sectors = sectors_of (next_block image term new) }) (Block_write new) (block_says pages replica image h cur term new f)
        (λ mask. subst (Says pages replica (put_all image (kept mask 0 (writes (sector_after (own_log image)) (sectors_of (next_block image term new)))))) (log_choice (keeps_all mask 0 (block_sectors new))) (block_stopped pages replica image h cur term new f mask))

  -- a page that is noted
  pub note_means : (page kind : ℕ) → 1 ≤ page → page < 2 ^ 16 → kind < 2 ^ 8 → can_note page (suspects_on image) ≡ true
      → Mean pages replica image (piece_of (noted_sector page kind (suspects_on image)) ∷ []) (Note_write page kind ∷ [])
  note_means page kind some small fits can =
      let s = noted_sector page kind (suspects_on image) in
      let within = sector-within (row_place page (suspects_on image)) (noted-place (suspects_on image) page h.suspects.few can) in
      let stand = noted-stands image (suspects_on image) page kind h.suspects some small fits can in
      sector_means s.at s.sector (Note_write page kind) (rows_say pages replica image h s within.0 within.1 (noted page kind (suspects_on image)) stand) (λ mask. refl)

  -- a page whose row is marked as repaired
  pub mark_means : (page : ℕ) → has_row page (suspects_on image) ≡ true → Mean pages replica image (piece_of (repaired_sector page (suspects_on image)) ∷ []) (Repaired_write page ∷ [])
  mark_means page had =
      let s = repaired_sector page (suspects_on image) in
      let within = sector-within (row_place page (suspects_on image)) (repaired-place (suspects_on image) page h.suspects.few had) in
      let stand = repaired-stands image (suspects_on image) page h.suspects had in
      sector_means s.at s.sector (Repaired_write page) (rows_say pages replica image h s within.0 within.1 (repaired page (suspects_on image)) stand) (λ mask. refl)
