-- What a crash leaves while a master is saved.
use Rattle.std.proofs.Common.{◌≡◌, ◌⊎◌, ◌∙◌, ap, ℕ, Some, List, [], ◌∷◌, inl, inr, Result, Ok, Err}
use Rattle.std.specs.Result.{IsErrOf}
use Rattle.ag_outside.specs.declared.disk.SectorWrite.{SectorWrite}
use Rattle.ag_outside.specs.declared.disk.DiskError.{DiskError}
use Rattle.ag_outside.specs.Calls.{Call, Write_call, Sync_call}
use Rattle.ag_outside.specs.Disks.{Content, Image, WroteSo, MayAdd, IsImage}
use Rattle.ag_master.specs.declared.master.Master.{Master}
use Rattle.ag_master.specs.Spelling.{spelling}
use Rattle.ag_master.specs.Loading.{IsOldOrNew}

module _ (old mid : ℕ → Content → Type 0) (m : Master) (added : MayAdd (record { at = 0; sector = spelling m } ∷ []) old mid) where
  pub old_or_new : (image : Image) → IsImage mid image → IsOldOrNew old m image
  old_or_new image is at = elim (added at (image at) (is at)) [
    | inl was ↦ inl was
    | inr wrote ↦ elim wrote [ inl here ↦ inr here | inr none ↦ absurd none ]
  ]

module _ (old mid new : ℕ → Content → Type 0) (m : Master) (added : MayAdd (record { at = 0; sector = spelling m } ∷ []) old mid) (synced : MayAdd [] mid new) where
  pub still_old_or_new : (image : Image) → IsImage new image → IsOldOrNew old m image
  still_old_or_new image is at = elim (synced at (image at) (is at)) [
    | inl before ↦ elim (added at (image at) before) [
      | inl was ↦ inl was
      | inr wrote ↦ elim wrote [ inl here ↦ inr here | inr none ↦ absurd none ]
    ]
    | inr none ↦ absurd none
  ]

pub err_is : {T E : Type 0} {e f : E} → IsErrOf {T = T} (Err e) f → e ≡ f
err_is is = cc is

-- a write and a sync that went well
pub both : (bytes : List ℕ) {written synced : Result (Unit {0}) DiskError} → written ≡ Ok (record {}) → synced ≡ Ok (record {})
    → Write_call 0 (bytes ∷ []) written ∷ Sync_call synced ∷ [] ≡ Write_call 0 (bytes ∷ []) (Ok (record {})) ∷ Sync_call (Ok (record {})) ∷ []
both bytes {written} {synced} w s = ap (λ r. Write_call 0 (bytes ∷ []) r ∷ Sync_call synced ∷ []) w ∙ ap (λ r. Write_call 0 (bytes ∷ []) (Ok (record {})) ∷ Sync_call r ∷ []) s
