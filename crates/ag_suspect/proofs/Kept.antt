-- What a crash leaves while one sector is written, and which calls the disk took.
use Rattle.std.proofs.Common.{ℕ, [], ◌∷◌, inl, inr}
use Rattle.ag_outside.specs.declared.disk.SectorWrite.{SectorWrite}
use Rattle.ag_outside.specs.Disks.{Content, Image, MayAdd, IsImage}
use Rattle.ag_suspect.specs.Saving.{IsOldOrNew}

module _ (old mid : ℕ → Content → Type 0) (w : SectorWrite) (added : MayAdd (w ∷ []) old mid) where
  pub old_or_new : (image : Image) → IsImage mid image → IsOldOrNew old w image
  old_or_new image is at = elim (added at (image at) (is at)) [
    | inl was ↦ inl was
    | inr wrote ↦ elim wrote [ inl here ↦ inr here | inr none ↦ absurd none ]
  ]

  pub still_old_or_new : (new : ℕ → Content → Type 0) → MayAdd [] mid new → (image : Image) → IsImage new image → IsOldOrNew old w image
  still_old_or_new new synced image is at = elim (synced at (image at) (is at)) [
    | inl before ↦ elim (added at (image at) before) [
      | inl was ↦ inl was
      | inr wrote ↦ elim wrote [ inl here ↦ inr here | inr none ↦ absurd none ]
    ]
    | inr none ↦ absurd none
  ]
