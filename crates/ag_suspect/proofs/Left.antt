-- A crash while one sector is written leaves the old rows or the new ones.
use Rattle.std.proofs.Common.{◌≡◌, ◌⊎◌, ℕ, Bool, List, Some, inl, inr, sym, ap, ◌∙◌}
use Rattle.std.specs.Prelude.{if◌then◌else◌}
use Rattle.std.proofs.lemmas.Bool.Decides.{eqb_tells}
use Rattle.ag_model.specs.declared.answer.SuspectRow.{SuspectRow}
use Rattle.ag_outside.specs.declared.disk.SectorWrite.{SectorWrite}
use Rattle.ag_outside.specs.Disks.{Content, Image, or_zeros, put, Only}
use Rattle.ag_suspect.specs.Rows.{HasRows}
use Rattle.ag_suspect.specs.Saving.{IsOldOrNew}
use Rattle.ag_suspect.proofs.Found.{same_had}

-- where the sector holds what it held, all does
stayed : (image left : Image) (may_hold : ℕ → Content → Type 0) (w : SectorWrite) → Only image may_hold → IsOldOrNew may_hold w left → left w.at ≡ image w.at → (at : ℕ) → left at ≡ image at
stayed image left may_hold w only is here at = elim (is at) [
  | inl was ↦ only at (left at) was
  | inr wrote ↦ ap left wrote.0 ∙ here ∙ ap image (sym wrote.0)
]

-- where it is new, all others hold what they held
went : (image left : Image) (may_hold : ℕ → Content → Type 0) (w : SectorWrite) → Only image may_hold → IsOldOrNew may_hold w left → left w.at ≡ Some w.sector → (at : ℕ) → left at ≡ put image w at
went image left may_hold w only is here at = elim (eqb_tells at w.at) [
  | inl same ↦ ap left same.1 ∙ here ∙ sym (ap (λ (b : Bool). if b then Some w.sector else image at) same.0)
  | inr apart ↦ elim (is at) [
    | inl was ↦ only at (left at) was ∙ sym (ap (λ (b : Bool). if b then Some w.sector else image at) apart.0)
    | inr wrote ↦ absurd (apart.1 wrote.0)
  ]
]

pub old-or-new : (image left : Image) (may_hold : ℕ → Content → Type 0) (w : SectorWrite) (old new : List SuspectRow) → Only image may_hold → HasRows image old → HasRows (put image w) new → IsOldOrNew may_hold w left → HasRows left old ⊎ HasRows left new
old-or-new image left may_hold w old new only had has is = elim (is w.at) [
  | inl was ↦ inl (same_had image left old (λ at _ _. sym (ap or_zeros (stayed image left may_hold w only is (only w.at (left w.at) was) at))) had)
  | inr wrote ↦ inr (same_had (put image w) left new (λ at _ _. sym (ap or_zeros (went image left may_hold w only is wrote.1 at))) has)
]
