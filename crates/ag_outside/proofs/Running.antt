-- How a run of calls of a disk goes on.
use Rattle.std.proofs.Common.{inl, inr, ⊎_elim, ℕ, Bool, arith}
use Rattle.ag_outside.specs.Disks.{Content, Image, IsImage, Elapses}
use Rattle.ag_outside.specs.Moments.{LeavesOnly}

module _ {D : Type 0} (moment : D → ℕ) (left_since : D → ℕ → Image → Type 0) where
  -- before the first call
  pub started : (old : D) (P : Image → Type 0) → ((image : Image) → left_since old (moment old) image → P image) → LeavesOnly moment left_since old old P
  started old P here = record { later = omega arith; each = here; before = λ t image le left. inl left }

  -- one call more, after which a crash leaves what has P
  pub goes_on : (old mid new : D) (P : Image → Type 0) (traced : Bool) (may_hold : ℕ → Content → Type 0) → LeavesOnly moment left_since old mid P → Elapses traced (moment mid) (moment new) (left_since mid) (left_since new) may_hold
      → ((image : Image) → IsImage may_hold image → P image) → LeavesOnly moment left_since old new P
  goes_on old mid new P traced may_hold so_far time here = record {
    later = omega (arith, so_far.later, time.later);
    each = λ image left. ⊎_elim (so_far.each image) (here image) (time.nothing_else (moment old) image so_far.later left);
    before = λ t image le left. ⊎_elim (so_far.before t image le) (λ now. inr (here image now)) (time.nothing_else t image (omega (arith, le, so_far.later)) left);
  }
