-- What a crash leaves at the moments of a batch.
use Rattle.std.proofs.Common.{◌≡◌, ℕ, List, [], ◌++◌, length, take, drop, Bool, ⊎_elim, subst, sym, arith, inl, inr}
use Rattle.std.specs.List.{AllByRecursion}
use Rattle.std.proofs.lemmas.List.{take_all, take-append-drop}
use Rattle.ag_outside.specs.Disks.{Content, Image, IsImage, SameImages, MayAdd, WroteSo, Only, Elapses}
use Rattle.ag_outside.specs.Moments.{LeavesOnly}
use Rattle.ag_outside.proofs.Running.{started, goes_on}
use Rattle.ag_pagestore.specs.declared.batch.PageWrite.{PageWrite}
use Rattle.ag_pagestore.specs.Batches.{RisesFrom, IsWhole, written}
use Rattle.ag_pagestore.specs.Moments.{IsPartOf, IsOldOrNew}
use Rattle.ag_pagestore.proofs.Pages.{disk_left}

module _ {D : Type 0} (moment : D → ℕ) (left_since : D → ℕ → Image → Type 0) where
  -- what holds of less holds of more
  pub leaves_weaker : (old new : D) (P Q : Image → Type 0) → ((image : Image) → P image → Q image) → LeavesOnly moment left_since old new P → LeavesOnly moment left_since old new Q
  leaves_weaker old new P Q weaker l = record {
    later = l.later;
    each = λ image left. weaker image (l.each image left);
    before = λ t image le left. elim (l.before t image le left) [ inl was ↦ inl was | inr p ↦ inr (weaker image p) ];
  }

  -- two runs one after the other
  pub leaves_both : (old mid new : D) (P : Image → Type 0) → LeavesOnly moment left_since old mid P → LeavesOnly moment left_since mid new P → LeavesOnly moment left_since old new P
  leaves_both old mid new P a b = record {
    later = omega (arith, a.later, b.later);
    each = λ image left. ⊎_elim (a.each image) (λ p. p) (b.before (moment old) image a.later left);
    before = λ t image le left. ⊎_elim (a.before t image le) (λ p. inr p) (b.before t image (omega (arith, le, a.later)) left);
  }

  -- what is left without a call of writing
  pub leaves_reads : (old new : D) (traced : Bool) (hold next : ℕ → Content → Type 0) (disk : Image) (batch : List PageWrite) → ((image : Image) → left_since old (moment old) image → IsImage hold image) → Elapses traced (moment old) (moment new) (left_since old) (left_since new) next → SameImages hold next
      → LeavesOnly moment left_since old new (IsPartOf hold disk batch)
  leaves_reads old new traced hold next disk batch now time same =
      let P = IsPartOf hold disk batch in
      goes_on moment left_since old old new P traced next (started moment left_since old P (λ image left. record { begun = 0; whole = tt; each = λ at. inl (now image left at) })) time (λ image is. record { begun = 0; whole = tt; each = λ at. inl ((same at (image at)).0 (is at)) })

-- a part of a batch over what was the same before
pub part_over : (hold next : ℕ → Content → Type 0) (disk then : Image) (batch : List PageWrite) → SameImages hold next → then ≡ disk → (image : Image) → IsPartOf next then batch image → IsPartOf hold disk batch image
part_over hold next disk then batch same is image p = record {
  begun = p.begun;
  whole = p.whole;
  each = λ at. elim (p.each at) [
    | inl was ↦ inl ((same at (image at)).0 was)
    | inr wrote ↦ inr (subst (λ (im : Image). WroteSo (written im (take p.begun batch)) at (image at)) is wrote)
  ];
}

-- after a sync, or one that failed
pub part_synced : (hold later new : ℕ → Content → Type 0) (disk : Image) (batch : List PageWrite) → MayAdd (written disk batch) hold later → MayAdd [] later new → AllByRecursion IsWhole batch → (image : Image) → IsImage new image → IsPartOf hold disk batch image
part_synced hold later new disk batch wrote synced whole image now =
    let all : take (length batch) batch ≡ batch = take_all (length batch) batch (omega arith) in
    record {
      begun = length batch;
      whole = subst (AllByRecursion IsWhole) (sym all) whole;
      each = λ at. elim (synced at (image at) (now at)) [
        | inl before ↦ elim (wrote at (image at) before) [ inl was ↦ inl was | inr some ↦ inr (subst (λ (ws : List PageWrite). WroteSo (written disk ws) at (image at)) (sym all) some) ]
        | inr none ↦ absurd none
      ];
    }

-- what a part of a batch is of each page, where nothing was unsynced
pub part_pages : (hold : ℕ → Content → Type 0) (disk : Image) (batch : List PageWrite) → RisesFrom 16 batch → Only disk hold → (image : Image) → IsPartOf hold disk batch image → IsOldOrNew disk batch image
part_pages hold disk batch rises only image p =
    let all : take p.begun batch ++ drop p.begun batch ≡ batch = take-append-drop p.begun batch in
    subst (λ (ws : List PageWrite). IsOldOrNew disk ws image) all
    (disk_left disk image (take p.begun batch) (drop p.begun batch) (subst (RisesFrom 16) (sym all) rises) p.whole (λ at. elim (p.each at) [ inl was ↦ inl (only at (image at) was) | inr wrote ↦ inr wrote ]))
