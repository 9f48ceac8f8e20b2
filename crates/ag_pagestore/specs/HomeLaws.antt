-- What a page store leaves goes on from one step to the next.
use Rattle.std.specs.Prelude.{ℕ, List, [], ◌∷◌, ◌++◌, Bool, refl}
use Rattle.std.proofs.Common.{◌∙◌}
use Rattle.ag_outside.specs.Calls.{Call}
use Rattle.ag_outside.specs.Disks.{Content, Image}
use Rattle.ag_page.specs.Home.{PutBack}
use Rattle.ag_pagestore.specs.Calling.{reads_none, reads_both, same_images, same_itself}
use Rattle.ag_pagestore.specs.Homes.{Held, Untouched, Leaves}

module _ {D : Type 0} (size : D → ℕ) (keeps : D → Bool) (reads : D → Image) (may_hold : D → ℕ → Content → Type 0) (did : D → Call → D → Type 0) where
  -- no call
  pub untouched_itself : (a : Held D) → Untouched size keeps reads may_hold did a a
  untouched_itself a = record { content = refl; images = same_itself (may_hold a.disk); keeping = refl; sectors = refl; calls = reads_none did a.disk }

  -- reads, and then reads
  pub untouched_both : (a b c : Held D) → Untouched size keeps reads may_hold did a b → Untouched size keeps reads may_hold did b c → Untouched size keeps reads may_hold did a c
  untouched_both a b c first then = record {
    content = then.content ∙ first.content;
    images = same_images (may_hold a.disk) (may_hold b.disk) (may_hold c.disk) first.images then.images;
    keeping = then.keeping ∙ first.keeping;
    sectors = then.sectors ∙ first.sectors;
    calls = reads_both did a.disk b.disk first.calls c.disk then.calls;
  }

  module _ (moment : D → ℕ) (left_since : D → ℕ → Image → Type 0) where
    -- reads, and then writings
    reads_leave : (ys : List PutBack) (a b c : Held D) → Untouched size keeps reads may_hold did a b
        → Leaves size keeps reads may_hold did moment left_since b ys c → Leaves size keeps reads may_hold did moment left_since a ys c
    reads_leave [] a b c first then = untouched_both a b c first then
    reads_leave (y ∷ ys) a b c first (before, after, reads_only, took, rest) = (before, after, untouched_both a b before first reads_only, took, rest)

    -- writings, and then writings
    pub leave_both : (xs ys : List PutBack) (a b c : Held D) → Leaves size keeps reads may_hold did moment left_since a xs b
        → Leaves size keeps reads may_hold did moment left_since b ys c → Leaves size keeps reads may_hold did moment left_since a (xs ++ ys) c
    leave_both [] ys a b c first then = reads_leave ys a b c first then
    leave_both (x ∷ xs) ys a b c (before, after, reads_only, took, rest) then = (before, after, reads_only, took, leave_both xs ys after b c rest then)
