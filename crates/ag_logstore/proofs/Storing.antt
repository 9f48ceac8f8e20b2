-- What a store's append makes of its disk.
use Rattle.std.proofs.Common.{◌≡◌, ℕ, ◌+◌, ◌≤◌, List, length, Bool, IsTrue, refl, sym, ap, subst, arith, inl, inr}
use Rattle.ag_model.specs.declared.message.Block.{Block as BlockOf}
use Rattle.ag_model.specs.declared.record.Record.{Record}
use Rattle.ag_model.specs.Sizes.{block_sectors, free_sectors}
use Rattle.ag_record.specs.Spelling.{records_spelling, ArePayload}
use Rattle.ag_logblock.specs.Block.{HasBlock}
use Rattle.ag_outside.specs.Disks.{Content, Image, or_zeros, writes, put_all, Only, IsImage}
use Rattle.ag_outside.specs.Moments.{LeavesOnly}
use Rattle.ag_outside.proofs.Running.{started}
use Rattle.ag_logstore.specs.Stored.{Stored, sectors_of}
use Rattle.ag_logstore.specs.Stores.{StoreView, sector_after, stored_by, IsCurrent, IsReady, IsTorn, Follows, IsBeforeOrAfter}
use Rattle.ag_logstore.proofs.Standing.{wrote_within, put_stands}
use Rattle.ag_logstore.proofs.Chains.{region_alone}
use Rattle.ag_logstore.proofs.Runs.{IsWrittenTo, leaves_so}
use Rattle.ag_logstore.proofs.Written.{is_writable, outside, old_or_with, current_with, torn_by_writes, store_with, room_is}

pub follows : (s : StoreView) (b : BlockOf) → ArePayload b.records → HasBlock (stored_by s.incarnation b).head (records_spelling b.records) → b.first ≡ length s.log.records + 1 → block_sectors b.records ≤ free_sectors s.log → Follows s (stored_by s.incarnation b)
follows s b payload has first room = record { fits = payload; head = has; first = first; incarnation = refl; room = room_is s.log (stored_by s.incarnation b) (payload, has) room }

-- what was written
pub current_after : (image now : Image) (s : StoreView) (b : Stored) → IsCurrent image s → Follows s b → now ≡ put_all image (writes (sector_after s.log) (sectors_of b)) → IsCurrent now (store_with s b.records)
current_after image now s b cur f is =
    let at = sector_after s.log in
    subst (λ (x : Image). IsCurrent x (store_with s b.records)) (sym is) (current_with image (put_all image (writes at (sectors_of b))) s b cur f (torn_by_writes image at (sectors_of b)) (put_stands image at (sectors_of b)))

pub ready_after : (keeps keeps_now : Bool) (image now : Image) (hold hold_now : ℕ → Content → Type 0) (s : StoreView) (b : Stored) → IsReady keeps image hold s → Follows s b → keeps_now ≡ keeps
    → (IsTrue keeps → now ≡ put_all image (writes (sector_after s.log) (sectors_of b))) → (IsTrue keeps → Only now hold_now) → IsReady keeps_now now hold_now (store_with s b.records)
ready_after keeps keeps_now image now hold hold_now s b r f same is durable = record {
  least = r.least;
  most = r.most;
  current = λ k. let old = subst IsTrue same k in current_after image now s b (r.current old) f (is old);
  synced = λ k. durable (subst IsTrue same k);
}

module _ {D : Type 0} (keeps : D → Bool) (reads : D → Image) (may_hold : D → ℕ → Content → Type 0) (moment : D → ℕ) (left_since : D → ℕ → Image → Type 0)
    (tells : (d : D) (at : ℕ) (content : Content) → may_hold d at content → IsTrue (keeps d)) (now_only : (d : D) (image : Image) → left_since d (moment d) image → IsImage (may_hold d) image) where
  -- a crash in a write of the block
  in_write : (d : D) (s : StoreView) (b : Stored) → IsReady (keeps d) (reads d) (may_hold d) s → Follows s b → (image : Image) → IsWrittenTo (may_hold d) (writes (sector_after s.log) (sectors_of b)) image → IsBeforeOrAfter (reads d) s b.records image
  in_write d s b r f image was =
      let k : IsTrue (keeps d) = elim (was 0) [
        | inl held ↦ tells d 0 (image 0) held
        | inr wrote ↦ absurd (omega (arith, (wrote_within (sector_after s.log) 0 (sectors_of b) (image 0) wrote).0))
      ] in
      let torn : IsTorn (reads d) (sector_after s.log) (sectors_of b) image = λ at. elim (was at) [
        | inl held ↦ inl (r.synced k at (image at) held)
        | inr wrote ↦ inr wrote
      ] in
      record {
        log = old_or_with (reads d) image s b (r.current k) f torn;
        others = λ at out. outside (reads d) image (sector_after s.log) at b (is_writable s b f) torn out;
      }

  pub in_call : (old new : D) (s : StoreView) (b : Stored) → IsReady (keeps old) (reads old) (may_hold old) s → Follows s b
      → LeavesOnly moment left_since old new (IsWrittenTo (may_hold old) (writes (sector_after s.log) (sectors_of b))) → LeavesOnly moment left_since old new (IsBeforeOrAfter (reads old) s b.records)
  in_call old new s b r f run = leaves_so moment left_since old new (IsWrittenTo (may_hold old) (writes (sector_after s.log) (sectors_of b))) (IsBeforeOrAfter (reads old) s b.records) run (in_write old s b r f)

  -- a crash where nothing was written
  pub no_call : (d : D) (s : StoreView) (records : List Record) → IsReady (keeps d) (reads d) (may_hold d) s → LeavesOnly moment left_since d d (IsBeforeOrAfter (reads d) s records)
  no_call d s records r = started moment left_since d (IsBeforeOrAfter (reads d) s records) (λ image left.
      let is = now_only d image left in
      let k = tells d 0 (image 0) (is 0) in
      let same : (at : ℕ) → image at ≡ reads d at = λ at. r.synced k at (image at) (is at) in
      record {
        log = inl (region_alone (reads d) image s.cut s.incarnation s.log (r.current k).log (λ at region. ap or_zeros (same at)));
        others = λ at out. same at;
      })
