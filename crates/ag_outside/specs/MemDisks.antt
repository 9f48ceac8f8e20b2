-- What a disk in memory reads, and what a crash may leave of it.
use Rattle.std.specs.Prelude.{◌≡◌, ◌↔◌, ◌⊎◌, ◌+◌, ◌-◌, ◌^◌, ◌≤◌, ℕ, min, Contains, Result, IsErrOf, List, [], ◌∷◌, length, take, drop, replicate, Some, Bool, nat_eq, if◌then◌else◌}
use Rattle.std.proofs.Common.{sym, subst}
use Rattle.std.proofs.lemmas.List.{take_all, drop_all}
use Rattle.std.proofs.Math.Nat.{le_refl, le_antisymm}
use Rattle.std.specs.HashMap.{HashMap, get}
use Rattle.std.specs.declared.hash.BuildHasherDefault.{BuildHasherDefault}
use Rattle.std.specs.declared.hash.FoldHasher.{FoldHasher}
use Rattle.ag_outside.specs.declared.disk.SectorWrite.{SectorWrite}
use Rattle.ag_outside.specs.declared.disk.DiskError.{DiskError}
use Rattle.ag_outside.specs.declared.disk.DiskError.TheVariants.{Failed}
use Rattle.ag_outside.specs.declared.mem_disk.Change.{Change}
use Rattle.ag_outside.specs.declared.mem_disk.Change.TheVariants.{Wrote, Synced}
use Rattle.ag_outside.specs.declared.mem_disk.MemDisk.{MemDisk}
use Rattle.ag_outside.specs.Disks.{Elapses, Content, Image, or_zeros, put, WroteSo, IsImage}
use Rattle.ag_outside.specs.Calls.{Call, Write_call, Read_call, Sync_call}

-- the sectors that were written
abbrev pub Sectors : Type 0
Sectors = HashMap ℕ (List ℕ) (BuildHasherDefault FoldHasher)

-- the bytes of a sector
abbrev pub bytes_at : Sectors → ℕ → List ℕ
bytes_at sectors at = or_zeros (get nat_eq sectors at)

-- what each sector reads
abbrev pub image_of : Sectors → Image
image_of sectors at = Some (bytes_at sectors at)

-- the changes that are on record
abbrev pub changes : Bool → List Change → List Change
changes traced past = if traced then past else []

-- the image before these changes
abbrev pub undo : List Change → Image → Image
undo [] image = image
undo (Wrote before ∷ later) image = put (undo later image) before
undo (Synced ∷ later) image = undo later image

-- what sectors had before they were written, since the last sync
abbrev pub overwritten : List SectorWrite → List Change → List SectorWrite
overwritten so_far [] = so_far
overwritten so_far (Wrote before ∷ later) = overwritten (before ∷ so_far) later
overwritten so_far (Synced ∷ later) = overwritten [] later

-- a sector may hold what it reads, or what it had at some time since the last sync
abbrev pub held : Image → List Change → ℕ → Content → Type 0
held image past at content = (content ≡ image at) ⊎ WroteSo (overwritten [] past) at content

-- a crash after the first t changes or more might have left this image
abbrev pub left_by : Image → List Change → ℕ → Image → Type 0
left_by image past t left = (k : ℕ) × (t ≤ k) × (k ≤ length past) × IsImage (held (undo (drop k past) image) (take k past)) left

abbrev pub mem_reads : MemDisk → Image
mem_reads disk = image_of disk.sectors

abbrev pub mem_changes : MemDisk → List Change
mem_changes disk = changes disk.traced disk.past.items

abbrev pub mem_traced : MemDisk → Bool
mem_traced disk = disk.traced

-- how many calls of `write`, `read` and `sync` there were
abbrev pub mem_calls : MemDisk → ℕ
mem_calls disk = disk.calls

abbrev pub mem_faults : MemDisk → ℕ
mem_faults disk = disk.faults

-- the calls that fail
abbrev pub mem_failing : MemDisk → List ℕ
mem_failing disk = disk.failing.items

-- a call that ended so is one more, and it failed exactly where its number is one of those that fail
pub record MemDid {T : Type 0} (old : MemDisk) (result : Result T DiskError) (new : MemDisk) : Type 0 where
  pub told : IsErrOf result Failed ↔ Contains (mem_failing old) (mem_calls new)
  pub calls : mem_calls new ≡ min (mem_calls old + 1) (2 ^ 64 - 1)
  pub failing : mem_failing new ≡ mem_failing old

-- what a disk in memory promises of a call beside the model of a disk
abbrev pub mem_did : MemDisk → Call → MemDisk → Type 0
mem_did old (Write_call first sectors result) new = MemDid old result new
mem_did old (Read_call at result) new = MemDid old result new
mem_did old (Sync_call result) new = MemDid old result new

-- the moments of a call on a disk in memory
abbrev pub MemElapses : MemDisk → MemDisk → Type 0
MemElapses old new =
    Elapses (mem_traced old) (length (mem_changes old)) (length (mem_changes new)) (left_by (mem_reads old) (mem_changes old))
    (left_by (mem_reads new) (mem_changes new)) (held (mem_reads new) (mem_changes new))

-- zeros everywhere
abbrev pub image_of_zeros : Image
image_of_zeros at = Some (replicate 512 0)

-- what may be left now is left at this moment
pub now_left : (image : Image) (past : List Change) (t : ℕ) (left : Image) → t ≤ length past → IsImage (held image past) left → left_by image past t left
now_left image past t left le is =
    let none : drop (length past) past ≡ [] = drop_all (length past) past (le_refl (length past)) in
    let whole : take (length past) past ≡ past = take_all (length past) past (le_refl (length past)) in (
      length past,
      le,
      le_refl (length past),
      subst (λ (cs : List Change). IsImage (held (undo cs image) (take (length past) past)) left) (sym none)
          (subst (λ (cs : List Change). IsImage (held image cs) left) (sym whole) is),
    )

-- and nothing else since then
pub left_now : (image : Image) (past : List Change) (left : Image) → left_by image past (length past) left → IsImage (held image past) left
left_now image past left since =
    let last : since.0 ≡ length past = le_antisymm since.2 since.1 in
    let none : drop (length past) past ≡ [] = drop_all (length past) past (le_refl (length past)) in
    let whole : take (length past) past ≡ past = take_all (length past) past (le_refl (length past)) in
    let is = subst (λ (k : ℕ). IsImage (held (undo (drop k past) image) (take k past)) left) last since.3 in
    subst (λ (cs : List Change). IsImage (held image cs) left) whole (subst (λ (cs : List Change). IsImage (held (undo cs image) (take (length past) past)) left) none is)
