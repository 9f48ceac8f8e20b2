-- Disks in memory on which a group may open.
use Rattle.std.proofs.Common.{◌≡◌, ℕ, ◌+◌, length, refl, List, [], ◌∷◌, ◌++◌, sym, ap, ◌∙◌, subst, true, arith}
use Rattle.std.specs.List.{AllByRecursion}
use Rattle.std.proofs.lemmas.List.{length-append}
use Rattle.ag_outside.specs.declared.mem_disk.MemDisk.{MemDisk}
use Rattle.ag_outside.specs.Disks.{Image}
use Rattle.ag_outside.specs.MemDisks.{mem_reads, image_of_zeros}
use Rattle.ag_group.specs.Blank.{IsBlankDisk}

-- a disk in memory is blank at first
pub mem_blank : (d : MemDisk) → mem_reads d ≡ image_of_zeros → IsBlankDisk 295232 true (mem_reads d)
mem_blank d is = record { room = omega arith; told = refl; zeros = λ at. ap (λ (image : Image). image at) is }

pub all_more : {A : Type 0} (P : A → Type 0) (xs : List A) (x : A) → AllByRecursion P xs → P x → AllByRecursion P (xs ++ x ∷ [])
all_more P [] y h p = (p, tt)
all_more P (x ∷ xs) y h p = (h.0, all_more P xs y h.1 p)

-- one more blank disk
pub blank_count : (before after : List MemDisk) (d : MemDisk) (count : ℕ) → length before ≡ count → after ≡ before ++ d ∷ [] → length after ≡ count + 1
blank_count before after d count each push = ap length push ∙ length-append before (d ∷ []) ∙ ap (λ (n : ℕ). n + 1) each

pub blank_more : (before after : List MemDisk) (d : MemDisk) → AllByRecursion (λ x. IsBlankDisk 295232 true (mem_reads x)) before → after ≡ before ++ d ∷ [] → mem_reads d ≡ image_of_zeros → AllByRecursion (λ x. IsBlankDisk 295232 true (mem_reads x)) after
blank_more before after d fit push is = subst (λ xs. AllByRecursion (λ x. IsBlankDisk 295232 true (mem_reads x)) xs) (sym push) (all_more (λ x. IsBlankDisk 295232 true (mem_reads x)) before d fit (mem_blank d is))
