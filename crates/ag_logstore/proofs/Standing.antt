-- Sectors that stand on a disk, and what they say of a block.
use Rattle.std.proofs.Common.{◌≡◌, ◌⊎◌, ℕ, zero, suc, ◌+◌, ◌/◌, ◌^◌, ◌<◌, ◌≤◌, List, [], ◌∷◌, length, take, drop, Some, refl, sym, ap, ◌∙◌, subst, arith, inl, inr}
use Rattle.std.proofs.lemmas.Bool.{cases_eq}
use Rattle.std.proofs.lemmas.List.{length-take}
use Rattle.ag_model.specs.Sizes.{block_sectors}
use Rattle.ag_record.specs.Spelling.{records_spelling, ArePayload}
use Rattle.ag_record.proofs.Many.{length-records, records-once}
use Rattle.ag_logblock.specs.declared.Head.{Head}
use Rattle.ag_logblock.specs.Block.{sectors_from, sectors_for, HasBlock}
use Rattle.ag_logblock.specs.Fitting.{header_of}
use Rattle.ag_logblock.proofs.Wholes.{head_again_of, block-once, length-block}
use Rattle.ag_outside.specs.Disks.{Content, Image, or_zeros, writes, put, put_all, WroteSo}
use Rattle.ag_outside.specs.Shown.{was_or_wrote}
use Rattle.ag_outside.proofs.Past.{put-at}
use Rattle.ag_logstore.specs.Stored.{Stored, sectors_of, StandAt, IsStored, incarnation_at, sectors_at}

-- all of these sectors have this head and count
abbrev pub Alike : Head → ℕ → List (List ℕ) → Type 0
Alike h n [] = Unit {0}
Alike h n (s ∷ ss) = ((header_of s).head ≡ h) × ((header_of s).count ≡ n) × Alike h n ss

alike_from : (h : Head) (n i left : ℕ) (p : List ℕ) → h.term < 2 ^ 64 → h.incarnation < 2 ^ 64 → h.first < 2 ^ 64 → Alike h n (sectors_from h n i left p)
unfolding sectors_from
alike_from h n i zero p t a f = tt
alike_from h n i (suc left) p t a f =
    let back = head_again_of h n i (take 484 p) t a f (omega (arith, length-take 484 p)) in
    (back.0, back.1, alike_from h n (suc i) left (drop 484 p) t a f)

-- a block that has a spelling
abbrev pub IsWritable : Stored → Type 0
IsWritable b = ArePayload b.records × HasBlock b.head (records_spelling b.records)

pub count_of_block : (b : Stored) → IsWritable b → length (sectors_of b) ≡ block_sectors b.records
count_of_block b w =
    length-block b.head (sectors_for (records_spelling b.records)) 0 (sectors_for (records_spelling b.records)) (records_spelling b.records)
    ∙ ap (λ n. (n + 483) / 484) (length-records b.records w.0.fit)

pub alike : (b : Stored) → IsWritable b → Alike b.head (block_sectors b.records) (sectors_of b)
alike b w =
    subst (λ n. Alike b.head n (sectors_of b)) (ap (λ n. (n + 483) / 484) (length-records b.records w.0.fit))
    (alike_from b.head (sectors_for (records_spelling b.records)) 0 (sectors_for (records_spelling b.records)) (records_spelling b.records) w.1.term w.1.incarnation_fits w.1.first)

pub some_sectors : (b : Stored) → IsWritable b → 1 ≤ block_sectors b.records
some_sectors b w = omega (arith, w.0.least, length-records b.records w.0.fit)

pub few_sectors : (b : Stored) → IsWritable b → block_sectors b.records ≤ 32
few_sectors b w = omega (arith, w.0.most, length-records b.records w.0.fit)

pub writable : (image : Image) (at : ℕ) (b : Stored) → IsStored image at b → IsWritable b
writable image at b s = (s.fits, s.head)

-- what the sector at a place says, where sectors stand that are alike
pub says : (image : Image) (at x n : ℕ) (h : Head) (ss : List (List ℕ)) → StandAt image at ss → Alike h n ss → at ≤ x → x < at + length ss → ((header_of (or_zeros (image x))).head ≡ h) × ((header_of (or_zeros (image x))).count ≡ n)
says image at x n h [] st al low high = absurd (omega (arith, low, high))
says image at x n h (s ∷ ss) st al low high = elim (cases_eq x at) [
  | inl here ↦
      let is : or_zeros (image x) ≡ s = ap (λ k. or_zeros (image k)) here ∙ st.0 in
      (ap (λ z. (header_of z).head) is ∙ al.0, ap (λ z. (header_of z).count) is ∙ al.1)
  | inr apart ↦ says image (suc at) x n h ss st.1 al.2 (omega (arith, low, apart)) (omega (arith, high))
]

-- the same of a block
pub block_says : (image : Image) (at x : ℕ) (b : Stored) → IsStored image at b → at ≤ x → x < at + block_sectors b.records → ((header_of (or_zeros (image x))).head ≡ b.head) × ((header_of (or_zeros (image x))).count ≡ block_sectors b.records)
block_says image at x b s low high =
    says image at x (block_sectors b.records) b.head (sectors_of b) s.sectors (alike b (s.fits, s.head)) low (omega (arith, high, count_of_block b (s.fits, s.head)))

pub incarnation_is : (image : Image) (at x : ℕ) (b : Stored) → IsStored image at b → at ≤ x → x < at + block_sectors b.records → incarnation_at image x ≡ b.head.incarnation
incarnation_is image at x b s low high = ap (λ (h : Head). h.incarnation) (block_says image at x b s low high).0

-- sectors that stand are as many sectors of the image
stand_same : (image : Image) (at : ℕ) (xs ys : List (List ℕ)) → StandAt image at xs → StandAt image at ys → length xs ≡ length ys → xs ≡ ys
stand_same image at [] [] p q e = refl
stand_same image at [] (y ∷ ys) p q e = absurd (omega (arith, e))
stand_same image at (x ∷ xs) [] p q e = absurd (omega (arith, e))
stand_same image at (x ∷ xs) (y ∷ ys) p q e =
    let rest = stand_same image (suc at) xs ys p.1 q.1 (omega (arith, e)) in
    ap (λ z. z ∷ xs) (sym p.0 ∙ q.0) ∙ ap (λ zs. y ∷ zs) rest

pub stand_from : (image : Image) (at n : ℕ) → StandAt image at (sectors_at image at n)
stand_from image at zero = tt
stand_from image at (suc n) = (refl, stand_from image (suc at) n)

pub length-sectors_at : (image : Image) (at n : ℕ) → length (sectors_at image at n) ≡ n
length-sectors_at image at zero = refl
length-sectors_at image at (suc n) = ap suc (length-sectors_at image (suc at) n)

pub sectors_at_are : (image : Image) (at n : ℕ) (ss : List (List ℕ)) → StandAt image at ss → length ss ≡ n → sectors_at image at n ≡ ss
sectors_at_are image at n ss st e = stand_same image at (sectors_at image at n) ss (stand_from image at n) st (length-sectors_at image at n ∙ sym e)

stored_same : (b c : Stored) → (b.head ≡ c.head) × (records_spelling b.records ≡ records_spelling c.records) → IsWritable b → IsWritable c → b ≡ c
stored_same b c e p q =
    let records = records-once b.records c.records p.0.fit q.0.fit e.1 in
    ap (λ (h : Head). record { head = h; records = b.records }) e.0 ∙ ap (λ rs. record { head = c.head; records = rs }) records

-- one block stands at a place at most
pub one_block : (image : Image) (at : ℕ) (b c : Stored) → IsStored image at b → IsStored image at c → b ≡ c
one_block image at b c p q =
    let v = writable image at b p in
    let w = writable image at c q in
    let here : ℕ → Type 0 = λ n. (header_of (or_zeros (image at))).count ≡ n in
    let m : here (block_sectors b.records) = (block_says image at at b p (omega arith) (omega (arith, some_sectors b v))).1 in
    let n : here (block_sectors c.records) = (block_says image at at c q (omega arith) (omega (arith, some_sectors c w))).1 in
    let long : length (sectors_of b) ≡ length (sectors_of c) = count_of_block b v ∙ sym m ∙ n ∙ sym (count_of_block c w) in
    let same = stand_same image at (sectors_of b) (sectors_of c) p.sectors q.sectors long in
    stored_same b c (block-once b.head c.head (records_spelling b.records) (records_spelling c.records) v.1 w.1 same) v w

-- sectors stand on another image too where it has them
pub stand_there : (image other : Image) (at : ℕ) (ss : List (List ℕ)) → StandAt image at ss → ((x : ℕ) → at ≤ x → x < at + length ss → or_zeros (other x) ≡ or_zeros (image x)) → StandAt other at ss
stand_there image other at [] st same = tt
stand_there image other at (s ∷ ss) st same = (same at (omega arith) (omega arith) ∙ st.0, stand_there image other (suc at) ss st.1 (λ x low high. same x (omega (arith, low)) (omega (arith, high))))

pub stored_there : (image other : Image) (at : ℕ) (b : Stored) → IsStored image at b → ((x : ℕ) → at ≤ x → x < at + block_sectors b.records → or_zeros (other x) ≡ or_zeros (image x)) → IsStored other at b
stored_there image other at b s same = record {
  fits = s.fits;
  head = s.head;
  sectors = stand_there image other at (sectors_of b) s.sectors (λ x low high. same x low (omega (arith, high, count_of_block b (s.fits, s.head))));
  within = s.within;
}

-- what was written so is one of the sectors, at its place
pub wrote_within : (at x : ℕ) (ss : List (List ℕ)) (content : Content) → WroteSo (writes at ss) x content → (at ≤ x) × (x < at + length ss)
wrote_within at x [] content none = absurd none
wrote_within at x (s ∷ ss) content (inl here) = (omega (arith, here.0), omega (arith, here.0))
wrote_within at x (s ∷ ss) content (inr later) = let w = wrote_within (suc at) x ss content later in (omega (arith, w.0), omega (arith, w.1))

pub wrote_says : (at x n : ℕ) (h : Head) (ss : List (List ℕ)) (content : Content) → Alike h n ss → WroteSo (writes at ss) x content → ((header_of (or_zeros content)).head ≡ h) × ((header_of (or_zeros content)).count ≡ n)
wrote_says at x n h [] content al none = absurd none
wrote_says at x n h (s ∷ ss) content al (inl here) = (ap (λ c. (header_of (or_zeros c)).head) here.1 ∙ al.0, ap (λ c. (header_of (or_zeros c)).count) here.1 ∙ al.1)
wrote_says at x n h (s ∷ ss) content al (inr later) = wrote_says (suc at) x n h ss content al.2 later

-- sectors that were written stand
pub put_stands : (image : Image) (at : ℕ) (ss : List (List ℕ)) → StandAt (put_all image (writes at ss)) at ss
put_stands image at [] = tt
put_stands image at (s ∷ ss) =
    let first : Image = put image (record { at = at; sector = s }) in
    let mine : first at ≡ Some s = put-at image (record { at = at; sector = s }) at refl in (
      elim (was_or_wrote (writes (suc at) ss) first at) [
        | inl was ↦ ap or_zeros (was ∙ mine)
        | inr wrote ↦ absurd (omega (arith, (wrote_within (suc at) at ss _ wrote).0))
      ],
      put_stands first (suc at) ss,
    )

-- each of the sectors was written, or one is as before
pub all_or_one : (image after : Image) (at : ℕ) (ss : List (List ℕ)) → ((x : ℕ) → at ≤ x → x < at + length ss → (after x ≡ image x) ⊎ WroteSo (writes at ss) x (after x))
    → StandAt after at ss ⊎ ((x : ℕ) × (at ≤ x) × (x < at + length ss) × (after x ≡ image x))
all_or_one image after at [] each = inl tt
all_or_one image after at (s ∷ ss) each = elim (each at (omega arith) (omega arith)) [
  | inl was ↦ inr (at, omega arith, omega arith, was)
  | inr wrote ↦ elim (all_or_one image after (suc at) ss (λ x low high. later x low (each x (omega (arith, low)) (omega (arith, high))))) [
    | inl rest ↦ inl (here wrote, rest)
    | inr one ↦ inr (one.0, omega (arith, one.1), omega (arith, one.2), one.3)
  ]
]
  where
    here : WroteSo (writes at (s ∷ ss)) at (after at) → or_zeros (after at) ≡ s
    here (inl mine) = ap or_zeros mine.1
    here (inr other) = absurd (omega (arith, (wrote_within (suc at) at ss (after at) other).0))

    later : (x : ℕ) → suc at ≤ x → (after x ≡ image x) ⊎ WroteSo (writes at (s ∷ ss)) x (after x) → (after x ≡ image x) ⊎ WroteSo (writes (suc at) ss) x (after x)
    later x low (inl was) = inl was
    later x low (inr (inl mine)) = absurd (omega (arith, mine.0, low))
    later x low (inr (inr other)) = inr other
