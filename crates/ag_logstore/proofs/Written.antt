-- What a write of a block makes of the log of an image.
use Rattle.std.proofs.Common.{◌≡◌, ◌⊎◌, ℕ, ◌+◌, ◌-◌, ◌<◌, ◌≤◌, List, [], ◌∷◌, ◌++◌, length, sym, ap, ◌∙◌, subst, arith, inl, inr}
use Rattle.std.proofs.lemmas.Bool.{cases_lt}
use Rattle.std.proofs.lemmas.List.Sums.{fold-append}
use Rattle.ag_model.specs.declared.record.Record.{Record}
use Rattle.ag_model.specs.declared.record.Log.{Log}
use Rattle.ag_model.specs.Blocks.{with_block}
use Rattle.ag_model.specs.Sizes.{block_sectors, free_sectors}
use Rattle.ag_record.proofs.Many.{length-records}
use Rattle.ag_record.specs.Spelling.{ArePayload}
use Rattle.ag_logblock.specs.declared.Head.{Head}
use Rattle.ag_logblock.specs.Fitting.{header_of}
use Rattle.ag_outside.specs.Disks.{Image, or_zeros, writes, put_all}
use Rattle.ag_outside.specs.Shown.{was_or_wrote}
use Rattle.ag_logstore.specs.Stored.{log_end, IsLogSector, Stored, sectors_of, StandAt, incarnation_at, first_place, after_block, place_after, IsNext, AreStored, no_log, log_of_blocks}
use Rattle.ag_logstore.specs.LogOf.{IsLogOf}
use Rattle.ag_logstore.specs.Stores.{StoreView, sector_after, IsCurrent, IsTorn, Follows}
use Rattle.ag_logstore.proofs.LogEnds.{sectors_push}
use Rattle.ag_logstore.proofs.Standing.{IsWritable, alike, count_of_block, some_sectors, writable, block_says, incarnation_is, wrote_within, wrote_says, all_or_one}
use Rattle.ag_logstore.proofs.Chains.{one_more, log_from, none_follows, least_within, ends_of, stored_on, next_on}

pub is_writable : (s : StoreView) (b : Stored) → Follows s b → IsWritable b
is_writable s b f = (f.fits, f.head)

-- the store with the block
abbrev pub store_with : StoreView → List Record → StoreView
store_with s records = record s { log = with_block s.log records }

-- what a torn write leaves outside the block, and in it
pub outside : (image after : Image) (at x : ℕ) (b : Stored) → IsWritable b → IsTorn image at (sectors_of b) after → (x < at) ⊎ (at + block_sectors b.records ≤ x) → after x ≡ image x
outside image after at x b w torn out = elim (torn x) [
  | inl was ↦ was
  | inr wrote ↦ (let within = wrote_within at x (sectors_of b) (after x) wrote in elim out [
    | inl before ↦ absurd (omega (arith, within.0, before))
    | inr behind ↦ absurd (omega (arith, within.1, behind, count_of_block b w))
  ])
]

-- each sector names what it named, or the block's incarnation
named : (image after : Image) (at x : ℕ) (b : Stored) → IsWritable b → IsTorn image at (sectors_of b) after → (after x ≡ image x) ⊎ (((header_of (or_zeros (after x))).head ≡ b.head) × ((header_of (or_zeros (after x))).count ≡ block_sectors b.records))
named image after at x b w torn = elim (torn x) [
  | inl was ↦ inl was
  | inr wrote ↦ inr (wrote_says at x (block_sectors b.records) b.head (sectors_of b) (after x) (alike b w) wrote)
]

same_incarnation : (image after : Image) (x : ℕ) → after x ≡ image x → incarnation_at after x ≡ incarnation_at image x
same_incarnation image after x e = ap (λ c. (header_of (or_zeros c)).head.incarnation) e

pub still_greatest : (image after : Image) (s : StoreView) (b : Stored) → IsCurrent image s → Follows s b → IsTorn image (sector_after s.log) (sectors_of b) after → (x : ℕ) → IsLogSector x → incarnation_at after x ≤ s.incarnation
still_greatest image after s b cur f torn x is = elim (named image after (sector_after s.log) x b (is_writable s b f) torn) [
  | inl was ↦ omega (arith, same_incarnation image after x was, cur.greatest x is)
  | inr mine ↦ omega (arith, ap (λ (h : Head). h.incarnation) mine.0, f.incarnation)
]

-- the log's own blocks still stand
own_blocks : (image after : Image) (s : StoreView) (b : Stored) (cur : IsCurrent image s) → Follows s b → IsTorn image (sector_after s.log) (sectors_of b) after → AreStored after s.cut s.incarnation first_place cur.log.blocks
own_blocks image after s b cur f torn =
    let e = ends_of image s.cut s.incarnation s.log cur.log in
    stored_on image after s.cut s.incarnation first_place cur.log.blocks cur.log.stand
    (λ x from to. ap or_zeros (outside image after (sector_after s.log) x b (is_writable s b f) torn (inl (omega (arith, to, e.sector)))))

-- where all of the block's sectors were written, it follows
its_block : (image after : Image) (s : StoreView) (b : Stored) (cur : IsCurrent image s) → Follows s b → StandAt after (sector_after s.log) (sectors_of b) → IsNext after s.cut s.incarnation (place_after first_place cur.log.blocks) b
its_block image after s b cur f st =
    let e = ends_of image s.cut s.incarnation s.log cur.log in
    let least = least_within image s.cut s.incarnation s.incarnation first_place cur.log.blocks cur.log.stand (omega arith) (omega arith) cur.greatest in
    record {
      stored = record {
        fits = f.fits;
        head = f.head;
        sectors = subst (λ n. StandAt after n (sectors_of b)) (sym e.sector) st;
        within = omega (arith, e.sector, f.room);
      };
      first = f.first ∙ sym e.lsn;
      rising = omega (arith, least, f.incarnation);
      current = λ _. omega (arith, f.incarnation);
    }

pub with_more : (bs : List Stored) (b : Stored) → log_of_blocks (bs ++ b ∷ []) ≡ with_block (log_of_blocks bs) b.records
with_more bs b = fold-append (λ log (x : Stored). with_block log x.records) no_log bs (b ∷ [])

-- an incarnation that the store has, or a higher one, isn't named after the blocks
unnamed : (image : Image) (s : StoreView) (x n : ℕ) → IsCurrent image s → sector_after s.log ≤ x → x < log_end → incarnation_at image x ≡ n → s.incarnation ≤ n → ⊥
unnamed image s x n cur low high is le =
    cur.unused x low high (omega (arith, is, le, cur.greatest x (omega (arith, low), high)))

pub whole : (image after : Image) (s : StoreView) (b : Stored) → IsCurrent image s → Follows s b → IsTorn image (sector_after s.log) (sectors_of b) after → StandAt after (sector_after s.log) (sectors_of b)
    → IsLogOf after s.cut s.incarnation (with_block s.log b.records)
whole image after s b cur f torn st =
    let bs = cur.log.blocks in
    let e = ends_of image s.cut s.incarnation s.log cur.log in
    let old = own_blocks image after s b cur f torn in
    let next = its_block image after s b cur f st in
    let all = one_more after s.cut s.incarnation first_place bs b old next in
    let p = place_after first_place bs in
    let last : place_after first_place (bs ++ b ∷ []) ≡ after_block p b = fold-append after_block first_place bs (b ∷ []) in
    let none = λ (c : Stored) (n : IsNext after s.cut s.incarnation (place_after first_place (bs ++ b ∷ [])) c).
    none_after c (subst (λ q. IsNext after s.cut s.incarnation q c) last n) in
    let log = log_from after s.cut s.incarnation (bs ++ b ∷ []) all none in
    subst (IsLogOf after s.cut s.incarnation) (with_more bs b ∙ ap (λ l. with_block l b.records) (sym cur.log.is)) log
  where
    none_after : (c : Stored) → IsNext after s.cut s.incarnation (after_block (place_after first_place cur.log.blocks) b) c → ⊥
    none_after c n =
        let e = ends_of image s.cut s.incarnation s.log cur.log in
        let x = (place_after first_place cur.log.blocks).sector + block_sectors b.records in
        let some = some_sectors c (writable after x c n.stored) in
        let is = incarnation_is after x x c n.stored (omega arith) (omega (arith, some)) in
        let was = outside image after (sector_after s.log) x b (is_writable s b f) torn (inr (omega (arith, e.sector))) in
        unnamed image s x c.head.incarnation cur (omega (arith, e.sector)) (omega (arith, some, n.stored.within)) (sym (same_incarnation image after x was) ∙ is) (omega (arith, n.rising, f.incarnation))

-- one of the block's sectors is as before: no block follows
none_torn : (image after : Image) (s : StoreView) (b : Stored) (cur : IsCurrent image s) → Follows s b → IsTorn image (sector_after s.log) (sectors_of b) after → (x : ℕ) → sector_after s.log ≤ x → x < sector_after s.log + block_sectors b.records → after x ≡ image x
    → (c : Stored) → IsNext after s.cut s.incarnation (place_after first_place cur.log.blocks) c → ⊥
none_torn image after s b cur f torn x low high was c next =
    let e = ends_of image s.cut s.incarnation s.log cur.log in
    let p = place_after first_place cur.log.blocks in
    let w = writable after p.sector c next.stored in
    let some = some_sectors c w in
    elim (named image after (sector_after s.log) p.sector b (is_writable s b f) torn) [
      | inl old ↦ none_follows image s.cut s.incarnation s.log cur.log c (next_on after image s.cut s.incarnation p c next (λ y from to. ap or_zeros (sym (untouched y from to
          (let is = incarnation_is after p.sector p.sector c next.stored (omega arith) (omega (arith, some)) in
          let lt = cases_lt c.head.incarnation s.incarnation in
          elim lt [
            | inl less ↦ less
            | inr le ↦ absurd (unnamed image s p.sector c.head.incarnation cur (omega (arith, e.sector)) (omega (arith, some, next.stored.within)) (sym (same_incarnation image after p.sector old) ∙ is) le)
          ])))))
      | inr mine ↦
          let said = block_says after p.sector p.sector c next.stored (omega arith) (omega (arith, some)) in
          let count : block_sectors c.records ≡ block_sectors b.records = sym said.1 ∙ mine.1 in
          let head : c.head ≡ b.head = sym said.0 ∙ mine.0 in
          let is = incarnation_is after p.sector x c next.stored (omega (arith, low, e.sector)) (omega (arith, high, e.sector, count)) in
          unnamed image s x c.head.incarnation cur low (omega (arith, high, f.room)) (sym (same_incarnation image after x was) ∙ is) (omega (arith, ap (λ (h : Head). h.incarnation) head, f.incarnation))
    ]
  where
    untouched : (y : ℕ) → (place_after first_place cur.log.blocks).sector ≤ y → y < (place_after first_place cur.log.blocks).sector + block_sectors c.records → c.head.incarnation < s.incarnation → after y ≡ image y
    untouched y from to lt = elim (named image after (sector_after s.log) y b (is_writable s b f) torn) [
      | inl old ↦ old
      | inr mine ↦ absurd (omega (arith, incarnation_is after (place_after first_place cur.log.blocks).sector y c next.stored from to, ap (λ (h : Head). h.incarnation) mine.0, f.incarnation, lt))
    ]

pub torn_log : (image after : Image) (s : StoreView) (b : Stored) → IsCurrent image s → Follows s b → IsTorn image (sector_after s.log) (sectors_of b) after → (x : ℕ) → sector_after s.log ≤ x → x < sector_after s.log + block_sectors b.records → after x ≡ image x
    → IsLogOf after s.cut s.incarnation s.log
torn_log image after s b cur f torn x low high was =
    subst (IsLogOf after s.cut s.incarnation) (sym cur.log.is) (log_from after s.cut s.incarnation cur.log.blocks (own_blocks image after s b cur f torn) (none_torn image after s b cur f torn x low high was))

-- with the block or without
pub old_or_with : (image after : Image) (s : StoreView) (b : Stored) → IsCurrent image s → Follows s b → IsTorn image (sector_after s.log) (sectors_of b) after → IsLogOf after s.cut s.incarnation s.log ⊎ IsLogOf after s.cut s.incarnation (with_block s.log b.records)
old_or_with image after s b cur f torn = elim (all_or_one image after (sector_after s.log) (sectors_of b) (λ x low high. torn x)) [
  | inl all ↦ inr (whole image after s b cur f torn all)
  | inr one ↦ inl (torn_log image after s b cur f torn one.0 one.1 (omega (arith, one.2, count_of_block b (is_writable s b f))) one.3)
]

-- once it is written, the image has the log with the block, and the store can go on
pub current_with : (image after : Image) (s : StoreView) (b : Stored) → IsCurrent image s → Follows s b → IsTorn image (sector_after s.log) (sectors_of b) after → StandAt after (sector_after s.log) (sectors_of b) → IsCurrent after (store_with s b.records)
current_with image after s b cur f torn st =
    let e = ends_of image s.cut s.incarnation s.log cur.log in
    let n = length s.log.records in
    let sectors : sector_after (with_block s.log b.records) ≡ sector_after s.log + block_sectors b.records = omega (arith, sectors_push 0 n s.log.ends s.log.records b.records e.rises (omega arith)) in
    record {
      log = whole image after s b cur f torn st;
      greatest = still_greatest image after s b cur f torn;
      unused = λ x low high is.
          let was = outside image after (sector_after s.log) x b (is_writable s b f) torn (inr (omega (arith, sectors, low))) in
          cur.unused x (omega (arith, sectors, low)) high (sym (same_incarnation image after x was) ∙ is);
    }

pub torn_by_writes : (image : Image) (at : ℕ) (ss : List (List ℕ)) → IsTorn image at ss (put_all image (writes at ss))
torn_by_writes image at ss = was_or_wrote (writes at ss) image

-- where a block goes that has room
pub place_is : (log : Log) (records : List Record) (first : ℕ) → ArePayload records → block_sectors records ≤ free_sectors log → first ≡ log_end - free_sectors log → first ≡ sector_after log
place_is log records first payload room is =
    let bytes = length-records records payload.fit in
    let least = payload.least in
    omega (arith, is, room, bytes, least)

-- its sectors are in the log
pub room_is : (log : Log) (b : Stored) → IsWritable b → block_sectors b.records ≤ free_sectors log → sector_after log + block_sectors b.records ≤ log_end
room_is log b w room = omega (arith, room, some_sectors b w)

pub moved_to : (P : ℕ → List (List ℕ) → Type 0) (a b : ℕ) (xs ys : List (List ℕ)) → a ≡ b → xs ≡ ys → P a xs → P b ys
moved_to P a b xs ys n e p = subst (λ zs. P b zs) e (subst (λ m. P m xs) n p)
