-- Reading sectors and blocks.
use Rattle.std.proofs.Common.{◌≡◌, ℕ, zero, suc, ◌+◌, ◌-◌, min, ◌<◌, ◌≤◌, List, [], ◌∷◌, ◌++◌, length, refl, sym, ap, ◌∙◌, subst, arith, append_assoc}
use Rattle.std.specs.Prelude.{Option, None, Some, Result, Ok, Err, IfOk}
use Rattle.std.specs.Option.{MatchOption}
use Rattle.ag_outside.specs.Disks.{Image, or_zeros}
use Rattle.ag_model.specs.Sizes.{block_sectors}
use Rattle.std.proofs.lemmas.List.Sums.{fold-append}
use Rattle.ag_model.specs.declared.record.Log.{Log}
use Rattle.ag_model.specs.Blocks.{with_block}
use Rattle.ag_logblock.specs.declared.Head.{Head}
use Rattle.ag_logstore.specs.LogOf.{IsLogOf}
use Rattle.ag_logstore.specs.Stored.{log_start, log_end, Stored, sectors_of, StandAt, IsStored, AreSectorsOf, sectors_at, named_count, Place, first_place, after_block, place_after, IsNext, AreStored, no_log, log_of_blocks}
use Rattle.ag_logstore.proofs.Chains.{one_more, log_from, ends_after, ends_first}
use Rattle.ag_logstore.proofs.Written.{with_more}
use Rattle.ag_logstore.proofs.Standing.{one_block, IsWritable, some_sectors, few_sectors, writable, block_says, count_of_block, stand_from, length-sectors_at, sectors_at_are}

-- a sector more
pub sectors_more : (image : Image) (at n : ℕ) → sectors_at image at (n + 1) ≡ sectors_at image at n ++ or_zeros (image (at + n)) ∷ []
sectors_more image at n = let e : n + 1 ≡ suc n = omega arith in ap (sectors_at image at) e ∙ more image at n
  where
    more : (image : Image) (at n : ℕ) → sectors_at image at (suc n) ≡ sectors_at image at n ++ or_zeros (image (at + n)) ∷ []
    more image at zero = let e : at ≡ at + 0 = omega arith in ap (λ x. or_zeros (image x) ∷ []) e
    more image at (suc n) =
        let e : suc at + n ≡ at + suc n = omega arith in
        ap (λ ss. or_zeros (image at) ∷ ss) (more image (suc at) n ∙ ap (λ x. sectors_at image (suc at) n ++ or_zeros (image x) ∷ []) e)

pub pushed : (image : Image) (first k : ℕ) (old now : List (List ℕ)) (sector : List ℕ) → now ≡ old ++ sectors_at image first k → or_zeros (image (first + k)) ≡ sector → now ++ sector ∷ [] ≡ old ++ sectors_at image first (k + 1)
pushed image first k old now sector is read =
    ap (λ ss. ss ++ sector ∷ []) is ∙ append_assoc old (sectors_at image first k) (sector ∷ []) ∙ ap (λ s. old ++ (sectors_at image first k ++ s ∷ [])) (sym read) ∙ ap (λ ss. old ++ ss) (sym (sectors_more image first k))

-- the first sector, and the others
all_sectors : (image : Image) (at n : ℕ) → sectors_at image at 1 ++ sectors_at image (at + 1) n ≡ sectors_at image at (suc n)
all_sectors image at n = let e : at + 1 ≡ suc at = omega arith in ap (λ x. or_zeros (image at) ∷ sectors_at image x n) e

-- how many sectors are read, where the first one names a number
abbrev pub read_count : ℕ → ℕ → ℕ
read_count at named = min (min named 32) (log_end - at)

-- what was read
record IsRead (image : Image) (at count : ℕ) (sectors : List (List ℕ)) : Type 0 where
  pub are : sectors ≡ sectors_at image at (suc (count - 1))
  pub long : length sectors ≡ suc (count - 1)

is_read : (image : Image) (at count : ℕ) (first sectors : List (List ℕ)) → first ≡ [] ++ sectors_at image at 1 → sectors ≡ first ++ sectors_at image (at + 1) (count - 1) → IsRead image at count sectors
is_read image at count first sectors one others =
    let are = others ∙ ap (λ ss. ss ++ sectors_at image (at + 1) (count - 1)) one ∙ all_sectors image at (count - 1) in
    record { are = are; long = ap length are ∙ length-sectors_at image at (suc (count - 1)) }

-- a block that has these sectors stands there
pub is_stored : (image : Image) (at count : ℕ) (first sectors : List (List ℕ)) (b : Stored) → first ≡ [] ++ sectors_at image at 1 → sectors ≡ first ++ sectors_at image (at + 1) (count - 1) → at < log_end → count ≤ log_end - at → AreSectorsOf sectors b → IsStored image at b
is_stored image at count first sectors b one others low few a =
    let r = is_read image at count first sectors one others in
    let w : IsWritable b = (a.fits, a.head) in
    let long : block_sectors b.records ≡ suc (count - 1) = sym (count_of_block b w) ∙ ap length (sym a.are) ∙ r.long in
    record {
      fits = a.fits;
      head = a.head;
      sectors = subst (StandAt image at) (sym r.are ∙ a.are) (stand_from image at (suc (count - 1)));
      within = omega (arith, long, low, few);
    }

-- a block that stands there has them
pub is_found : (image : Image) (at count : ℕ) (first sectors : List (List ℕ)) (b : Stored) → first ≡ [] ++ sectors_at image at 1 → count ≡ read_count at (named_count first) → sectors ≡ first ++ sectors_at image (at + 1) (count - 1) → IsStored image at b → AreSectorsOf sectors b
is_found image at count first sectors b one counted others s =
    let w = writable image at b s in
    let some = some_sectors b w in
    let few = few_sectors b w in
    let named : named_count first ≡ block_sectors b.records = ap named_count one ∙ (block_says image at at b s (omega arith) (omega (arith, some))).1 in
    let n : suc (count - 1) ≡ block_sectors b.records = omega (arith, counted, named, some, few, s.within) in
    let r = is_read image at count first sectors one others in
    record {
      fits = s.fits;
      head = s.head;
      are = r.are ∙ ap (sectors_at image at) n ∙ sectors_at_are image at (block_sectors b.records) (sectors_of b) s.sectors (count_of_block b w);
    }

-- also where the disk tells nothing
pub in_log : (at count : ℕ) (first sectors : List (List ℕ)) (b : Stored) → length first ≡ 0 + 1 → length sectors ≡ length first + (count - 1) → at < log_end → count ≤ log_end - at → AreSectorsOf sectors b → at + block_sectors b.records ≤ log_end
in_log at count first sectors b one others low few a =
    omega (arith, count_of_block b (a.fits, a.head), ap length a.are, one, others, low, few)

-- what was found, told in other words
pub told : {X E : Type 0} {none none_so : Type 0} {some some_so : X → Type 0} (r : Result (Option X) E) → IfOk r (λ found. MatchOption found none some) → (none → none_so) → ((x : X) → some x → some_so x) → IfOk r (λ found. MatchOption found none_so some_so)
told (Ok None) h n s = n h
told (Ok (Some x)) h n s = s x h
told (Err e) h n s = tt

pub told_if : {X E K : Type 0} {none none_so : Type 0} {some some_so : X → Type 0} (r : Result (Option X) E) → IfOk r (λ found. MatchOption found none some) → (K → none → none_so) → (K → (x : X) → some x → some_so x) → IfOk r (λ found. K → MatchOption found none_so some_so)
told_if (Ok None) h n s = λ k. n k h
told_if (Ok (Some x)) h n s = λ k. s k x h
told_if (Err e) h n s = tt

-- the blocks that were read so far
pub record IsPartly (image : Image) (cut incarnation : ℕ) (log : Log) (at least : ℕ) : Type 0 where
  pub blocks : List Stored
  pub stand : AreStored image cut incarnation first_place blocks
  pub is : log ≡ log_of_blocks blocks
  pub sector : (place_after first_place blocks).sector ≡ at
  pub lowest : (place_after first_place blocks).least ≡ least

pub none_yet : (image : Image) (cut incarnation : ℕ) → IsPartly image cut incarnation no_log log_start 0
none_yet image cut incarnation = record { blocks = []; stand = tt; is = refl; sector = refl; lowest = refl }

-- a head may follow
abbrev pub MayFollow : ℕ → ℕ → ℕ → Head → ℕ → Type 0
MayFollow cut incarnation end head least = (head.first ≡ end + 1) × (least ≤ head.incarnation) × (cut ≤ end → incarnation ≤ head.incarnation)

module _ (image : Image) (cut incarnation : ℕ) (log : Log) (at least : ℕ) (p : IsPartly image cut incarnation log at least) where
  lsn_is : (place_after first_place p.blocks).lsn ≡ length log.records + 1
  lsn_is = (ends_after image cut incarnation first_place no_log p.blocks p.stand ends_first).lsn ∙ ap (λ (l : Log). length l.records + 1) (sym p.is)

  next_is : (b : Stored) → IsStored image at b → MayFollow cut incarnation (length log.records) b.head least → IsNext image cut incarnation (place_after first_place p.blocks) b
  next_is b s may = record {
    stored = subst (λ x. IsStored image x b) (sym p.sector) s;
    first = may.0 ∙ sym lsn_is;
    rising = omega (arith, may.1, p.lowest);
    current = λ above. may.2 (omega (arith, above, lsn_is));
  }

  may_follow : (b : Stored) → IsNext image cut incarnation (place_after first_place p.blocks) b → MayFollow cut incarnation (length log.records) b.head least
  may_follow b n = (n.first ∙ lsn_is, omega (arith, n.rising, p.lowest), λ le. n.current (omega (arith, le, lsn_is)))

  -- a block more
  pub one_read_more : (b : Stored) → IsStored image at b → MayFollow cut incarnation (length log.records) b.head least → IsPartly image cut incarnation (with_block log b.records) (at + block_sectors b.records) b.head.incarnation
  one_read_more b s may =
      let last : place_after first_place (p.blocks ++ b ∷ []) ≡ after_block (place_after first_place p.blocks) b = fold-append after_block first_place p.blocks (b ∷ []) in
      record {
        blocks = p.blocks ++ b ∷ [];
        stand = one_more image cut incarnation first_place p.blocks b p.stand (next_is b s may);
        is = ap (λ l. with_block l b.records) p.is ∙ sym (with_more p.blocks b);
        sector = ap (λ (q : Place). q.sector) last ∙ ap (λ x. x + block_sectors b.records) p.sector;
        lowest = ap (λ (q : Place). q.least) last;
      }

  -- no block stands there
  pub ends_without : ((b : Stored) → IsStored image at b → ⊥) → IsLogOf image cut incarnation log
  ends_without none =
      subst (IsLogOf image cut incarnation) (sym p.is) (log_from image cut incarnation p.blocks p.stand (λ b n. none b (subst (λ x. IsStored image x b) p.sector n.stored)))

  -- one stands there that doesn't follow
  pub ends_before : (b : Stored) → IsStored image at b → (MayFollow cut incarnation (length log.records) b.head least → ⊥) → IsLogOf image cut incarnation log
  ends_before b s other =
      subst (IsLogOf image cut incarnation) (sym p.is) (log_from image cut incarnation p.blocks p.stand
      (λ c n. other (subst (λ (d : Stored). MayFollow cut incarnation (length log.records) d.head least) (one_block image at c b (subst (λ x. IsStored image x c) p.sector n.stored) s) (may_follow c n))))
