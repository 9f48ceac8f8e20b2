-- Blocks that stand one after the other.
use Rattle.std.proofs.Common.{◌≡◌, ℕ, ◌+◌, ◌<◌, ◌≤◌, List, [], ◌∷◌, ◌++◌, length, refl, sym, ap, ◌∙◌, subst, arith, length-append}
use Rattle.std.specs.List.{fold}
use Rattle.ag_model.specs.declared.record.Log.{Log}
use Rattle.ag_model.specs.Blocks.{with_block}
use Rattle.ag_model.specs.Sizes.{block_sectors}
use Rattle.ag_outside.specs.Disks.{Image, or_zeros}
use Rattle.ag_logstore.specs.LogKept.{RisesTo}
use Rattle.ag_logstore.specs.Stored.{log_start, log_end, IsLogSector, Stored, incarnation_at, Place, first_place, after_block, place_after, IsNext, AreStored, no_log, log_of_blocks}
use Rattle.ag_logstore.specs.LogOf.{IsLogOf}
use Rattle.ag_logstore.specs.Stores.{StoreView, sector_after, IsCurrent}
use Rattle.ag_logblock.specs.Fitting.{header_of}
use Rattle.ag_logstore.proofs.LogEnds.{rises_push, sectors_push}
use Rattle.ag_logstore.proofs.Fitting.{payload_some}
use Rattle.ag_logstore.proofs.Standing.{one_block, some_sectors, writable, incarnation_is, stored_there}

module _ (image : Image) (cut incarnation : ℕ) where
  -- a block more at the end
  pub one_more : (p : Place) (bs : List Stored) (b : Stored) → AreStored image cut incarnation p bs → IsNext image cut incarnation (place_after p bs) b → AreStored image cut incarnation p (bs ++ b ∷ [])
  one_more p [] b st next = (next, tt)
  one_more p (c ∷ bs) b st next = (st.0, one_more (after_block p c) bs b st.1 next)

  pub front_part : (p : Place) (bs cs : List Stored) → AreStored image cut incarnation p (bs ++ cs) → AreStored image cut incarnation p bs
  front_part p [] cs st = tt
  front_part p (b ∷ bs) cs st = (st.0, front_part (after_block p b) bs cs st.1)

  pub back_part : (p : Place) (bs cs : List Stored) → AreStored image cut incarnation p (bs ++ cs) → AreStored image cut incarnation (place_after p bs) cs
  back_part p [] cs st = st
  back_part p (b ∷ bs) cs st = back_part (after_block p b) bs cs st.1

  -- where no block follows, no other list is longer
  pub none_longer : (p : Place) (bs others : List Stored) → AreStored image cut incarnation p bs → AreStored image cut incarnation p others → ((b : Stored) → IsNext image cut incarnation (place_after p bs) b → ⊥) → length others ≤ length bs
  none_longer p [] [] st other none = omega arith
  none_longer p [] (c ∷ others) st other none = absurd (none c other.0)
  none_longer p (b ∷ bs) [] st other none = omega arith
  none_longer p (b ∷ bs) (c ∷ others) st other none =
      let same : c ≡ b = one_block image p.sector c b other.0.stored st.0.stored in
      let rest = subst (λ d. AreStored image cut incarnation (after_block p d) others) same other.1 in
      omega (arith, none_longer (after_block p b) bs others st.1 rest none)

  -- lists of the same length are the same
  pub same_length : (p : Place) (bs others : List Stored) → AreStored image cut incarnation p bs → AreStored image cut incarnation p others → length bs ≡ length others → bs ≡ others
  same_length p [] [] st other e = refl
  same_length p [] (c ∷ others) st other e = absurd (omega (arith, e))
  same_length p (b ∷ bs) [] st other e = absurd (omega (arith, e))
  same_length p (b ∷ bs) (c ∷ others) st other e =
      let same : c ≡ b = one_block image p.sector c b other.0.stored st.0.stored in
      let rest = subst (λ d. AreStored image cut incarnation (after_block p d) others) same other.1 in
      ap (λ bs. b ∷ bs) (same_length (after_block p b) bs others st.1 rest (omega (arith, e))) ∙ ap (λ d. d ∷ others) (sym same)

  pub log_from : (bs : List Stored) → AreStored image cut incarnation first_place bs → ((b : Stored) → IsNext image cut incarnation (place_after first_place bs) b → ⊥) → IsLogOf image cut incarnation (log_of_blocks bs)
  log_from bs st none = record { blocks = bs; stand = st; longest = λ others other. none_longer first_place bs others st other none; is = refl }

  -- no block follows the longest list
  pub none_follows : (log : Log) (l : IsLogOf image cut incarnation log) (b : Stored) → IsNext image cut incarnation (place_after first_place l.blocks) b → ⊥
  none_follows log l b next =
      absurd (omega (arith, l.longest (l.blocks ++ b ∷ []) (one_more first_place l.blocks b l.stand next), length-append l.blocks (b ∷ [])))

  pub one_log : (log other : Log) → IsLogOf image cut incarnation log → IsLogOf image cut incarnation other → log ≡ other
  one_log log other l m =
      let long : length l.blocks ≡ length m.blocks = omega (arith, l.longest m.blocks m.stand, m.longest l.blocks l.stand) in
      l.is ∙ ap log_of_blocks (same_length first_place l.blocks m.blocks l.stand m.stand long) ∙ sym m.is

  -- the places go up
  pub places_rise : (p : Place) (bs : List Stored) → p.sector ≤ (place_after p bs).sector
  places_rise p [] = omega arith
  places_rise p (b ∷ bs) = omega (arith, places_rise (after_block p b) bs)

  -- each block names an incarnation that its first sector names
  pub least_within : (most : ℕ) (p : Place) (bs : List Stored) → AreStored image cut incarnation p bs → log_start ≤ p.sector → p.least ≤ most → ((x : ℕ) → IsLogSector x → incarnation_at image x ≤ most) → (place_after p bs).least ≤ most
  least_within most p [] st low h each = h
  least_within most p (b ∷ bs) st low h each =
      let some = some_sectors b (writable image p.sector b st.0.stored) in
      let is = incarnation_is image p.sector p.sector b st.0.stored (omega arith) (omega (arith, some)) in
      least_within most (after_block p b) bs st.1 (omega (arith, low)) (omega (arith, is, each p.sector (low, omega (arith, some, st.0.stored.within)))) each

  -- and stay in the log
  pub places_within : (p : Place) (bs : List Stored) → AreStored image cut incarnation p bs → p.sector ≤ log_end → (place_after p bs).sector ≤ log_end
  places_within p [] st h = h
  places_within p (b ∷ bs) st h = places_within (after_block p b) bs st.1 st.0.stored.within

-- where blocks end is told by their log
pub record Ends (p : Place) (log : Log) : Type 0 where
  pub sector : p.sector ≡ sector_after log
  pub lsn : p.lsn ≡ length log.records + 1
  pub rises : RisesTo 0 (length log.records) log.ends

pub ends_after : (image : Image) (cut incarnation : ℕ) (p : Place) (log : Log) (bs : List Stored) → AreStored image cut incarnation p bs → Ends p log → Ends (place_after p bs) (fold (λ l (b : Stored). with_block l b.records) log bs)
ends_after image cut incarnation p log [] st e = e
ends_after image cut incarnation p log (b ∷ bs) st e =
    let some = payload_some b.records st.0.stored.fits in
    let n = length log.records in
    ends_after image cut incarnation (after_block p b) (with_block log b.records) bs st.1 (record {
      sector = omega (arith, e.sector, sectors_push 0 n log.ends log.records b.records e.rises (omega arith));
      lsn = omega (arith, e.lsn, length-append log.records b.records);
      rises = rw length-append (rises_push 0 n (n + length b.records) log.ends e.rises (omega (arith, some)));
    })

pub ends_first : Ends first_place no_log
ends_first = record { sector = refl; lsn = refl; rises = refl }

pub ends_of : (image : Image) (cut incarnation : ℕ) (log : Log) (l : IsLogOf image cut incarnation log) → Ends (place_after first_place l.blocks) log
ends_of image cut incarnation log l = subst (Ends (place_after first_place l.blocks)) (sym l.is) (ends_after image cut incarnation first_place no_log l.blocks l.stand ends_first)

-- blocks stand on another image too where it has their sectors
pub stored_on : (image other : Image) (cut incarnation : ℕ) (p : Place) (bs : List Stored) → AreStored image cut incarnation p bs → ((x : ℕ) → p.sector ≤ x → x < (place_after p bs).sector → or_zeros (other x) ≡ or_zeros (image x)) → AreStored other cut incarnation p bs
stored_on image other cut incarnation p [] st same = tt
stored_on image other cut incarnation p (b ∷ bs) st same = (
  record {
    stored = stored_there image other p.sector b st.0.stored (λ x low high. same x low (omega (arith, high, places_rise image cut incarnation (after_block p b) bs)));
    first = st.0.first;
    rising = st.0.rising;
    current = st.0.current;
  },
  stored_on image other cut incarnation (after_block p b) bs st.1 (λ x low high. same x (omega (arith, low)) high),
)

pub next_on : (image other : Image) (cut incarnation : ℕ) (p : Place) (b : Stored) → IsNext image cut incarnation p b → ((x : ℕ) → p.sector ≤ x → x < p.sector + block_sectors b.records → or_zeros (other x) ≡ or_zeros (image x)) → IsNext other cut incarnation p b
next_on image other cut incarnation p b next same = record { stored = stored_there image other p.sector b next.stored same; first = next.first; rising = next.rising; current = next.current }

-- the log depends on the sectors of the log alone
pub region_alone : (image other : Image) (cut incarnation : ℕ) (log : Log) → IsLogOf image cut incarnation log → ((x : ℕ) → IsLogSector x → or_zeros (other x) ≡ or_zeros (image x)) → IsLogOf other cut incarnation log
region_alone image other cut incarnation log l same =
    let e = ends_of image cut incarnation log l in
    let low : log_start ≤ (place_after first_place l.blocks).sector = omega (arith, e.sector) in
    let moved = stored_on image other cut incarnation first_place l.blocks l.stand
    (λ x from to. same x (from, omega (arith, to, places_within image cut incarnation first_place l.blocks l.stand (omega arith)))) in
    let none = λ (b : Stored) (next : IsNext other cut incarnation (place_after first_place l.blocks) b).
    none_follows image cut incarnation log l b (next_on other image cut incarnation (place_after first_place l.blocks) b next (λ x from to. sym (same x (omega (arith, from, low), omega (arith, to, next.stored.within))))) in
    subst (IsLogOf other cut incarnation) (sym l.is) (log_from other cut incarnation l.blocks moved none)

-- and so does all that a store needs of its disk's sectors
pub current_alone : (image other : Image) (s : StoreView) → IsCurrent image s → ((x : ℕ) → IsLogSector x → or_zeros (other x) ≡ or_zeros (image x)) → IsCurrent other s
current_alone image other s cur same =
    let names = λ (x : ℕ) (is : IsLogSector x). ap (λ bytes. (header_of bytes).head.incarnation) (same x is) in
    record {
      log = region_alone image other s.cut s.incarnation s.log cur.log same;
      greatest = λ x is. omega (arith, names x is, cur.greatest x is);
      unused = λ x low high is. cur.unused x low high (sym (names x (omega (arith, low), high)) ∙ is);
    }
