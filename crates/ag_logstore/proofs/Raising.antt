-- A log of an image, cut at a block's end.
use Rattle.std.proofs.Common.{◌≡◌, ◌⊎◌, ℕ, zero, suc, ◌+◌, ◌<◌, List, [], ◌∷◌, ◌++◌, length, get_or, refl, sym, ap, ◌∙◌, subst, arith, inl, inr, length-append, append_assoc}
use Rattle.std.specs.Prelude.{Contains, nat_le}
use Rattle.std.specs.List.{fold}
use Rattle.std.proofs.lemmas.List.{take_at, append-nil, get_or_append_left}
use Rattle.std.proofs.lemmas.List.Sums.{fold-append}
use Rattle.std.proofs.lemmas.List.Elements.{filter-append}
use Rattle.ag_model.specs.declared.record.Record.{Record}
use Rattle.ag_model.specs.declared.record.Log.{Log}
use Rattle.ag_model.specs.Blocks.{with_block, cut_at}
use Rattle.ag_outside.specs.Disks.{Image}
use Rattle.ag_logstore.specs.LogKept.{RisesTo}
use Rattle.ag_logstore.specs.Stored.{IsLogSector, Stored, incarnation_at, Place, first_place, after_block, place_after, IsNext, AreStored, no_log, log_of_blocks}
use Rattle.ag_logstore.specs.LogOf.{IsLogOf}
use Rattle.ag_logstore.specs.Stores.{StoreView, IsCurrent}
use Rattle.ag_logstore.proofs.Cuts.{to_end, kept_all, gone_all}
use Rattle.ag_logstore.proofs.Fitting.{payload_some}
use Rattle.ag_logstore.proofs.Standing.{some_sectors, writable, incarnation_is}
use Rattle.ag_logstore.proofs.Chains.{front_part, back_part, log_from, places_rise, ends_after, ends_first}

-- where the blocks after an LSN end
abbrev ends_from : ℕ → List Stored → List ℕ
ends_from n [] = []
ends_from n (b ∷ bs) = (n + length b.records) ∷ ends_from (n + length b.records) bs

abbrev records_of : List Stored → List Record
records_of [] = []
records_of (b ∷ bs) = b.records ++ records_of bs

-- blocks make a log longer
grown : (log : Log) (bs : List Stored) → fold (λ l (b : Stored). with_block l b.records) log bs ≡ record { records = log.records ++ records_of bs; ends = log.ends ++ ends_from (length log.records) bs }
grown log [] = ap (λ rs. record { records = rs; ends = log.ends }) (sym (append-nil log.records)) ∙ ap (λ es. record { records = log.records ++ []; ends = es }) (sym (append-nil log.ends))
grown log (b ∷ bs) =
    let n = length log.records in
    grown (with_block log b.records) bs
    ∙ ap (λ rs. record { records = rs; ends = (log.ends ++ (n + length b.records) ∷ []) ++ ends_from (length (log.records ++ b.records)) bs }) (append_assoc log.records b.records (records_of bs))
    ∙ ap (λ m. record { records = log.records ++ (b.records ++ records_of bs); ends = (log.ends ++ (n + length b.records) ∷ []) ++ ends_from m bs }) (length-append log.records b.records)
    ∙ ap (λ es. record { records = log.records ++ (b.records ++ records_of bs); ends = es }) (append_assoc log.ends ((n + length b.records) ∷ []) (ends_from (n + length b.records) bs))

-- the blocks up to one that ends there, and the others
record Split (n end : ℕ) (bs : List Stored) : Type 0 where
  front : List Stored
  back : List Stored
  both : bs ≡ front ++ back
  long : n + length (records_of front) ≡ end

split : (n end : ℕ) (bs : List Stored) → (end ≡ n) ⊎ Contains (ends_from n bs) end → Split n end bs
split n end bs (inl here) = record { front = []; back = bs; both = refl; long = omega (arith, here) }
split n end [] (inr there) = absurd (omega (arith, there.1))
split n end (b ∷ bs) (inr there) =
    let s = split (n + length b.records) end bs (later there.0 there.1 there.2) in
    record {
      front = b ∷ s.front;
      back = s.back;
      both = ap (λ cs. b ∷ cs) s.both;
      long = omega (arith, s.long, length-append b.records (records_of s.front));
    }
  where
    later : (k : ℕ) → k < suc (length (ends_from (n + length b.records) bs)) → get_or (ends_from n (b ∷ bs)) k end ≡ end → (end ≡ n + length b.records) ⊎ Contains (ends_from (n + length b.records) bs) end
    later zero h is = inl (sym is)
    later (suc k) h is = inr (k, omega (arith, h), is)

-- blocks of records end one after the other
later_rise : (image : Image) (cut incarnation : ℕ) (p : Place) (n : ℕ) (bs : List Stored) → AreStored image cut incarnation p bs → RisesTo n (n + length (records_of bs)) (ends_from n bs)
later_rise image cut incarnation p n [] st = omega arith
later_rise image cut incarnation p n (b ∷ bs) st =
    let rest = later_rise image cut incarnation (after_block p b) (n + length b.records) bs st.1 in
    let top : (n + length b.records) + length (records_of bs) ≡ n + length (b.records ++ records_of bs) = omega (arith, length-append b.records (records_of bs)) in
    (omega (arith, payload_some b.records st.0.stored.fits), subst (λ m. RisesTo (n + length b.records) m (ends_from (n + length b.records) bs)) top rest)

-- a log that grew, cut where it was
pub cut_grown : (log : Log) (more : List Record) (later : List ℕ) (top : ℕ) → RisesTo 0 (length log.records) log.ends → RisesTo (length log.records) top later
    → cut_at (length log.records) (record { records = log.records ++ more; ends = log.ends ++ later }) ≡ log
cut_grown log more later top rises after =
    let n = length log.records in
    let ends : to_end n (log.ends ++ later) ≡ log.ends = filter-append (λ e. nat_le e n) log.ends later ∙ ap (λ es. es ++ to_end n later) (kept_all 0 n n log.ends rises (omega arith)) ∙ ap (λ es. log.ends ++ es) (gone_all n top n later after (omega arith)) ∙ append-nil log.ends in
    ap (λ rs. record { records = rs; ends = to_end n (log.ends ++ later) }) (take_at log.records more n refl) ∙ ap (λ es. record { records = log.records; ends = es }) ends

pub cut_back : (log : Log) (new : List Record) → RisesTo 0 (length log.records) log.ends → 0 < length new → cut_at (length log.records) (with_block log new) ≡ log
cut_back log new rises some = cut_grown log new ((length log.records + length new) ∷ []) (length log.records + length new) rises (omega (arith, some), refl)

-- blocks that start up to an LSN need no incarnation for a cut there
for_cut : (image : Image) (cut incarnation end higher : ℕ) (p : Place) (bs : List Stored) → AreStored image cut incarnation p bs → p.lsn + length (records_of bs) ≡ end + 1 → AreStored image end higher p bs
for_cut image cut incarnation end higher p [] st e = tt
for_cut image cut incarnation end higher p (b ∷ bs) st e =
    let long = length-append b.records (records_of bs) in
    let some = payload_some b.records st.0.stored.fits in (
      record { stored = st.0.stored; first = st.0.first; rising = st.0.rising; current = λ above. absurd (omega (arith, above, e, long, some)) },
      for_cut image cut incarnation end higher (after_block p b) bs st.1 (omega (arith, e, long)),
    )

lsn_after : (p : Place) (bs : List Stored) → (place_after p bs).lsn ≡ p.lsn + length (records_of bs)
lsn_after p [] = omega arith
lsn_after p (b ∷ bs) = omega (arith, lsn_after (after_block p b) bs, length-append b.records (records_of bs))

-- the log of the first blocks is that of all, cut where they end
front_log : (image : Image) (cut incarnation end : ℕ) (bs front back : List Stored) → AreStored image cut incarnation first_place front → AreStored image cut incarnation (place_after first_place front) back → bs ≡ front ++ back → 0 + length (records_of front) ≡ end
    → log_of_blocks front ≡ cut_at end (log_of_blocks bs)
front_log image cut incarnation end bs front back st rest both long =
    let f : Log = log_of_blocks front in
    let e = ends_after image cut incarnation first_place no_log front st ends_first in
    let n : length f.records ≡ end = ap (λ (log : Log). length log.records) (grown no_log front) ∙ (omega (arith, long)) in
    let all : log_of_blocks bs ≡ record { records = f.records ++ records_of back; ends = f.ends ++ ends_from (length f.records) back } =
    ap log_of_blocks both ∙ fold-append (λ l (b : Stored). with_block l b.records) no_log front back ∙ grown f back in
    sym (ap (cut_at end) all ∙ ap (λ m. cut_at m (record { records = f.records ++ records_of back; ends = f.ends ++ ends_from (length f.records) back })) (sym n)
    ∙ cut_grown f (records_of back) (ends_from (length f.records) back) (length f.records + length (records_of back)) e.rises (later_rise image cut incarnation (place_after first_place front) (length f.records) back rest))

pub raises : (image : Image) (s : StoreView) (end incarnation : ℕ) → IsLogOf image s.cut s.incarnation s.log → (end ≡ 0) ⊎ Contains s.log.ends end → s.incarnation < incarnation
    → ((at : ℕ) → IsLogSector at → incarnation_at image at < incarnation) → IsCurrent image (record { log = cut_at end s.log; cut = end; incarnation = incarnation; is_closed = s.is_closed })
raises image s end incarnation l block up below =
    let whole : s.log ≡ record { records = records_of l.blocks; ends = ends_from 0 l.blocks } = l.is ∙ grown no_log l.blocks in
    let sp = split 0 end l.blocks (found block whole) in
    let stand = subst (AreStored image s.cut s.incarnation first_place) sp.both l.stand in
    let old = front_part image s.cut s.incarnation first_place sp.front sp.back stand in
    let front = for_cut image s.cut s.incarnation end incarnation first_place sp.front old (omega (arith, sp.long)) in
    let none = λ (b : Stored) (n : IsNext image end incarnation (place_after first_place sp.front) b). never b sp.front n (omega (arith, sp.long, lsn_after first_place sp.front)) in
    let log = log_from image end incarnation sp.front front none in
    let rest = back_part image s.cut s.incarnation first_place sp.front sp.back stand in
    record {
      log = subst (IsLogOf image end incarnation) (front_log image s.cut s.incarnation end l.blocks sp.front sp.back old rest sp.both sp.long ∙ ap (cut_at end) (sym l.is)) log;
      greatest = λ x is. omega (arith, below x is);
      unused = λ x low high is. omega (arith, is, below x (omega (arith, low), high));
    }
  where
    found : (end ≡ 0) ⊎ Contains s.log.ends end → s.log ≡ record { records = records_of l.blocks; ends = ends_from 0 l.blocks } → (end ≡ 0) ⊎ Contains (ends_from 0 l.blocks) end
    found (inl zero_) whole = inl zero_
    found (inr there) whole = inr (subst (λ (log : Log). Contains log.ends end) whole there)

    never : (b : Stored) (front : List Stored) → IsNext image end incarnation (place_after first_place front) b → (place_after first_place front).lsn ≡ end + 1 → ⊥
    never b front n lsn =
        let x = (place_after first_place front).sector in
        let some = some_sectors b (writable image x b n.stored) in
        let is = incarnation_is image x x b n.stored (omega arith) (omega (arith, some)) in
        absurd (omega (arith, n.current (omega (arith, lsn)), is, below x (omega (arith, places_rise image end incarnation first_place front), omega (arith, some, n.stored.within))))

-- the last end is where the log ends
pub last_end : (low high : ℕ) (es : List ℕ) → RisesTo low high es → (high ≡ low) ⊎ Contains es high
last_end low high [] p = inl (sym p)
last_end low high (e ∷ es) p = elim (last_end e high es p.1) [
  | inl here ↦ inr (0, omega arith, sym here)
  | inr later ↦ inr (suc later.0, omega (arith, later.1), later.2)
]

contains_left : (xs ys : List ℕ) (x : ℕ) → Contains xs x → Contains (xs ++ ys) x
contains_left xs ys x there = (there.0, omega (arith, there.1, length-append xs ys), get_or_append_left xs ys x there.0 there.1 ∙ there.2)

-- a log that grew can be cut where it was
pub can_cut_back : (log : Log) (new : List Record) → RisesTo 0 (length log.records) log.ends → (length log.records ≡ 0) ⊎ Contains (with_block log new).ends (length log.records)
can_cut_back log new rises = elim (last_end 0 (length log.records) log.ends rises) [
  | inl none ↦ inl none
  | inr there ↦ inr (contains_left log.ends ((length log.records + length new) ∷ []) (length log.records) there)
]
