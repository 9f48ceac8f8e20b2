-- What the tests of a block tell.
use Rattle.std.proofs.Common.{◌≡◌, ◌⊎◌, ℕ, suc, ◌+◌, ◌-◌, ◌^◌, ◌<◌, ◌≤◌, List, [], ◌∷◌, length, drop, replicate, Bool, leb, ltb, eqb, refl, arith, inl, inr}
use Rattle.std.specs.Bool.{Decides}
use Rattle.std.specs.Prelude.{◌&&◌, ◌||◌}
use Rattle.std.specs.List.{AllByRecursion, list_all}
use Rattle.std.proofs.lemmas.Bool.{leb-true, le-leb, cases_lt}
use Rattle.std.proofs.lemmas.Bool.Decides.{Decides-and, Decides-or, Decides-ltb, Decides-eqb, Decides-like}
use Rattle.ag_model.specs.declared.value.Value.{Value}
use Rattle.ag_model.specs.declared.record.Record.{Record}
use Rattle.ag_model.specs.declared.record.Record.TheVariants.{Put, Del, Commit, Abort, Trim, Term}
use Rattle.ag_model.specs.Proper.{RisesFrom}
use Rattle.ag_model.specs.Sizes.{block_sectors}
use Rattle.ag_record.specs.Spelling.{records_spelling, IsValue, IsPage, ArePages, HasSpelling, HaveSpelling, ArePayload}
use Rattle.ag_record.specs.Reading.{is_page}
use Rattle.ag_record.proofs.Fields.{is_page-IsPage, IsPage-is_page}
use Rattle.ag_logblock.specs.declared.Head.{Head}
use Rattle.ag_outside.specs.Disks.{Image, or_zeros}
use Rattle.ag_logstore.specs.Stored.{log_end, Stored, sectors_of, StandAt, IsStored, Place, IsNext}
use Rattle.ag_kept.specs.LogOn.{same_bytes, rises_above, can_value, can_pages, can_record, can_payload, can_head, do_stand, is_stored, is_next}

Decides-leb : (a b : ℕ) → Decides (leb a b) (a ≤ b)
Decides-leb a b = (leb-true a b, le-leb a b)

same_tells : (xs ys : List ℕ) → Decides (same_bytes xs ys) (xs ≡ ys)
same_tells [] [] = (λ h. refl, λ h. refl)
same_tells [] (y ∷ ys) = (λ h. absurd (cc h), λ h. absurd (cc h))
same_tells (x ∷ xs) [] = (λ h. absurd (cc h), λ h. absurd (cc h))
same_tells (x ∷ xs) (y ∷ ys) = Decides-like {P = (x ≡ y) × (xs ≡ ys)} ((eqb x y) && same_bytes xs ys) (λ p. cc (p.0, p.1)) (λ e. (heads x y xs ys e, tails x y xs ys e)) (Decides-and (eqb x y) (same_bytes xs ys) (Decides-eqb x y) (same_tells xs ys))
  where
    heads : (x y : ℕ) (xs ys : List ℕ) → x ∷ xs ≡ y ∷ ys → x ≡ y
    heads x y xs ys e = cc e

    tails : (x y : ℕ) (xs ys : List ℕ) → x ∷ xs ≡ y ∷ ys → xs ≡ ys
    tails x y xs ys e = cc e

rises_tells : (low : ℕ) (xs : List ℕ) → Decides (rises_above low xs) (RisesFrom low xs)
rises_tells low [] = (λ h. tt, λ h. refl)
rises_tells low (x ∷ xs) = Decides-and (ltb low x) (rises_above x xs) (Decides-ltb low x) (rises_tells x xs)

each_tells : {X : Type 0} (p : X → Bool) (P : X → Type 0) → ((x : X) → Decides (p x) (P x)) → (xs : List X) → Decides (list_all p xs) (AllByRecursion P xs)
each_tells p P each [] = (λ h. tt, λ h. refl)
each_tells p P each (x ∷ xs) = Decides-and (p x) (list_all p xs) (each x) (each_tells p P each xs)

value_tells : (v : Value) → Decides (can_value v) (IsValue v)
value_tells v = Decides-like {P = (length v.bytes ≡ 64) × ((v.len ≤ 64) × (drop v.len v.bytes ≡ replicate (64 - v.len) 0))} (can_value v)
    (λ p. record { room = p.0; most = p.1.0; zeros = p.1.1 }) (λ is. (is.room, (is.most, is.zeros)))
    (Decides-and (eqb (length v.bytes) 64) ((leb v.len 64) && same_bytes (drop v.len v.bytes) (replicate (64 - v.len) 0)) (Decides-eqb (length v.bytes) 64)
    (Decides-and (leb v.len 64) (same_bytes (drop v.len v.bytes) (replicate (64 - v.len) 0)) (Decides-leb v.len 64) (same_tells (drop v.len v.bytes) (replicate (64 - v.len) 0))))

page_tells : (page : ℕ) → Decides (is_page page) (IsPage page)
page_tells page = (is_page-IsPage page, IsPage-is_page page)

pages_tell : (pages : List ℕ) → Decides (can_pages pages) (ArePages pages)
pages_tell pages = Decides-like {P = (1 ≤ length pages) × ((length pages ≤ 2048) × (AllByRecursion IsPage pages × RisesFrom 0 pages))} (can_pages pages)
    (λ p. record { least = p.0; most = p.1.0; each = p.1.1.0; rising = p.1.1.1 }) (λ are. (are.least, (are.most, (are.each, are.rising))))
    (Decides-and (leb 1 (length pages)) ((leb (length pages) 2048) && (list_all is_page pages && rises_above 0 pages)) (Decides-leb 1 (length pages))
    (Decides-and (leb (length pages) 2048) (list_all is_page pages && rises_above 0 pages) (Decides-leb (length pages) 2048)
    (Decides-and (list_all is_page pages) (rises_above 0 pages) (each_tells is_page IsPage page_tells pages) (rises_tells 0 pages))))

record_tells : (r : Record) → Decides (can_record r) (HasSpelling r)
record_tells (Put txn key value) = Decides-like {P = (txn < 2 ^ 64) × ((key < 2 ^ 32) × IsValue value)} (can_record (Put txn key value)) (λ p. (p.0, p.1.0, p.1.1)) (λ h. (h.0, (h.1, h.2)))
    (Decides-and (ltb txn (2 ^ 64)) ((ltb key (2 ^ 32)) && can_value value) (Decides-ltb txn (2 ^ 64)) (Decides-and (ltb key (2 ^ 32)) (can_value value) (Decides-ltb key (2 ^ 32)) (value_tells value)))
record_tells (Del txn key) = Decides-and (ltb txn (2 ^ 64)) (ltb key (2 ^ 32)) (Decides-ltb txn (2 ^ 64)) (Decides-ltb key (2 ^ 32))
record_tells (Commit txn pages) = Decides-and (ltb txn (2 ^ 64)) (can_pages pages) (Decides-ltb txn (2 ^ 64)) (pages_tell pages)
record_tells (Abort txn pages) = Decides-and (ltb txn (2 ^ 64)) (can_pages pages) (Decides-ltb txn (2 ^ 64)) (pages_tell pages)
record_tells (Trim page horizon) = Decides-and (is_page page) (ltb horizon (2 ^ 64)) (page_tells page) (Decides-ltb horizon (2 ^ 64))
record_tells (Term term) = Decides-ltb term (2 ^ 64)

payload_tells : (rs : List Record) → Decides (can_payload rs) (ArePayload rs)
payload_tells rs =
    let n = length (records_spelling rs) in
    Decides-like {P = HaveSpelling rs × ((1 ≤ n) × (n ≤ 15488))} (can_payload rs)
    (λ p. record { fit = p.0; least = p.1.0; most = p.1.1 }) (λ are. (are.fit, (are.least, are.most)))
    (Decides-and (list_all can_record rs) ((leb 1 n) && (leb n 15488)) (each_tells can_record HasSpelling record_tells rs)
    (Decides-and (leb 1 n) (leb n 15488) (Decides-leb 1 n) (Decides-leb n 15488)))

-- what a head has to be
abbrev IsHead : Head → Type 0
IsHead h = (h.term < 2 ^ 64) × ((1 ≤ h.incarnation) × ((h.incarnation < 2 ^ 64) × (h.first < 2 ^ 64)))

head_tells : (h : Head) → Decides (can_head h) (IsHead h)
head_tells h =
    Decides-and (ltb h.term (2 ^ 64)) ((leb 1 h.incarnation) && ((ltb h.incarnation (2 ^ 64)) && (ltb h.first (2 ^ 64)))) (Decides-ltb h.term (2 ^ 64))
    (Decides-and (leb 1 h.incarnation) ((ltb h.incarnation (2 ^ 64)) && (ltb h.first (2 ^ 64))) (Decides-leb 1 h.incarnation)
    (Decides-and (ltb h.incarnation (2 ^ 64)) (ltb h.first (2 ^ 64)) (Decides-ltb h.incarnation (2 ^ 64)) (Decides-ltb h.first (2 ^ 64))))

stand_tells : (image : Image) (at : ℕ) (ss : List (List ℕ)) → Decides (do_stand image at ss) (StandAt image at ss)
stand_tells image at [] = (λ h. tt, λ h. refl)
stand_tells image at (s ∷ ss) = Decides-and (same_bytes (or_zeros (image at)) s) (do_stand image (suc at) ss) (same_tells (or_zeros (image at)) s) (stand_tells image (suc at) ss)

pub stored_tells : (image : Image) (at : ℕ) (b : Stored) → Decides (is_stored image at b) (IsStored image at b)
stored_tells image at b =
    Decides-like {P = ArePayload b.records × (IsHead b.head × (StandAt image at (sectors_of b) × (at + block_sectors b.records ≤ log_end)))} (is_stored image at b)
    (λ p. record {
      fits = p.0;
      head = record { term = p.1.0.0; incarnation = p.1.0.1.0; incarnation_fits = p.1.0.1.1.0; first = p.1.0.1.1.1; some = p.0.least; most = p.0.most };
      sectors = p.1.1.0;
      within = p.1.1.1;
    })
    (λ s. (s.fits, ((s.head.term, (s.head.incarnation, (s.head.incarnation_fits, s.head.first))), (s.sectors, s.within))))
    (Decides-and (can_payload b.records) (can_head b.head && (do_stand image at (sectors_of b) && leb (at + block_sectors b.records) log_end)) (payload_tells b.records)
    (Decides-and (can_head b.head) (do_stand image at (sectors_of b) && leb (at + block_sectors b.records) log_end) (head_tells b.head)
    (Decides-and (do_stand image at (sectors_of b)) (leb (at + block_sectors b.records) log_end) (stand_tells image at (sectors_of b)) (Decides-leb (at + block_sectors b.records) log_end))))

-- an incarnation that counts above the cut
current_tells : (cut lsn incarnation has : ℕ) → Decides ((leb lsn cut) || (leb incarnation has)) (cut < lsn → incarnation ≤ has)
current_tells cut lsn incarnation has =
    Decides-like {P = (lsn ≤ cut) ⊎ (incarnation ≤ has)} ((leb lsn cut) || (leb incarnation has))
    (λ either above. elim either [ inl low ↦ omega (arith, low, above) | inr le ↦ le ])
    (λ h. elim (cases_lt cut lsn) [ inl above ↦ inr (h above) | inr low ↦ inl low ])
    (Decides-or (leb lsn cut) (leb incarnation has) (Decides-leb lsn cut) (Decides-leb incarnation has))

pub next_tells : (image : Image) (cut incarnation : ℕ) (p : Place) (b : Stored) → Decides (is_next image cut incarnation p b) (IsNext image cut incarnation p b)
next_tells image cut incarnation p b =
    let h = b.head in
    let above : Bool = (leb p.lsn cut) || (leb incarnation h.incarnation) in
    Decides-like {P = IsStored image p.sector b × ((h.first ≡ p.lsn) × ((p.least ≤ h.incarnation) × (cut < p.lsn → incarnation ≤ h.incarnation)))} (is_next image cut incarnation p b)
    (λ q. record { stored = q.0; first = q.1.0; rising = q.1.1.0; current = q.1.1.1 })
    (λ n. (n.stored, (n.first, (n.rising, n.current))))
    (Decides-and (is_stored image p.sector b) ((eqb h.first p.lsn) && ((leb p.least h.incarnation) && above)) (stored_tells image p.sector b)
    (Decides-and (eqb h.first p.lsn) ((leb p.least h.incarnation) && above) (Decides-eqb h.first p.lsn)
    (Decides-and (leb p.least h.incarnation) above (Decides-leb p.least h.incarnation) (current_tells cut p.lsn incarnation h.incarnation))))
