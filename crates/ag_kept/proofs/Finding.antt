-- The log that is found on an image is its log.
use Rattle.std.proofs.Common.{◌≡◌, ℕ, zero, suc, ◌+◌, ◌≤◌, List, [], ◌∷◌, length, Bool, if◌then◌else◌, refl, sym, ap, ◌∙◌, arith, inl, inr}
use Rattle.std.proofs.lemmas.List.{length-append}
use Rattle.std.proofs.lemmas.List.Concat.{flat_map-cons}
use Rattle.ag_model.specs.Sizes.{block_sectors}
use Rattle.ag_model.specs.declared.record.Record.{Record}
use Rattle.ag_model.specs.declared.record.Log.{Log}
use Rattle.ag_record.specs.Spelling.{spelling, records_spelling, HaveSpelling}
use Rattle.ag_record.specs.Reading.{record_at}
use Rattle.ag_record.proofs.Records.{record_again, length-spelling}
use Rattle.ag_record.proofs.Many.{size-least}
use Rattle.ag_logblock.specs.declared.Head.{Head}
use Rattle.ag_logblock.specs.Fitting.{header_of, payload_of}
use Rattle.ag_logblock.proofs.Wholes.{block_again}
use Rattle.ag_outside.specs.Disks.{Image, or_zeros}
use Rattle.ag_logstore.specs.Stored.{Stored, sectors_of, sectors_at, IsStored, Place, first_place, after_block, place_after, IsNext, AreStored, log_of_blocks}
use Rattle.ag_logstore.specs.LogOf.{IsLogOf}
use Rattle.ag_logstore.proofs.Standing.{writable, some_sectors, block_says, count_of_block, sectors_at_are}
use Rattle.ag_logstore.proofs.Chains.{places_within, none_follows}
use Rattle.ag_kept.specs.LogOn.{then_records, records_in, candidate, blocks_on, is_next, most_blocks, log_on}
use Rattle.ag_kept.proofs.Deciding.{next_tells}
use Rattle.ag_kept.proofs.Stops.{decide}

-- records that are spelled so are found
records_again : (n : ℕ) (rs : List Record) → HaveSpelling rs → length rs ≤ n → records_in n (records_spelling rs) ≡ rs
unfolding records_in record_at
records_again zero [] h few = refl
records_again zero (r ∷ rs) h few = absurd (omega (arith, few))
records_again (suc n) [] h few = refl
records_again (suc n) (r ∷ rs) h few =
    ap (λ bytes. then_records (record_at bytes) (records_in n)) (flat_map-cons spelling r rs)
    ∙ ap (λ x. then_records x (records_in n)) (record_again r (records_spelling rs) h.0)
    ∙ ap (λ others. r ∷ others) (records_again n rs h.1 (omega (arith, few)))

-- there are no more records than bytes
few_records : (rs : List Record) → HaveSpelling rs → length rs ≤ length (records_spelling rs)
few_records [] h = omega arith
few_records (r ∷ rs) h = omega (arith, few_records rs h.1, ap length (flat_map-cons spelling r rs), length-append (spelling r) (records_spelling rs), length-spelling r h.0, size-least r)

-- a block that stands there is what its sectors would be
candidate_is : (image : Image) (at : ℕ) (b : Stored) → IsStored image at b → candidate image at ≡ b
candidate_is image at b s =
    let w = writable image at b s in
    let said = block_says image at at b s (omega arith) (omega (arith, some_sectors b w)) in
    let payload = records_spelling b.records in
    let sectors : sectors_at image at (header_of (or_zeros (image at))).count ≡ sectors_of b =
    ap (sectors_at image at) said.1 ∙ sectors_at_are image at (block_sectors b.records) (sectors_of b) s.sectors (count_of_block b w) in
    let found : payload_of (sectors_at image at (header_of (or_zeros (image at))).count) ≡ payload = ap payload_of sectors ∙ (block_again b.head payload s.head).1 in
    let records : records_in (length payload) payload ≡ b.records = records_again (length payload) b.records s.fits.fit (few_records b.records s.fits.fit) in
    let made : Head → List Record → Stored = λ h rs. record { head = h; records = rs } in
    ap (λ h. made h (candidate image at).records) said.0 ∙ ap (λ bytes. made b.head (records_in (length bytes) bytes)) found ∙ ap (made b.head) records

module _ (image : Image) (cut incarnation : ℕ) where
  -- what is found where a block may follow
  abbrev goes_on : ℕ → Place → Stored → List Stored
  goes_on n p b = if is_next image cut incarnation p b then b ∷ blocks_on n image cut incarnation (after_block p b) else []

  abbrev chosen : Bool → ℕ → Place → Stored → List Stored
  chosen go n p b = if go then b ∷ blocks_on n image cut incarnation (after_block p b) else []

  one_step : (n : ℕ) (p : Place) → blocks_on (suc n) image cut incarnation p ≡ goes_on n p (candidate image p.sector)
  unfolding blocks_on
  one_step n p = refl

  no_step : (p : Place) → blocks_on zero image cut incarnation p ≡ []
  unfolding blocks_on
  no_step p = refl

  -- as many blocks as stand there are found
  blocks_are : (n : ℕ) (p : Place) (bs : List Stored) → AreStored image cut incarnation p bs → length bs ≤ n → ((b : Stored) → IsNext image cut incarnation (place_after p bs) b → ⊥) → blocks_on n image cut incarnation p ≡ bs
  blocks_are zero p [] st few none = no_step p
  blocks_are zero p (b ∷ bs) st few none = absurd (omega (arith, few))
  blocks_are (suc n) p [] st few none =
      let c = candidate image p.sector in
      elim (decide (is_next image cut incarnation p c)) [
        | inl yes_ ↦ absurd (none c ((next_tells image cut incarnation p c).0 yes_))
        | inr no_ ↦ one_step n p ∙ ap (λ (go : Bool). chosen go n p c) no_
      ]
  blocks_are (suc n) p (b ∷ bs) st few none =
      one_step n p ∙ ap (goes_on n p) (candidate_is image p.sector b st.0.stored) ∙ ap (λ (go : Bool). chosen go n p b) ((next_tells image cut incarnation p b).1 st.0)
      ∙ ap (λ cs. b ∷ cs) (blocks_are n (after_block p b) bs st.1 (omega (arith, few)) none)

  -- each block takes a sector
  count_blocks : (p : Place) (bs : List Stored) → AreStored image cut incarnation p bs → p.sector + length bs ≤ (place_after p bs).sector
  count_blocks p [] st = omega arith
  count_blocks p (b ∷ bs) st = omega (arith, count_blocks (after_block p b) bs st.1, some_sectors b (writable image p.sector b st.0.stored))

  most_is : most_blocks ≡ 262144
  unfolding most_blocks
  most_is = refl

  -- the log that is found is the log
  pub log_on_is : (log : Log) → IsLogOf image cut incarnation log → log_on image cut incarnation ≡ log
  log_on_is log l =
      let few = count_blocks first_place l.blocks l.stand in
      let within = places_within image cut incarnation first_place l.blocks l.stand (omega arith) in
      ap log_of_blocks (blocks_are most_blocks first_place l.blocks l.stand (omega (arith, few, within, most_is)) (none_follows image cut incarnation log l)) ∙ sym l.is
