-- The records of a block.
use Rattle.std.proofs.Common.{◌≡◌, ◌≢◌, ℕ, zero, suc, ◌+◌, ◌^◌, ◌<◌, ◌≤◌, true, false, cond, ltb, leb, ◌&&◌, List, [], ◌∷◌, ◌++◌, length, get_or, take, drop, Result, Ok, Err, refl, sym, ap, subst, ◌∙◌, append_assoc, arith}
use Rattle.std.specs.Int.{w16, byte_len, to_be_bytes}
use Rattle.std.proofs.lemmas.Bool.{ltb-false, le-ltb}
use Rattle.std.proofs.lemmas.Bool.Decides.{nat_tests}
use Rattle.std.proofs.lemmas.List.{take_at, take_all, drop_at, take-append-drop, length-append, length-take}
use Rattle.std.proofs.lemmas.List.Sums.{sum_by_more_le}
use Rattle.std.proofs.lemmas.List.Concat.{flat_map-cons}
use Rattle.ag_model.specs.Bytes.{AreBytes}
use Rattle.ag_model.specs.Sizes.{record_size, records_size}
use Rattle.ag_model.proofs.Numbers.{AreBytes-drop, AreBytes-take}
use Rattle.ag_model.specs.declared.record.Record.{Record}
use Rattle.ag_record.specs.declared.fault.RecordFault.{RecordFault}
use Rattle.ag_record.specs.declared.fault.RecordFault.TheVariants.{NoMemory}
use Rattle.ag_record.specs.Spelling.{spelling, records_spelling, HasSpelling, HaveSpelling, ArePayload}
use Rattle.ag_record.specs.Steps.{◌>>=◌, number_at}
use Rattle.ag_record.specs.Reading.{record_at, reading}
use Rattle.ag_record.specs.Lists.{MayFail}
use Rattle.ag_record.proofs.Steps.{bind_ok, unless_ok, when_ok, ok_is, Takes, Takes-then, number_takes, number_again}
use Rattle.ag_record.proofs.Records.{record_takes, record_again, length-spelling}
use Rattle.ag_record.proofs.Many.{size-least, length-records}
use Rattle.ag_wire.specs.declared.fault.WireFault.{WireFault}
use Rattle.ag_wire.specs.declared.fault.WireFault.TheVariants.{Short, BadLength, BadRecord}
use Rattle.ag_wire.specs.Reading.{Fails, as_record, wire_fault, records_of, records_in, payload_at}

as_record_ok : (r : Result (Record × List ℕ) RecordFault) (x : Record × List ℕ) → as_record r ≡ Ok x → r ≡ Ok x
as_record_ok (Ok y) x e = ap (λ (z : Record × List ℕ). let r : Result (Record × List ℕ) RecordFault = Ok z in r) (ok_is y x e)
as_record_ok (Err f) x e = absurd cc

-- what is read are records
records_take : (n : ℕ) (bytes : List ℕ) (rs : List Record) → AreBytes bytes → records_of n bytes ≡ Ok rs → HaveSpelling rs × (bytes ≡ records_spelling rs)
unfolding records_of
records_take zero [] rs fits e = subst (λ (z : List Record). HaveSpelling z × ([] ≡ records_spelling z)) (ok_is [] rs e) (tt, refl)
records_take zero (b ∷ bytes) rs fits e = absurd cc
records_take (suc n) [] rs fits e = subst (λ (z : List Record). HaveSpelling z × ([] ≡ records_spelling z)) (ok_is [] rs e) (tt, refl)
records_take (suc n) (b ∷ bytes) rs fits e =
    let all = b ∷ bytes in
    let a = bind_ok (as_record (record_at all)) (λ first. records_of n first.1 >>= λ others. Ok (first.0 ∷ others)) rs e in
    let first = a.0 in
    let t = record_takes all first fits (as_record_ok (record_at all) first a.1) in
    let c = bind_ok (records_of n first.1) (λ others. Ok (first.0 ∷ others)) rs a.2 in
    let others = c.0 in
    let ih = records_take n first.1 others t.0.left c.1 in
    let parts : all ≡ records_spelling (first.0 ∷ others) = t.0.parts ∙ ap (λ (z : List ℕ). spelling first.0 ++ z) ih.1 ∙ sym (flat_map-cons spelling first.0 others) in
    subst (λ (z : List Record). HaveSpelling z × (all ≡ records_spelling z)) (ok_is (first.0 ∷ others) rs c.2) ((t.1, ih.0), parts)

-- a record in front
goes_on : (n : ℕ) (bytes : List ℕ) (x : Record × List ℕ) → 1 ≤ length bytes → record_at bytes ≡ Ok x → records_of (suc n) bytes ≡ (records_of n x.1 >>= λ others. Ok (x.0 ∷ others))
unfolding records_of
goes_on n [] x some e = absurd (omega arith)
goes_on n (b ∷ bytes) x some e = rw e refl

-- no record in front
ends : (n : ℕ) (bytes : List ℕ) (f : RecordFault) → 1 ≤ length bytes → record_at bytes ≡ Err f → records_of (suc n) bytes ≡ Err BadRecord
unfolding records_of
ends n [] f some e = absurd (omega arith)
ends n (b ∷ bytes) f some e = rw e refl

-- a record and what follows it
step : (n : ℕ) (r : Record) (rest : List ℕ) → HasSpelling r → records_of (suc n) (spelling r ++ rest) ≡ (records_of n rest >>= λ others. Ok (r ∷ others))
step n r rest h = goes_on n (spelling r ++ rest) (r, rest) (omega (arith, length-append (spelling r) rest, length-spelling r h, size-least r)) (record_again r rest h)

-- records are read
pub records_again : (rs : List Record) (n : ℕ) → HaveSpelling rs → length (records_spelling rs) ≤ n → records_of n (records_spelling rs) ≡ Ok rs
unfolding records_of
records_again [] zero h le = refl
records_again [] (suc n) h le = refl
records_again (r ∷ rs) zero h le = absurd (omega (arith, ap length (flat_map-cons spelling r rs), length-append (spelling r) (records_spelling rs), length-spelling r h.0, size-least r))
records_again (r ∷ rs) (suc n) h le =
    let less : length (records_spelling rs) ≤ n = omega (arith, ap length (flat_map-cons spelling r rs), length-append (spelling r) (records_spelling rs), length-spelling r h.0, size-least r) in
    ap (records_of (suc n)) (flat_map-cons spelling r rs) ∙ step n r (records_spelling rs) h.0 ∙ ap (λ (z : Result (List Record) WireFault). z >>= λ others. Ok (r ∷ others)) (records_again rs n h.1 less)

reading_err : (r : Result (Record × List ℕ) RecordFault) (bytes : List ℕ) (f : RecordFault) → record_at bytes ≡ r → reading bytes ≡ Err f → r ≡ Err f
reading_err (Ok x) bytes f e h = absurd (cc (e, h))
reading_err (Err g) bytes f e h = let same : reading bytes ≡ Err g = rw e refl in cc (same, h)

first_parts : (r : Record) (rs : List Record) (rest : List ℕ) → records_spelling (r ∷ rs) ++ rest ≡ spelling r ++ (records_spelling rs ++ rest)
first_parts r rs rest = ap (λ (z : List ℕ). z ++ rest) (flat_map-cons spelling r rs) ∙ append_assoc (spelling r) (records_spelling rs) rest

-- records, and then bytes that begin no record
stop : (rs : List Record) (rest : List ℕ) (n : ℕ) (f : RecordFault) → HaveSpelling rs → 1 ≤ length rest → record_at rest ≡ Err f → length (records_spelling rs ++ rest) ≤ n → records_of n (records_spelling rs ++ rest) ≡ Err BadRecord
stop [] rest zero f h some e le = absurd (omega arith)
stop [] rest (suc n) f h some e le = ends n rest f some e
stop (r ∷ rs) rest zero f h some e le = absurd (omega (arith, length-append (records_spelling (r ∷ rs)) rest))
stop (r ∷ rs) rest (suc n) f h some e le =
    let less : length (records_spelling rs ++ rest) ≤ n = omega (arith, ap length (first_parts r rs rest), length-append (spelling r) (records_spelling rs ++ rest), length-spelling r h.0, size-least r) in
    ap (records_of (suc n)) (first_parts r rs rest) ∙ step n r (records_spelling rs ++ rest) h.0 ∙ ap (λ (z : Result (List Record) WireFault). z >>= λ others. Ok (r ∷ others)) (stop rs rest n f h.1 some e less)

-- what the records' own reader answers
pub all_records : (bytes : List ℕ) (rs : List Record) → HaveSpelling rs → bytes ≡ records_spelling rs → records_in bytes ≡ Ok rs
all_records bytes rs h e = ap records_in e ∙ records_again rs (length (records_spelling rs)) h (omega arith)

no_records : (bytes : List ℕ) (f : RecordFault) → f ≢ NoMemory → MayFail bytes f → records_in bytes ≡ Err BadRecord
no_records bytes NoMemory not h = absurd (not refl)
no_records bytes f not h =
    let e : record_at h.rest ≡ Err f = reading_err (record_at h.rest) h.rest f refl h.stops in
    ap records_in h.parts ∙ stop h.records h.rest (length (records_spelling h.records ++ h.rest)) f h.fits h.some e (omega arith)

pub fault_of_records : (bytes : List ℕ) (f : RecordFault) → MayFail bytes f → Fails (wire_fault f) (records_in bytes)
fault_of_records bytes NoMemory h = tt
fault_of_records bytes f h = no_records bytes f (λ e. absurd cc) h

-- ---- with their length

abbrev pub sized : List Record → List ℕ
sized rs = to_be_bytes w16 (length (records_spelling rs)) ++ records_spelling rs

within : (n : ℕ) → (leb 1 n && leb n 15488) ≡ true → (1 ≤ n) × (n ≤ 15488)
within n h = grind (arith, nat_tests)

is_within : (n : ℕ) → 1 ≤ n → n ≤ 15488 → (leb 1 n && leb n 15488) ≡ true
is_within n p q = grind (arith, nat_tests)

pub payload_takes : (bytes : List ℕ) (x : List Record × List ℕ) → AreBytes bytes → payload_at bytes ≡ Ok x → Takes bytes (sized x.0) x.1 × ArePayload x.0
unfolding payload_at
payload_takes bytes x fits e =
    let all = λ (n : ℕ × List ℕ). records_in (take n.0 n.1) >>= λ records. Ok (records, drop n.0 n.1) in
    let a = bind_ok (number_at Short w16 bytes) (λ n. cond (leb 1 n.0 && leb n.0 15488) (cond (ltb (length n.1) n.0) (Err Short) (all n)) (Err BadLength)) x e in
    let n = a.0 in
    let first = number_takes Short w16 bytes n fits a.1 in
    let g = when_ok (leb 1 n.0 && leb n.0 15488) BadLength (cond (ltb (length n.1) n.0) (Err Short) (all n)) x a.2 in
    let h = unless_ok (ltb (length n.1) n.0) Short (all n) x g.1 in
    let b = bind_ok (records_in (take n.0 n.1)) (λ records. Ok (records, drop n.0 n.1)) x h.1 in
    let rs = b.0 in
    let text = take n.0 n.1 in
    let t = records_take (length text) text rs (AreBytes-take n.0 n.1 first.0.left) b.1 in
    let long : n.0 ≤ length n.1 = ltb-false _ _ h.0 in
    let len : n.0 ≡ length (records_spelling rs) = omega (arith, length-take n.0 n.1, ap length t.1) in
    let bounds = within n.0 g.0 in
    let second : Takes n.1 text (drop n.0 n.1) = record { parts = sym (take-append-drop n.0 n.1); left = AreBytes-drop n.0 n.1 first.0.left } in
    let both = Takes-then bytes (to_be_bytes w16 n.0) n.1 text (drop n.0 n.1) first.0 second in
    let spelled : to_be_bytes w16 n.0 ++ text ≡ sized rs = ap (λ (k : ℕ). to_be_bytes w16 k ++ text) len ∙ ap (λ (z : List ℕ). to_be_bytes w16 (length (records_spelling rs)) ++ z) t.1 in
    let made : List Record × List ℕ = (rs, drop n.0 n.1) in
    subst (λ (y : List Record × List ℕ). Takes bytes (sized y.0) y.1 × ArePayload y.0) (ok_is made x b.2)
    (subst (λ (s : List ℕ). Takes bytes s (drop n.0 n.1)) spelled both, record { fit = t.0; least = omega (arith, bounds, len); most = omega (arith, bounds, len) })

pub payload_again : (rs : List Record) (rest : List ℕ) → ArePayload rs → payload_at (sized rs ++ rest) ≡ Ok (rs, rest)
unfolding payload_at
payload_again rs rest h =
    let text = records_spelling rs in
    let fits : length text < 256 ^ byte_len w16 = omega (arith, h.most) in
    let bounds = is_within (length text) h.least h.most in
    let long : ltb (length (text ++ rest)) (length text) ≡ false = le-ltb _ _ (omega (arith, length-append text rest)) in
    ap payload_at (append_assoc (to_be_bytes w16 (length text)) text rest)
    ∙ (rw (number_again Short w16 (length text) (text ++ rest) fits, bounds, long, take_at text rest (length text) refl, drop_at text rest (length text) refl, all_records text rs h.fit refl) refl)

-- ---- their length, as a loop adds it up

pub within_size : (rs : List Record) (i total size : ℕ) (r : Record) → ArePayload rs → i < length rs → total ≡ records_size (take i rs) → r ≡ get_or rs i r → size ≡ record_size r → total + size ≤ 15488
within_size rs i total size r h lt so_far is sized_so =
    let more = sum_by_more_le record_size rs i r lt in
    let same : record_size r ≡ record_size (get_or rs i r) = ap record_size is in
    omega (arith, more, same, length-records rs h.fit, h.most)

pub whole_size : (rs : List Record) (i total : ℕ) → ArePayload rs → length rs ≤ i → total ≡ records_size (take i rs) → total ≡ length (records_spelling rs)
whole_size rs i total h le so_far = so_far ∙ ap records_size (take_all i rs le) ∙ sym (length-records rs h.fit)
