-- Records one after the other.
use Rattle.std.proofs.Common.{◌≡◌, ℕ, ◌+◌, ◌≤◌, List, [], ◌∷◌, ◌++◌, length, Result, Ok, Err, refl, sym, ap, ◌∙◌, append_assoc, arith}
use Rattle.std.proofs.lemmas.List.{length-append, append-nil}
use Rattle.std.proofs.lemmas.List.Sums.{sum_by-cons}
use Rattle.std.proofs.lemmas.List.Concat.{flat_map-cons, flat_map-append}
use Rattle.ag_model.specs.Sizes.{record_size, records_size}
use Rattle.ag_model.specs.declared.record.Record.{Record}
use Rattle.ag_model.specs.declared.record.Record.TheVariants.{Put, Del, Commit, Abort, Trim, Term}
use Rattle.ag_record.specs.declared.fault.RecordFault.{RecordFault}
use Rattle.ag_record.specs.declared.fault.RecordFault.TheVariants.{NoMemory}
use Rattle.ag_record.specs.Spelling.{spelling, records_spelling, HasSpelling, HaveSpelling}
use Rattle.ag_record.specs.Reading.{Fails, Answers, reading}
use Rattle.ag_record.specs.Lists.{MayFail}
use Rattle.ag_record.proofs.Records.{spelling-once, reading_again, length-spelling}

pub size-least : (r : Record) → 9 ≤ record_size r
size-least (Put txn key value) = omega arith
size-least (Del txn key) = omega arith
size-least (Commit txn pages) = omega arith
size-least (Abort txn pages) = omega arith
size-least (Trim page horizon) = omega arith
size-least (Term term) = omega arith

-- a record more
pub more_parts : (bytes : List ℕ) (rs : List Record) (rest : List ℕ) (r : Record) (after : List ℕ) → bytes ≡ records_spelling rs ++ rest → rest ≡ spelling r ++ after → bytes ≡ records_spelling (rs ++ r ∷ []) ++ after
more_parts bytes rs rest r after e h =
    let one : records_spelling (rs ++ r ∷ []) ≡ records_spelling rs ++ spelling r = flat_map-append spelling rs (r ∷ []) ∙ ap (λ (z : List ℕ). records_spelling rs ++ z) (flat_map-cons spelling r [] ∙ append-nil (spelling r)) in
    e ∙ ap (λ (z : List ℕ). records_spelling rs ++ z) h ∙ sym (append_assoc (records_spelling rs) (spelling r) after) ∙ ap (λ (z : List ℕ). z ++ after) (sym one)

pub more_fit : (rs : List Record) (r : Record) → HaveSpelling rs → HasSpelling r → HaveSpelling (rs ++ r ∷ [])
more_fit [] r h k = (k, tt)
more_fit (s ∷ rs) r h k = (h.0, more_fit rs r h.1 k)

-- a record that was read has its bytes there
pub size-le : (rest : List ℕ) (r : Record) (after : List ℕ) → HasSpelling r → rest ≡ spelling r ++ after → record_size r + length after ≡ length rest
size-le rest r after h e = omega (arith, ap length e, length-append (spelling r) after, length-spelling r h)

-- a record's bytes are some bytes
some_bytes : (r : Record) (x : List ℕ) → HasSpelling r → [] ≡ spelling r ++ x → ⊥
some_bytes r x h e = let l = ap length e in absurd (omega (arith, length-append (spelling r) x, length-spelling r h, size-least r))

records-first : (r : Record) (rs : List Record) (x : List ℕ) → records_spelling (r ∷ rs) ++ x ≡ spelling r ++ (records_spelling rs ++ x)
records-first r rs x = ap (λ (z : List ℕ). z ++ x) (flat_map-cons spelling r rs) ∙ append_assoc (spelling r) (records_spelling rs) x

-- records of the same bytes are the same records
pub records-once : (rs ss : List Record) → HaveSpelling rs → HaveSpelling ss → records_spelling rs ≡ records_spelling ss → rs ≡ ss
records-once [] [] h k e = refl
records-once [] (s ∷ ss) h k e = absurd (some_bytes s (records_spelling ss) k.0 (e ∙ flat_map-cons spelling s ss))
records-once (r ∷ rs) [] h k e = absurd (some_bytes r (records_spelling rs) h.0 (sym e ∙ flat_map-cons spelling r rs))
records-once (r ∷ rs) (s ∷ ss) h k e =
    let both = spelling-once r s (records_spelling rs) (records_spelling ss) h.0 k.0 (sym (flat_map-cons spelling r rs) ∙ e ∙ flat_map-cons spelling s ss) in
    let rest = records-once rs ss h.1 k.1 both.1 in
    cc (both.0, rest)

-- where records stand, no fault is met
no_stop : (rs ns : List Record) (rest : List ℕ) (f : RecordFault) → HaveSpelling rs → HaveSpelling ns → 1 ≤ length rest → reading rest ≡ Err f → records_spelling ns ≡ records_spelling rs ++ rest → ⊥
no_stop [] [] rest f h k some stops e = let l = ap length e in absurd (omega arith)
no_stop [] (n ∷ ns) rest f h k some stops e =
    let read : reading rest ≡ Ok (n, record_size n) = ap reading (sym e ∙ flat_map-cons spelling n ns) ∙ reading_again n (records_spelling ns) k.0 in
    absurd (cc (read, stops))
no_stop (r ∷ rs) [] rest f h k some stops e = some_bytes r (records_spelling rs ++ rest) h.0 (e ∙ records-first r rs rest)
no_stop (r ∷ rs) (n ∷ ns) rest f h k some stops e =
    let both = spelling-once n r (records_spelling ns) (records_spelling rs ++ rest) k.0 h.0 (sym (flat_map-cons spelling n ns) ∙ e ∙ records-first r rs rest) in
    no_stop rs ns rest f h.1 k.1 some stops both.1

-- the fault after some records
pub stops_here : (bytes : List ℕ) (rs : List Record) (rest : List ℕ) (f : RecordFault) → HaveSpelling rs → bytes ≡ records_spelling rs ++ rest → 1 ≤ length rest → Fails f (reading rest) → MayFail bytes f
stops_here bytes rs rest NoMemory h e some fails = tt
stops_here bytes rs rest f h e some fails = record { records = rs; rest = rest; fits = h; parts = e; some = some; stops = fails }

-- where all is records, memory ran out
pub only_memory : (bytes : List ℕ) (ns : List Record) (f : RecordFault) → HaveSpelling ns → bytes ≡ records_spelling ns → MayFail bytes f → Fails f (Ok ns)
only_memory bytes ns NoMemory k e fails = tt
only_memory bytes ns f k e fails = absurd (no_stop fails.records ns fails.rest f fails.fits k fails.some fails.stops (sym e ∙ fails.parts))

-- the records that were read are those that were spelled
pub only_these : (bytes : List ℕ) (rs ns : List Record) → HaveSpelling rs → bytes ≡ records_spelling rs → HaveSpelling ns → bytes ≡ records_spelling ns → Answers (Ok rs) (Ok ns)
only_these bytes rs ns h e k d = ap (λ (z : List Record). let r : Result (List Record) RecordFault = Ok z in r) (records-once ns rs k h (sym d ∙ e))

-- records take as many bytes as their sizes say
pub length-records : (rs : List Record) → HaveSpelling rs → length (records_spelling rs) ≡ records_size rs
length-records [] h = refl
length-records (r ∷ rs) h =
    let ih = length-records rs h.1 in
    omega (arith, ap length (flat_map-cons spelling r rs), length-append (spelling r) (records_spelling rs), length-spelling r h.0, sum_by-cons record_size r rs)
