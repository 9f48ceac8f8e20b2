-- Reading term starts one after the other, as a loop does.
use Rattle.std.proofs.Common.{◌≡◌, ℕ, suc, ◌-◌, ◌+◌, ◌≤◌, ◌<◌, List, [], ◌∷◌, ◌++◌, Option, Some, Result, Ok, Err, refl, sym, ap, ◌∙◌, append_assoc, arith}
use Rattle.std.proofs.lemmas.List.{append-nil}
use Rattle.ag_model.specs.declared.config.TermStart.{TermStart}
use Rattle.ag_record.specs.Steps.{◌>>=◌}
use Rattle.ag_wire.specs.declared.fault.WireFault.{WireFault}
use Rattle.ag_wire.specs.declared.fault.WireFault.TheVariants.{NoMemory}
use Rattle.ag_wire.specs.Reading.{Fails, start_at, starts_at}

-- the starts that were read before, and those that are still read
abbrev pub with_front : List TermStart → Result (List TermStart × List ℕ) WireFault → Result (List TermStart × List ℕ) WireFault
with_front front read = read >>= λ x. Ok (front ++ x.0, x.1)

regroup : (front : List TermStart) (s : TermStart) (read : Result (List TermStart × List ℕ) WireFault) → with_front front (read >>= λ x. Ok (s ∷ x.0, x.1)) ≡ with_front (front ++ s ∷ []) read
regroup front s (Ok x) = ap (λ (ss : List TermStart). Ok (ss, x.1)) (simp append_assoc)
regroup front s (Err f) = refl

pub goes_on : (front : List TermStart) (last : Option TermStart) (count i : ℕ) (bytes : List ℕ) (s : TermStart) (after : List ℕ) (total : Result (List TermStart × List ℕ) WireFault) → i < count → start_at last bytes ≡ Ok (s, after)
    → with_front front (starts_at last (count - i) bytes) ≡ total → with_front (front ++ s ∷ []) (starts_at (Some s) (count - (i + 1)) after) ≡ total
unfolding starts_at
goes_on front last count i bytes s after total lt h so_far =
    let k : count - i ≡ suc (count - (i + 1)) = omega arith in
    let one : with_front front (starts_at last (count - i) bytes) ≡ with_front (front ++ s ∷ []) (starts_at (Some s) (count - (i + 1)) after) = rw (k, h) (regroup front s (starts_at (Some s) (count - (i + 1)) after)) in
    sym one ∙ so_far

pub ends : (e : WireFault) (front : List TermStart) (last : Option TermStart) (count i : ℕ) (bytes : List ℕ) (total : Result (List TermStart × List ℕ) WireFault) → i < count → Fails e (start_at last bytes)
    → with_front front (starts_at last (count - i) bytes) ≡ total → Fails e total
unfolding starts_at
ends NoMemory front last count i bytes total lt h so_far = tt
ends f front last count i bytes total lt h so_far =
    let k : count - i ≡ suc (count - (i + 1)) = omega arith in
    let one : with_front front (starts_at last (count - i) bytes) ≡ Err f = rw (k, h) refl in
    sym so_far ∙ one

pub is_done : (front : List TermStart) (last : Option TermStart) (count i : ℕ) (bytes : List ℕ) (total : Result (List TermStart × List ℕ) WireFault) → count ≤ i → with_front front (starts_at last (count - i) bytes) ≡ total → total ≡ Ok (front, bytes)
unfolding starts_at
is_done front last count i bytes total le so_far =
    let k : count - i ≡ 0 = omega arith in
    let one : with_front front (starts_at last (count - i) bytes) ≡ Ok (front, bytes) = rw k (ap (λ (ss : List TermStart). Ok (ss, bytes)) (append-nil front)) in
    sym so_far ∙ one
