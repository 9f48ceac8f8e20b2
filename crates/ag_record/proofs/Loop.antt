-- Reading pages one after the other, as a loop does.
use Rattle.std.proofs.Common.{◌≡◌, ℕ, suc, ◌-◌, ◌+◌, ◌≤◌, ◌<◌, true, false, ltb, List, [], ◌∷◌, ◌++◌, Result, Ok, Err, refl, sym, ap, ◌∙◌, append_assoc, arith}
use Rattle.std.specs.Int.{w16}
use Rattle.std.proofs.lemmas.List.{append-nil}
use Rattle.ag_record.specs.declared.fault.RecordFault.{RecordFault}
use Rattle.ag_record.specs.declared.fault.RecordFault.TheVariants.{Short, BadPage, BadOrder, NoMemory}
use Rattle.ag_record.specs.Steps.{◌>>=◌, number_at}
use Rattle.ag_record.specs.Reading.{Fails, is_page, pages_at}

-- the pages that were read before, and those that are still read
abbrev pub with_front : List ℕ → Result (List ℕ × List ℕ) RecordFault → Result (List ℕ × List ℕ) RecordFault
with_front front read = read >>= λ x. Ok (front ++ x.0, x.1)

regroup : (front : List ℕ) (page : ℕ) (read : Result (List ℕ × List ℕ) RecordFault) → with_front front (read >>= λ x. Ok (page ∷ x.0, x.1)) ≡ with_front (front ++ page ∷ []) read
regroup front page (Ok x) = ap (λ (ps : List ℕ). Ok (ps, x.1)) (simp append_assoc)
regroup front page (Err f) = refl

pub goes_on : (front : List ℕ) (low count i : ℕ) (bytes : List ℕ) (page : ℕ) (after : List ℕ) (total : Result (List ℕ × List ℕ) RecordFault) → i < count → number_at Short w16 bytes ≡ Ok (page, after) → is_page page ≡ true → ltb low page ≡ true
    → with_front front (pages_at low (count - i) bytes) ≡ total → with_front (front ++ page ∷ []) (pages_at page (count - (i + 1)) after) ≡ total
unfolding pages_at
goes_on front low count i bytes page after total lt h is above so_far =
    let k : count - i ≡ suc (count - (i + 1)) = omega arith in
    let one : with_front front (pages_at low (count - i) bytes) ≡ with_front (front ++ page ∷ []) (pages_at page (count - (i + 1)) after) = rw (k, h, is, above) (regroup front page (pages_at page (count - (i + 1)) after)) in
    sym one ∙ so_far

pub ends : (e : RecordFault) (front : List ℕ) (low count i : ℕ) (bytes : List ℕ) (total : Result (List ℕ × List ℕ) RecordFault) → i < count → number_at Short w16 bytes ≡ Err e
    → with_front front (pages_at low (count - i) bytes) ≡ total → Fails e total
unfolding pages_at
ends NoMemory front low count i bytes total lt h so_far = tt
ends f front low count i bytes total lt h so_far =
    let k : count - i ≡ suc (count - (i + 1)) = omega arith in
    let one : with_front front (pages_at low (count - i) bytes) ≡ Err f = rw (k, h) refl in
    sym so_far ∙ one

pub ends_page : (front : List ℕ) (low count i : ℕ) (bytes : List ℕ) (page : ℕ) (after : List ℕ) (total : Result (List ℕ × List ℕ) RecordFault) → i < count → number_at Short w16 bytes ≡ Ok (page, after) → is_page page ≡ false
    → with_front front (pages_at low (count - i) bytes) ≡ total → total ≡ Err BadPage
unfolding pages_at
ends_page front low count i bytes page after total lt h is so_far =
    let k : count - i ≡ suc (count - (i + 1)) = omega arith in
    let one : with_front front (pages_at low (count - i) bytes) ≡ Err BadPage = rw (k, h, is) refl in
    sym so_far ∙ one

pub ends_order : (front : List ℕ) (low count i : ℕ) (bytes : List ℕ) (page : ℕ) (after : List ℕ) (total : Result (List ℕ × List ℕ) RecordFault) → i < count → number_at Short w16 bytes ≡ Ok (page, after) → is_page page ≡ true → ltb low page ≡ false
    → with_front front (pages_at low (count - i) bytes) ≡ total → total ≡ Err BadOrder
unfolding pages_at
ends_order front low count i bytes page after total lt h is above so_far =
    let k : count - i ≡ suc (count - (i + 1)) = omega arith in
    let one : with_front front (pages_at low (count - i) bytes) ≡ Err BadOrder = rw (k, h, is, above) refl in
    sym so_far ∙ one

pub is_done : (front : List ℕ) (low count i : ℕ) (bytes : List ℕ) (total : Result (List ℕ × List ℕ) RecordFault) → count ≤ i → with_front front (pages_at low (count - i) bytes) ≡ total → total ≡ Ok (front, bytes)
unfolding pages_at
is_done front low count i bytes total le so_far =
    let k : count - i ≡ 0 = omega arith in
    let one : with_front front (pages_at low (count - i) bytes) ≡ Ok (front, bytes) = rw k (ap (λ (ps : List ℕ). Ok (ps, bytes)) (append-nil front)) in
    sym so_far ∙ one
