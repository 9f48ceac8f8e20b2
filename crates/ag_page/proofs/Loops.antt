-- The loops that read versions and test that LSNs rise.
use Rattle.std.proofs.Common.{◌≡◌, ℕ, suc, ◌-◌, ◌+◌, ◌≤◌, ◌<◌, List, [], ◌∷◌, ◌++◌, Result, Ok, Err, refl, sym, ap, ◌∙◌, append_assoc, arith}
use Rattle.std.proofs.lemmas.List.{append-nil}
use Rattle.ag_model.specs.declared.value.Version.{Version}
use Rattle.ag_page.specs.declared.fault.PageFault.{PageFault}
use Rattle.ag_page.specs.declared.fault.PageFault.TheVariants.{NotPage, NoMemory}
use Rattle.ag_page.specs.Reading.{◌>>=◌, Fails, version_at, versions_at}

-- the versions that were read before, and those that are still read
abbrev pub with_front : List Version → Result (List Version × List ℕ) PageFault → Result (List Version × List ℕ) PageFault
with_front front read = read >>= λ x. Ok (front ++ x.0, x.1)

regroup : (front : List Version) (w : Version) (read : Result (List Version × List ℕ) PageFault) → with_front front (read >>= λ x. Ok (w ∷ x.0, x.1)) ≡ with_front (front ++ w ∷ []) read
regroup front w (Ok x) = ap (λ (ws : List Version). Ok (ws, x.1)) (simp append_assoc)
regroup front w (Err f) = refl

pub goes_on : (front : List Version) (count i : ℕ) (bytes : List ℕ) (w : Version) (after : List ℕ) (total : Result (List Version × List ℕ) PageFault) → i < count → version_at bytes ≡ Ok (w, after)
    → with_front front (versions_at (count - i) bytes) ≡ total → with_front (front ++ w ∷ []) (versions_at (count - (i + 1)) after) ≡ total
unfolding versions_at
goes_on front count i bytes w after total lt h so_far =
    let k : count - i ≡ suc (count - (i + 1)) = omega arith in
    let one : with_front front (versions_at (count - i) bytes) ≡ with_front (front ++ w ∷ []) (versions_at (count - (i + 1)) after) = rw (k, h) (regroup front w (versions_at (count - (i + 1)) after)) in
    sym one ∙ so_far

pub ends : (e : PageFault) (front : List Version) (count i : ℕ) (bytes : List ℕ) (total : Result (List Version × List ℕ) PageFault) → i < count → Fails e (version_at bytes)
    → with_front front (versions_at (count - i) bytes) ≡ total → Fails e total
unfolding versions_at
ends NoMemory front count i bytes total lt h so_far = tt
ends NotPage front count i bytes total lt h so_far =
    let k : count - i ≡ suc (count - (i + 1)) = omega arith in
    let one : with_front front (versions_at (count - i) bytes) ≡ Err NotPage = rw (k, h) refl in
    sym so_far ∙ one

pub is_done : (front : List Version) (count i : ℕ) (bytes : List ℕ) (total : Result (List Version × List ℕ) PageFault) → count ≤ i → with_front front (versions_at (count - i) bytes) ≡ total → total ≡ Ok (front, bytes)
unfolding versions_at
is_done front count i bytes total le so_far =
    let k : count - i ≡ 0 = omega arith in
    let one : with_front front (versions_at (count - i) bytes) ≡ Ok (front, bytes) = rw k (ap (λ (ws : List Version). Ok (ws, bytes)) (append-nil front)) in
    sym so_far ∙ one
