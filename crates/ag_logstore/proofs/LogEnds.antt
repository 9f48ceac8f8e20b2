-- The block ends of a log in memory, and the sectors of its blocks.
use Rattle.std.proofs.Common.{◌≡◌, ◌≢◌, ℕ, zero, suc, ◌+◌, ◌-◌, ◌<◌, ◌≤◌, List, [], ◌∷◌, ◌++◌, length, get_or, drop, inl, inr, ◌⊎◌, refl, sym, ◌∙◌, subst, arith, eqb-true, add_assoc, zero-add, le-ltb, lt-ltb}
use Rattle.std.proofs.lemmas.Bool.{ltb-true}
use Rattle.std.specs.Prelude.{nat_lt, IfSome, Option, Some, None, Ok, Err, if◌then◌else◌, ◌==◌}
use Rattle.std.specs.List.{HoldsAt}
use Rattle.std.specs.Option.{MatchOption}
use Rattle.std.specs.Borrow.{Bor}
use Rattle.std.proofs.lemmas.Option.{same_Some}
use Rattle.std.specs.List.Sorted.{IsBinarySearchResult}
use Rattle.std.specs.Ordering.{nat_cmp}
use Rattle.std.proofs.lemmas.List.{take-append-le, drop-append-le, length-drop}
use Rattle.std.proofs.Math.Seq.{take-length}
use Rattle.ag_model.specs.declared.record.Record.{Record}
use Rattle.ag_model.specs.Blocks.{end_of_block, next_end}
use Rattle.ag_model.specs.Proper.{RisesFrom}
use Rattle.ag_model.specs.Sizes.{block_sectors, sectors_to}
use Rattle.ag_lists.proofs.Tests.{by_bool, chosen}
use Rattle.ag_ends.proofs.Places.{in_order, strictly, found, missed}
use Rattle.ag_logstore.specs.LogKept.{RisesTo}

-- one more block
pub rises_push : (low high top : ℕ) (es : List ℕ) → RisesTo low high es → high < top → RisesTo low top (es ++ top ∷ [])
rises_push low high top [] p h = (omega (arith, p), refl)
rises_push low high top (e ∷ es) p h = (p.0, rises_push e high top es p.1 h)

-- ends that rise to an LSN rise
pub rises_from : (low high : ℕ) (es : List ℕ) → RisesTo low high es → RisesFrom low es
rises_from low high [] p = tt
rises_from low high (e ∷ es) p = (p.0, rises_from e high es p.1)

pub rises_le : (low high : ℕ) (es : List ℕ) → RisesTo low high es → low ≤ high
rises_le low high [] p = omega (arith, p)
rises_le low high (e ∷ es) p = omega (arith, p.0, rises_le e high es p.1)

-- one more block adds its sectors
pub sectors_push : (low high : ℕ) (es : List ℕ) (rs new : List Record) → RisesTo low high es → high ≡ low + length rs
    → sectors_to low (es ++ (high + length new) ∷ []) (rs ++ new) ≡ sectors_to low es rs + block_sectors new
sectors_push low high [] [] new p h =
    let n : (high + length new) - low ≡ length new = omega (arith, p) in
    rw n (rw (take-length, zero-add) (omega arith))
sectors_push low high [] (r ∷ rs) new p h = absurd (omega (arith, p, h))
sectors_push low high (e ∷ es) rs new p h =
    let within : e - low ≤ length rs = omega (arith, h, p.0, rises_le e high es p.1) in
    let rest : high ≡ e + length (drop (e - low) rs) = omega (arith, h, p.0, rises_le e high es p.1, length-drop (e - low) rs) in
    rw (take-append-le (e - low) rs new within, drop-append-le (e - low) rs new within, sectors_push e high es (drop (e - low) rs) new p.1 rest)
    (sym (add_assoc _ _ _))

-- where a block that is found starts and ends
pub block_bounds : (low high first : ℕ) (es : List ℕ) (last : ℕ) → RisesTo low high es → end_of_block low first es ≡ Some last → (1 ≤ first) × (first ≤ last) × (last ≤ high)
block_bounds low high first [] last p h = absurd cc
block_bounds low high first (e ∷ es) last p h =
    elim (chosen (first == low + 1) (Some e) (end_of_block e first es) (Some last) h) [
      | inl q ↦ (let at : first ≡ low + 1 = eqb-true first (low + 1) q.0 in let is : e ≡ last = same_Some e last q.1 in
          (omega (arith, at), omega (arith, at, is, p.0), omega (arith, is, rises_le e high es p.1)))
      | inr q ↦ block_bounds e high first es last p.1 q.1
    ]

pub bounded : (found : Option ℕ) (low high first : ℕ) (es : List ℕ) → RisesTo low high es → found ≡ end_of_block low first es → IfSome found (λ last. (1 ≤ first) × (first ≤ last) × (last ≤ high))
bounded None low high first es p h = tt
bounded (Some last) low high first es p h = block_bounds low high first es last p (sym h)

-- the first end after an LSN, where those before it aren't above
next_at : (lsn i : ℕ) (es : List ℕ) → i < length es → ((k : ℕ) → k < i → get_or es k 0 ≤ lsn) → lsn < get_or es i 0 → next_end lsn es ≡ get_or es i 0
next_at lsn i [] h low high = absurd (omega (arith, h))
next_at lsn zero (e ∷ es) h low high = rw (lt-ltb lsn e high) refl
next_at lsn (suc i) (e ∷ es) h low high = rw (le-ltb lsn e (low 0 (omega arith))) (next_at lsn i es (omega (arith, h)) (λ k l. low (suc k) (omega (arith, l))) high)

-- no end is above it
next_none : (lsn : ℕ) (es : List ℕ) → ((k : ℕ) → k < length es → get_or es k 0 ≤ lsn) → next_end lsn es ≡ lsn
next_none lsn [] low = refl
next_none lsn (e ∷ es) low = rw (le-ltb lsn e (low 0 (omega arith))) (next_none lsn es (λ k l. low (suc k) (omega (arith, l))))

-- the place of the first end above an LSN, as a search tells it
abbrev pub IsAfter : ℕ → List ℕ → ℕ → Type 0
IsAfter lsn es i = ((k : ℕ) → k < i → k < length es → get_or es k 0 ≤ lsn) × ((k : ℕ) → i ≤ k → k < length es → lsn < get_or es k 0)

pub after_found : (es : List ℕ) (lsn place : ℕ) → RisesFrom 0 es → IsBinarySearchResult (λ y. nat_cmp y lsn) es (Ok place) → IsAfter lsn es (place + 1)
after_found es lsn place p s =
    let f = found 0 lsn place es p s in
    ((λ k l h. omega (arith, in_order 0 k place es p (omega (arith, l)) f.0, f.1)), (λ k l h. omega (arith, strictly 0 place k es p (omega (arith, l)) h, f.1)))

pub after_missed : (es : List ℕ) (lsn place : ℕ) → RisesFrom 0 es → IsBinarySearchResult (λ y. nat_cmp y lsn) es (Err place) → IsAfter lsn es place
after_missed es lsn place p s =
    let f = missed 0 lsn place es p s in
    ((λ k l h. omega (arith, f.1 k l)), (λ k l h. f.2 k l h))

pub end_there : (es : List ℕ) (lsn place end : ℕ) → IsAfter lsn es place → place < length es → get_or es place 0 ≡ end → end ≡ next_end lsn es
end_there es lsn place end a h is = sym is ∙ sym (next_at lsn place es h (λ k l. a.0 k l (omega (arith, l, h))) (a.1 place (omega arith) h))

pub end_nowhere : (es : List ℕ) (lsn place : ℕ) → IsAfter lsn es place → length es ≤ place → lsn ≡ next_end lsn es
end_nowhere es lsn place a h = sym (next_none lsn es (λ k l. a.0 k (omega (arith, l, h)) l))

-- the next end isn't before the LSN, and not past the last
pub next_least : (lsn : ℕ) (es : List ℕ) → lsn ≤ next_end lsn es
next_least lsn [] = omega arith
next_least lsn (e ∷ es) = by_bool (nat_lt lsn e) (λ v. lsn ≤ (if v then e else next_end lsn es)) (λ t. omega (arith, ltb-true lsn e t)) (λ _. next_least lsn es)

pub next_within : (low high lsn : ℕ) (es : List ℕ) → RisesTo low high es → lsn ≤ high → next_end lsn es ≤ high
next_within low high lsn [] p h = h
next_within low high lsn (e ∷ es) p h = by_bool (nat_lt lsn e) (λ v. (if v then e else next_end lsn es) ≤ high) (λ _. rises_le e high es p.1) (λ _. next_within e high lsn es p.1 h)

-- what a look at that place finds
pub end_some : (es : List ℕ) (lsn place : ℕ) (r : Option (Bor ℕ)) (x : Bor ℕ) → IsAfter lsn es place → MatchOption r (length es ≤ place) (λ y. (place < length es) × HoldsAt (λ z. y.now ≡ z) es place) → r ≡ Some x → x.now ≡ next_end lsn es
end_some es lsn place r x a h is =
    let t = subst (λ (o : Option (Bor ℕ)). MatchOption o (length es ≤ place) (λ y. (place < length es) × HoldsAt (λ z. y.now ≡ z) es place)) is h in
    end_there es lsn place x.now a t.0 (sym (t.1 0))

pub end_none : (es : List ℕ) (lsn place : ℕ) (r : Option (Bor ℕ)) → IsAfter lsn es place → MatchOption r (length es ≤ place) (λ y. (place < length es) × HoldsAt (λ z. y.now ≡ z) es place) → r ≡ None → lsn ≡ next_end lsn es
end_none es lsn place r a h is =
    end_nowhere es lsn place a (subst (λ (o : Option (Bor ℕ)). MatchOption o (length es ≤ place) (λ y. (place < length es) × HoldsAt (λ z. y.now ≡ z) es place)) is h)
