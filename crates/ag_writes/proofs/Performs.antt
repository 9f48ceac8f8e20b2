-- A batch at which an event ends.
use Rattle.std.proofs.Common.{◌≡◌, ℕ, zero, suc, ◌<◌, List, [], ◌∷◌, length, take, get_or, false, refl, sym, ap, ◌∙◌, subst, arith}
use Rattle.ag_writes.specs.declared.reach.Reach.TheVariants.{End}
use Rattle.ag_rules.specs.Plan.{Batch}
use Rattle.ag_writes.specs.Performing.{Reached, Through, StoppedIn, FailedAfter, after_batch, after_batches}
use Rattle.ag_writes.specs.Homes.{reach_of, goes_on, CanPerform}
use Rattle.ag_writes.proofs.Ends.{stopped_stays, failed_stays}

-- nothing is written after an end
end_stays : (r : Reached) (bs : List Batch) → goes_on r ≡ false → after_batches r bs ≡ r
end_stays (Through p) bs e = absurd (cc e)
end_stays (StoppedIn write steps named k) bs e = stopped_stays write steps named k bs
end_stays (FailedAfter steps k) bs e = failed_stays steps k bs

-- an event that isn't at the end of its writes doesn't go on
pub not_end : (pages : ℕ) (r : Reached) → ¬ (reach_of pages r ≡ End) → goes_on r ≡ false
not_end pages (Through p) nope = absurd (nope refl)
not_end pages (StoppedIn write steps named k) nope = refl
not_end pages (FailedAfter steps k) nope = refl

-- where batch i ends the event, that is what comes of all
ends_at : (bs : List Batch) (i : ℕ) (first : Reached) → i < length bs → goes_on (after_batch (after_batches first (take i bs)) (get_or bs i [])) ≡ false → after_batches first bs ≡ after_batch (after_batches first (take i bs)) (get_or bs i [])
ends_at [] i first h e = absurd (omega (arith, h))
ends_at (b ∷ bs) zero first h e = end_stays (after_batch first b) bs e
ends_at (b ∷ bs) (suc i) first h e = ends_at bs i (after_batch first b) (omega (arith, h)) e

-- the same, by what came of that batch
pub ended_at : (bs : List Batch) (i : ℕ) (first last : Reached) → i < length bs → last ≡ after_batch (after_batches first (take i bs)) (get_or bs i []) → goes_on last ≡ false → last ≡ after_batches first bs
ended_at bs i first last h is over = is ∙ sym (ends_at bs i first h (ap goes_on (sym is) ∙ over))

-- batches can be performed where each can be written by what the ones before it left
pub can_by : {H : Type 0} (reached : H → Reached) (can_write : H → Batch → Type 0) (same : H → H → Type 0) (home : H) (batches : List Batch) (Can : Reached → Batch → Type 0)
    → ((h : H) (b : Batch) → same home h → Can (reached h) b → can_write h b) → ((i : ℕ) → i < length batches → Can (after_batches (reached home) (take i batches)) (get_or batches i []))
    → CanPerform reached can_write same home batches
can_by reached can_write same home batches Can write can i h within kept is on =
    write h (get_or batches i []) kept (subst (λ r. Can r (get_or batches i [])) (sym is) (can i within))
