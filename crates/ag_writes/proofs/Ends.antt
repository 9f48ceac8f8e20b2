-- What performing batches leaves is what the cut of a plan says.
use Rattle.std.proofs.Common.{◌≡◌, ◌⊎◌, ℕ, ◌+◌, ◌-◌, ◌<◌, ◌≤◌, List, [], ◌∷◌, ◌++◌, length, take, Bool, true, false, if◌then◌else◌, refl, sym, ap, ◌∙◌, inl, inr, arith}
use Rattle.std.specs.Prelude.{nat_lt}
use Rattle.std.specs.List.{flat_map, sum_by}
use Rattle.std.proofs.lemmas.Bool.{ltb-true, ltb-false, le-ltb}
use Rattle.std.proofs.lemmas.List.{take-append-le, append_assoc, length-append}
use Rattle.std.proofs.lemmas.Grind.{flat_map-append}
use Rattle.std.proofs.lemmas.List.Sums.{sum_by-cons}
use Rattle.std.proofs.Math.Seq.{take-append-add}
use Rattle.ag_model.specs.declared.event.Suffix.{Suffix}
use Rattle.ag_model.specs.declared.event.Suffix.TheVariants.{Whole, Stop, Fail}
use Rattle.ag_rules.specs.Replica.{Kept}
use Rattle.ag_rules.specs.Plan.{Plan, Batch, Write, batch_written, all_written}
use Rattle.ag_rules.specs.Cut.{cut, page_named, steps_kept, steps_of, batch_partly_written, stopped_disk, stopped_steps, failed_disk, failed_steps, all_writes, stopped, disk_before}
use Rattle.ag_writes.specs.declared.order.Order.{Order}
use Rattle.ag_writes.specs.declared.order.Order.TheVariants.{Free, StopAt, FailAt}
use Rattle.ag_writes.specs.Homes.{answer_with, reach_of}
use Rattle.ag_writes.specs.Performing.{Progress, Reached, Through, StoppedIn, FailedAfter, passed, by_order, after_batches, with_reached, performed, disk_of, stopped_in}

decide : (b : Bool) → (b ≡ true) ⊎ (b ≡ false)
decide true = inl refl
decide false = inr refl

-- nothing is written after an end
pub stopped_stays : (write steps : ℕ) (named : List ℕ) (k : Kept) (bs : List Batch) → after_batches (StoppedIn write steps named k) bs ≡ StoppedIn write steps named k
stopped_stays write steps named k [] = refl
stopped_stays write steps named k (b ∷ bs) = stopped_stays write steps named k bs

pub failed_stays : (steps : ℕ) (k : Kept) (bs : List Batch) → after_batches (FailedAfter steps k) bs ≡ FailedAfter steps k
failed_stays steps k [] = refl
failed_stays steps k (b ∷ bs) = failed_stays steps k bs

-- the pages named up to a write after a batch
named_after : (named : List ℕ) (b rest : List Write) (w : ℕ) → length b ≤ w → (named ++ flat_map page_named b) ++ flat_map page_named (take (w - length b + 1) rest) ≡ named ++ flat_map page_named (take (w + 1) (b ++ rest))
named_after named b rest w h =
    let m = w - length b + 1 in
    let count : w + 1 ≡ length b + m = omega (arith, h) in
    let whole : take (w + 1) (b ++ rest) ≡ b ++ take m rest = ap (λ n. take n (b ++ rest)) count ∙ take-append-add b rest m in
    append_assoc named (flat_map page_named b) (flat_map page_named (take m rest))
    ∙ ap (λ ps. named ++ ps) (sym (flat_map-append page_named b (take m rest)) ∙ ap (flat_map page_named) (sym whole))

-- the write that is stopped comes
pub stops : (mask w : ℕ) (k : Kept) (s n : ℕ) (named : List ℕ) (bs : List Batch) → w < length (all_writes bs) → after_batches (Through (record { order = StopAt w mask; kept = k; steps = s; writes = n; named = named })) bs ≡ StoppedIn (n + (w + 1)) (s + stopped_steps mask w bs) (named ++ flat_map page_named (take (w + 1) (all_writes bs))) (stopped_disk mask w k bs)
stops mask w k s n named [] h = absurd (omega (arith, h))
stops mask w k s n named (b ∷ bs) h =
    let rest = all_writes bs in
    elim (decide (nat_lt w (length b))) [
      | inl e ↦
          let within : w < length b = ltb-true w (length b) e in
          rw e (stopped_stays _ _ _ _ bs ∙ ap (λ ws. StoppedIn (n + (w + 1)) (s + steps_kept mask 0 (take (w + 1) b)) (named ++ flat_map page_named ws) (batch_partly_written mask 0 k (take (w + 1) b))) (sym (take-append-le (w + 1) b rest (omega (arith, within)))))
      | inr e ↦
          let after : length b ≤ w = ltb-false w (length b) e in
          let left : w - length b < length rest = omega (arith, after, h, length-append b rest) in
          let count : n + length b + (w - length b + 1) ≡ n + (w + 1) = omega (arith, after) in
          let steps : s + steps_of b + stopped_steps mask (w - length b) bs ≡ s + (steps_of b + stopped_steps mask (w - length b) bs) = omega arith in
          let names = named_after named b rest w after in
          let next = stops mask (w - length b) (batch_written k b) (s + steps_of b) (n + length b) (named ++ flat_map page_named b) bs left in
          rw e (next
          ∙ ap (λ x. StoppedIn x (s + steps_of b + stopped_steps mask (w - length b) bs) ((named ++ flat_map page_named b) ++ flat_map page_named (take (w - length b + 1) rest)) (stopped_disk mask (w - length b) (batch_written k b) bs)) count
          ∙ ap (λ x. StoppedIn (n + (w + 1)) x ((named ++ flat_map page_named b) ++ flat_map page_named (take (w - length b + 1) rest)) (stopped_disk mask (w - length b) (batch_written k b) bs)) steps
          ∙ ap (λ x. StoppedIn (n + (w + 1)) (s + (steps_of b + stopped_steps mask (w - length b) bs)) x (stopped_disk mask (w - length b) (batch_written k b) bs)) names)
    ]

-- the call that fails comes
pub fails : (c : ℕ) (k : Kept) (s n : ℕ) (named : List ℕ) (bs : List Batch) → c < sum_by (λ (b : Batch). length b + 1) bs → after_batches (Through (record { order = FailAt c; kept = k; steps = s; writes = n; named = named })) bs ≡ FailedAfter (s + failed_steps c bs) (failed_disk c k bs)
fails c k s n named [] h = absurd (omega (arith, h))
fails c k s n named (b ∷ bs) h =
    elim (decide (nat_lt c (length b + 1))) [
      | inl e ↦ rw e (failed_stays s k bs ∙ ap (λ x. FailedAfter x k) (omega arith))
      | inr e ↦
          let after : length b + 1 ≤ c = ltb-false c (length b + 1) e in
          let left : c - (length b + 1) < sum_by (λ (b : Batch). length b + 1) bs = omega (arith, after, h, sum_by-cons (λ (b : Batch). length b + 1) b bs) in
          let next = fails (c - (length b + 1)) (batch_written k b) (s + steps_of b) (n + length b) (named ++ flat_map page_named b) bs left in
          rw e (next ∙ ap (λ x. FailedAfter x (failed_disk (c - (length b + 1)) (batch_written k b) bs)) (omega arith))
    ]

-- all went through
abbrev pub IsThrough : Reached → Type 0
IsThrough r = (done : Progress) × (r ≡ Through done)

pub free_passes : (k : Kept) (s n : ℕ) (named : List ℕ) (bs : List Batch) → IsThrough (after_batches (Through (record { order = Free; kept = k; steps = s; writes = n; named = named })) bs)
free_passes k s n named [] = (_, refl)
free_passes k s n named (b ∷ bs) = free_passes (batch_written k b) (s + steps_of b) (n + length b) (named ++ flat_map page_named b) bs

pub stop_passes : (mask w : ℕ) (k : Kept) (s n : ℕ) (named : List ℕ) (bs : List Batch) → length (all_writes bs) ≤ w → IsThrough (after_batches (Through (record { order = StopAt w mask; kept = k; steps = s; writes = n; named = named })) bs)
stop_passes mask w k s n named [] h = (_, refl)
stop_passes mask w k s n named (b ∷ bs) h =
    let both = length-append b (all_writes bs) in
    let after : length b ≤ w = omega (arith, h, both) in
    let left : length (all_writes bs) ≤ w - length b = omega (arith, h, both) in
    rw (le-ltb w (length b) after) (stop_passes mask (w - length b) (batch_written k b) (s + steps_of b) (n + length b) (named ++ flat_map page_named b) bs left)

pub fail_passes : (c : ℕ) (k : Kept) (s n : ℕ) (named : List ℕ) (bs : List Batch) → sum_by (λ (b : Batch). length b + 1) bs ≤ c → IsThrough (after_batches (Through (record { order = FailAt c; kept = k; steps = s; writes = n; named = named })) bs)
fail_passes c k s n named [] h = (_, refl)
fail_passes c k s n named (b ∷ bs) h =
    let both = sum_by-cons (λ (b : Batch). length b + 1) b bs in
    let after : length b + 1 ≤ c = omega (arith, h, both) in
    let left : sum_by (λ (b : Batch). length b + 1) bs ≤ c - (length b + 1) = omega (arith, h, both) in
    rw (le-ltb c (length b + 1) after) (fail_passes (c - (length b + 1)) (batch_written k b) (s + steps_of b) (n + length b) (named ++ flat_map page_named b) bs left)

-- a plan of which all went through is as it was
whole_plan : (p : Plan) (r : Reached) → IsThrough r → p ≡ with_reached p r
whole_plan p r (done, is) = ap (with_reached p) (sym is)

-- what a plan is answered once this came of its writes
pub answer_is : (p : Plan) (r : Reached) → (with_reached p r).answer ≡ answer_with p.answer p.writer (reach_of p.before.config.pages r)
answer_is p (Through done) = refl
answer_is p (StoppedIn write steps named k) = refl
answer_is p (FailedAfter steps k) = refl

-- what performing all batches leaves is the cut
pub cut_is_performed : (suffix : Suffix) (p : Plan) → cut suffix p ≡ with_reached p (performed suffix p)
cut_is_performed Whole p = whole_plan p (performed Whole p) (free_passes (disk_before p) 0 0 [] p.writes)
cut_is_performed (Stop w mask) p =
    let k = disk_before p in
    elim (decide (nat_lt (w - 1) (length (all_writes p.writes)))) [
      | inl e ↦
          let is = stops mask (w - 1) k 0 0 [] p.writes (ltb-true (w - 1) (length (all_writes p.writes)) e) in
          rw e (stop_same p mask (w - 1) (performed (Stop w mask) p) is)
      | inr e ↦ rw e (whole_plan p (performed (Stop w mask) p) (stop_passes mask (w - 1) k 0 0 [] p.writes (ltb-false (w - 1) (length (all_writes p.writes)) e)))
    ]
  where
    stop_same : (p : Plan) (mask w : ℕ) (r : Reached) → r ≡ StoppedIn (0 + (w + 1)) (0 + stopped_steps mask w p.writes) ([] ++ flat_map page_named (take (w + 1) (all_writes p.writes))) (stopped_disk mask w (disk_before p) p.writes) → stopped w mask p (stopped_disk mask w (disk_before p) p.writes) ≡ with_reached p r
    stop_same p mask w r is =
        let place : w + 1 ≡ 0 + (w + 1) = omega arith in
        let steps : stopped_steps mask w p.writes ≡ 0 + stopped_steps mask w p.writes = omega arith in
        let k = stopped_disk mask w (disk_before p) p.writes in
        let named = flat_map page_named (take (w + 1) (all_writes p.writes)) in
        ap (λ x. with_reached p (StoppedIn x (stopped_steps mask w p.writes) named k)) place
        ∙ ap (λ x. with_reached p (StoppedIn (0 + (w + 1)) x named k)) steps
        ∙ ap (with_reached p) (sym is)
cut_is_performed (Fail c) p =
    let k = disk_before p in
    elim (decide (nat_lt (c - 1) (sum_by (λ (b : Batch). length b + 1) p.writes))) [
      | inl e ↦
          let is = fails (c - 1) k 0 0 [] p.writes (ltb-true (c - 1) _ e) in
          rw e (ap (λ x. with_reached p (FailedAfter x (failed_disk (c - 1) k p.writes))) (omega arith) ∙ ap (with_reached p) (sym is))
      | inr e ↦ rw e (whole_plan p (performed (Fail c) p) (fail_passes (c - 1) k 0 0 [] p.writes (ltb-false (c - 1) _ e)))
    ]

if_has : {A : Type 0} (P : A → Type 0) (b : Bool) (x y : A) → P x → P y → P (if b then x else y)
if_has P true x y t f = t
if_has P false x y t f = f

-- where some batches go through after one that did, this one is on the disk below them
one_through : (order : Order) (p done : Progress) (b : Batch) (bs : List Batch) → ((q : Progress) → after_batches (Through q) bs ≡ Through done → done.kept ≡ all_written q.kept bs) → after_batches (by_order order p b) bs ≡ Through done → done.kept ≡ all_written (batch_written p.kept b) bs
one_through Free p done b bs rest = rest (passed Free p b)
one_through (StopAt w mask) p done b bs rest =
    if_has (λ r. after_batches r bs ≡ Through done → done.kept ≡ all_written (batch_written p.kept b) bs) (nat_lt w (length b)) (stopped_in w mask p b) _
    (λ e. let stays : after_batches (stopped_in w mask p b) bs ≡ stopped_in w mask p b = stopped_stays _ _ _ _ bs in absurd (cc (stays, e)))
    (rest (passed (StopAt (w - length b) mask) p b))
one_through (FailAt c) p done b bs rest =
    if_has (λ r. after_batches r bs ≡ Through done → done.kept ≡ all_written (batch_written p.kept b) bs) (nat_lt c (length b + 1)) (FailedAfter p.steps p.kept) _
    (λ e. let stays = failed_stays p.steps p.kept bs in absurd (cc (stays, e)))
    (rest (passed (FailAt (c - (length b + 1))) p b))

-- of batches that went through all is on the disk
pub all_through : (p : Progress) (bs : List Batch) (done : Progress) → after_batches (Through p) bs ≡ Through done → done.kept ≡ all_written p.kept bs
all_through p [] done e = sym (ap disk_of e)
all_through p (b ∷ bs) done e = one_through p.order p done b bs (λ q. all_through q bs done) e
