-- What a batch that went through, or in which the order was reached, leaves.
use Rattle.std.proofs.Common.{◌≡◌, ℕ, ◌+◌, ◌-◌, ◌<◌, List, [], ◌++◌, length, take, Bool, IsTrue, refl, sym, ap, ◌∙◌, subst, arith}
use Rattle.ag_outside.specs.declared.order.Why.{Why}
use Rattle.ag_outside.specs.declared.order.Why.TheVariants.{Nothing, Stopped as StoppedSo, Device, Inner}
use Rattle.ag_outside.specs.Counts.{HasRisen}
use Rattle.ag_outside.specs.Calls.{Piece, TakesAll, FailsOnTheWay}
use Rattle.ag_outside.specs.Disks.{Content, Image, put_all}
use Rattle.ag_outside.specs.Scripts.{ScriptedView, kept}
use Rattle.ag_outside.specs.Shown.{reads_of, synced_of, did_of}
use Rattle.ag_outside.proofs.Quiet.{synced_is}
use Rattle.ag_pieces.specs.Pieces.{order_left, IsAhead, sectors_in, further_by, IsSettled, BatchEnds, BatchPasses, StopsIn, FailsIn}
use Rattle.ag_pieces.proofs.Orders.{order_passes, order_stops, order_fails}
use Rattle.ag_pieces.proofs.Broken.{batch_broke}
use Rattle.ag_pieces.proofs.Passed.{batch_passed}
use Rattle.ag_rules.specs.Replica.{Kept}
use Rattle.ag_rules.specs.Plan.{Batch, batch_written}
use Rattle.ag_writes.specs.declared.order.Order.{Order}
use Rattle.ag_writes.specs.declared.order.Order.TheVariants.{Free, StopAt, FailAt}
use Rattle.ag_writes.specs.Performing.{Reached, StoppedIn, FailedAfter, nearer, pages_named, after_batch}
use Rattle.ag_keeping.specs.Keeping.{kept_on, IsKeeping}
use Rattle.ag_keeping.specs.Meaning.{Says, Mean}
use Rattle.ag_durable.specs.declared.progress.Came.{Came}
use Rattle.ag_durable.specs.declared.progress.Came.TheVariants.{Underway, Stopped, Failed, Unknown}
use Rattle.ag_durable.specs.declared.progress.Progress.{Progress}
use Rattle.ag_durable.specs.Views.{came_so}
use Rattle.ag_durable.specs.Coming.{passed, broken_by, WasOrdered}
use Rattle.ag_rules.specs.Cut.{batch_partly_written, steps_kept}
use Rattle.ag_durable.proofs.Touched.{WasOrWrote, part_wrote, none_wrote}

-- the event is at its end
abbrev pub HoldsOnly : Came → Type 0
HoldsOnly Underway = ⊥
HoldsOnly Stopped = Unit {0}
HoldsOnly Failed = Unit {0}
HoldsOnly Unknown = ⊥

-- the place of a stop
abbrev place_of : Order → ℕ
place_of Free = 0
place_of (StopAt w mask) = w
place_of (FailAt c) = 0

-- a stop that is ordered lies within so many writes
abbrev pub IsWithin : Order → ℕ → Type 0
IsWithin o n = (v mask : ℕ) → o ≡ StopAt v mask → v < n

-- a stop is no fail
abbrev IsStop : Order → Type 0
IsStop Free = ⊥
IsStop (StopAt w mask) = Unit {0}
IsStop (FailAt c) = ⊥

other_order : (v mask c : ℕ) → StopAt v mask ≡ FailAt c → ⊥
other_order v mask c e = subst IsStop e tt

-- an order that is nearer, and then as far off again
near_again : (n : ℕ) (o : Order) → nearer n (further_by n o) ≡ o
near_again n Free = refl
near_again n (StopAt w mask) = ap (λ (m : ℕ). StopAt m mask) (let e : w + n - n ≡ w = omega arith in e)
near_again n (FailAt c) = ap FailAt (let e : c + (n + 1) - (n + 1) ≡ c = omega arith in e)

module _ {D : Type 0} (keeps : D → Bool) (reads : D → Image) (may_hold : D → ℕ → Content → Type 0) (faults : D → ℕ) (pages replica : ℕ) (old new : ScriptedView D) (ps : List Piece) (b : Batch) (p : Progress)
    (under : p.came ≡ Underway) (modelled : IsTrue (keeps old.disk)) (none : old.unsynced ≡ []) (means : Mean pages replica (reads_of reads old) ps b)
    (ahead : IsAhead old.order old.writes old.calls) (ordered : p.order ≡ order_left old.order old.writes old.calls) (at_first : IsKeeping pages replica (reads_of reads old)) where
  abbrev was : Kept
  was = kept_on pages (reads_of reads old)

  before : came_so p.came p was ≡ came_so Underway p was
  before = ap (λ (c : Came). came_so c p was) under

  -- all was taken
  module _ (took : TakesAll (did_of keeps reads may_hold faults) old ps new) (now : reads_of reads new ≡ put_all (reads_of reads old) (sectors_in ps)) where
    went : BatchPasses keeps faults old (length ps) new
    went = batch_passed keeps reads may_hold faults old new ps ahead took

    pub through_settled : IsSettled keeps old new
    through_settled = went.settled

    pub through_ahead : IsAhead new.order new.writes new.calls
    through_ahead = went.ahead

    left_is : p.order ≡ further_by (length b) (order_left new.order new.writes new.calls)
    left_is = ordered ∙ went.left ∙ ap (λ (n : ℕ). further_by n (order_left new.order new.writes new.calls)) means.count

    pub through_ordered : (passed p b).order ≡ order_left new.order new.writes new.calls
    through_ordered = ap (nearer (length b)) left_is ∙ near_again (length b) (order_left new.order new.writes new.calls)

    pub through_says : Says pages replica (reads_of reads new) (batch_written was b)
    through_says = subst (λ (i : Image). Says pages replica i (batch_written was b)) (sym now) means.whole

    pub through_reached : came_so (passed p b).came (passed p b) (kept_on pages (reads_of reads new)) ≡ after_batch (came_so p.came p was) b
    through_reached =
        ap (λ (c : Came). came_so c (passed p b) (kept_on pages (reads_of reads new))) under
        ∙ ap (came_so Underway (passed p b)) through_says.kept
        ∙ ap (λ (o : Order). came_so Underway (record (passed p b) { order = o }) (batch_written was b)) through_ordered
        ∙ sym (order_passes p.order (order_left new.order new.writes new.calls) (record { order = p.order; kept = was; steps = p.steps; writes = p.writes; named = p.named }) b left_is)
        ∙ sym (ap (λ (r : Reached). after_batch r b) before)

  -- the order was reached
  module _ (broke : FailsOnTheWay (did_of keeps reads may_hold faults) old ps new) where
    -- what holds then, where the progress is this
    pub record Broke (q : Progress) : Type 0 where
      pub settled : IsSettled keeps old new
      pub keeping : IsKeeping pages replica (reads_of reads new)
      pub reached : came_so q.came q (kept_on pages (reads_of reads new)) ≡ after_batch (came_so p.came p was) b
      pub rests : HoldsOnly q.came
      pub wrote : WasOrWrote (reads_of reads old) ps (reads_of reads new)

    old_is : synced_of reads old ≡ reads_of reads old
    old_is = sym (synced_is keeps reads may_hold faults old none)

    stopped : StopsIn keeps reads old [] ps new → Broke (broken_by p.order p b)
    stopped s =
        let w = s.0 in
        let mask = s.1 in
        let left : p.order ≡ StopAt w mask = ordered ∙ s.2 in
        let within : w < length b = omega (arith, s.3, means.count) in
        let now : reads_of reads new ≡ put_all (reads_of reads old) (kept mask 0 (sectors_in (take (w + 1) ps))) =
        s.5 modelled ∙ ap (λ (i : Image). put_all i (kept mask 0 (sectors_in (take (w + 1) ps)))) old_is in
        let said = means.stopped w mask s.3 in
        let says : Says pages replica (reads_of reads new) (batch_partly_written mask 0 was (take (w + 1) b)) = subst (λ (i : Image). Says pages replica i (batch_partly_written mask 0 was (take (w + 1) b))) (sym now) said in
        subst (λ (o : Order). Broke (broken_by o p b)) (sym left) (record {
          settled = s.4;
          keeping = says.keeping;
          reached = ap (StoppedIn (p.writes + (w + 1)) (p.steps + steps_kept mask 0 (take (w + 1) b)) (p.named ++ pages_named (take (w + 1) b))) says.kept
              ∙ sym (order_stops p.order w mask (record { order = p.order; kept = was; steps = p.steps; writes = p.writes; named = p.named }) b left within)
              ∙ sym (ap (λ (r : Reached). after_batch r b) before);
          rests = tt;
          wrote = part_wrote (reads_of reads old) (reads_of reads new) ps mask (w + 1) now;
        })

    failed : FailsIn keeps reads old ps new → Broke (broken_by p.order p b)
    failed f =
        let c = f.0 in
        let left : p.order ≡ FailAt c = ordered ∙ f.1 in
        let within : c < length b + 1 = omega (arith, f.2, means.count) in
        let now : reads_of reads new ≡ reads_of reads old = f.4 modelled ∙ old_is in
        subst (λ (o : Order). Broke (broken_by o p b)) (sym left) (record {
          settled = f.3;
          keeping = subst (IsKeeping pages replica) (sym now) at_first;
          reached = ap (λ (i : Image). FailedAfter p.steps (kept_on pages i)) now
              ∙ sym (order_fails p.order c (record { order = p.order; kept = was; steps = p.steps; writes = p.writes; named = p.named }) b left within)
              ∙ sym (ap (λ (r : Reached). after_batch r b) before);
          rests = tt;
          wrote = none_wrote (reads_of reads old) (reads_of reads new) ps now;
        })

    by_why : (why : Why) → BatchEnds keeps reads faults old ps new why → WasOrdered why → Broke (broken_by p.order p b)
    by_why Nothing e so = absurd so
    by_why (StoppedSo write count) e so = stopped e
    by_why Device e so = failed e
    by_why Inner e so = absurd so

    ends : BatchEnds keeps reads faults old ps new new.why
    ends = batch_broke keeps reads may_hold faults old new ps none ahead broke

    pub broken_so : WasOrdered new.why → Broke (broken_by p.order p b)
    broken_so so = by_why new.why ends so

    risen_by : (why : Why) → BatchEnds keeps reads faults old ps new why → (WasOrdered why → ⊥) → HasRisen (faults old.disk) (faults new.disk)
    risen_by Nothing e none = absurd e
    risen_by (StoppedSo write count) e none = absurd (none tt)
    risen_by Device e none = absurd (none tt)
    risen_by Inner e none = e

    pub risen : (WasOrdered new.why → ⊥) → HasRisen (faults old.disk) (faults new.disk)
    risen none = risen_by new.why ends none

    -- the stop lies within the batch
    within_by : (why : Why) → BatchEnds keeps reads faults old ps new why → WasOrdered why → IsWithin p.order (length b)
    within_by Nothing e so v mask is = absurd so
    within_by (StoppedSo write count) e so v mask is =
        let place : v ≡ e.0 = ap (λ (o : Order). place_of o) (sym is ∙ ordered ∙ e.2) in
        omega (arith, place, e.3, means.count)
    within_by Device e so v mask is = absurd (other_order v mask e.0 (sym is ∙ ordered ∙ e.1))
    within_by Inner e so v mask is = absurd so

    pub within_only : WasOrdered new.why → IsWithin p.order (length b)
    within_only so = within_by new.why ends so
