-- A home of kept data, which is given batches of writes.
use Rattle.std.specs.Prelude.{◌≡◌, ℕ, ◌<◌, List, [], length, take, get_or, Bool, true, false, IsTrue}
use Rattle.ag_model.specs.declared.answer.Answer.{Answer}
use Rattle.ag_model.specs.declared.answer.Answer.TheVariants.{Stopped, DeviceFailed}
use Rattle.ag_rules.specs.Plan.{Batch}
use Rattle.ag_rules.specs.Cut.{torn_pages}
use Rattle.ag_writes.specs.declared.reach.Reach.{Reach}
use Rattle.ag_writes.specs.declared.reach.Reach.TheVariants.{End, Stop, Fault}
use Rattle.ag_writes.specs.Performing.{Reached, Through, StoppedIn, FailedAfter, after_batches}

-- how far some writes came, as data
abbrev pub reach_of : ℕ → Reached → Reach
reach_of pages (Through done) = End
reach_of pages (StoppedIn write steps named k) = Stop write steps (torn_pages pages k named)
reach_of pages (FailedAfter steps k) = Fault steps

-- whether an event goes on
abbrev pub goes_on : Reached → Bool
goes_on (Through done) = true
goes_on (StoppedIn write steps named k) = false
goes_on (FailedAfter steps k) = false

-- what an event is answered whose writes came so far
abbrev pub answer_with : Answer → ℕ → Reach → Answer
answer_with whole node End = whole
answer_with whole node (Stop write step torn) = Stopped write step torn
answer_with whole node (Fault step) = DeviceFailed node step

-- each batch can be written, where the batches before it went through and the rest of the home is as it was
abbrev pub CanPerform : {H : Type 0} → (H → Reached) → (H → Batch → Type 0) → (H → H → Type 0) → H → List Batch → Type 0
CanPerform reached can_write same home batches =
    (i : ℕ) (h : _) → i < length batches → same home h → reached h ≡ after_batches (reached home) (take i batches) → IsTrue (goes_on (reached h)) → can_write h (get_or batches i [])
