-- Batches of suspect rows that are performed one after the other.
use Rattle.std.proofs.Common.{◌≡◌, ℕ, zero, suc, ◌+◌, ◌<◌, ◌^◌, List, [], ◌∷◌, length, take, drop, get_or, true, false, refl, sym, subst, arith}
use Rattle.std.specs.Prelude.{Bool, ◌&&◌, nat_lt, IsTrue}
use Rattle.std.specs.List.{sum_by, list_all, AllByRecursion}
use Rattle.std.proofs.lemmas.List.Sums.{sum_by-cons, sum_by-take-drop, sum_by-take-le}
use Rattle.ag_lists.proofs.Each.{all_take}
use Rattle.ag_lists.proofs.Tests.{if_has}
use Rattle.ag_model.specs.declared.event.Suffix.{Suffix}
use Rattle.ag_rules.specs.Replica.{Kept}
use Rattle.ag_rules.specs.Plan.{Batch}
use Rattle.ag_writes.specs.declared.order.Order.{Order}
use Rattle.ag_writes.specs.declared.order.Order.TheVariants.{Free, StopAt, FailAt}
use Rattle.ag_writes.specs.Performing.{Progress, Reached, Through, StoppedIn, FailedAfter, begun, nearer, passed, stopped_in, by_order, after_batch, after_batches}
use Rattle.ag_writes.specs.Homes.{CanPerform}
use Rattle.ag_writes.proofs.Performs.{can_by}
use Rattle.ag_writes_t.specs.declared.home.RowHome.{RowHome}
use Rattle.ag_writes_t.specs.RowHomes.{is_row, IsRow, are_rows, reached_by, CanTake}
use Rattle.ag_writes_t.proofs.RowHomes.{rows_steps}

abbrev pub AllRows : List Batch → Type 0
AllRows batches = AllByRecursion (AllByRecursion IsRow) batches

-- where so many more rows can be written
abbrev pub RoomFor : Reached → ℕ → Type 0
RoomFor (Through p) count = (p.steps + count < 2 ^ 32) × (p.writes + count < 2 ^ 32)
RoomFor (StoppedIn write steps named k) count = Unit {0}
RoomFor (FailedAfter steps k) count = Unit {0}

both : (a b : Bool) → IsTrue (a && b) → IsTrue a × IsTrue b
both true b e = (refl, e)
both false b e = absurd (cc e)

batch_rows : (ws : Batch) → IsTrue (list_all is_row ws) → AllByRecursion IsRow ws
batch_rows [] h = tt
batch_rows (w ∷ ws) h =
    let p = both (is_row w) (list_all is_row ws) h in
    (p.0, batch_rows ws p.1)

-- the test of rows as a fact
pub all_rows : (bs : List Batch) → IsTrue (are_rows bs) → AllRows bs
all_rows [] h = tt
all_rows (b ∷ bs) h =
    let p = both (list_all is_row b) (are_rows bs) h in
    (batch_rows b p.0, all_rows bs p.1)

room_passed : (o : Order) (p : Progress) (b : Batch) (n : ℕ) → AllByRecursion IsRow b → RoomFor (Through p) (length b + n) → RoomFor (Through (passed o p b)) n
room_passed o p b n rows room = let s = rows_steps b rows in (omega (arith, s, room.0), omega (arith, room.1))

room_by : (o : Order) (p : Progress) (b : Batch) (n : ℕ) → AllByRecursion IsRow b → RoomFor (Through p) (length b + n) → RoomFor (by_order o p b) n
room_by Free p b n rows room = room_passed Free p b n rows room
room_by (StopAt w mask) p b n rows room = if_has (λ r. RoomFor r n) (nat_lt w (length b)) (stopped_in w mask p b) (Through (passed (nearer (length b) (StopAt w mask)) p b)) (λ e. tt) (λ e. room_passed (nearer (length b) (StopAt w mask)) p b n rows room)
room_by (FailAt c) p b n rows room = if_has (λ r. RoomFor r n) (nat_lt c (length b + 1)) (FailedAfter p.steps p.kept) (Through (passed (nearer (length b) (FailAt c)) p b)) (λ e. tt) (λ e. room_passed (nearer (length b) (FailAt c)) p b n rows room)

-- a batch leaves room for those after it
room_after : (r : Reached) (b : Batch) (n : ℕ) → AllByRecursion IsRow b → RoomFor r (length b + n) → RoomFor (after_batch r b) n
room_after (Through p) b n rows room = room_by p.order p b n rows room
room_after (StoppedIn write steps named k) b n rows room = tt
room_after (FailedAfter steps k) b n rows room = tt

-- batches leave room for those after them
pub room_left : (r : Reached) (bs : List Batch) (n : ℕ) → AllRows bs → RoomFor r (sum_by length bs + n) → RoomFor (after_batches r bs) n
room_left r [] n rows room = let none : 0 + n ≡ n = omega arith in subst (λ (x : ℕ). RoomFor r x) none room
room_left r (b ∷ bs) n rows room =
    let more : sum_by length (b ∷ bs) + n ≡ length b + (sum_by length bs + n) = omega (arith, sum_by-cons length b bs) in
    room_left (after_batch r b) bs n rows.1 (room_after r b (sum_by length bs + n) rows.0 (subst (RoomFor r) more room))

can_first : (r : Reached) (b : Batch) (n : ℕ) → AllByRecursion IsRow b → RoomFor r (length b + n) → CanTake r b
can_first (Through p) b n rows room = (rows, omega (arith, room.0), omega (arith, room.1))
can_first (StoppedIn write steps named k) b n rows room = tt
can_first (FailedAfter steps k) b n rows room = tt

-- each batch can be written after those before it
can_each : (r : Reached) (bs : List Batch) → AllRows bs → RoomFor r (sum_by length bs) → (i : ℕ) → i < length bs → CanTake (after_batches r (take i bs)) (get_or bs i [])
can_each r [] rows room i within = absurd (omega (arith, within))
can_each r (b ∷ bs) rows room zero within = can_first r b (sum_by length bs) rows.0 (subst (RoomFor r) (sum_by-cons length b bs) room)
can_each r (b ∷ bs) rows room (suc i) within =
    can_each (after_batch r b) bs rows.1 (room_after r b (sum_by length bs) rows.0 (subst (RoomFor r) (sum_by-cons length b bs) room)) i (omega (arith, within))

-- what came of the event that a home is in
abbrev pub came : RowHome → Reached
came home = reached_by home.ended home.order home.rows home.steps home.writes

-- rows for which there is room can be performed
pub can_rows : (home : RowHome) (bs : List Batch) → AllRows bs → RoomFor (came home) (sum_by length bs) → CanPerform came (λ h b. CanTake (came h) b) (λ a b. Unit {0}) home bs
can_rows home bs rows room = can_by came (λ h b. CanTake (came h) b) (λ a b. Unit {0}) home bs CanTake (λ h b s can. can) (can_each (came home) bs rows room)

-- an event that begins has room for many
pub room_begun : (r : Reached) (suffix : Suffix) (k : Kept) (n : ℕ) → r ≡ begun suffix k → n < 1000 → RoomFor r n
room_begun r suffix k n is few = subst (λ x. RoomFor x n) (sym is) (omega (arith, few), omega (arith, few))

-- the room for the batches after the first so many
pub room_for_rest : (r : Reached) (bs : List Batch) (i : ℕ) → AllRows bs → RoomFor r (sum_by length bs) → RoomFor (after_batches r (take i bs)) (sum_by length (drop i bs))
room_for_rest r bs i rows room =
    room_left r (take i bs) (sum_by length (drop i bs)) (all_take (AllByRecursion IsRow) i bs rows) (subst (RoomFor r) (sym (sum_by-take-drop length bs i)) room)

-- the room for the first so many batches
pub room_for_first : (r : Reached) (bs : List Batch) (i : ℕ) → RoomFor r (sum_by length bs) → RoomFor r (sum_by length (take i bs))
room_for_first (Through p) bs i room = let le = sum_by-take-le length bs i in (omega (arith, le, room.0), omega (arith, le, room.1))
room_for_first (StoppedIn write steps named k) bs i room = tt
room_for_first (FailedAfter steps k) bs i room = tt
