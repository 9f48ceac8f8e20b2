-- What a home of suspect rows does with a batch of them.
use Rattle.std.proofs.Common.{◌≡◌, ℕ, zero, suc, ◌+◌, List, [], ◌∷◌, length, take, refl, sym, ap, ◌∙◌, arith}
use Rattle.std.specs.List.{flat_map, AllByRecursion}
use Rattle.std.proofs.lemmas.List.{length-map}
use Rattle.std.proofs.lemmas.List.Sums.{sum_by-cons}
use Rattle.ag_rules.specs.Plan.{Write, Block_write, Master_write, Note_write, Repaired_write, Page_write, Batch, batch_written}
use Rattle.ag_rules.specs.Cut.{page_named, step_of, steps_of, batch_partly_written, steps_kept}
use Rattle.ag_writes.specs.declared.order.Order.{Order}
use Rattle.ag_writes.specs.declared.writes.Write.{Write as WriteData}
use Rattle.ag_writes.specs.Writes.{write_of, batch_of}
use Rattle.ag_writes.specs.Performing.{Through, StoppedIn, passed, stopped_in}
use Rattle.ag_writes_t.specs.declared.home.Ended.TheVariants.{No}
use Rattle.ag_writes_t.specs.RowHomes.{standing, reached_by, progress_by, IsRow, IsRowData}

-- each row is a step write
pub rows_steps : (ws : Batch) → AllByRecursion IsRow ws → length ws ≡ steps_of ws
rows_steps [] h = refl
rows_steps (Note_write page kind ∷ ws) h = let rest = rows_steps ws h.1 in omega (arith, rest, sum_by-cons step_of (Note_write page kind) ws)
rows_steps (Repaired_write page ∷ ws) h = let rest = rows_steps ws h.1 in omega (arith, rest, sum_by-cons step_of (Repaired_write page) ws)
rows_steps (Block_write new ∷ ws) h = absurd (cc h.0)
rows_steps (Master_write m e ∷ ws) h = absurd (cc h.0)
rows_steps (Page_write p ∷ ws) h = absurd (cc h.0)

-- no row names a page that is written
rows_named : (ws : Batch) → AllByRecursion IsRow ws → [] ≡ flat_map page_named ws
rows_named [] h = refl
rows_named (Note_write page kind ∷ ws) h = rows_named ws h.1
rows_named (Repaired_write page ∷ ws) h = rows_named ws h.1
rows_named (Block_write new ∷ ws) h = absurd (cc h.0)
rows_named (Master_write m e ∷ ws) h = absurd (cc h.0)
rows_named (Page_write p ∷ ws) h = absurd (cc h.0)

-- the first of some rows
pub first_rows : (ws : List WriteData) (n : ℕ) → AllByRecursion IsRow (batch_of ws) → AllByRecursion IsRow (batch_of (take n ws))
first_rows [] zero h = tt
first_rows [] (suc n) h = tt
first_rows (w ∷ ws) zero h = tt
first_rows (w ∷ ws) (suc n) h = (h.0, first_rows ws n h.1)

first_batch : (ws : List WriteData) (n : ℕ) → batch_of (take n ws) ≡ take n (batch_of ws)
first_batch [] zero = refl
first_batch [] (suc n) = refl
first_batch (w ∷ ws) zero = refl
first_batch (w ∷ ws) (suc n) = ap (λ (b : List Write). write_of w ∷ b) (first_batch ws n)

-- the rows as data
pub data_rows : (ws : List WriteData) → AllByRecursion IsRow (batch_of ws) → AllByRecursion IsRowData ws
data_rows [] h = tt
data_rows (w ∷ ws) h = (h.0, data_rows ws h.1)

-- all rows are written
pub pass_same : (order old : Order) (rows new : List WriteData) (steps writes : ℕ) (b : List WriteData) → AllByRecursion IsRow (batch_of b) → standing new ≡ batch_written (standing rows) (batch_of b)
    → reached_by No order new (steps + length b) (writes + length b) ≡ Through (passed order (progress_by old rows steps writes) (batch_of b))
pass_same order old rows new steps writes b h is =
    let l : length b ≡ length (batch_of b) = sym (length-map b write_of) in
    let s : length b ≡ steps_of (batch_of b) = l ∙ rows_steps (batch_of b) h in
    let n = rows_named (batch_of b) h in
    λ i. Through (record { order = order; kept = is i; steps = steps + s i; writes = writes + l i; named = n i })

-- the event is stopped
pub stop_same : (old : Order) (rows new : List WriteData) (steps writes w mask kept : ℕ) (b : List WriteData) → AllByRecursion IsRow (batch_of b) → standing new ≡ batch_partly_written mask 0 (standing rows) (batch_of (take (w + 1) b)) → kept ≡ steps_kept mask 0 (batch_of (take (w + 1) b))
    → StoppedIn (writes + (w + 1)) (steps + kept) [] (standing new) ≡ stopped_in w mask (progress_by old rows steps writes) (batch_of b)
stop_same old rows new steps writes w mask kept b h is count =
    let first = first_batch b (w + 1) in
    let none : [] ≡ flat_map page_named (take (w + 1) (batch_of b)) = rows_named (batch_of (take (w + 1) b)) (first_rows b (w + 1) h) ∙ ap (flat_map page_named) first in
    let disk : standing new ≡ batch_partly_written mask 0 (standing rows) (take (w + 1) (batch_of b)) = is ∙ ap (batch_partly_written mask 0 (standing rows)) first in
    let steps_are : kept ≡ steps_kept mask 0 (take (w + 1) (batch_of b)) = count ∙ ap (steps_kept mask 0) first in
    λ i. StoppedIn (writes + (w + 1)) (steps + steps_are i) (none i) (disk i)
