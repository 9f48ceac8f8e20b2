-- The value of a page before a record of a log: its versions are of records below that one.
use Rattle.std.proofs.Common.{ℕ, ◌+◌, ◌-◌, ◌<◌, ◌≤◌, Bool, true, false, not, cond, eqb, List, [], ◌∷◌, length, take, sym, subst, arith}
use Rattle.std.specs.List.{AllByRecursion, list_any, enumerate_from}
use Rattle.ag_lists.proofs.Each.{all_map, all_flat_map}
use Rattle.ag_lists.proofs.Filters.{all_filter}
use Rattle.ag_model.specs.declared.value.Change.{Change}
use Rattle.ag_model.specs.declared.value.Change.TheVariants.{Put as PutChange, Del as DelChange}
use Rattle.ag_model.specs.declared.value.Version.{Version}
use Rattle.ag_model.specs.declared.value.PageValue.{PageValue}
use Rattle.ag_model.specs.declared.record.Record.{Record}
use Rattle.ag_model.specs.declared.record.Record.TheVariants.{Put, Del, Commit, Abort, Trim, Term}
use Rattle.ag_model.specs.Rows.{page_of}
use Rattle.ag_model.specs.Page.{numbered, commit_of, is_abort_of, is_trimmed_at, version_of, version_here, version_by, all_versions, horizons, value}
use Rattle.ag_version.specs.Steps.{IsDue}
use Rattle.ag_version.proofs.Prefixes.{length-before}
use Rattle.ag_inplace.specs.Spelled.{AreBelow}

-- the numbers of records are below the next one
numbers-below : (k n : ℕ) (log : List Record) → k + length log ≤ n → AllByRecursion (λ (r : ℕ × Record). r.0 < n) (enumerate_from k log)
numbers-below k n [] le = tt
numbers-below k n (r ∷ rs) le = (omega arith, numbers-below (k + 1) n rs (omega arith))

-- a version of a record has its LSN
version-below : (n lsn txn key : ℕ) (log : List Record) (change : Change) → lsn < n → AreBelow n (version_of log lsn txn key change)
version-below n lsn txn key log change lt = by (list_any (is_abort_of txn) log)
  where
    by : (b : Bool) → AreBelow n (cond b [] (record { lsn = lsn; txn = txn; commit = commit_of txn (numbered log); key = key; change = change } ∷ []))
    by true = tt
    by false = (lt, tt)

on-page : (n : ℕ) (b : Bool) (ws : List Version) → AreBelow n ws → AreBelow n (cond b ws [])
on-page n true ws h = h
on-page n false ws h = tt

here-below : (n pages page : ℕ) (log : List Record) (lsn : ℕ) (r : Record) → lsn < n → AreBelow n (version_here pages page log lsn r)
here-below n pages page log lsn (Put txn key value) lt = on-page n (eqb page (page_of pages key)) (version_of log lsn txn key (PutChange value)) (version-below n lsn txn key log (PutChange value) lt)
here-below n pages page log lsn (Del txn key) lt = on-page n (eqb page (page_of pages key)) (version_of log lsn txn key DelChange) (version-below n lsn txn key log DelChange lt)
here-below n pages page log lsn (Commit txn listed) lt = tt
here-below n pages page log lsn (Abort txn listed) lt = tt
here-below n pages page log lsn (Trim trimmed horizon) lt = tt
here-below n pages page log lsn (Term term) lt = tt

all-below : (n pages page : ℕ) (log : List Record) → 1 + length log ≤ n → AreBelow n (all_versions pages page log)
all-below n pages page log le =
    all_flat_map (λ (w : Version). w.lsn < n) (version_by pages page log) (numbered log)
    (all_map (λ (r : ℕ × Record). r.0 < n) (λ (r : ℕ × Record). AreBelow n (version_by pages page log r)) (λ r lt. here-below n pages page log r.0 r.1 lt) (numbered log) (numbers-below 1 n log le))

value-below : (n pages page k : ℕ) (log : List Record) → 1 + length (take k log) ≤ n → AreBelow n (value pages log k page).versions
unfolding value
value-below n pages page k log le =
    all_filter (λ (w : Version). w.lsn < n) (λ (w : Version). not (list_any (is_trimmed_at (all_versions pages page (take k log)) w) (horizons page (take k log)))) (all_versions pages page (take k log)) (all-below n pages page (take k log) le)

pub due-below : (pages n : ℕ) (log : List Record) (r : Record) (v : PageValue) → IsDue pages log n r v → AreBelow n v.versions
due-below pages n log r v due =
    let is = length-before log n r due.here in
    subst (λ (x : PageValue). AreBelow n x.versions) (sym due.before) (value-below n pages v.page (n - 1) log (omega arith))
