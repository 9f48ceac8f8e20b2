-- The buffer of a primary is never longer than a block.
use Rattle.std.proofs.Common.{ℕ, ◌-◌, ◌≤◌, List, ◌++◌, sym, subst, arith}
use Rattle.std.proofs.lemmas.List.Sums.{sum_by-append}
use Rattle.ag_model.specs.declared.record.Record.{Record}
use Rattle.ag_model.specs.Sizes.{record_size, records_size}
use Rattle.ag_law_proper.specs.Growth.{Lead, Steps, Same, Hardens, Opens, Changes, Closes, Ends, Sets, Trims}
use Rattle.ag_law_proper.specs.Law.{Law}

abbrev pub Buffered : Lead → Type 0
Buffered x = records_size x.buffer ≤ 15488

more_buffered : (a new : List Record) → records_size a ≤ 15488 → records_size new ≤ 15488 - records_size a → records_size (a ++ new) ≤ 15488
more_buffered a new h fits = omega (arith, h, fits, sum_by-append record_size a new)

step_buffered : (pages : ℕ) (a b : Lead) → Steps pages a b → Buffered a → Buffered b
step_buffered pages a b (Same e) p = subst Buffered (sym e) p
step_buffered pages a b (Hardens e) p = subst Buffered (sym e) (omega arith)
step_buffered pages a b (Opens snapshot e) p = subst Buffered (sym e) p
step_buffered pages a b (Changes txn key c is_open room fits e) p = subst Buffered (sym e) (more_buffered a.buffer _ p fits)
step_buffered pages a b (Closes txn none e) p = subst Buffered (sym e) p
step_buffered pages a b (Ends commits txn ps is_open is fits e) p = subst Buffered (sym e) (more_buffered a.buffer _ p fits)
step_buffered pages a b (Sets pairs room fits e) p = subst Buffered (sym e) (more_buffered a.buffer _ p fits)
step_buffered pages a b (Trims page horizon low fits e) p = subst Buffered (sym e) (more_buffered a.buffer _ p fits)

-- nothing is asked of hardened logs
abbrev pub AnyLog : List Record → Type 0
AnyLog log = Unit {0}

pub buffer_law : (pages : ℕ) → Law pages AnyLog Buffered
buffer_law pages = record {
  none = tt;
  shorter = λ a b p q. tt;
  log = λ x p. tt;
  first = omega arith;
  steps = step_buffered pages;
  takes = λ term log low p. omega arith;
}
