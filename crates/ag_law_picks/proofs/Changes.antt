-- The rows that a transaction's changes leave of one key, as the table has them and as the versions of its page do.
use Rattle.std.proofs.Common.{◌≡◌, ℕ, ◌+◌, Bool, true, false, ◌&&◌, cond, eqb, List, [], ◌∷◌, ◌++◌, map, refl, sym, ap, ◌∙◌, inl, inr, arith}
use Rattle.std.specs.List.{list_any, filter, fold, flat_map, enumerate_from}
use Rattle.std.proofs.lemmas.Bool.{cases_Bool, or_parts, eqb-true, eq-eqb, ne_eqb, eqb-false, and_right}
use Rattle.std.proofs.lemmas.Bool.Decides.{nat_tests}
use Rattle.std.proofs.lemmas.List.{map-append}
use Rattle.std.proofs.lemmas.List.Elements.{filter-append}
use Rattle.ag_model.specs.declared.value.Row.{Row}
use Rattle.ag_model.specs.declared.value.Row.TheVariants.{Found, Absent}
use Rattle.ag_model.specs.declared.value.Change.{Change}
use Rattle.ag_model.specs.declared.value.Change.TheVariants.{Put as PutChange, Del as DelChange}
use Rattle.ag_model.specs.declared.value.Version.{Version}
use Rattle.ag_model.specs.declared.record.Record.{Record}
use Rattle.ag_model.specs.declared.record.Record.TheVariants.{Put, Del, Commit, Abort, Trim, Term}
use Rattle.ag_model.specs.Rows.{KeyChange, Table, change_by, changed, contains, page_of}
use Rattle.ag_model.specs.Page.{numbered, commit_of, is_abort_of, version_of, version_here, version_by, row_of}
use Rattle.ag_model.specs.Txns.{txn_of}

-- the last of these rows, or this one
abbrev pub last_of : Row → List Row → Row
last_of row rows = fold (λ _ r. r) row rows

-- the row that a record leaves, where it is a Put or a Del of this key by the transaction
abbrev pub rows_by : ℕ → ℕ → Record → List Row
rows_by t key (Put u k v) = cond (eqb t u && eqb key k) (Found v ∷ []) []
rows_by t key (Del u k) = cond (eqb t u && eqb key k) (Absent ∷ []) []
rows_by t key _ = []

-- ---- in the table

pub fold_changed : (table : Table) (cs : List KeyChange) (key : ℕ) → fold changed table cs key ≡ last_of (table key) (map (λ c. c.row) (filter (λ c. eqb key c.key) cs))
fold_changed table [] key = refl
fold_changed table (c ∷ cs) key = fold_changed (changed table c) cs key ∙ by_case (eqb key c.key) refl
  where
    by_case : (b : Bool) → eqb key c.key ≡ b → last_of (cond (eqb key c.key) c.row (table key)) (map (λ d. d.row) (filter (λ d. eqb key d.key) cs)) ≡ last_of (table key) (map (λ d. d.row) (cond (eqb key c.key) (c ∷ filter (λ d. eqb key d.key) cs) (filter (λ d. eqb key d.key) cs)))
    by_case true e = rw e refl
    by_case false e = rw e refl

changes-one : (t key : ℕ) (r : Record) → map (λ c. c.row) (filter (λ c. eqb key c.key) (change_by t r)) ≡ rows_by t key r
changes-one t key (Put u k v) = by_case (eqb t u)
  where
    inner : (b : Bool) → eqb key k ≡ b → map (λ (c : KeyChange). c.row) (cond (eqb key k) (record { key = k; row = Found v } ∷ []) []) ≡ cond (eqb key k) (Found v ∷ []) []
    inner true e = rw e refl
    inner false e = rw e refl

    by_case : (b : Bool) → map (λ (c : KeyChange). c.row) (filter (λ (c : KeyChange). eqb key c.key) (cond b (record { key = k; row = Found v } ∷ []) [])) ≡ cond (b && eqb key k) (Found v ∷ []) []
    by_case true = inner (eqb key k) refl
    by_case false = refl
changes-one t key (Del u k) = by_case (eqb t u)
  where
    inner : (b : Bool) → eqb key k ≡ b → map (λ (c : KeyChange). c.row) (cond (eqb key k) (record { key = k; row = Absent } ∷ []) []) ≡ cond (eqb key k) (Absent ∷ []) []
    inner true e = rw e refl
    inner false e = rw e refl

    by_case : (b : Bool) → map (λ (c : KeyChange). c.row) (filter (λ (c : KeyChange). eqb key c.key) (cond b (record { key = k; row = Absent } ∷ []) [])) ≡ cond (b && eqb key k) (Absent ∷ []) []
    by_case true = inner (eqb key k) refl
    by_case false = refl
changes-one t key (Commit u listed) = refl
changes-one t key (Abort u listed) = refl
changes-one t key (Trim page horizon) = refl
changes-one t key (Term term) = refl

pub changes-rows : (t key : ℕ) (log : List Record) → map (λ c. c.row) (filter (λ c. eqb key c.key) (flat_map (change_by t) log)) ≡ flat_map (rows_by t key) log
changes-rows t key [] = refl
changes-rows t key (r ∷ log) =
    ap (map (λ (c : KeyChange). c.row)) (filter-append (λ (c : KeyChange). eqb key c.key) (change_by t r) (flat_map (change_by t) log))
    ∙ map-append (λ (c : KeyChange). c.row) (filter (λ c. eqb key c.key) (change_by t r)) (filter (λ c. eqb key c.key) (flat_map (change_by t) log))
    ∙ ap (λ (z : List Row). z ++ map (λ c. c.row) (filter (λ c. eqb key c.key) (flat_map (change_by t) log))) (changes-one t key r)
    ∙ ap (λ (z : List Row). rows_by t key r ++ z) (changes-rows t key log)

-- records of no transaction of this number leave no row
rows-none : (t key : ℕ) (r : Record) → contains t (txn_of r) ≡ false → rows_by t key r ≡ []
rows-none t key (Put u k v) e = (let p = or_parts (eqb t u) false e in let q = p.0 in rw q refl)
rows-none t key (Del u k) e = (let p = or_parts (eqb t u) false e in let q = p.0 in rw q refl)
rows-none t key (Commit u listed) e = refl
rows-none t key (Abort u listed) e = refl
rows-none t key (Trim page horizon) e = refl
rows-none t key (Term term) e = refl

pub rows-after : (t key : ℕ) (log : List Record) → list_any (λ r. contains t (txn_of r)) log ≡ false → flat_map (rows_by t key) log ≡ []
rows-after t key [] e = refl
rows-after t key (r ∷ log) e =
    let p = or_parts (contains t (txn_of r)) (list_any (λ r. contains t (txn_of r)) log) e in
    ap (λ (z : List Row). z ++ flat_map (rows_by t key) log) (rows-none t key r p.0) ∙ rows-after t key log p.1

pub change-none : (t : ℕ) (r : Record) → contains t (txn_of r) ≡ false → change_by t r ≡ []
change-none t (Put u k v) e = (let p = or_parts (eqb t u) false e in let q = p.0 in rw q refl)
change-none t (Del u k) e = (let p = or_parts (eqb t u) false e in let q = p.0 in rw q refl)
change-none t (Commit u listed) e = refl
change-none t (Abort u listed) e = refl
change-none t (Trim page horizon) e = refl
change-none t (Term term) e = refl

-- ---- on the page

-- whether a version is of the key and committed by the record of this LSN
abbrev pub is_new : ℕ → ℕ → Version → Bool
is_new key c w = eqb w.key key && eqb w.commit c

-- what holds of the transactions of a log: the record of this LSN commits one, and no other
pub record Commits (log : List Record) (t c : ℕ) : Type 0 where
  pub own : commit_of t (numbered log) ≡ c
  pub others : (u : ℕ) → eqb t u ≡ false → eqb (commit_of u (numbered log)) c ≡ false
  pub lives : list_any (is_abort_of t) log ≡ false

one-version : (log : List Record) (t c key : ℕ) → Commits log t c → (lsn u k : ℕ) (change : Change) → map (λ w. row_of w.change) (filter (is_new key c) (version_of log lsn u k change)) ≡ cond (eqb t u && eqb key k) (row_of change ∷ []) []
one-version log t c key h lsn u k change = elim (cases_Bool (eqb t u)) [
  | inl same ↦
      let is : t ≡ u = eqb-true t u same in
      let lives : list_any (is_abort_of u) log ≡ false = ap (λ (z : ℕ). list_any (is_abort_of z) log) (sym is) ∙ h.lives in
      let own : eqb (commit_of u (numbered log)) c ≡ true = eq-eqb (commit_of u (numbered log)) c (ap (λ (z : ℕ). commit_of z (numbered log)) (sym is) ∙ h.own) in
      let turned : eqb k key ≡ eqb key k = turn k key in
      rw (lives, same, turned, own) (by_key (eqb key k))
  | inr other ↦
      let not_own = h.others u other in
      rw (other) (by_gone (list_any (is_abort_of u) log) (record { lsn = lsn; txn = u; commit = commit_of u (numbered log); key = k; change = change }) not_own)
]
  where
    turn : (a b : ℕ) → eqb a b ≡ eqb b a
    turn a b = grind (arith, nat_tests)

    by_key : (b : Bool) → map (λ (w : Version). row_of w.change) (cond (b && true) (record { lsn = lsn; txn = u; commit = commit_of u (numbered log); key = k; change = change } ∷ []) []) ≡ cond b (row_of change ∷ []) []
    by_key true = refl
    by_key false = refl

    by_gone : (gone : Bool) (w : Version) → eqb w.commit c ≡ false → map (λ (w : Version). row_of w.change) (filter (is_new key c) (cond gone [] (w ∷ []))) ≡ []
    by_gone true w e = refl
    by_gone false w e = (let none : is_new key c w ≡ false = and_right (eqb w.key key) (eqb w.commit c) e in rw none refl)

-- only keys of the page count
on-page : (pages key t u k : ℕ) (row : Row) (xs : List Version) (c : ℕ) → map (λ w. row_of w.change) (filter (is_new key c) xs) ≡ cond (eqb t u && eqb key k) (row ∷ []) []
    → map (λ w. row_of w.change) (filter (is_new key c) (cond (eqb (page_of pages key) (page_of pages k)) xs [])) ≡ cond (eqb t u && eqb key k) (row ∷ []) []
on-page pages key t u k row xs c e = elim (cases_Bool (eqb (page_of pages key) (page_of pages k))) [
  | inl same ↦ rw same e
  | inr other ↦
      let ne : eqb key k ≡ false = ne_eqb key k (λ is. eqb-false (page_of pages key) (page_of pages k) other (ap (page_of pages) is)) in
      rw (other, ne) (none (eqb t u))
]
  where
    none : (a : Bool) → [] ≡ cond (a && false) (row ∷ []) []
    none true = refl
    none false = refl

here-rows : (pages key t c : ℕ) (log : List Record) → Commits log t c → (lsn : ℕ) (r : Record) → map (λ w. row_of w.change) (filter (is_new key c) (version_here pages (page_of pages key) log lsn r)) ≡ rows_by t key r
here-rows pages key t c log h lsn (Put u k v) = on-page pages key t u k (Found v) (version_of log lsn u k (PutChange v)) c (one-version log t c key h lsn u k (PutChange v))
here-rows pages key t c log h lsn (Del u k) = on-page pages key t u k Absent (version_of log lsn u k DelChange) c (one-version log t c key h lsn u k DelChange)
here-rows pages key t c log h lsn (Commit u listed) = refl
here-rows pages key t c log h lsn (Abort u listed) = refl
here-rows pages key t c log h lsn (Trim page horizon) = refl
here-rows pages key t c log h lsn (Term term) = refl

pub versions-rows : (pages key t c : ℕ) (log : List Record) → Commits log t c → (i : ℕ) (rs : List Record) → map (λ w. row_of w.change) (filter (is_new key c) (flat_map (version_by pages (page_of pages key) log) (enumerate_from i rs))) ≡ flat_map (rows_by t key) rs
versions-rows pages key t c log h i [] = refl
versions-rows pages key t c log h i (r ∷ rs) =
    let here = version_here pages (page_of pages key) log i r in
    let rest = flat_map (version_by pages (page_of pages key) log) (enumerate_from (i + 1) rs) in
    ap (map (λ (w : Version). row_of w.change)) (filter-append (is_new key c) here rest)
    ∙ map-append (λ (w : Version). row_of w.change) (filter (is_new key c) here) (filter (is_new key c) rest)
    ∙ ap (λ (z : List Row). z ++ map (λ w. row_of w.change) (filter (is_new key c) rest)) (here-rows pages key t c log h i r)
    ∙ ap (λ (z : List Row). rows_by t key r ++ z) (versions-rows pages key t c log h (i + 1) rs)
