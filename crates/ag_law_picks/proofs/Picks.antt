-- The pick, snapshot by snapshot, is the row, record by record.
use Rattle.std.proofs.Common.{◌≡◌, ℕ, zero, suc, ◌+◌, ◌-◌, ◌<◌, ◌≤◌, max, Bool, true, false, ◌&&◌, cond, eqb, List, [], ◌∷◌, ◌++◌, length, get_or, map, take, drop, refl, sym, ap, subst, ◌∙◌, inl, inr, arith, Some, slice_get, append_assoc}
use Rattle.std.specs.List.{AllByRecursion, list_any, filter, fold, flat_map, enumerate_from}
use Rattle.std.proofs.lemmas.Bool.{cases_Bool, or_cases, or_parts, false≢true, and_right}
use Rattle.std.proofs.lemmas.Bool.Decides.{nat_tests}
use Rattle.std.proofs.lemmas.List.{take-take, drop-take, take_more, take-append-drop, append-nil, length-take, get_or-take, get_or-drop, length-drop, map-append}
use Rattle.std.proofs.lemmas.List.Concat.{flat_map-append}
use Rattle.std.proofs.lemmas.List.Elements.{filter-append, recursion_from_All, All-from_recursion}
use Rattle.std.proofs.lemmas.List.Folds.{list_any-append, list_any_at}
use Rattle.std.proofs.lemmas.List.FromFn.{get_or-enumerate_from, length-enumerate_from}
use Rattle.std.proofs.lemmas.List.Sums.{fold_push, fold-append}
use Rattle.ag_lists.proofs.Filters.{all_filter, all_passed, filter_none}
use Rattle.ag_lists.proofs.Each.{all_map, all_both}
use Rattle.ag_model.specs.declared.value.Row.{Row}
use Rattle.ag_model.specs.declared.value.Row.TheVariants.{Absent}
use Rattle.ag_model.specs.declared.value.Version.{Version}
use Rattle.ag_model.specs.declared.record.Record.{Record}
use Rattle.ag_model.specs.declared.record.Record.TheVariants.{Put, Del, Commit, Abort, Trim, Term}
use Rattle.ag_model.specs.Rows.{KeyChange, Table, contains, change_by, committed_by, committed, changed, empty_table, rows, page_of}
use Rattle.ag_model.specs.Page.{numbered, commit_of, version_here, version_by, is_before, is_abort_of, horizons, all_versions, greatest, row_of, row_of_first, pick, value}
use Rattle.ag_model.specs.Proper.{IsRecordOf}
use Rattle.ag_model.specs.Txns.{txn_of}
use Rattle.ag_version.specs.Steps.{AreProper, IsAt}
use Rattle.ag_version.proofs.Lists.{filter-agree}
use Rattle.ag_version.proofs.Endings.{IsOpen}
use Rattle.ag_version.proofs.Versions.{versions-committed}
use Rattle.ag_version.proofs.Prefixes.{open-before, record-at}
use Rattle.ag_law_picks.proofs.Tops.{ComeBefore, NoneAfter, greatest-at, Rise, Rise-weaker, below-front, any_none}
use Rattle.ag_law_picks.proofs.Trims.{is_seen, trims-leave}
use Rattle.ag_law_picks.proofs.Changes.{last_of, rows_by, is_new, Commits, fold_changed, changes-rows, rows-after, change-none, versions-rows}
use Rattle.ag_law_picks.proofs.Commits.{IsOver, commits-within, nothing-new}

-- ---- one snapshot further on a page

-- the last of a list that passes
record LastOf (p : Version → Bool) (vs : List Version) : Type 0 where
  front : List Version
  last : Version
  rest : List Version
  parts : vs ≡ front ++ last ∷ rest
  passes : p last ≡ true
  none : list_any p rest ≡ false

last_split : (p : Version → Bool) (vs : List Version) → list_any p vs ≡ true → LastOf p vs
last_split p [] e = absurd (false≢true e)
last_split p (v ∷ vs) e = elim (cases_Bool (list_any p vs)) [
  | inl some ↦ (let t = last_split p vs some in record { front = v ∷ t.front; last = t.last; rest = t.rest; parts = ap (λ (z : List Version). v ∷ z) t.parts; passes = t.passes; none = t.none })
  | inr none ↦ record { front = []; last = v; rest = vs; parts = refl; passes = elim (or_cases (p v) (list_any p vs) e) [ inl own ↦ own | inr some ↦ absurd (false≢true (sym none ∙ some)) ]; none = none }
]

seen-same : (key n : ℕ) (w : Version) → is_new key (1 + n) w ≡ false → is_seen key (1 + n) w ≡ is_seen key n w
seen-same key n w e = grind (arith, nat_tests)

new-seen : (key n : ℕ) (w : Version) → is_new key (1 + n) w ≡ true → is_seen key (1 + n) w ≡ true
new-seen key n w e = grind (arith, nat_tests)

seen-before : (key n : ℕ) (g x : Version) → is_new key (1 + n) g ≡ true → is_seen key (1 + n) x ≡ true → x.lsn < g.lsn → is_before x g ≡ true
seen-before key n g x e f lt = grind (arith, nat_tests)

seen-not-after : (key n : ℕ) (g x : Version) → is_new key (1 + n) g ≡ true → is_seen key (1 + n) x ≡ true → is_new key (1 + n) x ≡ false → is_before g x ≡ false
seen-not-after key n g x e f h = grind (arith, nat_tests)

-- the row that a snapshot picks
abbrev pub picked : ℕ → ℕ → List Version → Row
picked key n all = row_of_first (greatest (filter (is_seen key n) all))

abbrev rows_of : List Version → List Row
rows_of vs = map (λ w. row_of w.change) vs

pub step_pick : (key n : ℕ) (all : List Version) → Rise 0 all → picked key (1 + n) all ≡ last_of (picked key n all) (map (λ w. row_of w.change) (filter (is_new key (1 + n)) all))
step_pick key n all rising = elim (cases_Bool (list_any (is_new key (1 + n)) all)) [
  | inr none ↦
      let each = any_none (is_new key (1 + n)) all none in
      let same : filter (is_seen key (1 + n)) all ≡ filter (is_seen key n) all = filter-agree (is_seen key (1 + n)) (is_seen key n) all (all_map (λ w. is_new key (1 + n) w ≡ false) (λ w. is_seen key (1 + n) w ≡ is_seen key n w) (λ w e. seen-same key n w e) all each) in
      let empty : filter (is_new key (1 + n)) all ≡ [] = filter_none (is_new key (1 + n)) all each in
      ap (λ (z : List Version). row_of_first (greatest z)) same ∙ ap (λ (z : List Version). last_of (picked key n all) (rows_of z)) (sym empty)
  | inl some ↦
      let t = last_split (is_new key (1 + n)) all some in
      let g = t.last in
      let p = is_seen key (1 + n) in
      let q = is_new key (1 + n) in
      let below = below-front 0 t.front g t.rest (subst (Rise 0) t.parts rising) in
      let fronts : ComeBefore g (filter p t.front) =
      all_map (λ x. (p x ≡ true) × (x.lsn < g.lsn)) (λ x. is_before x g ≡ true) (λ x h. seen-before key n g x t.passes h.0 h.1) (filter p t.front) (all_both (λ x. p x ≡ true) (λ x. x.lsn < g.lsn) (filter p t.front) (all_passed p t.front) (all_filter (λ x. x.lsn < g.lsn) p t.front below)) in
      let rests : NoneAfter g (filter p t.rest) =
      all_map (λ x. (p x ≡ true) × (q x ≡ false)) (λ x. is_before g x ≡ false) (λ x h. seen-not-after key n g x t.passes h.0 h.1) (filter p t.rest) (all_both (λ x. p x ≡ true) (λ x. q x ≡ false) (filter p t.rest) (all_passed p t.rest) (all_filter (λ x. q x ≡ false) p t.rest (any_none q t.rest t.none))) in
      let own : filter p (g ∷ t.rest) ≡ g ∷ filter p t.rest = (let e = new-seen key n g t.passes in rw e refl) in
      let left : filter p all ≡ filter p t.front ++ g ∷ filter p t.rest = ap (filter p) t.parts ∙ filter-append p t.front (g ∷ t.rest) ∙ ap (λ (z : List Version). filter p t.front ++ z) own in
      let top : picked key (1 + n) all ≡ row_of g.change = ap (λ (z : List Version). row_of_first (greatest z)) left ∙ ap row_of_first (greatest-at (filter p t.front) g (filter p t.rest) fronts rests) in
      let alone : filter q (g ∷ t.rest) ≡ g ∷ [] = (let e = t.passes in rw e (ap (λ (z : List Version). g ∷ z) (filter_none q t.rest (any_none q t.rest t.none)))) in
      let news : filter q all ≡ filter q t.front ++ g ∷ [] = ap (filter q) t.parts ∙ filter-append q t.front (g ∷ t.rest) ∙ ap (λ (z : List Version). filter q t.front ++ z) alone in
      let last : last_of (picked key n all) (rows_of (filter q all)) ≡ row_of g.change =
      ap (λ (z : List Version). last_of (picked key n all) (rows_of z)) news ∙ ap (last_of (picked key n all)) (map-append (λ (w : Version). row_of w.change) (filter q t.front) (g ∷ []))
      ∙ fold_push (λ (_ : Row) (r : Row). r) (picked key n all) (rows_of (filter q t.front)) (row_of g.change) in
      top ∙ sym last
]

-- the LSNs of a page's versions rise
rise-here : (pages page : ℕ) (log : List Record) (low k : ℕ) (r : Record) (rest : List Version) → low < k → Rise k rest → Rise low (version_here pages page log k r ++ rest)
rise-here pages page log low k r rest lt h = by_kind r
  where
    by_abort : (gone : Bool) (v : Version) → v.lsn ≡ k → Rise low (cond gone [] (v ∷ []) ++ rest)
    by_abort true v e = Rise-weaker k low rest (omega arith) h
    by_abort false v e = (omega arith, subst (λ (n : ℕ). Rise n rest) (sym e) h)

    by_page : (b gone : Bool) (v : Version) → v.lsn ≡ k → Rise low (cond b (cond gone [] (v ∷ [])) [] ++ rest)
    by_page true gone v e = by_abort gone v e
    by_page false gone v e = Rise-weaker k low rest (omega arith) h

    by_kind : (r : Record) → Rise low (version_here pages page log k r ++ rest)
    by_kind (Put u key v) = by_page (eqb page (page_of pages key)) (list_any (is_abort_of u) log) _ refl
    by_kind (Del u key) = by_page (eqb page (page_of pages key)) (list_any (is_abort_of u) log) _ refl
    by_kind (Commit u listed) = Rise-weaker k low rest (omega arith) h
    by_kind (Abort u listed) = Rise-weaker k low rest (omega arith) h
    by_kind (Trim trimmed horizon) = Rise-weaker k low rest (omega arith) h
    by_kind (Term term) = Rise-weaker k low rest (omega arith) h

rise-all : (pages page : ℕ) (log : List Record) (low k : ℕ) (rs : List Record) → low < k → Rise low (flat_map (version_by pages page log) (enumerate_from k rs))
rise-all pages page log low k [] lt = tt
rise-all pages page log low k (r ∷ rs) lt = rise-here pages page log low k r (flat_map (version_by pages page log) (enumerate_from (k + 1) rs)) lt (rise-all pages page log k (k + 1) rs (omega arith))

-- ---- one record further in the table

flat_map-each : {X Y : Type 0} (f g : X → List Y) (xs : List X) → AllByRecursion (λ x. f x ≡ g x) xs → flat_map f xs ≡ flat_map g xs
flat_map-each f g [] h = refl
flat_map-each f g (x ∷ xs) h = let e = h.0 in let t = flat_map-each f g xs h.1 in cc

-- a Commit that stands earlier has no change in a later record
older-commit : (log : List Record) (pages i n : ℕ) (x d : Record) → IsRecordOf pages log (i + 1) x → i < n → n < length log → committed_by (take n log ++ get_or log n d ∷ []) x ≡ committed_by (take n log) x
older-commit log pages i n (Put u k v) d h lt le = refl
older-commit log pages i n (Del u k) d h lt le = refl
older-commit log pages i n (Abort u listed) d h lt le = refl
older-commit log pages i n (Trim page horizon) d h lt le = refl
older-commit log pages i n (Term term) d h lt le = refl
older-commit log pages i n (Commit u listed) d h lt le =
    let r = get_or log n d in
    let j = n - (i + 1) in
    let same : get_or (drop (i + 1) log) j d ≡ r = get_or-drop (i + 1) log j d ∙ (let e : i + 1 + j ≡ n = omega arith in ap (λ (k : ℕ). get_or log k d) e) in
    let other : contains u (txn_of r) ≡ false = elim (cases_Bool (contains u (txn_of r))) [
      | inr away ↦ away
      | inl own ↦ absurd (false≢true (sym h.0 ∙ list_any_at (λ y. contains u (txn_of y)) (drop (i + 1) log) j d (omega (arith, length-drop (i + 1) log)) (ap (λ (y : Record). contains u (txn_of y)) same ∙ own)))
    ] in
    flat_map-append (change_by u) (take n log) (r ∷ []) ∙ ap (λ (z : List KeyChange). flat_map (change_by u) (take n log) ++ (z ++ [])) (change-none u r other) ∙ append-nil (flat_map (change_by u) (take n log))

-- the table after one record more
step_rows : (pages n : ℕ) (log : List Record) (d : Record) → AreProper pages log → n < length log → (key : ℕ) → rows log (n + 1) key ≡ fold changed (rows log n) (committed_by (take n log ++ get_or log n d ∷ []) (get_or log n d)) key
unfolding rows committed
step_rows pages n log d proper lt key =
    let r = get_or log n d in
    let b = take n log ++ r ∷ [] in
    let whole : take (n + 1) log ≡ b = take_more log n d lt in
    let older : flat_map (committed_by b) (take n log) ≡ flat_map (committed_by (take n log)) (take n log) =
    flat_map-each (committed_by b) (committed_by (take n log)) (take n log) (recursion_from_All (λ x. committed_by b x ≡ committed_by (take n log) x) (take n log) (λ k e below.
    let small : k < n = omega (arith, length-take n log) in
    let at : get_or log k e ≡ get_or (take n log) k e = sym (get_or-take n log k e small) in
    subst (λ (x : Record). committed_by b x ≡ committed_by (take n log) x) at (older-commit log pages k n (get_or log k e) d (record-at pages log proper k e (omega arith)) small lt))) in
    let all : flat_map (committed_by (take (n + 1) log)) (take (n + 1) log) ≡ flat_map (committed_by (take n log)) (take n log) ++ committed_by b r =
    ap (λ (z : List Record). flat_map (committed_by z) z) whole ∙ flat_map-append (committed_by b) (take n log) (r ∷ []) ∙ ap (λ (z : List KeyChange). flat_map (committed_by b) (take n log) ++ z) (append-nil (committed_by b r)) ∙ ap (λ (z : List KeyChange). z ++ committed_by b r) older in
    ap (λ (z : List KeyChange). fold changed empty_table z key) all ∙ ap (λ (t : Table). t key) (fold-append changed empty_table (flat_map (committed_by (take n log)) (take n log)) (committed_by b r))

-- ---- both together

get-some : (log : List Record) (n : ℕ) (d : Record) → n < length log → slice_get log n ≡ Some (get_or log n d)
get-some [] n d lt = absurd (omega arith)
get-some (x ∷ log) zero d lt = refl
get-some (x ∷ log) (suc n) d lt = get-some log n d (omega arith)

-- the log up to m, around its record after the first n
split-at : (n m : ℕ) (log : List Record) (d : Record) → n < m → m ≤ length log → take m log ≡ take n log ++ get_or log n d ∷ take (m - (n + 1)) (drop (n + 1) log)
split-at n m log d lt le =
    let k : n + 1 + (m - (n + 1)) ≡ m = omega arith in
    let back : drop (n + 1) (take m log) ≡ take (m - (n + 1)) (drop (n + 1) log) = ap (λ (j : ℕ). drop (n + 1) (take j log)) (sym k) ∙ drop-take (n + 1) (m - (n + 1)) log in
    let front : take (n + 1) (take m log) ≡ take n log ++ get_or log n d ∷ [] = take-take (n + 1) m log (omega arith) ∙ take_more log n d (omega arith) in
    sym (take-append-drop (n + 1) (take m log)) ∙ ap (λ (z : List Record). z ++ drop (n + 1) (take m log)) front ∙ ap (λ (z : List Record). (take n log ++ get_or log n d ∷ []) ++ z) back
    ∙ append_assoc (take n log) (get_or log n d ∷ []) (take (m - (n + 1)) (drop (n + 1) log))

over-take : (t k : ℕ) (log : List Record) → IsOver t log → IsOver t (take k log)
over-take t k log h =
    let e = sym (list_any-append (λ r. contains t (txn_of r)) (take k log) (drop k log)) ∙ ap (list_any (λ r. contains t (txn_of r))) (take-append-drop k log) ∙ h in
    (or_parts (list_any (λ r. contains t (txn_of r)) (take k log)) (list_any (λ r. contains t (txn_of r)) (drop k log)) e).0

-- what one record does to the pick is what it does to the table
abbrev StepsAlike : ℕ → ℕ → List Version → List Record → Record → Type 0
StepsAlike key n all before r = (row : Row) (table : Table) → table key ≡ row → last_of row (map (λ w. row_of w.change) (filter (is_new key (1 + n)) all)) ≡ fold changed table (committed_by (before ++ r ∷ []) r) key

no_commit : (pages key n : ℕ) (before : List Record) (r : Record) (rest : List Record) → 1 + length before ≡ 1 + n → ((u : ℕ) (listed : List ℕ) → r ≡ Commit u listed → ⊥) → committed_by (before ++ r ∷ []) r ≡ []
    → StepsAlike key n (all_versions pages (page_of pages key) (before ++ r ∷ rest)) before r
no_commit pages key n before r rest len other none row table is =
    let log = before ++ r ∷ rest in
    let all = all_versions pages (page_of pages key) log in
    let fails : AllByRecursion (λ w. is_new key (1 + n) w ≡ false) all = all_map (λ (w : Version). w.commit ≡ commit_of w.txn (numbered log)) (λ w. is_new key (1 + n) w ≡ false)
    (λ w e. and_right (eqb w.key key) (eqb w.commit (1 + n)) (ap (λ (c : ℕ). eqb c (1 + n)) e ∙ ap (λ (k : ℕ). eqb (commit_of w.txn (numbered log)) k) (sym len) ∙ nothing-new w.txn before r rest (other w.txn))) all (versions-committed pages (page_of pages key) log) in
    ap (λ (z : List Version). last_of row (map (λ w. row_of w.change) z)) (filter_none (is_new key (1 + n)) all fails) ∙ sym is ∙ ap (λ (z : List KeyChange). fold changed table z key) (sym none)

a_commit : (pages key n t : ℕ) (listed : List ℕ) (before rest : List Record) → 1 + length before ≡ 1 + n → IsOpen t before → IsOver t rest → StepsAlike key n (all_versions pages (page_of pages key) (before ++ Commit t listed ∷ rest)) before (Commit t listed)
a_commit pages key n t listed before rest len begun over row table is =
    let r = Commit t listed in
    let log = before ++ r ∷ rest in
    let commits : Commits log t (1 + n) = subst (Commits log t) len (commits-within t before listed rest begun over) in
    let page_rows = versions-rows pages key t (1 + n) log commits 1 log in
    let cut : flat_map (rows_by t key) log ≡ flat_map (rows_by t key) (before ++ r ∷ []) =
    ap (flat_map (rows_by t key)) (sym (append_assoc before (r ∷ []) rest)) ∙ flat_map-append (rows_by t key) (before ++ r ∷ []) rest ∙ ap (λ (z : List Row). flat_map (rows_by t key) (before ++ r ∷ []) ++ z) (rows-after t key rest over) ∙ append-nil (flat_map (rows_by t key) (before ++ r ∷ [])) in
    let table_rows = changes-rows t key (before ++ r ∷ []) in
    ap (last_of row) (page_rows ∙ cut ∙ sym table_rows) ∙ ap (λ (z : Row). last_of z (map (λ c. c.row) (filter (λ c. eqb key c.key) (flat_map (change_by t) (before ++ r ∷ []))))) (sym is) ∙ sym (fold_changed table (flat_map (change_by t) (before ++ r ∷ [])) key)

steps_alike : (pages key n m : ℕ) (log : List Record) (d : Record) → AreProper pages log → n < m → m ≤ length log → StepsAlike key n (all_versions pages (page_of pages key) (take m log)) (take n log) (get_or log n d)
steps_alike pages key n m log d proper lt le =
    let len : 1 + length (take n log) ≡ 1 + n = omega (arith, length-take n log) in
    let rest = take (m - (n + 1)) (drop (n + 1) log) in
    let e : n + 1 - 1 ≡ n = omega arith in
    let some : slice_get log (n + 1 - 1) ≡ Some (get_or log n d) = ap (slice_get log) e ∙ get-some log n d (omega arith) in
    subst (λ (z : List Record). StepsAlike key n (all_versions pages (page_of pages key) z) (take n log) (get_or log n d)) (sym (split-at n m log d lt le))
    (by_kind (get_or log n d) (record-at pages log proper n d (omega arith)) (omega arith, some) len)
  where
    by_kind : (r : Record) → IsRecordOf pages log (n + 1) r → IsAt log (n + 1) r → 1 + length (take n log) ≡ 1 + n → StepsAlike key n (all_versions pages (page_of pages key) (take n log ++ r ∷ take (m - (n + 1)) (drop (n + 1) log))) (take n log) r
    by_kind (Put u k v) own here len = no_commit pages key n (take n log) (Put u k v) (take (m - (n + 1)) (drop (n + 1) log)) len (λ t listed e. cc) refl
    by_kind (Del u k) own here len = no_commit pages key n (take n log) (Del u k) (take (m - (n + 1)) (drop (n + 1) log)) len (λ t listed e. cc) refl
    by_kind (Abort u listed) own here len = no_commit pages key n (take n log) (Abort u listed) (take (m - (n + 1)) (drop (n + 1) log)) len (λ t others e. cc) refl
    by_kind (Trim page horizon) own here len = no_commit pages key n (take n log) (Trim page horizon) (take (m - (n + 1)) (drop (n + 1) log)) len (λ t listed e. cc) refl
    by_kind (Term term) own here len = no_commit pages key n (take n log) (Term term) (take (m - (n + 1)) (drop (n + 1) log)) len (λ t listed e. cc) refl
    by_kind (Commit t listed) own here len =
        let e : n + 1 - 1 ≡ n = omega arith in
        a_commit pages key n t listed (take n log) (take (m - (n + 1)) (drop (n + 1) log)) len (subst (λ (k : ℕ). IsOpen t (take k log)) e (open-before pages log (n + 1) (Commit t listed) t proper here refl)) (over-take t (m - (n + 1)) (drop (n + 1) log) own.0)

seen-none : (key : ℕ) (w : Version) → is_seen key 0 w ≡ false
seen-none key w = grind (arith, nat_tests)

each_seen_none : (key : ℕ) (vs : List Version) → AllByRecursion (λ w. is_seen key 0 w ≡ false) vs
each_seen_none key [] = tt
each_seen_none key (v ∷ vs) = (seen-none key v, each_seen_none key vs)

no_rows : (log : List Record) (key : ℕ) → Absent ≡ rows log 0 key
unfolding rows committed
no_rows log key = refl

-- before any trim
picked-is : (pages key m : ℕ) (log : List Record) → AreProper pages log → m ≤ length log → (n : ℕ) → n ≤ m → picked key n (all_versions pages (page_of pages key) (take m log)) ≡ rows log n key
picked-is pages key m log proper le zero low =
    ap (λ (z : List Version). row_of_first (greatest z)) (filter_none (is_seen key 0) (all_versions pages (page_of pages key) (take m log)) (each_seen_none key (all_versions pages (page_of pages key) (take m log)))) ∙ no_rows log key
picked-is pages key m log proper le (suc n) low =
    let all = all_versions pages (page_of pages key) (take m log) in
    let ih = picked-is pages key m log proper le n (omega arith) in
    let d : Record = Term 0 in
    let one : suc n ≡ 1 + n = omega arith in
    let two : n + 1 ≡ suc n = omega arith in
    let rises : Rise 0 all = rise-all pages (page_of pages key) (take m log) 0 1 (take m log) (omega arith) in
    ap (λ (k : ℕ). picked key k all) one ∙ step_pick key n all rises ∙ steps_alike pages key n m log d proper (omega arith) le (picked key n all) (rows log n) (sym ih)
    ∙ sym (step_rows pages n log d proper (omega arith) key) ∙ ap (λ (k : ℕ). rows log k key) two

-- the horizons are at most the greatest
max-bounds : (n low : ℕ) (hs : List ℕ) → fold max low hs ≤ n → (low ≤ n) × AllByRecursion (λ h. h ≤ n) hs
max-bounds n low [] h = (h, tt)
max-bounds n low (x ∷ hs) h =
    let ih = max-bounds n (max low x) hs h in
    let both = ih.0 in
    (omega arith, (omega arith, ih.1))

pub pick-is : (pages n m key : ℕ) (log : List Record) → AreProper pages log → n ≤ m → m ≤ length log → (value pages log m (page_of pages key)).horizon ≤ n → pick (value pages log m (page_of pages key)) key n ≡ rows log n key
unfolding pick value
pick-is pages n m key log proper low le horizon =
    let page = page_of pages key in
    let hs = horizons page (take m log) in
    let all = all_versions pages page (take m log) in
    trims-leave key n hs all (max-bounds n 0 hs horizon).1 (rise-all pages page (take m log) 0 1 (take m log) (omega arith)) ∙ picked-is pages key m log proper le n low
