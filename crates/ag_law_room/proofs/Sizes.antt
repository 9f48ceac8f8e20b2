-- What one record more makes of the bytes that the versions of a page take.
use Rattle.std.specs.Prelude.{if◌then◌else◌}
use Rattle.std.proofs.Common.{◌≡◌, ℕ, ◌+◌, ◌-◌, ◌≤◌, List, [], ◌∷◌, ◌++◌, length, map, take, Bool, true, refl, ap, ◌∙◌, subst, arith, length-append}
use Rattle.std.specs.Prelude.{◌==◌, not, Some, slice_get}
use Rattle.std.specs.List.{filter}
use Rattle.std.proofs.lemmas.Bool.{eqb-true}
use Rattle.std.proofs.lemmas.List.{append-nil, take_all, take_at}
use Rattle.std.proofs.lemmas.List.Sums.{sum_by-append}
use Rattle.ag_model.specs.declared.record.Record.{Record}
use Rattle.ag_model.specs.declared.record.Record.TheVariants.{Put, Del, Commit, Abort, Trim, Term}
use Rattle.ag_model.specs.declared.value.Change.{Change}
use Rattle.ag_model.specs.declared.value.Change.TheVariants.{Put as PutChange, Del as DelChange}
use Rattle.ag_model.specs.declared.value.Version.{Version}
use Rattle.ag_model.specs.declared.value.PageValue.{PageValue}
use Rattle.ag_model.specs.Rows.{page_of, touches}
use Rattle.ag_model.specs.Page.{value, horizons, horizon_by, all_versions, untrimmed, version_of, is_trimmed_at}
use Rattle.ag_model.specs.Sizes.{change_size, versions_size, free_bytes}
use Rattle.ag_model.specs.Txns.{txn_of}
use Rattle.ag_lists.proofs.Tests.{by_bool, if_has}
use Rattle.ag_version.specs.Edits.{stamped, without_txn, left_by_trim, new_version}
use Rattle.ag_version.specs.Steps.{AreProper, IsAt, record_of}
use Rattle.ag_version.proofs.Endings.{IsOpen}
use Rattle.ag_version.proofs.Versions.{versions_neutral, versions_commit, versions_abort}
use Rattle.ag_version.proofs.Untrimmed.{AreBelow, untrimmed_stamped, untrimmed_without}
use Rattle.ag_version.proofs.Redone.{value_at_end, value-is, horizons_push, have-open, end_change, end_trim}
use Rattle.ag_version.proofs.Prefixes.{open-before, horizons-below}
use Rattle.ag_law_proper.specs.Growth.{free_on}

-- the bytes of the versions of a page after all records of a log
abbrev pub size_of : ℕ → ℕ → List Record → ℕ
size_of pages page log = versions_size (untrimmed (horizons page log) (all_versions pages page log))

-- the bytes that a record may add to a page
abbrev pub adds : ℕ → ℕ → Record → ℕ
adds pages page (Put txn key value) = if page == page_of pages key then 30 + value.len else 0
adds pages page (Del txn key) = if page == page_of pages key then 30 else 0
adds pages page _ = 0

pub free_is : (pages page : ℕ) (log : List Record) → free_on pages log page ≡ 8144 - size_of pages page log
free_is pages page log = ap free_bytes (value-is pages page (length log) log ∙ ap (value_at_end pages page) (take_all (length log) log (omega arith)))

pub value_size : (pages page n : ℕ) (log : List Record) → versions_size (value pages log n page).versions ≡ size_of pages page (take n log)
value_size pages page n log = ap (λ (v : PageValue). versions_size v.versions) (value-is pages page n log)

cons_size : (v : Version) (vs : List Version) → versions_size (v ∷ vs) ≡ change_size v.change + versions_size vs
cons_size v vs =
    let one : 0 + change_size v.change ≡ change_size v.change = omega arith in
    sum_by-append (λ (w : Version). change_size w.change) (v ∷ []) vs ∙ ap (λ n. n + versions_size vs) one

size_push : (vs : List Version) (w : Version) → versions_size (vs ++ w ∷ []) ≡ versions_size vs + change_size w.change
size_push [] w = cons_size w [] ∙ (omega arith)
size_push (v ∷ vs) w = cons_size v (vs ++ w ∷ []) ∙ (omega (arith, size_push vs w, cons_size v vs))

size_stamped : (n t : ℕ) (vs : List Version) → versions_size (map (stamped n t) vs) ≡ versions_size vs
size_stamped n t [] = refl
size_stamped n t (v ∷ vs) =
    let same : change_size (stamped n t v).change ≡ change_size v.change = if_has (λ (w : Version). change_size w.change ≡ change_size v.change) (v.txn == t) (record { lsn = v.lsn; txn = v.txn; commit = n; key = v.key; change = v.change }) v (λ _. refl) (λ _. refl) in
    cons_size (stamped n t v) (map (stamped n t) vs) ∙ (omega (arith, same, size_stamped n t vs, cons_size v vs))

size_filtered : (f : Version → Bool) (vs : List Version) → versions_size (filter f vs) ≤ versions_size vs
size_filtered f [] = omega arith
size_filtered f (v ∷ vs) =
    let less : versions_size (filter f vs) ≤ versions_size vs = size_filtered f vs in
    if_has (λ (xs : List Version). versions_size xs ≤ versions_size (v ∷ vs)) (f v) (v ∷ filter f vs) (filter f vs) (λ _. omega (arith, less, cons_size v (filter f vs), cons_size v vs)) (λ _. omega (arith, less, cons_size v vs))

-- a record that makes no version of the page, ends nothing and trims nothing there
same_size : (pages page : ℕ) (log : List Record) (r : Record) → horizon_by page r ≡ [] → all_versions pages page (log ++ r ∷ []) ≡ all_versions pages page log → size_of pages page (log ++ r ∷ []) ≤ size_of pages page log + 0
same_size pages page log r none same =
    let hs : horizons page (log ++ r ∷ []) ≡ horizons page log = horizons_push page log r ∙ ap (λ z. horizons page log ++ z) none ∙ append-nil (horizons page log) in
    let e : size_of pages page (log ++ r ∷ []) ≡ size_of pages page log = ap (λ z. versions_size (untrimmed z (all_versions pages page (log ++ r ∷ [])))) hs ∙ ap (λ z. versions_size (untrimmed (horizons page log) z)) same in
    omega (arith, e)

-- the last record of a log in its place
at_end : (log : List Record) (r : Record) → IsAt (log ++ r ∷ []) (length log + 1) r
at_end log r = (omega arith, subst (λ (n : ℕ). slice_get (log ++ r ∷ []) n ≡ Some r) (omega arith) (got log))
  where
    got : (log : List Record) → slice_get (log ++ r ∷ []) (length log) ≡ Some r
    got [] = refl
    got (x ∷ log) = got log

front_is : (log : List Record) (r : Record) → take (length log + 1 - 1) (log ++ r ∷ []) ≡ log
front_is log r = take_at log (r ∷ []) (length log + 1 - 1) (omega arith)

open_there : (pages : ℕ) (log : List Record) (r : Record) (t : ℕ) → AreProper pages (log ++ r ∷ []) → txn_of r ≡ t ∷ [] → IsOpen t log
open_there pages log r t proper is = subst (IsOpen t) (front_is log r) (open-before pages (log ++ r ∷ []) (length log + 1) r t proper (at_end log r) is)

below_there : (pages page : ℕ) (log : List Record) (r : Record) → AreProper pages (log ++ r ∷ []) → AreBelow (1 + length log) (horizons page log)
below_there pages page log r proper =
    subst (λ (n : ℕ). AreBelow n (horizons page log)) (omega arith)
    (subst (λ (l : List Record). AreBelow (length log + 1) (horizons page l)) (front_is log r) (horizons-below pages page (log ++ r ∷ []) (length log + 1) proper (omega (arith, length-append log (r ∷ [])))))

change_size_step : (pages page : ℕ) (log : List Record) (t key : ℕ) (c : Change) → AreProper pages (log ++ record_of t key c ∷ []) → txn_of (record_of t key c) ≡ t ∷ [] → touches pages page (record_of t key c) ≡ true
    → size_of pages page (log ++ record_of t key c ∷ []) ≤ size_of pages page log + change_size c
change_size_step pages page log t key c proper is on =
    let e : versions_size (untrimmed (horizons page log) (all_versions pages page log) ++ new_version (1 + length log) t key c ∷ []) ≡ size_of pages page (log ++ record_of t key c ∷ []) =
    ap (λ (v : PageValue). versions_size v.versions) (end_change c pages page t key log (open_there pages log (record_of t key c) t proper is) on) in
    omega (arith, e, size_push (untrimmed (horizons page log) (all_versions pages page log)) (new_version (1 + length log) t key c))

-- one record more takes at most what it adds
pub size_step : (pages page : ℕ) (log : List Record) (r : Record) → AreProper pages (log ++ r ∷ []) → size_of pages page (log ++ r ∷ []) ≤ size_of pages page log + adds pages page r
size_step pages page log (Put t k v) proper =
    by_bool (page == page_of pages k) (λ b. (page == page_of pages k) ≡ b → size_of pages page (log ++ Put t k v ∷ []) ≤ size_of pages page log + (if b then 30 + v.len else 0))
    (λ _ e. change_size_step pages page log t k (PutChange v) proper refl e)
    (λ _ e. same_size pages page log (Put t k v) refl (versions_neutral pages page log (Put t k v) (λ u n later. refl) (λ u. refl) (ap (λ b. if b then version_of (log ++ Put t k v ∷ []) (1 + length log) t k (PutChange v) else []) e))) refl
size_step pages page log (Del t k) proper =
    by_bool (page == page_of pages k) (λ b. (page == page_of pages k) ≡ b → size_of pages page (log ++ Del t k ∷ []) ≤ size_of pages page log + (if b then 30 else 0))
    (λ _ e. change_size_step pages page log t k DelChange proper refl e)
    (λ _ e. same_size pages page log (Del t k) refl (versions_neutral pages page log (Del t k) (λ u n later. refl) (λ u. refl) (ap (λ b. if b then version_of (log ++ Del t k ∷ []) (1 + length log) t k DelChange else []) e))) refl
size_step pages page log (Commit t ps) proper =
    let r : Record = Commit t ps in
    let free : IsOpen t log = open_there pages log r t proper refl in
    let hs : horizons page (log ++ r ∷ []) ≡ horizons page log = horizons_push page log r ∙ append-nil (horizons page log) in
    let e : size_of pages page (log ++ r ∷ []) ≡ size_of pages page log =
    ap (λ z. versions_size (untrimmed z (all_versions pages page (log ++ r ∷ [])))) hs ∙ ap (λ z. versions_size (untrimmed (horizons page log) z)) (versions_commit pages page log t ps free)
    ∙ ap versions_size (untrimmed_stamped (1 + length log) t (horizons page log) (all_versions pages page log) (have-open pages page t log free) (below_there pages page log r proper))
    ∙ size_stamped (1 + length log) t (untrimmed (horizons page log) (all_versions pages page log)) in
    omega (arith, e)
size_step pages page log (Abort t ps) proper =
    let r : Record = Abort t ps in
    let free : IsOpen t log = open_there pages log r t proper refl in
    let hs : horizons page (log ++ r ∷ []) ≡ horizons page log = horizons_push page log r ∙ append-nil (horizons page log) in
    let e : size_of pages page (log ++ r ∷ []) ≡ versions_size (without_txn t (untrimmed (horizons page log) (all_versions pages page log))) =
    ap (λ z. versions_size (untrimmed z (all_versions pages page (log ++ r ∷ [])))) hs ∙ ap (λ z. versions_size (untrimmed (horizons page log) z)) (versions_abort pages page log t ps)
    ∙ ap versions_size (untrimmed_without t (horizons page log) (all_versions pages page log) (have-open pages page t log free)) in
    omega (arith, e, size_filtered (λ w. not (w.txn == t)) (untrimmed (horizons page log) (all_versions pages page log)))
size_step pages page log (Trim p h) proper =
    by_bool (page == p) (λ b. (page == p) ≡ b → size_of pages page (log ++ Trim p h ∷ []) ≤ size_of pages page log + 0)
    (λ _ e.
    let same : page ≡ p = eqb-true page p e in
    subst (λ (q : ℕ). size_of pages page (log ++ Trim q h ∷ []) ≤ size_of pages page log + 0) same
    (let vs : List Version = untrimmed (horizons page log) (all_versions pages page log) in
    let e2 : versions_size (left_by_trim h vs) ≡ size_of pages page (log ++ Trim page h ∷ []) = ap (λ (v : PageValue). versions_size v.versions) (end_trim pages page h log) in
    omega (arith, e2, size_filtered (λ w. not (is_trimmed_at vs w h)) vs)))
    (λ _ e. same_size pages page log (Trim p h) (ap (λ b. if b then h ∷ [] else []) e) (versions_neutral pages page log (Trim p h) (λ u n later. refl) (λ u. refl) refl)) refl
size_step pages page log (Term t) proper = same_size pages page log (Term t) refl (versions_neutral pages page log (Term t) (λ u n later. refl) (λ u. refl) refl)
