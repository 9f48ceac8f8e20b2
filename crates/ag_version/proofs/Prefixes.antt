-- What a proper log says of the records before one of its records.
use Rattle.std.proofs.Common.{◌≡◌, ℕ, zero, suc, ◌+◌, ◌-◌, ◌<◌, ◌≤◌, Bool, true, false, cond, eqb, List, [], ◌∷◌, ◌++◌, length, get_or, take, drop, refl, sym, ap, subst, ◌∙◌, arith, Some, slice_get}
use Rattle.std.specs.List.{AllByRecursion, list_any}
use Rattle.std.proofs.lemmas.Bool.{false_from_ne_true, false≢true, or_left, eq-eqb, eqb-true}
use Rattle.std.proofs.lemmas.List.{length-take, length-drop, get_or-take, get_or-drop}
use Rattle.std.proofs.lemmas.List.FromFn.{get_or-enumerate_from, length-enumerate_from}
use Rattle.std.proofs.lemmas.List.Elements.{All-from_recursion, recursion_from_All}
use Rattle.std.proofs.lemmas.List.Folds.{list_any_at, list_any_none}
use Rattle.ag_lists.proofs.Each.{all_flat_map}
use Rattle.ag_model.specs.declared.record.Record.{Record}
use Rattle.ag_model.specs.declared.record.Record.TheVariants.{Put, Del, Commit, Abort, Trim, Term}
use Rattle.ag_model.specs.Rows.{contains}
use Rattle.ag_model.specs.Page.{numbered, horizon_by, horizons}
use Rattle.ag_model.specs.Proper.{IsRecordOf}
use Rattle.ag_model.specs.Txns.{txn_of, is_end_of}
use Rattle.ag_version.specs.Steps.{AreProper, IsAt}
use Rattle.ag_version.proofs.Endings.{IsOpen}

-- the record of an LSN, by its place
get-lt : (log : List Record) (i : ℕ) (r : Record) → slice_get log i ≡ Some r → i < length log
get-lt [] i r e = cc
get-lt (x ∷ log) zero r e = omega arith
get-lt (x ∷ log) (suc i) r e = let ih = get-lt log i r e in omega arith

get-is : (log : List Record) (i : ℕ) (r d : Record) → slice_get log i ≡ Some r → get_or log i d ≡ r
get-is [] i r d e = cc
get-is (x ∷ log) zero r d e = cc
get-is (x ∷ log) (suc i) r d e = get-is log i r d e

take-get : (log : List Record) (i : ℕ) (r : Record) → slice_get log i ≡ Some r → take (suc i) log ≡ take i log ++ r ∷ []
take-get [] i r e = cc
take-get (x ∷ log) zero r e = cc
take-get (x ∷ log) (suc i) r e = ap (λ (z : List Record). x ∷ z) (take-get log i r e)

-- the log up to a record is the log before it and this record
pub take-at : (log : List Record) (n : ℕ) (r : Record) → IsAt log n r → take n log ≡ take (n - 1) log ++ r ∷ []
take-at log n r h =
    let one = h.0 in
    let e : n ≡ suc (n - 1) = omega arith in
    ap (λ (k : ℕ). take k log) e ∙ take-get log (n - 1) r h.1

pub length-before : (log : List Record) (n : ℕ) (r : Record) → IsAt log n r → 1 + length (take (n - 1) log) ≡ n
length-before log n r h = let one = h.0 in omega (arith, get-lt log (n - 1) r h.1, length-take (n - 1) log)

-- each record of a proper log, by its place
pub record-at : (pages : ℕ) (log : List Record) → AreProper pages log → (i : ℕ) (d : Record) → i < length log → IsRecordOf pages log (i + 1) (get_or log i d)
record-at pages log proper i d lt =
    let each = All-from_recursion (λ r. IsRecordOf pages log r.0 r.1) (numbered log) proper in
    let here = each i (0, d) (omega (arith, length-enumerate_from 1 log)) in
    let at : get_or (numbered log) i (0, d) ≡ (1 + i, get_or log i d) = get_or-enumerate_from 1 log i (0, d) lt in
    let e : 1 + i ≡ i + 1 = omega arith in
    subst (λ (k : ℕ). IsRecordOf pages log k (get_or log i d)) e (subst (λ (x : ℕ × Record). IsRecordOf pages log x.0 x.1) at here)

-- what ends a transaction has no record of the transaction after it
end-alone : (pages : ℕ) (log : List Record) (lsn t : ℕ) (x : Record) → IsRecordOf pages log lsn x → is_end_of t x ≡ true → list_any (λ r. contains t (txn_of r)) (drop lsn log) ≡ false
end-alone pages log lsn t (Put u key value) h e = cc
end-alone pages log lsn t (Del u key) h e = cc
end-alone pages log lsn t (Commit u listed) h e = ap (λ (z : ℕ). list_any (λ r. contains z (txn_of r)) (drop lsn log)) (eqb-true t u e) ∙ h.0
end-alone pages log lsn t (Abort u listed) h e = ap (λ (z : ℕ). list_any (λ r. contains z (txn_of r)) (drop lsn log)) (eqb-true t u e) ∙ h.0
end-alone pages log lsn t (Trim page horizon) h e = cc
end-alone pages log lsn t (Term term) h e = cc

-- before a record of a transaction no record ends this transaction
pub open-before : (pages : ℕ) (log : List Record) (n : ℕ) (r : Record) (t : ℕ) → AreProper pages log → IsAt log n r → txn_of r ≡ t ∷ [] → IsOpen t (take (n - 1) log)
open-before pages log n r t proper h txn =
    let lt = get-lt log (n - 1) r h.1 in
    let one = h.0 in
    list_any_none (is_end_of t) (take (n - 1) log) (λ k d below. false_from_ne_true (is_end_of t (get_or (take (n - 1) log) k d)) (λ e.
    let small : k < n - 1 = omega (arith, length-take (n - 1) log) in
    let same : get_or (take (n - 1) log) k d ≡ get_or log k d = get_or-take (n - 1) log k d small in
    let alone = end-alone pages log (k + 1) t (get_or log k d) (record-at pages log proper k d (omega arith)) (ap (is_end_of t) (sym same) ∙ e) in
    let later : get_or (drop (k + 1) log) (n - 1 - (k + 1)) r ≡ r =
    get_or-drop (k + 1) log (n - 1 - (k + 1)) r ∙ (let j : k + 1 + (n - 1 - (k + 1)) ≡ n - 1 = omega arith in ap (λ (i : ℕ). get_or log i r) j) ∙ get-is log (n - 1) r r h.1 in
    let of_txn : contains t (txn_of r) ≡ true = ap (contains t) txn ∙ or_left (eqb t t) false (eq-eqb t t refl) in
    let found = list_any_at (λ x. contains t (txn_of x)) (drop (k + 1) log) (n - 1 - (k + 1)) r (omega (arith, length-drop (k + 1) log)) (ap (λ (x : Record). contains t (txn_of x)) later ∙ of_txn) in
    false≢true (sym alone ∙ found)))

-- the horizon of a record is below its LSN
below-own : (pages page : ℕ) (log : List Record) (lsn n : ℕ) (x : Record) → IsRecordOf pages log lsn x → lsn ≤ n → AllByRecursion (λ h. h < n) (horizon_by page x)
below-own pages page log lsn n (Put u key value) h le = tt
below-own pages page log lsn n (Del u key) h le = tt
below-own pages page log lsn n (Commit u listed) h le = tt
below-own pages page log lsn n (Abort u listed) h le = tt
below-own pages page log lsn n (Trim trimmed horizon) h le = cases (eqb page trimmed) horizon n (omega arith)
  where
    cases : (b : Bool) (horizon n : ℕ) → horizon < n → AllByRecursion (λ h. h < n) (cond b (horizon ∷ []) [])
    cases true horizon n lt = (lt, tt)
    cases false horizon n lt = tt
below-own pages page log lsn n (Term term) h le = tt

-- the horizons before a record are below its LSN
pub horizons-below : (pages page : ℕ) (log : List Record) (n : ℕ) → AreProper pages log → n - 1 ≤ length log → AllByRecursion (λ h. h < n) (horizons page (take (n - 1) log))
horizons-below pages page log n proper le =
    all_flat_map (λ h. h < n) (horizon_by page) (take (n - 1) log)
    (recursion_from_All (λ x. AllByRecursion (λ h. h < n) (horizon_by page x)) (take (n - 1) log) (λ k d below.
    let small : k < n - 1 = omega (arith, length-take (n - 1) log) in
    let same : get_or log k d ≡ get_or (take (n - 1) log) k d = sym (get_or-take (n - 1) log k d small) in
    subst (λ (x : Record). AllByRecursion (λ h. h < n) (horizon_by page x)) same (below-own pages page log (k + 1) n (get_or log k d) (record-at pages log proper k d (omega arith)) (omega arith))))

-- the record of an LSN is one of a proper log
pub record-here : (pages : ℕ) (log : List Record) (n : ℕ) (r : Record) → AreProper pages log → IsAt log n r → IsRecordOf pages log n r
record-here pages log n r proper h =
    let one = h.0 in
    let lt = get-lt log (n - 1) r h.1 in
    let e : n - 1 + 1 ≡ n = omega arith in
    subst (λ (k : ℕ). IsRecordOf pages log k r) e (subst (λ (x : Record). IsRecordOf pages log (n - 1 + 1) x) (get-is log (n - 1) r r h.1) (record-at pages log proper (n - 1) r lt))
