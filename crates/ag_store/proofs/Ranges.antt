-- The numbers of a page of a log whose records have spellings fit their types.
use Rattle.std.proofs.Common.{◌≡◌, ◌+◌, ◌^◌, ◌≤◌, ◌<◌, ℕ, zero, suc, max, Bool, true, false, cond, eqb, List, [], ◌∷◌, ◌++◌, length, take, refl, arith}
use Rattle.std.specs.Prelude.{if◌then◌else◌}
use Rattle.std.specs.List.{AllByRecursion, enumerate_from, filter, flat_map, fold, list_any}
use Rattle.std.proofs.lemmas.List.{length-take}
use Rattle.ag_model.specs.declared.record.Log.{Log}
use Rattle.ag_model.specs.declared.record.Record.{Record}
use Rattle.ag_model.specs.declared.record.Record.TheVariants.{Put, Del, Commit, Abort, Trim, Term}
use Rattle.ag_model.specs.declared.value.Version.{Version}
use Rattle.ag_model.specs.Page.{value, version_by, version_here, is_abort_of, commit_of, commit_here, horizon_by, all_versions, numbered}
use Rattle.ag_model.specs.Proper.{IsProper}
use Rattle.ag_model.specs.Rows.{page_of, touches}
use Rattle.ag_page.specs.Spelling.{IsVersion, IsInRange}
use Rattle.ag_record.specs.Spelling.{HasSpelling, HaveSpelling}

-- ---- LSNs below a bound

pick_low : (t : Bool) (a b bound : ℕ) → a < bound → b < bound → (if t then a else b) < bound
pick_low true a b bound low other = low
pick_low false a b bound low other = other

commit_low : (bound txn k : ℕ) (rs : List Record) → 0 < bound → k + length rs ≤ bound → commit_of txn (enumerate_from k rs) < bound
commit_low bound txn k [] some le = some
commit_low bound txn k (r ∷ rs) some le = here r (commit_low bound txn (k + 1) rs some (omega (arith, le)))
  where
    later : ℕ
    later = commit_of txn (enumerate_from (k + 1) rs)

    here : (x : Record) → later < bound → commit_here txn x k later < bound
    here (Commit t listed) low = pick_low (eqb txn t) k later bound (omega (arith, le)) low
    here (Put t key value) low = low
    here (Del t key) low = low
    here (Abort t listed) low = low
    here (Trim page horizon) low = low
    here (Term term) low = low

touch_low : (bound pages page acc k : ℕ) (rs : List Record) → acc < bound → k + length rs ≤ bound → fold (λ (last : ℕ) (r : ℕ × Record). if touches pages page r.1 then r.0 else last) acc (enumerate_from k rs) < bound
touch_low bound pages page acc k [] low le = low
touch_low bound pages page acc k (r ∷ rs) low le =
    touch_low bound pages page (if touches pages page r then k else acc) (k + 1) rs (pick_low (touches pages page r) k acc bound (omega (arith, le)) low) (omega (arith, le))

trim_low : (acc horizon : ℕ) (t : Bool) (others : List ℕ) → acc < 2 ^ 64 → horizon < 2 ^ 64 → ((a : ℕ) → a < 2 ^ 64 → fold max a others < 2 ^ 64) → fold max acc ((if t then horizon ∷ [] else []) ++ others) < 2 ^ 64
trim_low acc horizon true others low h rest = rest (max acc horizon) (omega (arith, low, h))
trim_low acc horizon false others low h rest = rest acc low

horizon_low : (page acc : ℕ) (rs : List Record) → acc < 2 ^ 64 → HaveSpelling rs → fold max acc (flat_map (horizon_by page) rs) < 2 ^ 64
horizon_low page acc [] low fit = low
horizon_low page acc (Trim trimmed horizon ∷ rs) low fit = trim_low acc horizon (eqb page trimmed) (flat_map (horizon_by page) rs) low fit.0.1 (λ a lt. horizon_low page a rs lt fit.1)
horizon_low page acc (Put txn key value ∷ rs) low fit = horizon_low page acc rs low fit.1
horizon_low page acc (Del txn key ∷ rs) low fit = horizon_low page acc rs low fit.1
horizon_low page acc (Commit txn listed ∷ rs) low fit = horizon_low page acc rs low fit.1
horizon_low page acc (Abort txn listed ∷ rs) low fit = horizon_low page acc rs low fit.1
horizon_low page acc (Term term ∷ rs) low fit = horizon_low page acc rs low fit.1

-- ---- versions

version_fits : (pages page : ℕ) (log : List Record) (k : ℕ) (r : Record) (rest : List Version) → ((txn : ℕ) → commit_of txn (numbered log) < 2 ^ 64) → k < 2 ^ 64 → HasSpelling r → AllByRecursion IsVersion rest → AllByRecursion IsVersion (version_here pages page log k r ++ rest)
version_fits pages page log k r rest commits low fit all = by_kind r fit
  where
    by_page : (here gone : Bool) (v : Version) → IsVersion v → AllByRecursion IsVersion (cond here (cond gone [] (v ∷ [])) [] ++ rest)
    by_page true true v is = all
    by_page true false v is = (is, all)
    by_page false gone v is = all

    by_kind : (x : Record) → HasSpelling x → AllByRecursion IsVersion (version_here pages page log k x ++ rest)
    by_kind (Put txn key value) h = by_page (eqb page (page_of pages key)) (list_any (is_abort_of txn) log) _ (record { lsn = low; txn = h.0; commit = commits txn; key = h.1; change = h.2.room })
    by_kind (Del txn key) h = by_page (eqb page (page_of pages key)) (list_any (is_abort_of txn) log) _ (record { lsn = low; txn = h.0; commit = commits txn; key = h.1; change = tt })
    by_kind (Commit txn listed) h = all
    by_kind (Abort txn listed) h = all
    by_kind (Trim trimmed horizon) h = all
    by_kind (Term term) h = all

versions_fit : (pages page : ℕ) (log : List Record) (k : ℕ) (rs : List Record) → ((txn : ℕ) → commit_of txn (numbered log) < 2 ^ 64) → k + length rs ≤ 2 ^ 64 → HaveSpelling rs → AllByRecursion IsVersion (flat_map (version_by pages page log) (enumerate_from k rs))
versions_fit pages page log k [] commits le fit = tt
versions_fit pages page log k (r ∷ rs) commits le fit =
    version_fits pages page log k r (flat_map (version_by pages page log) (enumerate_from (k + 1) rs)) commits (omega (arith, le)) fit.0
    (versions_fit pages page log (k + 1) rs commits (omega (arith, le)) fit.1)

kept_fits : (t : Bool) (w : Version) (ws : List Version) → IsVersion w → AllByRecursion IsVersion ws → AllByRecursion IsVersion (cond t (w ∷ ws) ws)
kept_fits true w ws one all = (one, all)
kept_fits false w ws one all = all

filter_fits : (p : Version → Bool) (ws : List Version) → AllByRecursion IsVersion ws → AllByRecursion IsVersion (filter p ws)
filter_fits p [] all = tt
filter_fits p (w ∷ ws) all = kept_fits (p w) w (filter p ws) all.0 (filter_fits p ws all.1)

fits_taken : (n : ℕ) (log : List Record) → HaveSpelling log → HaveSpelling (take n log)
fits_taken zero log fit = tt
fits_taken (suc n) [] fit = tt
fits_taken (suc n) (r ∷ log) fit = (fit.0, fits_taken n log fit.1)

-- the value of a page of a log
pub value_in_range : (pages n page : ℕ) (log : Log) → IsProper pages log → HaveSpelling log.records → page < 2 ^ 16 → IsInRange (value pages log.records n page)
unfolding value
value_in_range pages n page log proper fit low =
    let front : List Record = take n log.records in
    let long : 1 + length front ≤ 2 ^ 64 = (let most = proper.most in let shorter = length-take n log.records in omega (arith, most, shorter)) in
    record {
      page = low;
      lsn = touch_low (2 ^ 64) pages page 0 1 front (omega arith) long;
      horizon = horizon_low page 0 front (omega arith) (fits_taken n log.records fit);
      versions = filter_fits _ (all_versions pages page front) (versions_fit pages page front 1 front (λ txn. commit_low (2 ^ 64) txn 1 front (omega arith) long) long (fits_taken n log.records fit));
    }

pub value_named : (pages n page : ℕ) (log : List Record) → (value pages log n page).page ≡ page
unfolding value
value_named pages n page log = refl
