-- The value of a page of a proper log has an image.
use Rattle.std.proofs.Common.{◌≡◌, ℕ, zero, suc, ◌+◌, ◌<◌, ◌≤◌, Bool, true, false, cond, ◌&&◌, eqb, leb, ltb, List, [], ◌∷◌, ◌++◌, take, refl, sym, subst, arith}
use Rattle.std.specs.List.{enumerate_from, filter, flat_map, list_all, list_any}
use Rattle.std.proofs.lemmas.Bool.{lt-ltb, le-leb, and_from}
use Rattle.ag_model.specs.declared.record.Log.{Log}
use Rattle.ag_model.specs.declared.record.Record.{Record}
use Rattle.ag_model.specs.declared.record.Record.TheVariants.{Put, Del, Commit, Abort, Trim, Term}
use Rattle.ag_model.specs.declared.value.Version.{Version}
use Rattle.ag_model.specs.Page.{value, version_by, version_here, is_abort_of, all_versions}
use Rattle.ag_model.specs.Proper.{IsProper}
use Rattle.ag_model.specs.Rows.{page_of}
use Rattle.ag_model.specs.Sizes.{versions_size}
use Rattle.ag_page.specs.Spelling.{has_spelling, rise, rise_from, has_image}
use Rattle.ag_stripe.specs.Spelled.{IsSpelled, AreSpelled}

-- versions that rise from above an LSN and have spellings
abbrev Good : ℕ → List Version → Type 0
Good low [] = Unit {0}
Good low (w ∷ ws) = (low < w.lsn) × (has_spelling w.change ≡ true) × Good w.lsn ws

good-lower : (low high : ℕ) (ws : List Version) → low ≤ high → Good high ws → Good low ws
good-lower low high [] le h = tt
good-lower low high (w ∷ ws) le h = (let p = h.0 in omega arith, h.1, h.2)

good-here : (pages page : ℕ) (log : List Record) (low k : ℕ) (r : Record) (rest : List Version) → low < k → IsSpelled r → Good k rest → Good low (version_here pages page log k r ++ rest)
good-here pages page log low k r rest lt spelled h = by_kind r spelled
  where
    by_page : (b gone : Bool) (v : Version) → v.lsn ≡ k → has_spelling v.change ≡ true → Good low (cond b (cond gone [] (v ∷ [])) [] ++ rest)
    by_page true true v e s = good-lower low k rest (omega arith) h
    by_page true false v e s = (omega arith, s, subst (λ (n : ℕ). Good n rest) (sym e) h)
    by_page false gone v e s = good-lower low k rest (omega arith) h

    by_kind : (r : Record) → IsSpelled r → Good low (version_here pages page log k r ++ rest)
    by_kind (Put u key v) s = by_page (eqb page (page_of pages key)) (list_any (is_abort_of u) log) _ refl s
    by_kind (Del u key) s = by_page (eqb page (page_of pages key)) (list_any (is_abort_of u) log) _ refl refl
    by_kind (Commit u listed) s = good-lower low k rest (omega arith) h
    by_kind (Abort u listed) s = good-lower low k rest (omega arith) h
    by_kind (Trim trimmed horizon) s = good-lower low k rest (omega arith) h
    by_kind (Term term) s = good-lower low k rest (omega arith) h

good-all : (pages page : ℕ) (log : List Record) (low k : ℕ) (rs : List Record) → low < k → AreSpelled rs → Good low (flat_map (version_by pages page log) (enumerate_from k rs))
good-all pages page log low k [] lt s = tt
good-all pages page log low k (r ∷ rs) lt s = good-here pages page log low k r (flat_map (version_by pages page log) (enumerate_from (k + 1) rs)) lt s.0 (good-all pages page log k (k + 1) rs (omega arith) s.1)

good-filter : (p : Version → Bool) (low : ℕ) (ws : List Version) → Good low ws → Good low (filter p ws)
good-filter p low [] h = tt
good-filter p low (w ∷ ws) h = by_test (p w) (good-filter p w.lsn ws h.2)
  where
    by_test : (b : Bool) → Good w.lsn (filter p ws) → Good low (cond b (w ∷ filter p ws) (filter p ws))
    by_test true rest = (h.0, h.1, rest)
    by_test false rest = (let q = h.0 in good-lower low w.lsn (filter p ws) (omega arith) rest)

good-spelled : (low : ℕ) (ws : List Version) → Good low ws → list_all (λ w. has_spelling w.change) ws ≡ true
good-spelled low [] h = refl
good-spelled low (w ∷ ws) h = and_from (has_spelling w.change) (list_all (λ w. has_spelling w.change) ws) h.1 (good-spelled w.lsn ws h.2)

good-from : (low : ℕ) (ws : List Version) → Good low ws → rise_from low ws ≡ true
good-from low [] h = refl
good-from low (w ∷ ws) h = and_from (ltb low w.lsn) (rise_from w.lsn ws) (lt-ltb low w.lsn h.0) (good-from w.lsn ws h.2)

good-rise : (low : ℕ) (ws : List Version) → Good low ws → rise ws ≡ true
good-rise low [] h = refl
good-rise low (w ∷ ws) h = good-from w.lsn ws h.2

spelled-taken : (n : ℕ) (log : List Record) → AreSpelled log → AreSpelled (take n log)
spelled-taken zero log h = tt
spelled-taken (suc n) [] h = tt
spelled-taken (suc n) (r ∷ log) h = (h.0, spelled-taken n log h.1)

good-value : (pages page n : ℕ) (log : List Record) → AreSpelled log → Good 0 (value pages log n page).versions
unfolding value
good-value pages page n log h = good-filter _ 0 (all_versions pages page (take n log)) (good-all pages page (take n log) 0 1 (take n log) (omega arith) (spelled-taken n log h))

pub image-there : (pages page n : ℕ) (log : Log) → IsProper pages log → AreSpelled log.records → has_image (value pages log.records n page) ≡ true
image-there pages page n log proper spelled =
    let vs : List Version = (value pages log.records n page).versions in
    let good = good-value pages page n log.records spelled in
    and_from (list_all (λ w. has_spelling w.change) vs && rise vs) (leb (versions_size vs) 8144) (and_from (list_all (λ w. has_spelling w.change) vs) (rise vs) (good-spelled 0 vs good) (good-rise 0 vs good)) (le-leb (versions_size vs) 8144 (proper.room n page))
