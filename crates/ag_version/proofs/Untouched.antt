-- A record that doesn't touch a page leaves its value.
use Rattle.std.proofs.Common.{◌≡◌, ℕ, ◌+◌, ◌-◌, ◌<◌, ◌≤◌, max, Bool, true, false, ◌&&◌, cond, eqb, List, [], ◌∷◌, ◌++◌, length, get_or, map, take, refl, sym, ap, ◌∙◌, arith}
use Rattle.std.specs.List.{AllByRecursion, fold, list_any, enumerate_from, range_with_len}
use Rattle.std.proofs.lemmas.Bool.{or_parts, eq-eqb, eqb-true}
use Rattle.std.proofs.lemmas.Bool.Decides.{nat_tests}
use Rattle.std.proofs.lemmas.List.FromFn.{length-range_with_len, get_or-range_with_len}
use Rattle.std.proofs.lemmas.List.{append-nil}
use Rattle.std.proofs.lemmas.List.Folds.{list_any_at}
use Rattle.std.proofs.lemmas.Map.Views.{any-filter_same}
use Rattle.ag_lists.proofs.Each.{all_map, all_flat_map}
use Rattle.ag_model.specs.declared.value.Change.{Change}
use Rattle.ag_model.specs.declared.value.Change.TheVariants.{Put as PutChange, Del as DelChange}
use Rattle.ag_model.specs.declared.value.Version.{Version}
use Rattle.ag_model.specs.declared.record.Record.{Record}
use Rattle.ag_model.specs.declared.record.Record.TheVariants.{Put, Del, Commit, Abort, Trim, Term}
use Rattle.ag_model.specs.Rows.{contains, page_of, page_numbers, touches}
use Rattle.ag_model.specs.Page.{numbered, is_abort_of, commit_of, version_of, version_here, version_by, horizon_by, horizons, last_touch, all_versions, untrimmed, value}
use Rattle.ag_model.specs.Txns.{is_change_of, pages_of}
use Rattle.ag_version.specs.Edits.{stamped, without_txn}
use Rattle.ag_version.specs.Steps.{AreProper, IsAt}
use Rattle.ag_version.proofs.Versions.{versions_neutral, versions_commit, versions_abort}
use Rattle.ag_version.proofs.Prefixes.{take-at, open-before, record-here}
use Rattle.ag_version.proofs.Redone.{value_at_end, value-is, touch_push, horizons_push, parts}

-- a page that is left has the versions and horizons that it had
same-value : (pages page : ℕ) (log : List Record) (r : Record) → touches pages page r ≡ false → horizon_by page r ≡ [] → all_versions pages page (log ++ r ∷ []) ≡ all_versions pages page log → value_at_end pages page (log ++ r ∷ []) ≡ value_at_end pages page log
same-value pages page log r off none vs =
    let l : last_touch pages page (numbered (log ++ r ∷ [])) ≡ last_touch pages page (numbered log) = touch_push pages page log r ∙ ap (λ (b : Bool). cond b (1 + length log) (last_touch pages page (numbered log))) off in
    let hs : horizons page (log ++ r ∷ []) ≡ horizons page log = horizons_push page log r ∙ ap (λ (z : List ℕ). horizons page log ++ z) none ∙ append-nil (horizons page log) in
    ap (λ (z : ℕ). parts page z (fold max 0 (horizons page (log ++ r ∷ []))) (untrimmed (horizons page (log ++ r ∷ [])) (all_versions pages page (log ++ r ∷ [])))) l
    ∙ ap (λ (z : List ℕ). parts page (last_touch pages page (numbered log)) (fold max 0 z) (untrimmed z (all_versions pages page (log ++ r ∷ [])))) hs
    ∙ ap (λ (z : List Version). parts page (last_touch pages page (numbered log)) (fold max 0 (horizons page log)) (untrimmed (horizons page log) z)) vs

-- ---- the versions of a transaction that never changed the page

eqb-turn : (a b : ℕ) → eqb a b ≡ false → eqb b a ≡ false
eqb-turn a b e = grind (arith, nat_tests)

-- no version is of the transaction
abbrev AreOthers : ℕ → List Version → Type 0
AreOthers t vs = AllByRecursion (λ v. eqb v.txn t ≡ false) vs

others-made : (log : List Record) (b : Bool) (lsn t u key : ℕ) (change : Change) → eqb t u && b ≡ false → AreOthers t (cond b (version_of log lsn u key change) [])
others-made log false lsn t u key change e = tt
others-made log true lsn t u key change e = by_abort (list_any (is_abort_of u) log) (record { lsn = lsn; txn = u; commit = commit_of u (numbered log); key = key; change = change }) t (eqb-turn t u (left (eqb t u) e))
  where
    left : (a : Bool) → a && true ≡ false → a ≡ false
    left true e = e
    left false e = refl

    by_abort : (gone : Bool) (v : Version) (t : ℕ) → eqb v.txn t ≡ false → AreOthers t (cond gone [] (v ∷ []))
    by_abort true v t e = tt
    by_abort false v t e = (e, tt)

others-here : (pages page t : ℕ) (log : List Record) (lsn : ℕ) (r : Record) → (is_change_of t r && touches pages page r) ≡ false → AreOthers t (version_here pages page log lsn r)
others-here pages page t log lsn (Put u key value) e = others-made log (eqb page (page_of pages key)) lsn t u key (PutChange value) e
others-here pages page t log lsn (Del u key) e = others-made log (eqb page (page_of pages key)) lsn t u key DelChange e
others-here pages page t log lsn (Commit u listed) e = tt
others-here pages page t log lsn (Abort u listed) e = tt
others-here pages page t log lsn (Trim trimmed horizon) e = tt
others-here pages page t log lsn (Term term) e = tt

each_number : (p : Record → Bool) (k : ℕ) (log : List Record) → list_any p log ≡ false → AllByRecursion (λ (x : ℕ × Record). p x.1 ≡ false) (enumerate_from k log)
each_number p k [] e = tt
each_number p k (r ∷ log) e = (let h = or_parts (p r) (list_any p log) e in (h.0, each_number p (k + 1) log h.1))

others : (pages page t : ℕ) (log : List Record) → list_any (λ r. is_change_of t r && touches pages page r) log ≡ false → AreOthers t (all_versions pages page log)
others pages page t log e =
    all_flat_map (λ v. eqb v.txn t ≡ false) (version_by pages page log) (numbered log)
    (all_map (λ (x : ℕ × Record). (is_change_of t x.1 && touches pages page x.1) ≡ false) (λ x. AreOthers t (version_by pages page log x)) (λ x h. others-here pages page t log x.0 x.1 h) (numbered log) (each_number (λ r. is_change_of t r && touches pages page r) 1 log e))

others-stamped : (n t : ℕ) (vs : List Version) → AreOthers t vs → map (stamped n t) vs ≡ vs
others-stamped n t [] h = refl
others-stamped n t (v ∷ vs) h =
    let here : stamped n t v ≡ v = (let e = h.0 in rw e refl) in
    let ih = others-stamped n t vs h.1 in
    cc

others-kept : (t : ℕ) (vs : List Version) → AreOthers t vs → without_txn t vs ≡ vs
others-kept t [] h = refl
others-kept t (v ∷ vs) h = (let e = h.0 in rw e (ap (λ (z : List Version). v ∷ z) (others-kept t vs h.1)))

-- a page of the database that the list of a Commit or an Abort lacks: no change of the transaction touches it
unlisted : (pages page t : ℕ) (log : List Record) → 16 ≤ page → page < 16 + pages → contains page (pages_of pages t log) ≡ false → list_any (λ r. is_change_of t r && touches pages page r) log ≡ false
unlisted pages page t log low high out =
    let p : ℕ → Bool = λ q. list_any (λ r. is_change_of t r && touches pages q r) log in
    let all : contains page (page_numbers pages) ≡ true =
    list_any_at (λ y. eqb page y) (page_numbers pages) (page - 16) 0 (omega (arith, length-range_with_len 16 pages)) (eq-eqb page (get_or (range_with_len 16 pages) (page - 16) 0) (omega (arith, get_or-range_with_len 16 pages (page - 16) 0 (omega arith)))) in
    let kept : contains page (pages_of pages t log) ≡ (p page && contains page (page_numbers pages)) = any-filter_same (λ y. eqb page y) p (p page) (λ y e. ap p (sym (eqb-true page y e))) (page_numbers pages) in
    and-true-false (p page) (contains page (page_numbers pages)) all (sym kept ∙ out)
  where
    and-true-false : (a b : Bool) → b ≡ true → (a && b) ≡ false → a ≡ false
    and-true-false true b e f = sym e ∙ f
    and-true-false false b e f = refl

-- ---- each kind of record

off-change : (change : Change) (log : List Record) (b : Bool) (lsn t key : ℕ) → b ≡ false → cond b (version_of log lsn t key change) [] ≡ []
off-change change log b lsn t key e = rw e refl

pub untouched-value : (pages page n : ℕ) (log : List Record) (r : Record) → 16 ≤ page → page < 16 + pages → AreProper pages log → IsAt log n r → touches pages page r ≡ false → value pages log n page ≡ value pages log (n - 1) page
untouched-value pages page n log r low high proper here off =
    value-is pages page n log ∙ ap (value_at_end pages page) (take-at log n r here) ∙ at_end r proper here off ∙ sym (value-is pages page (n - 1) log)
  where
    at_end : (r : Record) → AreProper pages log → IsAt log n r → touches pages page r ≡ false → value_at_end pages page (take (n - 1) log ++ r ∷ []) ≡ value_at_end pages page (take (n - 1) log)
    at_end (Put t key v) proper here off = same-value pages page (take (n - 1) log) (Put t key v) off refl (versions_neutral pages page (take (n - 1) log) (Put t key v) (λ u m later. refl) (λ u. refl) (off-change (PutChange v) (take (n - 1) log ++ Put t key v ∷ []) (eqb page (page_of pages key)) (1 + length (take (n - 1) log)) t key off))
    at_end (Del t key) proper here off = same-value pages page (take (n - 1) log) (Del t key) off refl (versions_neutral pages page (take (n - 1) log) (Del t key) (λ u m later. refl) (λ u. refl) (off-change DelChange (take (n - 1) log ++ Del t key ∷ []) (eqb page (page_of pages key)) (1 + length (take (n - 1) log)) t key off))
    at_end (Commit t listed) proper here off =
        let own = record-here pages log n (Commit t listed) proper here in
        let away = others pages page t (take (n - 1) log) (unlisted pages page t (take (n - 1) log) low high (ap (contains page) (sym own.1) ∙ off)) in
        same-value pages page (take (n - 1) log) (Commit t listed) off refl (versions_commit pages page (take (n - 1) log) t listed (open-before pages log n (Commit t listed) t proper here refl) ∙ others-stamped (1 + length (take (n - 1) log)) t (all_versions pages page (take (n - 1) log)) away)
    at_end (Abort t listed) proper here off =
        let own = record-here pages log n (Abort t listed) proper here in
        let away = others pages page t (take (n - 1) log) (unlisted pages page t (take (n - 1) log) low high (ap (contains page) (sym own.1) ∙ off)) in
        same-value pages page (take (n - 1) log) (Abort t listed) off refl (versions_abort pages page (take (n - 1) log) t listed ∙ others-kept t (all_versions pages page (take (n - 1) log)) away)
    at_end (Trim trimmed h) proper here off = same-value pages page (take (n - 1) log) (Trim trimmed h) off (ap (λ (b : Bool). cond b (h ∷ []) []) off) (versions_neutral pages page (take (n - 1) log) (Trim trimmed h) (λ u m later. refl) (λ u. refl) refl)
    at_end (Term term) proper here off = same-value pages page (take (n - 1) log) (Term term) off refl (versions_neutral pages page (take (n - 1) log) (Term term) (λ u m later. refl) (λ u. refl) refl)
