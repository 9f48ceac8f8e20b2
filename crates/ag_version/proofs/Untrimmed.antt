-- What Trims leave of a page's versions in a log with one more record.
use Rattle.std.proofs.Common.{◌≡◌, ℕ, ◌<◌, Bool, true, false, not, ◌&&◌, ◌||◌, cond, eqb, leb, List, [], ◌∷◌, ◌++◌, map, refl, sym, ap, ◌∙◌, inl, inr, arith}
use Rattle.std.specs.List.{AllByRecursion, filter, list_any}
use Rattle.std.proofs.lemmas.Bool.{and_parts, and_from, or_cases, or_left, or_right, cases_Bool, false_from_ne_true, false≢true, not-true, not-false, eqb-true, lt-leb}
use Rattle.std.proofs.lemmas.Bool.Decides.{nat_tests}
use Rattle.std.proofs.lemmas.List.Elements.{filter-append, recursion_from_All}
use Rattle.std.proofs.lemmas.List.Folds.{list_any-append, list_any_at}
use Rattle.std.proofs.Math.Bool.{and-false}
use Rattle.ag_lists.proofs.Filters.{all_passed}
use Rattle.ag_lists.proofs.Each.{all_map, all_always}
use Rattle.ag_model.specs.declared.value.Version.{Version}
use Rattle.ag_model.specs.Page.{is_before, is_committed_at, is_del, is_trimmed_at, untrimmed}
use Rattle.ag_version.specs.Edits.{stamped, without_txn, left_by_trim}
use Rattle.ag_version.specs.Trimming.{follows, is_followed}
use Rattle.ag_version.proofs.Lists.{filter-agree, filter-map_agree, filter-comm, any-agree, any-map_agree, any-filter_agree, any-never}
use Rattle.ag_version.proofs.Following.{is_followed-trans, follows-open, follows-late, follows-from_late, is_followed-none}
use Rattle.ag_version.proofs.Removing.{filter_both}

-- whether a Trim to one of these horizons leaves out the version
abbrev pub is_gone : List ℕ → List Version → Version → Bool
is_gone hs all v = list_any (is_trimmed_at all v) hs

-- all horizons are below an LSN
abbrev pub AreBelow : ℕ → List ℕ → Type 0
AreBelow n hs = AllByRecursion (λ h. h < n) hs

-- the versions of a transaction are not committed
abbrev pub HaveOpen : ℕ → List Version → Type 0
HaveOpen t vs = AllByRecursion (λ v. v.txn ≡ t → v.commit ≡ 0) vs

-- a Trim tells versions apart by their commit and what follows them
trimmed-is : (h : ℕ) (xs ys : List Version) (v : Version) → is_followed h xs v ≡ is_followed h ys v → is_trimmed_at xs v h ≡ is_trimmed_at ys v h
trimmed-is h xs ys v e = ap (λ (b : Bool). not (eqb v.commit 0) && (b || (is_del v.change && is_committed_at h v))) e

gone-is : (hs : List ℕ) (xs ys : List Version) (v : Version) → ((h : ℕ) → is_followed h xs v ≡ is_followed h ys v) → is_gone hs xs v ≡ is_gone hs ys v
gone-is hs xs ys v e = any-agree (is_trimmed_at xs v) (is_trimmed_at ys v) hs (all_always (λ h. is_trimmed_at xs v h ≡ is_trimmed_at ys v h) (λ h. trimmed-is h xs ys v (e h)) hs)

open-trimmed : (h : ℕ) (all : List Version) (v : Version) → v.commit ≡ 0 → is_trimmed_at all v h ≡ false
open-trimmed h all v e = rw e refl

or-false-same : (a b : Bool) → b ≡ false → (a || (b || false)) ≡ a
or-false-same true b e = refl
or-false-same false b e = rw e refl

-- ---- a new version

pub untrimmed_push : (hs : List ℕ) (all : List Version) (w : Version) → w.commit ≡ 0 → untrimmed hs (all ++ w ∷ []) ≡ untrimmed hs all ++ w ∷ []
untrimmed_push hs all w fresh =
    let more = all ++ w ∷ [] in
    let same : (v : Version) → is_gone hs more v ≡ is_gone hs all v = λ v. gone-is hs more all v (λ h. list_any-append (follows h v) all (w ∷ []) ∙ or-false-same (is_followed h all v) (follows h v w) (follows-open h v w fresh)) in
    let stays : is_gone hs more w ≡ false = any-never (is_trimmed_at more w) (λ h. open-trimmed h more w fresh) hs in
    filter-append (λ v. not (is_gone hs more v)) all (w ∷ [])
    ∙ ap (λ (z : List Version). z ++ filter (λ v. not (is_gone hs more v)) (w ∷ [])) (filter-agree (λ v. not (is_gone hs more v)) (λ v. not (is_gone hs all v)) all (all_always (λ v. not (is_gone hs more v) ≡ not (is_gone hs all v)) (λ v. ap not (same v)) all))
    ∙ ap (λ (b : Bool). untrimmed hs all ++ cond (not b) (w ∷ []) []) stays

-- ---- stamped versions

stamped-own : (n t : ℕ) (w : Version) → eqb w.txn t ≡ true → stamped n t w ≡ record { lsn = w.lsn; txn = w.txn; commit = n; key = w.key; change = w.change }
stamped-own n t w e = rw e refl

stamped-other : (n t : ℕ) (w : Version) → eqb w.txn t ≡ false → stamped n t w ≡ w
stamped-other n t w e = rw e refl

stamped-commit : (n t : ℕ) (w : Version) → eqb w.txn t ≡ true → (stamped n t w).commit ≡ n
stamped-commit n t w e = rw e refl

-- a stamped version is followed by what it was followed by
follows-stamped_other : (n t h : ℕ) (v w : Version) → h < n → (w.txn ≡ t → w.commit ≡ 0) → follows h v (stamped n t w) ≡ follows h v w
follows-stamped_other n t h v w below fresh = elim (cases_Bool (eqb w.txn t)) [
  | inl own ↦
      let late : h < (stamped n t w).commit = rw (stamped-commit n t w own) below in
      follows-late h v (stamped n t w) late ∙ sym (follows-open h v w (fresh (eqb-true w.txn t own)))
  | inr other ↦ ap (follows h v) (stamped-other n t w other)
]

trimmed-stamped : (n t h : ℕ) (all : List Version) (v : Version) → HaveOpen t all → (v.txn ≡ t → v.commit ≡ 0) → h < n → is_trimmed_at (map (stamped n t) all) (stamped n t v) h ≡ is_trimmed_at all v h
trimmed-stamped n t h all v free fresh below = elim (cases_Bool (eqb v.txn t)) [
  | inl own ↦
      let more = map (stamped n t) all in
      let w = stamped n t v in
      let is : w.commit ≡ n = stamped-commit n t v own in
      let late : h < w.commit = rw is below in
      let none : is_followed h more w ≡ false = is_followed-none h w more (λ u. follows-from_late h w u late) in
      let after : is_committed_at h w ≡ false = (let z : leb w.commit h ≡ false = lt-leb w.commit h late in rw z (and-false (not (eqb w.commit 0)))) in
      late-trimmed h more w none after ∙ sym (open-trimmed h all v (fresh (eqb-true v.txn t own)))
  | inr other ↦
      ap (λ (z : Version). is_trimmed_at (map (stamped n t) all) z h) (stamped-other n t v other)
      ∙ trimmed-is h (map (stamped n t) all) all v (any-map_agree (follows h v) (follows h v) (stamped n t) all (all_map (λ w. w.txn ≡ t → w.commit ≡ 0) (λ w. follows h v (stamped n t w) ≡ follows h v w) (λ w f. follows-stamped_other n t h v w below f) all free))
]
  where
    never : (a b : Bool) → (a && (b && false)) ≡ false
    never true true = refl
    never true false = refl
    never false b = refl

    late-trimmed : (h : ℕ) (more : List Version) (w : Version) → is_followed h more w ≡ false → is_committed_at h w ≡ false → is_trimmed_at more w h ≡ false
    late-trimmed h more w none after = ap (λ (b : Bool). not (eqb w.commit 0) && (b || (is_del w.change && is_committed_at h w))) none ∙ ap (λ (b : Bool). not (eqb w.commit 0) && (is_del w.change && b)) after ∙ never (not (eqb w.commit 0)) (is_del w.change)

pub untrimmed_stamped : (n t : ℕ) (hs : List ℕ) (all : List Version) → HaveOpen t all → AreBelow n hs → untrimmed hs (map (stamped n t) all) ≡ map (stamped n t) (untrimmed hs all)
untrimmed_stamped n t hs all free below =
    let more = map (stamped n t) all in
    filter-map_agree (λ v. not (is_gone hs all v)) (λ v. not (is_gone hs more v)) (stamped n t) all
    (all_map (λ v. v.txn ≡ t → v.commit ≡ 0) (λ v. not (is_gone hs more (stamped n t v)) ≡ not (is_gone hs all v))
    (λ v f. ap not (any-agree (is_trimmed_at more (stamped n t v)) (is_trimmed_at all v) hs (all_map (λ h. h < n) (λ h. is_trimmed_at more (stamped n t v) h ≡ is_trimmed_at all v h) (λ h lt. trimmed-stamped n t h all v free f lt) hs below)))
    all free)

-- ---- versions of other transactions

pub untrimmed_without : (t : ℕ) (hs : List ℕ) (all : List Version) → HaveOpen t all → untrimmed hs (without_txn t all) ≡ without_txn t (untrimmed hs all)
untrimmed_without t hs all free =
    let keep : Version → Bool = λ w. not (eqb w.txn t) in
    let rest = without_txn t all in
    let same : (v : Version) → is_gone hs rest v ≡ is_gone hs all v = λ v. gone-is hs rest all v (λ h. any-filter_agree (follows h v) keep all
    (all_map (λ w. w.txn ≡ t → w.commit ≡ 0) (λ w. keep w ≡ false → follows h v w ≡ false) (λ w f e. follows-open h v w (f (eqb-true w.txn t (not-false (eqb w.txn t) e)))) all free)) in
    filter-agree (λ v. not (is_gone hs rest v)) (λ v. not (is_gone hs all v)) rest (all_always (λ v. not (is_gone hs rest v) ≡ not (is_gone hs all v)) (λ v. ap not (same v)) rest)
    ∙ filter-comm (λ v. not (is_gone hs all v)) keep all

-- ---- a Trim

-- each version of a list is one of it
abbrev pub IsOneOf : List Version → Version → Type 0
IsOneOf all w = (p : Version → Bool) → p w ≡ true → list_any p all ≡ true

pub each_one : (all : List Version) → AllByRecursion (IsOneOf all) all
each_one all = recursion_from_All (IsOneOf all) all (λ k d lt p e. list_any_at p all k d lt e)

-- what a Trim leaves out that follows a version: then the Trim leaves out this one too
trimmed-before : (h k : ℕ) (all : List Version) (v w : Version) → IsOneOf all w → follows h v w ≡ true → is_trimmed_at all w k ≡ true → is_trimmed_at all v k ≡ true
trimmed-before h k all v w one f e =
    let p = and_parts (not (eqb w.commit 0)) (is_followed k all w || (is_del w.change && is_committed_at k w)) e in
    let fs = and_parts (eqb w.key v.key && is_committed_at h w) (is_before v w) f in
    let key = (and_parts (eqb w.key v.key) (is_committed_at h w) fs.0).0 in
    let done : not (eqb v.commit 0) ≡ true = committed v w fs.1 p.0 in
    let later : is_followed k all v ≡ true = elim (or_cases (is_followed k all w) (is_del w.change && is_committed_at k w) p.1) [
      | inl deep ↦ is_followed-trans h k v w all f deep
      | inr del ↦ one (follows k v) (and_from (eqb w.key v.key && is_committed_at k w) (is_before v w) (and_from (eqb w.key v.key) (is_committed_at k w) key (and_parts (is_del w.change) (is_committed_at k w) del).1) fs.1)
    ] in
    and_from (not (eqb v.commit 0)) (is_followed k all v || (is_del v.change && is_committed_at k v)) done (or_left (is_followed k all v) (is_del v.change && is_committed_at k v) later)
  where
    -- what comes before a committed version is committed
    committed : (v w : Version) → is_before v w ≡ true → not (eqb w.commit 0) ≡ true → not (eqb v.commit 0) ≡ true
    committed v w b c = grind (arith, nat_tests)

gone-before : (h : ℕ) (hs : List ℕ) (all : List Version) (v w : Version) → IsOneOf all w → follows h v w ≡ true → is_gone hs all w ≡ true → is_gone hs all v ≡ true
gone-before h [] all v w one f e = absurd (false≢true e)
gone-before h (k ∷ hs) all v w one f e = elim (or_cases (is_trimmed_at all w k) (is_gone hs all w) e) [
  | inl here ↦ or_left (is_trimmed_at all v k) (is_gone hs all v) (trimmed-before h k all v w one f here)
  | inr there ↦ or_right (is_trimmed_at all v k) (is_gone hs all v) (gone-before h hs all v w one f there)
]

-- what is left of a list tells of those that are left that they are followed
followed-left : (h : ℕ) (hs : List ℕ) (all : List Version) (v : Version) → is_gone hs all v ≡ false → is_followed h (untrimmed hs all) v ≡ is_followed h all v
followed-left h hs all v stays =
    any-filter_agree (follows h v) (λ w. not (is_gone hs all w)) all
    (all_map (IsOneOf all) (λ w. not (is_gone hs all w) ≡ false → follows h v w ≡ false) (λ w one gone. false_from_ne_true (follows h v w) (λ f. false≢true (sym stays ∙ gone-before h hs all v w one f (not-false (is_gone hs all w) gone)))) all (each_one all))

-- one horizon more leaves what a Trim leaves of what was left
pub untrimmed_trim : (hs : List ℕ) (h : ℕ) (all : List Version) → untrimmed (hs ++ h ∷ []) all ≡ left_by_trim h (untrimmed hs all)
untrimmed_trim hs h all =
    let rest = untrimmed hs all in
    let more : (v : Version) → not (is_gone (hs ++ h ∷ []) all v) ≡ (not (is_gone hs all v) && not (is_trimmed_at all v h)) = λ v. ap not (list_any-append (is_trimmed_at all v) hs (h ∷ [])) ∙ not-or (is_gone hs all v) (is_trimmed_at all v h) in
    let left : filter (λ v. not (is_trimmed_at rest v h)) rest ≡ filter (λ v. not (is_trimmed_at all v h)) rest =
    filter-agree (λ v. not (is_trimmed_at rest v h)) (λ v. not (is_trimmed_at all v h)) rest
    (all_map (λ v. not (is_gone hs all v) ≡ true) (λ v. not (is_trimmed_at rest v h) ≡ not (is_trimmed_at all v h)) (λ v e. ap not (trimmed-is h rest all v (followed-left h hs all v (not-true (is_gone hs all v) e)))) rest (all_passed (λ v. not (is_gone hs all v)) all)) in
    sym (filter_both (λ v. not (is_gone hs all v)) (λ v. not (is_trimmed_at all v h)) (λ v. not (is_gone (hs ++ h ∷ []) all v)) more all) ∙ sym left
  where
    not-or : (a b : Bool) → not (a || (b || false)) ≡ (not a && not b)
    not-or true b = refl
    not-or false true = refl
    not-or false false = refl
