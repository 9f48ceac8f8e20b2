-- Trims up to a snapshot leave the pick at it.
use Rattle.std.proofs.Common.{◌≡◌, ℕ, ◌<◌, ◌≤◌, Bool, true, false, not, ◌&&◌, ◌||◌, cond, eqb, leb, List, [], ◌∷◌, ◌++◌, refl, sym, ap, subst, ◌∙◌, inl, inr, arith}
use Rattle.std.specs.List.{AllByRecursion, list_any, filter}
use Rattle.std.proofs.lemmas.Bool.{cases_Bool, or_cases, or_left, or_right, and_parts, and_from, false≢true, not_from_true, not_from_false, eqb-true, eq-eqb, leb-true, le-leb}
use Rattle.std.proofs.lemmas.Bool.Decides.{nat_tests}
use Rattle.std.proofs.lemmas.List.Elements.{filter-append, recursion_from_All}
use Rattle.std.proofs.lemmas.List.Folds.{list_any_at}
use Rattle.ag_lists.proofs.Filters.{all_filter, all_passed, filter_none}
use Rattle.ag_lists.proofs.Each.{all_map, all_split, all_both}
use Rattle.ag_model.specs.declared.value.Row.TheVariants.{Absent}
use Rattle.ag_model.specs.declared.value.Change.{Change}
use Rattle.ag_model.specs.declared.value.Change.TheVariants.{Put, Del}
use Rattle.ag_model.specs.declared.value.Version.{Version}
use Rattle.ag_model.specs.Page.{is_before, is_committed_at, is_del, is_trimmed_at, untrimmed, greatest, row_of, row_of_first}
use Rattle.ag_version.specs.Trimming.{follows, is_followed}
use Rattle.ag_version.proofs.Lists.{filter-comm}
use Rattle.ag_version.proofs.Untrimmed.{is_gone, each_one, IsOneOf}
use Rattle.ag_law_picks.proofs.Tops.{top_of, greatest-at, none_after_top, none_any, Rise, Rise-filter, above-rest}

-- whether a version is of the key and committed at most at the snapshot
abbrev pub is_seen : ℕ → ℕ → Version → Bool
is_seen key n w = eqb w.key key && is_committed_at n w

any_in_filter : (p q c : Version → Bool) → ((w : Version) → p w ≡ true → (c w ≡ true) × (q w ≡ true)) → (vs : List Version) → list_any p vs ≡ true → list_any q (filter c vs) ≡ true
any_in_filter p q c f [] e = absurd (false≢true e)
any_in_filter p q c f (w ∷ vs) e = elim (or_cases (p w) (list_any p vs) e) [
  | inl here ↦ (let h = f w here in let own = h.0 in rw own (or_left (q w) (list_any q (filter c vs)) h.1))
  | inr there ↦ by_case (c w) w (any_in_filter p q c f vs there)
]
  where
    by_case : (b : Bool) (w : Version) → list_any q (filter c vs) ≡ true → list_any q (cond b (w ∷ filter c vs) (filter c vs)) ≡ true
    by_case true w h = or_right (q w) (list_any q (filter c vs)) h
    by_case false w h = h

-- what follows a seen version by a horizon up to the snapshot is seen too, and comes after it
follower-seen : (key n h : ℕ) (g w : Version) → is_seen key n g ≡ true → h ≤ n → follows h g w ≡ true → (is_seen key n w ≡ true) × (is_before g w ≡ true)
follower-seen key n h g w seen le f =
    let p = and_parts (eqb w.key g.key && is_committed_at h w) (is_before g w) f in
    let q = and_parts (eqb w.key g.key) (is_committed_at h w) p.0 in
    let c = and_parts (not (eqb w.commit 0)) (leb w.commit h) q.1 in
    let s = and_parts (eqb g.key key) (is_committed_at n g) seen in
    let low = leb-true w.commit h c.1 in
    (and_from (eqb w.key key) (is_committed_at n w) (eq-eqb w.key key (eqb-true w.key g.key q.0 ∙ eqb-true g.key key s.0)) (and_from (not (eqb w.commit 0)) (leb w.commit n) c.0 (le-leb w.commit n (omega arith))), p.1)

-- the greatest seen version is gone only as a deletion, and then all seen versions are gone
abbrev GoneWith : ℕ → List Version → Version → Type 0
GoneWith h all g = (is_del g.change ≡ true) × (is_committed_at h g ≡ true) × (is_trimmed_at all g h ≡ true)

why_gone : (key n : ℕ) (hs : List ℕ) (all : List Version) (g : Version) → AllByRecursion (λ h. h ≤ n) hs → is_seen key n g ≡ true → list_any (is_before g) (filter (is_seen key n) all) ≡ false → is_gone hs all g ≡ true
    → (h : ℕ) × GoneWith h all g × ((q : ℕ → Bool) → q h ≡ true → list_any q hs ≡ true)
why_gone key n [] all g low seen last e = absurd (false≢true e)
why_gone key n (h ∷ hs) all g low seen last e = elim (or_cases (is_trimmed_at all g h) (is_gone hs all g) e) [
  | inr there ↦ (let r = why_gone key n hs all g low.1 seen last there in (r.0, r.1, λ q t. or_right (q h) (list_any q hs) (r.2 q t)))
  | inl here ↦
      let p = and_parts (not (eqb g.commit 0)) (is_followed h all g || (is_del g.change && is_committed_at h g)) here in
      elim (or_cases (is_followed h all g) (is_del g.change && is_committed_at h g) p.1) [
        | inl followed ↦ absurd (false≢true (sym last ∙ any_in_filter (follows h g) (is_before g) (is_seen key n) (λ w f. follower-seen key n h g w seen low.0 f) all followed))
        | inr deleted ↦ (let d = and_parts (is_del g.change) (is_committed_at h g) deleted in (h, (d.0, d.1, here), λ q t. or_left (q h) (list_any q hs) t))
      ]
]

-- what comes before a gone deletion is gone
gone-too : (key n h : ℕ) (hs : List ℕ) (all : List Version) (g v : Version) → GoneWith h all g → ((q : ℕ → Bool) → q h ≡ true → list_any q hs ≡ true) → IsOneOf all g → is_seen key n g ≡ true → is_seen key n v ≡ true → is_before v g ≡ true → is_gone hs all v ≡ true
gone-too key n h hs all g v gone at one sg sv before =
    let a = and_parts (eqb g.key key) (is_committed_at n g) sg in
    let b = and_parts (eqb v.key key) (is_committed_at n v) sv in
    let committed = and_parts (not (eqb v.commit 0)) (leb v.commit n) b.1 in
    let same : g.key ≡ v.key = eqb-true g.key key a.0 ∙ sym (eqb-true v.key key b.0) in
    let followed : is_followed h all v ≡ true = one (follows h v) (and_from (eqb g.key v.key && is_committed_at h g) (is_before v g) (and_from (eqb g.key v.key) (is_committed_at h g) (eq-eqb g.key v.key same) gone.1) before) in
    at (is_trimmed_at all v) (and_from (not (eqb v.commit 0)) (is_followed h all v || (is_del v.change && is_committed_at h v)) committed.0 (or_left (is_followed h all v) (is_del v.change && is_committed_at h v) followed))

-- of two versions one comes first, but where the LSN is the same
before-turned : (g x : Version) → g.lsn < x.lsn → is_before g x ≡ false → is_before x g ≡ true
before-turned g x lt e = grind (arith, nat_tests)

row-deleted : (c : Change) → is_del c ≡ true → row_of c ≡ Absent
row-deleted Del e = refl
row-deleted (Put v) e = cc

-- the pick from what is left
pub trims-leave : (key n : ℕ) (hs : List ℕ) (all : List Version) → AllByRecursion (λ h. h ≤ n) hs → Rise 0 all → row_of_first (greatest (filter (is_seen key n) (untrimmed hs all))) ≡ row_of_first (greatest (filter (is_seen key n) all))
trims-leave key n hs all low rising =
    ap (λ (z : List Version). row_of_first (greatest z)) (filter-comm (is_seen key n) (λ v. not (is_gone hs all v)) all) ∙ by_list (filter (is_seen key n) all) refl
  where
    by_list : (seen : List Version) → filter (is_seen key n) all ≡ seen → row_of_first (greatest (filter (λ v. not (is_gone hs all v)) seen)) ≡ row_of_first (greatest seen)
    by_list [] e = refl
    by_list (s ∷ ss) e =
        let t = top_of s ss in
        let g = t.top in
        let facts : AllByRecursion (λ v. IsOneOf all v × (is_seen key n v ≡ true)) (t.front ++ g ∷ t.rest) =
        subst (AllByRecursion (λ v. IsOneOf all v × (is_seen key n v ≡ true))) (e ∙ t.parts)
        (all_both (IsOneOf all) (λ v. is_seen key n v ≡ true) (filter (is_seen key n) all) (all_filter (IsOneOf all) (is_seen key n) all (each_one all)) (all_passed (is_seen key n) all)) in
        let split = all_split (λ v. IsOneOf all v × (is_seen key n v ≡ true)) t.front (g ∷ t.rest) facts in
        let own = split.1.0 in
        let rises : Rise 0 (t.front ++ g ∷ t.rest) = subst (Rise 0) (e ∙ t.parts) (Rise-filter (is_seen key n) 0 all rising) in
        let later = above-rest 0 t.front g t.rest rises in
        let whole : row_of_first (greatest (s ∷ ss)) ≡ row_of g.change = ap (λ (z : List Version). row_of_first (greatest z)) t.parts ∙ ap row_of_first (greatest-at t.front g t.rest t.before t.after) in
        let p : Version → Bool = λ v. not (is_gone hs all v) in
        let left : filter p (s ∷ ss) ≡ filter p t.front ++ filter p (g ∷ t.rest) = ap (filter p) t.parts ∙ filter-append p t.front (g ∷ t.rest) in
        elim (cases_Bool (is_gone hs all g)) [
          | inr stays ↦
              let kept : filter p (g ∷ t.rest) ≡ g ∷ filter p t.rest = (let k : p g ≡ true = not_from_false (is_gone hs all g) stays in rw k refl) in
              ap (λ (z : List Version). row_of_first (greatest z)) (left ∙ ap (λ (z : List Version). filter p t.front ++ z) kept)
              ∙ ap row_of_first (greatest-at (filter p t.front) g (filter p t.rest) (all_filter (λ v. is_before v g ≡ true) p t.front t.before) (all_filter (λ v. is_before g v ≡ false) p t.rest t.after))
              ∙ sym whole
          | inl gone ↦
              let last : list_any (is_before g) (filter (is_seen key n) all) ≡ false = ap (list_any (is_before g)) e ∙ none_any (is_before g) (s ∷ ss) (none_after_top (s ∷ ss) t) in
              let why = why_gone key n hs all g low own.1 last gone in
              let none : (v : Version) → is_gone hs all v ≡ true → p v ≡ false = λ v h. not_from_true (is_gone hs all v) h in
              let fronts : AllByRecursion (λ v. p v ≡ false) t.front = all_map (λ v. (is_before v g ≡ true) × (IsOneOf all v × (is_seen key n v ≡ true))) (λ v. p v ≡ false) (λ v h. none v (gone-too key n why.0 hs all g v why.1 why.2 own.0 own.1 h.1.1 h.0)) t.front (all_both (λ v. is_before v g ≡ true) (λ v. IsOneOf all v × (is_seen key n v ≡ true)) t.front t.before split.0) in
              let rests : AllByRecursion (λ v. p v ≡ false) t.rest = all_map (λ v. ((g.lsn < v.lsn) × (is_before g v ≡ false)) × (IsOneOf all v × (is_seen key n v ≡ true))) (λ v. p v ≡ false) (λ v h. none v (gone-too key n why.0 hs all g v why.1 why.2 own.0 own.1 h.1.1 (before-turned g v h.0.0 h.0.1))) t.rest
              (all_both (λ v. (g.lsn < v.lsn) × (is_before g v ≡ false)) (λ v. IsOneOf all v × (is_seen key n v ≡ true)) t.rest (all_both (λ v. g.lsn < v.lsn) (λ v. is_before g v ≡ false) t.rest later t.after) split.1.1) in
              let empty : filter p (s ∷ ss) ≡ [] = left ∙ ap (λ (z : List Version). z ++ filter p (g ∷ t.rest)) (filter_none p t.front fronts) ∙ filter_none p (g ∷ t.rest) (none g gone, rests) in
              ap (λ (z : List Version). row_of_first (greatest z)) empty ∙ sym (whole ∙ row-deleted g.change why.1.0)
        ]
