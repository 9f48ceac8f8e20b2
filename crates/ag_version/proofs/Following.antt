-- The order of (commit, LSN), and what follows what.
use Rattle.std.proofs.Common.{◌≡◌, ℕ, ◌<◌, true, false, ◌&&◌, eqb, List, [], ◌∷◌, refl, sym, ◌∙◌, inl, inr, arith}
use Rattle.std.proofs.lemmas.Bool.{and_parts, and_from, or_cases, or_left, or_right, or_from, false≢true, eqb-true, eq-eqb}
use Rattle.std.proofs.lemmas.Bool.Decides.{nat_tests}
use Rattle.ag_model.specs.declared.value.Version.{Version}
use Rattle.ag_model.specs.Page.{is_before, is_committed_at}
use Rattle.ag_version.specs.Trimming.{follows, is_followed}

pub is_before-trans : (u v w : Version) → is_before u v ≡ true → is_before v w ≡ true → is_before u w ≡ true
is_before-trans u v w p q = grind (arith, nat_tests)

pub is_before-irrefl : (v : Version) → is_before v v ≡ false
is_before-irrefl v = grind (arith, nat_tests)

-- what is not before a version is not before one that this is after
pub is_before-through : (v w x : Version) → is_before v w ≡ false → is_before v x ≡ true → is_before w x ≡ true
is_before-through v w x p q = grind (arith, nat_tests)

-- what follows a version follows those that it follows
pub follows-trans : (h k : ℕ) (u v w : Version) → follows h u v ≡ true → follows k v w ≡ true → follows k u w ≡ true
follows-trans h k u v w p q =
    let p1 = and_parts (eqb v.key u.key && is_committed_at h v) (is_before u v) p in
    let p2 = and_parts (eqb v.key u.key) (is_committed_at h v) p1.0 in
    let q1 = and_parts (eqb w.key v.key && is_committed_at k w) (is_before v w) q in
    let q2 = and_parts (eqb w.key v.key) (is_committed_at k w) q1.0 in
    let key : w.key ≡ u.key = eqb-true w.key v.key q2.0 ∙ eqb-true v.key u.key p2.0 in
    and_from (eqb w.key u.key && is_committed_at k w) (is_before u w)
    (and_from (eqb w.key u.key) (is_committed_at k w) (eq-eqb w.key u.key key) q2.1)
    (is_before-trans u v w p1.1 q1.1)

pub follows-irrefl : (h : ℕ) (v : Version) → follows h v v ≡ true → ⊥
follows-irrefl h v p =
    let p1 = and_parts (eqb v.key v.key && is_committed_at h v) (is_before v v) p in
    false≢true (sym (is_before-irrefl v) ∙ p1.1)

-- what a version follows is followed by all that follow this version
pub is_followed-trans : (h k : ℕ) (u v : Version) (vs : List Version) → follows h u v ≡ true → is_followed k vs v ≡ true → is_followed k vs u ≡ true
is_followed-trans h k u v [] p q = absurd (false≢true q)
is_followed-trans h k u v (w ∷ vs) p q = elim (or_cases (follows k v w) (is_followed k vs v) q) [
  | inl here ↦ or_left (follows k u w) (is_followed k vs u) (follows-trans h k u v w p here)
  | inr there ↦ or_right (follows k u w) (is_followed k vs u) (is_followed-trans h k u v vs p there)
]

-- an uncommitted version follows nothing, and nothing follows it
pub follows-open : (h : ℕ) (v w : Version) → w.commit ≡ 0 → follows h v w ≡ false
follows-open h v w e = grind (arith, nat_tests)

pub follows-from_open : (h : ℕ) (v w : Version) → v.commit ≡ 0 → follows h v w ≡ false
follows-from_open h v w e = grind (arith, nat_tests)

-- nor does one that was committed above the horizon
pub follows-late : (h : ℕ) (v w : Version) → h < w.commit → follows h v w ≡ false
follows-late h v w e = grind (arith, nat_tests)

pub follows-from_late : (h : ℕ) (v w : Version) → h < v.commit → follows h v w ≡ false
follows-from_late h v w e = grind (arith, nat_tests)

-- nothing follows a version that no other one follows
pub is_followed-none : (h : ℕ) (v : Version) (vs : List Version) → ((w : Version) → follows h v w ≡ false) → is_followed h vs v ≡ false
is_followed-none h v [] e = refl
is_followed-none h v (w ∷ vs) e = or_from (follows h v w) (is_followed h vs v) (e w) (is_followed-none h v vs e)
