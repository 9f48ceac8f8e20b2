-- The greatest version of a list, by where it stands.
use Rattle.std.proofs.Common.{◌≡◌, ℕ, ◌<◌, ◌≤◌, Bool, true, false, ◌||◌, cond, List, [], ◌∷◌, ◌++◌, refl, sym, ap, subst, ◌∙◌, inl, inr, arith}
use Rattle.std.specs.List.{AllByRecursion, list_any, filter}
use Rattle.std.proofs.lemmas.Bool.{cases_Bool, or_parts, or_from, or_left, or_right, or_cases, false≢true}
use Rattle.std.proofs.lemmas.Bool.Decides.{nat_tests}
use Rattle.std.proofs.lemmas.List.Folds.{list_any-append}
use Rattle.ag_version.proofs.Following.{is_before-irrefl}
use Rattle.ag_lists.proofs.Each.{all_append}
use Rattle.ag_model.specs.declared.value.Version.{Version}
use Rattle.ag_model.specs.Page.{is_before, greatest}

-- all of these versions come before one
abbrev pub ComeBefore : Version → List Version → Type 0
ComeBefore g vs = AllByRecursion (λ v. is_before v g ≡ true) vs

-- none of these versions comes after one
abbrev pub NoneAfter : Version → List Version → Type 0
NoneAfter g vs = AllByRecursion (λ v. is_before g v ≡ false) vs

pub none_any : (p : Version → Bool) (vs : List Version) → AllByRecursion (λ v. p v ≡ false) vs → list_any p vs ≡ false
none_any p [] h = refl
none_any p (v ∷ vs) h = or_from (p v) (list_any p vs) h.0 (none_any p vs h.1)

pub any_none : (p : Version → Bool) (vs : List Version) → list_any p vs ≡ false → AllByRecursion (λ v. p v ≡ false) vs
any_none p [] h = tt
any_none p (v ∷ vs) h = (let e = or_parts (p v) (list_any p vs) h in (e.0, any_none p vs e.1))

-- the greatest one
pub greatest-at : (a : List Version) (g : Version) (b : List Version) → ComeBefore g a → NoneAfter g b → greatest (a ++ g ∷ b) ≡ g ∷ []
greatest-at [] g b h k = (let none = none_any (is_before g) b k in rw none refl)
greatest-at (v ∷ a) g b h k =
    let some : list_any (is_before v) (a ++ g ∷ b) ≡ true = list_any-append (is_before v) a (g ∷ b) ∙ or_right (list_any (is_before v) a) (is_before v g || list_any (is_before v) b) (or_left (is_before v g) (list_any (is_before v) b) h.0) in
    rw some (greatest-at a g b h.1 k)

-- what comes before one version comes before another one, or that one comes before the first
before-either : (v w g : Version) → is_before v w ≡ true → is_before g w ≡ false → is_before v g ≡ true
before-either v w g p q = grind (arith, nat_tests)

before-some : (v g : Version) (vs : List Version) → list_any (is_before v) vs ≡ true → NoneAfter g vs → is_before v g ≡ true
before-some v g [] e h = absurd (false≢true e)
before-some v g (w ∷ vs) e h = elim (or_cases (is_before v w) (list_any (is_before v) vs) e) [
  | inl here ↦ before-either v w g here h.0
  | inr there ↦ before-some v g vs there h.1
]

-- where the greatest one stands
pub record TopOf (vs : List Version) : Type 0 where
  pub front : List Version
  pub top : Version
  pub rest : List Version
  pub parts : vs ≡ front ++ top ∷ rest
  pub before : ComeBefore top front
  pub after : NoneAfter top rest

before-flip : (v g : Version) → is_before v g ≡ true → is_before g v ≡ false
before-flip v g e = grind (arith, nat_tests)

flip_all : (g : Version) (vs : List Version) → ComeBefore g vs → NoneAfter g vs
flip_all g [] h = tt
flip_all g (v ∷ vs) h = (before-flip v g h.0, flip_all g vs h.1)

-- nothing of the list comes after its greatest one
pub none_after_top : (vs : List Version) (t : TopOf vs) → NoneAfter t.top vs
none_after_top vs t = subst (NoneAfter t.top) (sym t.parts) (all_append (λ v. is_before t.top v ≡ false) t.front (t.top ∷ t.rest) (flip_all t.top t.front t.before) (is_before-irrefl t.top, t.after))

pub top_of : (v : Version) (vs : List Version) → TopOf (v ∷ vs)
top_of v [] = record { front = []; top = v; rest = []; parts = refl; before = tt; after = tt }
top_of v (w ∷ vs) = elim (cases_Bool (list_any (is_before v) (w ∷ vs))) [
  | inl some ↦
      let t = top_of w vs in
      record { front = v ∷ t.front; top = t.top; rest = t.rest; parts = ap (λ (z : List Version). v ∷ z) t.parts; before = (before-some v t.top (w ∷ vs) some (none_after_top (w ∷ vs) t), t.before); after = t.after }
  | inr none ↦ record { front = []; top = v; rest = w ∷ vs; parts = refl; before = tt; after = any_none (is_before v) (w ∷ vs) none }
]

-- ---- in order of LSN

-- the LSNs rise from above this one
abbrev pub Rise : ℕ → List Version → Type 0
Rise low [] = Unit {0}
Rise low (v ∷ vs) = (low < v.lsn) × Rise v.lsn vs

pub Rise-weaker : (low lower : ℕ) (vs : List Version) → lower ≤ low → Rise low vs → Rise lower vs
Rise-weaker low lower [] le h = tt
Rise-weaker low lower (v ∷ vs) le h = (let above = h.0 in omega arith, h.1)

pub Rise-filter : (p : Version → Bool) (low : ℕ) (vs : List Version) → Rise low vs → Rise low (filter p vs)
Rise-filter p low [] h = tt
Rise-filter p low (v ∷ vs) h =
    let above = h.0 in
    Rise-case (p v) low v (filter p vs) above (Rise-filter p v.lsn vs h.1)
  where
    Rise-case : (b : Bool) (low : ℕ) (v : Version) (vs : List Version) → low < v.lsn → Rise v.lsn vs → Rise low (cond b (v ∷ vs) vs)
    Rise-case true low v vs above h = (above, h)
    Rise-case false low v vs above h = Rise-weaker v.lsn low vs (omega arith) h

-- what follows in the list has a greater LSN
above-all : (low : ℕ) (vs : List Version) → Rise low vs → AllByRecursion (λ v. low < v.lsn) vs
above-all low [] h = tt
above-all low (v ∷ vs) h = (h.0, above-all low vs (let above = h.0 in Rise-weaker v.lsn low vs (omega arith) h.1))

pub above-rest : (low : ℕ) (a : List Version) (g : Version) (b : List Version) → Rise low (a ++ g ∷ b) → AllByRecursion (λ v. g.lsn < v.lsn) b
above-rest low [] g b h = above-all g.lsn b h.1
above-rest low (v ∷ a) g b h = above-rest v.lsn a g b h.1

low-below : (low : ℕ) (a : List Version) (g : Version) (b : List Version) → Rise low (a ++ g ∷ b) → low < g.lsn
low-below low [] g b h = h.0
low-below low (v ∷ a) g b h = (let one = h.0 in let two = low-below v.lsn a g b h.1 in omega arith)

pub below-front : (low : ℕ) (a : List Version) (g : Version) (b : List Version) → Rise low (a ++ g ∷ b) → AllByRecursion (λ v. v.lsn < g.lsn) a
below-front low [] g b h = tt
below-front low (v ∷ a) g b h = (low-below v.lsn a g b h.1, below-front v.lsn a g b h.1)
