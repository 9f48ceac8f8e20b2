-- Records between two LSNs that touch a page.
use Rattle.std.proofs.Common.{◌≡◌, ℕ, ◌+◌, ◌-◌, ◌<◌, ◌≤◌, Bool, false, List, length, get_or, take, drop, sym, ap, ◌∙◌, inl, inr, arith}
use Rattle.std.specs.List.{list_any}
use Rattle.std.proofs.lemmas.Bool.{cases_lt, false≢true, false_from_ne_true}
use Rattle.std.proofs.lemmas.List.{length-take, length-drop, get_or-take, get_or-drop, take-take, drop-take}
use Rattle.std.proofs.lemmas.List.Folds.{list_any_at, list_any_none}
use Rattle.std.proofs.Math.ListN.{drop_of_length-le}
use Rattle.ag_model.specs.declared.record.Record.{Record}
use Rattle.ag_model.specs.Blocks.{after_to}

-- one of some records that none passes
none-at : (p : Record → Bool) (rs : List Record) (i : ℕ) (d : Record) → list_any p rs ≡ false → i < length rs → p (get_or rs i d) ≡ false
none-at p rs i d none lt = false_from_ne_true (p (get_or rs i d)) (λ on. false≢true (sym none ∙ list_any_at p rs i d lt on))

-- a record between two LSNs
at-between : (low high i : ℕ) (rs : List Record) (d : Record) → low + i < high → get_or (after_to low high rs) i d ≡ get_or rs (low + i) d
at-between low high i rs d lt = get_or-drop low (take high rs) i d ∙ get_or-take high rs (low + i) d lt

-- how many there are
count-between : (low high i : ℕ) (rs : List Record) → i < length (after_to low high rs) → (low + i < high) × (low + i < length rs)
count-between low high i rs lt =
    let size = length-drop low (take high rs) in
    let long = length-take high rs in
    (omega arith, omega arith)

-- and that one stands between them
is-between : (low high i : ℕ) (rs : List Record) → low + i < high → low + i < length rs → i < length (after_to low high rs)
is-between low high i rs lt within = omega (arith, length-drop low (take high rs), length-take high rs)

-- none between the first two and none between the last two
pub none-joined : (p : Record → Bool) (a b c : ℕ) (rs : List Record) → list_any p (after_to a b rs) ≡ false → list_any p (after_to b c rs) ≡ false → list_any p (after_to a c rs) ≡ false
none-joined p a b c rs first then = list_any_none p (after_to a c rs) (λ i d lt.
    let in_all = count-between a c i rs lt in
    ap p (at-between a c i rs d in_all.0) ∙ elim (cases_lt (a + i) b) [
      | inl early ↦ sym (ap p (at-between a b i rs d early)) ∙ none-at p (after_to a b rs) i d first (is-between a b i rs early in_all.1)
      | inr late ↦
          let e : b + (a + i - b) ≡ a + i = omega arith in
          sym (ap (λ (k : ℕ). p (get_or rs k d)) e)
          ∙ sym (ap p (at-between b c (a + i - b) rs d (omega arith)))
          ∙ none-at p (after_to b c rs) (a + i - b) d then (is-between b c (a + i - b) rs (omega arith) (omega arith))
    ])

-- none between two LSNs, and so none up to an earlier one
pub none-back : (p : Record → Bool) (a b c : ℕ) (rs : List Record) → c ≤ b → list_any p (after_to a b rs) ≡ false → list_any p (after_to a c rs) ≡ false
none-back p a b c rs le none = list_any_none p (after_to a c rs) (λ i d lt.
    let in_all = count-between a c i rs lt in
    let low : a + i < b = omega (arith, in_all.0, le) in
    ap p (at-between a c i rs d in_all.0) ∙ sym (ap p (at-between a b i rs d low)) ∙ none-at p (after_to a b rs) i d none (is-between a b i rs low in_all.1))

-- the records of a slice
pub slice-between : (low high : ℕ) (rs : List Record) → low ≤ high → take (high - low) (drop low rs) ≡ after_to low high rs
slice-between low high rs le =
    let e : low + (high - low) ≡ high = omega arith in
    sym (drop-take low (high - low) rs) ∙ ap (λ (n : ℕ). drop low (take n rs)) e

-- none after an LSN up to itself
pub none-here : (p : Record → Bool) (a : ℕ) (rs : List Record) → list_any p (after_to a a rs) ≡ false
none-here p a rs = list_any_none p (after_to a a rs) (λ i d lt. let in_all = count-between a a i rs lt in absurd (omega arith))

-- the records of a prefix
pub between-cut : (low high end : ℕ) (rs : List Record) → high ≤ end → after_to low high (take end rs) ≡ after_to low high rs
between-cut low high end rs le = ap (drop low) (take-take high end rs le)

-- none after an LSN up to an earlier one
pub none-past : (p : Record → Bool) (a b : ℕ) (rs : List Record) → b ≤ a → list_any p (after_to a b rs) ≡ false
none-past p a b rs le = ap (list_any p) (drop_of_length-le (take b rs) (omega (arith, length-take b rs)))
