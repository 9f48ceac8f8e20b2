-- The LSN of a page value: the last one whose record touches the page.
use Rattle.std.proofs.Common.{◌≡◌, ℕ, zero, suc, ◌+◌, ◌-◌, ◌<◌, ◌≤◌, Bool, true, false, cond, List, [], ◌∷◌, length, get_or, take, refl, sym, ap, ◌∙◌, arith}
use Rattle.std.specs.List.{fold, enumerate_from}
use Rattle.std.proofs.lemmas.List.{length-take, get_or-take}
use Rattle.std.proofs.lemmas.Option.{slice_get_within, get_or_from_slice_get}
use Rattle.ag_model.specs.declared.record.Record.{Record}
use Rattle.ag_model.specs.Page.{value}
use Rattle.ag_model.specs.Rows.{touches}
use Rattle.ag_version.specs.Steps.{IsAt}

module _ (pages page : ℕ) where
  abbrev touch : ℕ → ℕ × Record → ℕ
  touch last r = cond (touches pages page r.1) r.0 last

  next-below : (b : Bool) (k last : ℕ) → last < k → cond b k last < k + 1
  next-below true k last h = omega arith
  next-below false k last h = omega arith

  next-above : (b : Bool) (k last : ℕ) → last < k → last ≤ cond b k last
  next-above true k last h = omega arith
  next-above false k last h = omega arith

  touch-below : (k last : ℕ) (rs : List Record) → last < k → fold touch last (enumerate_from k rs) < k + length rs
  touch-below k last [] h = omega arith
  touch-below k last (r ∷ rs) h =
      let more = touch-below (k + 1) (touch last (k, r)) rs (next-below (touches pages page r) k last h) in
      omega arith

  touch-above : (k last : ℕ) (rs : List Record) → last < k → last ≤ fold touch last (enumerate_from k rs)
  touch-above k last [] h = omega arith
  touch-above k last (r ∷ rs) h =
      let more = touch-above (k + 1) (touch last (k, r)) rs (next-below (touches pages page r) k last h) in
      let here = next-above (touches pages page r) k last h in
      omega arith

  touch-there : (k last i : ℕ) (rs : List Record) (d : Record) → last < k → i < length rs → touches pages page (get_or rs i d) ≡ true → k + i ≤ fold touch last (enumerate_from k rs)
  touch-there k last i [] d h lt on = absurd (omega arith)
  touch-there k last zero (r ∷ rs) d h lt on =
      let more : k ≤ fold touch k (enumerate_from (k + 1) rs) = touch-above (k + 1) k rs (omega arith) in
      let same : fold touch k (enumerate_from (k + 1) rs) ≡ fold touch (touch last (k, r)) (enumerate_from (k + 1) rs) = ap (λ (b : Bool). fold touch (cond b k last) (enumerate_from (k + 1) rs)) (sym on) in
      omega arith
  touch-there k last (suc i) (r ∷ rs) d h lt on =
      let more = touch-there (k + 1) (touch last (k, r)) i rs d (next-below (touches pages page r) k last h) (omega arith) on in
      omega arith

  -- it isn't above the number of records
  pub lsn-below : (log : List Record) (n : ℕ) → (value pages log n page).lsn ≤ n
  unfolding value
  lsn-below log n =
      let lt = touch-below 1 0 (take n log) (omega arith) in
      omega (arith, length-take n log)

  -- and not below a record that touches the page
  pub lsn-touched : (log : List Record) (m n : ℕ) (r : Record) → IsAt log m r → touches pages page r ≡ true → m ≤ n → m ≤ (value pages log n page).lsn
  unfolding value
  lsn-touched log m n r at on le =
      let one = at.0 in
      let within : m - 1 < length log = slice_get_within log (m - 1) r at.1 in
      let is : get_or (take n log) (m - 1) r ≡ r = get_or-take n log (m - 1) r (omega arith) ∙ get_or_from_slice_get log (m - 1) r r at.1 in
      let there = touch-there 1 0 (m - 1) (take n log) r (omega arith) (omega (arith, length-take n log)) (ap (touches pages page) is ∙ on) in
      omega arith

  -- the number of a page value
  pub number-is : (log : List Record) (n : ℕ) → (value pages log n page).page ≡ page
  unfolding value
  number-is log n = refl
