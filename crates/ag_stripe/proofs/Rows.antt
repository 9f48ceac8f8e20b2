-- The row that a page gives to a reader with no transaction of its own.
use Rattle.std.proofs.Common.{◌≡◌, ℕ, ◌<◌, ◌≤◌, Bool, true, false, cond, ◌&&◌, eqb, List, [], ◌∷◌, refl, ap, ◌∙◌, arith}
use Rattle.std.specs.Prelude.{None, Result, Ok, Err}
use mathlib.Core.Logic.{dite}
use native.Mathlib.Decide.{dec_le}
use Rattle.ag_model.specs.declared.value.PageValue.{PageValue}
use Rattle.ag_model.specs.declared.value.Row.{Row}
use Rattle.ag_model.specs.declared.value.TooOld.{TooOld}
use Rattle.ag_model.specs.declared.value.Version.{Version}
use Rattle.ag_model.specs.Page.{pick, greatest}
use Rattle.ag_version.specs.Picking.{row_for, row_or, own_versions}

kept_none : (b : Bool) (w : Version) (ws : List Version) → ws ≡ [] → cond (b && false) (w ∷ ws) ws ≡ []
kept_none true w ws e = e
kept_none false w ws e = e

no_own : (key : ℕ) (vs : List Version) → own_versions None key vs ≡ []
no_own key [] = refl
no_own key (w ∷ ws) = kept_none (eqb w.key key) w (own_versions None key ws) (no_own key ws)

row_for_pick : (v : PageValue) (key snapshot : ℕ) → row_for v key snapshot None ≡ pick v key snapshot
row_for_pick v key snapshot = ap (λ (vs : List Version). row_or (greatest vs) (pick v key snapshot)) (no_own key v.versions)

-- a row that was answered
pub read-ok : (v : PageValue) (key snapshot : ℕ) (r : Result Row TooOld) (row : Row) → r ≡ Ok row → (v.horizon ≤ snapshot → r ≡ Ok (row_for v key snapshot None)) → (snapshot < v.horizon → r ≡ Err (record { snapshot = snapshot; horizon = v.horizon })) → (v.horizon ≤ snapshot) × (row ≡ pick v key snapshot)
read-ok v key snapshot r row is right old = dite (dec_le v.horizon snapshot)
    (λ le. let e = right le in let same : row ≡ row_for v key snapshot None = cc in (le, same ∙ row_for_pick v key snapshot))
    (λ not. let e = old (omega arith) in cc)
