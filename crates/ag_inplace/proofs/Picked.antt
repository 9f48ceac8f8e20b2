-- The row of the last version.
use Rattle.std.proofs.Common.{◌≡◌, ℕ, Bool, true, false, ◌&&◌, cond, eqb, List, [], ◌∷◌, Option, Some, None, option_to_list, refl, sym, ap, ◌∙◌}
use Rattle.std.specs.List.{filter}
use Rattle.ag_model.specs.declared.value.Version.{Version}
use Rattle.ag_model.specs.declared.value.PageValue.{PageValue}
use Rattle.ag_model.specs.Page.{greatest, is_committed_at, pick, row_of, row_of_first}
use Rattle.ag_version.specs.Picking.{own_versions, row_or, row_for}

-- a reader with no transaction has no versions of its own
pub own-none : (key : ℕ) (ws : List Version) → own_versions None key ws ≡ []
own-none key [] = refl
own-none key (w ∷ ws) = passes-none (eqb w.key key) w (own_versions None key ws) ∙ own-none key ws
  where
    passes-none : (b : Bool) (w : Version) (ws : List Version) → cond (b && false) (w ∷ ws) ws ≡ ws
    passes-none true w ws = refl
    passes-none false w ws = refl

pub picked : (best : Option Version) (v : PageValue) (key snapshot : ℕ) → option_to_list best ≡ greatest (filter (λ w. eqb w.key key && is_committed_at snapshot w) v.versions) → row_of_first (option_to_list best) ≡ pick v key snapshot
unfolding pick
picked best v key snapshot e = ap row_of_first e

pub row-own : (w : Version) (best : Option Version) (v : PageValue) (key snapshot : ℕ) (own : Option ℕ) → best ≡ Some w → option_to_list best ≡ greatest (own_versions own key v.versions) → row_of w.change ≡ row_for v key snapshot own
row-own w best v key snapshot own is e = ap (λ (z : List Version). row_or z (pick v key snapshot)) (sym (ap option_to_list is) ∙ e)

pub row-other : (best : Option Version) (v : PageValue) (key snapshot : ℕ) (own : Option ℕ) → best ≡ None → option_to_list best ≡ greatest (own_versions own key v.versions) → pick v key snapshot ≡ row_for v key snapshot own
row-other best v key snapshot own is e = ap (λ (z : List Version). row_or z (pick v key snapshot)) (sym (ap option_to_list is) ∙ e)
