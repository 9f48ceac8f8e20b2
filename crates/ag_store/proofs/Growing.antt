-- A store whose log grows, on a disk whose pages stay.
use Rattle.std.proofs.Common.{◌≡◌, ℕ, ◌-◌, ◌<◌, ◌≤◌, List, get_or, Bool, false, Some, None, refl, sym, ap, ◌∙◌, subst, arith}
use Rattle.std.specs.Prelude.{Option}
use Rattle.std.proofs.lemmas.List.Elements.{All-from_recursion, recursion_from_All}
use Rattle.ag_model.specs.declared.value.PageValue.{PageValue}
use Rattle.ag_model.specs.Prefixes.{end_of, IsBlockEnd, IsPrefix}
use Rattle.ag_model.specs.Rows.{stripe_of}
use Rattle.ag_model.proofs.Prefixes.{end_later, value_prefix}
use Rattle.ag_outside.specs.Disks.{Image}
use Rattle.ag_stripe.specs.Known.{Known, in_home, known_by}
use Rattle.ag_stripe.specs.Known.Known.{Value}
use Rattle.ag_kept.specs.Kept.{Kept, SamePages}
use Rattle.ag_pages.specs.Views.{PagesView, applied_of, slot}
use Rattle.ag_store.specs.Images.{IsImageOf}
use Rattle.ag_store.specs.Standing.{AreImages, AreValues, AreAtEnds, told_on}
use Rattle.ag_store.proofs.Pages.{home-same}
use Rattle.ag_store.proofs.Stores.{stripe-low}
use Rattle.ag_store.proofs.Values.{image-longer}

-- what is known of a page over images that say the same
known-same : (old new : Image) (page : ℕ) (v : Option PageValue) → in_home (told_on new) page ≡ in_home (told_on old) page → known_by (told_on new) page v ≡ known_by (told_on old) page v
known-same old new page (Some v) e = refl
known-same old new page None e = e

module _ (pages : ℕ) (few : pages ≤ 2048) (image after : Image) (kept later : Kept) (same : SamePages image after) (longer : IsPrefix kept.log later.log) (redo : later.redo ≡ kept.redo) where
  pub images-grow : (applied : List ℕ) (dirty : List Bool) → kept.redo ≤ end_of kept.log → ((stripe : ℕ) → stripe < 16 → get_or applied stripe 0 ≤ end_of kept.log) → AreImages pages image kept applied dirty → AreImages pages after later applied dirty
  images-grow applied dirty low within are page is =
      subst (λ (k : Known). IsImageOf pages later.log later.redo (get_or applied (stripe_of page) 0) (get_or dirty (page - 16) false) page k) (sym (home-same image after page same is.0 (omega (arith, is.1, few))))
      (subst (λ (n : ℕ). IsImageOf pages later.log n (get_or applied (stripe_of page) 0) (get_or dirty (page - 16) false) page (in_home (told_on image) page)) (sym redo)
      (image-longer pages kept.log later.log kept.redo (get_or applied (stripe_of page) 0) (get_or dirty (page - 16) false) page (in_home (told_on image) page) longer low (within (stripe_of page) (stripe-low page)) (are page is)))

  pub values-grow : (v : PagesView) → ((stripe : ℕ) → stripe < 16 → applied_of v stripe ≤ end_of kept.log) → AreValues pages image kept v → AreValues pages after later v
  values-grow v within are page is =
      known-same image after page (slot v page).value (home-same image after page same is.0 (omega (arith, is.1, few)))
      ∙ are page is
      ∙ ap Value (value_prefix pages page (applied_of v (stripe_of page)) kept.log later.log longer (within (stripe_of page) (stripe-low page)))

  pub ends-grow : (applied : List ℕ) → AreAtEnds kept applied → AreAtEnds later applied
  ends-grow applied at = record {
    sixteen = at.sixteen;
    ends = recursion_from_All (λ n. IsBlockEnd later.log n × (later.redo ≤ n)) applied (λ i d lt.
        let is = All-from_recursion (λ n. IsBlockEnd kept.log n × (kept.redo ≤ n)) applied at.ends i d lt in
        (end_later kept.log later.log (get_or applied i d) longer is.0, subst (λ n. n ≤ get_or applied i d) (sym redo) is.1));
  }
