-- A store as a group opens.
use Rattle.std.proofs.Common.{◌≡◌, ℕ, zero, suc, ◌<◌, ◌≤◌, List, [], ◌∷◌, get_or, map, Bool, true, false, Some, refl, sym, ap, ◌∙◌, subst, arith}
use Rattle.std.specs.Prelude.{replicate}
use Rattle.std.proofs.lemmas.List.{get_or-replicate}
use Rattle.ag_model.specs.declared.record.Record.TheVariants.{Term}
use Rattle.ag_model.specs.Page.{value}
use Rattle.ag_model.specs.Prefixes.{IsBlockEnd}
use Rattle.ag_model.specs.Proper.{IsProper}
use Rattle.ag_model.specs.Rows.{page_numbers, stripe_of}
use Rattle.ag_model.specs.Sizes.{versions_size}
use Rattle.ag_outside.specs.Disks.{Content, Image}
use Rattle.ag_outside.specs.Scripts.{ScriptedView}
use Rattle.ag_outside.specs.Shown.{reads_of}
use Rattle.ag_page.specs.Image.{image}
use Rattle.ag_logstore.specs.Stored.{log_end}
use Rattle.ag_logstore.specs.Stores.{StoreView as LogView}
use Rattle.ag_stripe.specs.Known.{in_home, in_image, known_by, empty_page}
use Rattle.ag_stripe.specs.Known.Known.{Value}
use Rattle.ag_stripe.specs.Tables.{empty_slot}
use Rattle.ag_kept.specs.Kept.{Kept, kept_on, opening_kept, SamePages}
use Rattle.ag_kept.specs.Standing.{IsAtHome, IsMemory}
use Rattle.ag_pages.specs.Views.{PagesView, applied_of, is_dirty, slot}
use Rattle.ag_store.specs.Images.{IsImageOf}
use Rattle.ag_store.specs.Standing.{IsStore, IsDataPage, AreImages, AreAtEnds, AreValues, told_on}
use Rattle.ag_store.specs.Views.{store_on, opening_store}
use Rattle.ag_store.proofs.Applying.{ends-all}
use Rattle.ag_store.proofs.Flags.{map-one, flag-at}
use Rattle.ag_store.proofs.Pages.{cells-same, home-same, zero-cells, zero-home}
use Rattle.ag_store.proofs.Stores.{stripe-low}

-- the value of a page of the opening log is the empty page
pub opening-value : (pages n page : ℕ) → value pages (Term 1 ∷ []) n page ≡ empty_page page
unfolding value
opening-value pages zero page = refl
opening-value pages (suc zero) page = refl
opening-value pages (suc (suc n)) page = refl

-- the opening log is proper
pub opening-proper : (pages replica : ℕ) → IsProper pages (opening_kept pages replica).log
opening-proper pages replica = record {
  first = refl;
  terms = (omega arith, tt);
  each = (tt, tt);
  room = λ n page. subst (λ v. versions_size v.versions ≤ 8144) (sym (opening-value pages n page)) (omega arith);
  ends = (omega arith, tt);
  last = refl;
  most = omega arith;
}

module _ {D : Type 0} (size : D → ℕ) (keeps : D → Bool) (reads : D → Image) (may_hold : D → ℕ → Content → Type 0) (blank : Image) (zeros : (at : ℕ) → blank at ≡ Some (replicate 512 0)) (says : (page : ℕ) → in_image page (image 0 (replicate 8176 0)) ≡ Value (empty_page page))
    (new : ScriptedView D) (pages replica : ℕ) (low : 16 ≤ pages) (high : pages ≤ 2048) (room : log_end ≤ size new.disk) (home : IsAtHome keeps reads new) (s : LogView) (is_memory : IsMemory keeps reads may_hold new s)
    (kept : kept_on (reads_of reads new) true ≡ (opening_kept pages replica)) (same : SamePages blank (reads_of reads new))
    (clean : PagesView) (count : clean.count ≡ pages) (applied : clean.applied ≡ replicate 16 1) (empty : (page : ℕ) → slot clean page ≡ empty_slot) where
  abbrev on : Image
  on = reads_of reads new

  empty_home : (page : ℕ) → IsDataPage pages page → in_home (told_on on) page ≡ Value (empty_page page)
  empty_home page is = home-same blank on page same is.0 (omega (arith, is.1, high)) ∙ zero-home blank page zeros (says page)

  no_flags : map (is_dirty clean) (page_numbers pages) ≡ replicate pages false
  no_flags = map-one (is_dirty clean) false 16 pages (λ page from to. ap (λ s. s.dirty) (empty page))

  at_one : (stripe : ℕ) → stripe < 16 → applied_of clean stripe ≡ 1
  at_one stripe lt = ap (λ (xs : List ℕ). get_or xs stripe 0) applied ∙ get_or-replicate 16 stripe 1 0 lt

  image_opens : (page : ℕ) → IsDataPage pages page → IsImageOf pages (opening_kept pages replica).log (opening_kept pages replica).redo 1 false page (in_home (told_on on) page)
  image_opens page is = record {
    lsn = 1;
    high = omega arith;
    value = empty_home page is ∙ ap Value (sym (opening-value pages 1 page));
    redone = refl;
    clean = λ d. refl;
  }

  images_open : AreImages pages on (opening_kept pages replica) clean.applied (map (is_dirty clean) (page_numbers pages))
  images_open page is =
      subst (λ (b : Bool). IsImageOf pages (opening_kept pages replica).log (opening_kept pages replica).redo (applied_of clean (stripe_of page)) b page (in_home (told_on on) page)) (sym (flag-at clean pages page is ∙ ap (λ s. s.dirty) (empty page)))
      (subst (λ n. IsImageOf pages (opening_kept pages replica).log (opening_kept pages replica).redo n false page (in_home (told_on on) page)) (sym (at_one (stripe_of page) (stripe-low page))) (image_opens page is))

  values_open : AreValues pages on (opening_kept pages replica) clean
  values_open page is =
      ap (λ s. known_by (told_on on) page s.value) (empty page)
      ∙ empty_home page is
      ∙ ap Value (sym (opening-value pages (applied_of clean (stripe_of page)) page))

  pub opened_store : IsStore size keeps reads may_hold new pages (Some (record { log = s; pages = clean; redo = 1 })) true
  opened_store = record {
    room = room;
    low = low;
    high = high;
    stands = λ e. home;
    proper = λ e. subst (λ (k : Kept). IsProper pages k.log) (sym kept) (opening-proper pages replica);
    redo = λ e. subst (λ (k : Kept). IsBlockEnd k.log k.redo) (sym kept) refl;
    images = λ e. subst (λ (k : Kept). AreImages pages on k clean.applied (map (is_dirty clean) (page_numbers pages))) (sym kept) images_open;
    loaded = λ e. record {
      log = is_memory;
      count = count;
      redo = sym (ap (λ (k : Kept). k.redo) kept);
      ends = subst (λ (k : Kept). AreAtEnds k clean.applied) (sym kept) (ends-all (opening_kept pages replica) clean.applied 1 applied refl (omega arith));
      values = subst (λ (k : Kept). AreValues pages on k clean) (sym kept) values_open;
    };
  }

  pub opened_seen : (faults : ℕ) → store_on on pages (Some (record { log = s; pages = clean; redo = 1 })) true faults ≡ opening_store pages replica faults
  opened_seen faults =
      let c = cells-same blank on pages same high ∙ zero-cells blank pages zeros in
      λ i. record { kept = kept i; pages = pages; cells = c i; applied = applied i; dirty = no_flags i; sound = true; faults = faults }
