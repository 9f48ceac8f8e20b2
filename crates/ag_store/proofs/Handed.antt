-- The disk below a store, without the order and the lost sectors that were kept over it.
use Rattle.std.proofs.Common.{◌≡◌, ◌+◌, ◌-◌, ◌≤◌, ◌<◌, ℕ, zero, suc, [], get_or, map, Bool, true, false, None, if◌then◌else◌, refl, sym, ap, ◌∙◌, subst, arith, inl, inr}
use Rattle.std.specs.Prelude.{Option}
use Rattle.std.specs.List.{range_with_len}
use Rattle.std.proofs.lemmas.Bool.{cases_Bool, cases_lt, or_parts}
use Rattle.ag_model.specs.declared.value.PageValue.{PageValue}
use Rattle.ag_model.specs.Cells.{has_lost, is_lost as is_lost_cell, is_sound}
use Rattle.ag_model.specs.Rows.{stripe_of}
use Rattle.ag_outside.specs.Disks.{Content, Image}
use Rattle.ag_outside.specs.Scripts.{ScriptedView, is_lost, shown}
use Rattle.ag_outside.specs.Shown.{reads_of}
use Rattle.ag_page.specs.declared.home.Got.TheVariants.{Sound, Torn, Lost}
use Rattle.ag_page.specs.Home.{cell_of, cells_of}
use Rattle.ag_pagestore.specs.Places.{image_of, page_cells, place}
use Rattle.ag_stripe.specs.Known.{Known, by_found, bytes_of, in_home, in_image}
use Rattle.ag_stripe.specs.Known.Known.{Value, NotSound}
use Rattle.ag_store.specs.Images.{IsImageOf}
use Rattle.ag_store.specs.Standing.{AreImages, IsDataPage, IsStore, told_on}
use Rattle.ag_store.specs.Views.{MemoryView, StoreView, store_on}
use Rattle.ag_store.proofs.Flags.{map-same}
use Rattle.ag_store.proofs.Pages.{home-by}
use Rattle.ag_store.proofs.Read.{cells_seen}

-- no sector of an image that says a value is lost
by_flags : (lost sound : Bool) (k : Known) (v : PageValue) → by_found (if lost then Lost else if sound then Sound else Torn) k ≡ Value v → lost ≡ false
by_flags true sound k v e = absurd (let f : NotSound ≡ Value v = e in cc)
by_flags false sound k v e = refl

none_lost : (image : Image) (page : ℕ) (v : PageValue) → in_home (told_on image) page ≡ Value v → has_lost (page_cells image page) ≡ false
unfolding in_home
none_lost image page v e = by_flags (has_lost (page_cells image page)) (is_sound (page_cells image page)) (in_image page (map bytes_of (image_of image page))) v e

each_read : (image : Image) (from n : ℕ) → has_lost (cells_of (map image (range_with_len from n))) ≡ false → (k : ℕ) → from ≤ k → k < from + n → is_lost_cell (cell_of (image k)) ≡ false
each_read image from zero e k low high = absurd (omega (arith, low, high))
each_read image from (suc n) e k low high =
    let both = or_parts (is_lost_cell (cell_of (image from))) (has_lost (cells_of (map image (range_with_len (from + 1) n)))) e in
    elim (cases_lt from k) [
      | inl above ↦ each_read image (from + 1) n both.1 k (omega (arith, above)) (omega (arith, high))
      | inr not_above ↦ (let here : from ≡ k = omega (arith, low, not_above) in subst (λ (at : ℕ). is_lost_cell (cell_of (image at)) ≡ false) here both.0)
    ]

sector_read : (image : Image) (page : ℕ) → has_lost (page_cells image page) ≡ false → (k : ℕ) → place page ≤ k → k < place page + 16 → is_lost_cell (cell_of (image k)) ≡ false
unfolding image_of
sector_read image page e k low high = each_read image (place page) 16 e k low high

-- what stands at the place of a page, by its sectors
image_by : (old new : Image) (page : ℕ) → ((k : ℕ) → place page ≤ k → k < place page + 16 → new k ≡ old k) → image_of new page ≡ image_of old page
unfolding image_of
image_by old new page same = map-same new old (place page) 16 same

not_both : (b : Bool) (c : Content) → b ≡ true → is_lost_cell (cell_of (if b then None else c)) ≡ false → ⊥
not_both true c e f = cc f
not_both false c e f = cc e

module _ {D : Type 0} (size : D → ℕ) (keeps : D → Bool) (reads : D → Image) (may_hold : D → ℕ → Content → Type 0) (disk : ScriptedView D) (pages : ℕ) (memory : Option MemoryView) (sound : Bool)
    (st : IsStore size keeps reads may_hold disk pages memory sound) (faults : ℕ) (s : StoreView) (is : store_on (reads_of reads disk) pages memory sound faults ≡ s) (ok : s.sound ≡ true)
    (below : Image) (same : disk.unsynced ≡ [] → (at : ℕ) → is_lost disk.lost at ≡ false → below at ≡ reads_of reads disk at) where
  abbrev image : Image
  image = reads_of reads disk

  is_up : sound ≡ true
  is_up = ap (λ (t : StoreView). t.sound) is ∙ ok

  within : (page : ℕ) → IsDataPage s.pages page → IsDataPage pages page
  within page here = (here.0, subst (λ n. page < 16 + n) (sym (ap (λ (t : StoreView). t.pages) is)) here.1)

  synced : disk.unsynced ≡ []
  synced = (st.stands is_up).unsynced

  shows : (at : ℕ) → image at ≡ (if is_lost disk.lost at then None else reads disk.disk at)
  shows at = ap (λ ws. shown (reads disk.disk) disk.lost ws at) synced

  not_lost : (at : ℕ) → is_lost_cell (cell_of (image at)) ≡ false → is_lost disk.lost at ≡ false
  not_lost at read = elim (cases_Bool (is_lost disk.lost at)) [
    | inl lost ↦ absurd (not_both (is_lost disk.lost at) (reads disk.disk at) lost (subst (λ (c : Content). is_lost_cell (cell_of c) ≡ false) (shows at) read))
    | inr stays ↦ stays
  ]

  same_image : (page : ℕ) → IsDataPage s.pages page → image_of below page ≡ image_of image page
  same_image page here =
      let none = none_lost image page _ (st.images is_up page (within page here)).value in
      image_by image below page (λ k low high. same synced k (not_lost k (sector_read image page none k low high)))

  pub handed_images : AreImages s.pages below s.kept s.applied s.dirty
  handed_images page here =
      subst (λ (k : Known). IsImageOf s.pages s.kept.log s.kept.redo (get_or s.applied (stripe_of page) 0) (get_or s.dirty (page - 16) false) page k) (sym (home-by image below page (same_image page here)))
      (subst (λ (t : StoreView). IsImageOf t.pages t.kept.log t.kept.redo (get_or t.applied (stripe_of page) 0) (get_or t.dirty (page - 16) false) page (in_home (told_on image) page)) is
      (st.images is_up page (within page here)))

  pub handed_cells : (page : ℕ) → IsDataPage s.pages page → page_cells below page ≡ get_or s.cells (page - 16) []
  handed_cells page here =
      ap cells_of (same_image page here)
      ∙ cells_seen size keeps reads may_hold disk pages memory sound faults s is page here
