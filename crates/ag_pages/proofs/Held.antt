-- Dirty pages have their values in memory.
use Rattle.std.proofs.Common.{◌≡◌, ℕ, ◌<◌, true, List, sym, ap, subst, ◌∙◌, arith}
use Rattle.ag_model.specs.Rows.{stripe_of}
use Rattle.ag_pages.specs.Views.{Place, PagesView, ArePlaces, pages_view, slot, slot_at, is_dirty}
use Rattle.ag_pages.specs.Flush.{IsInMemory}

pub places_held : (count : ℕ) (places : List Place) → ArePlaces count places → (page : ℕ) → is_dirty (pages_view count places) page ≡ true → IsInMemory (slot (pages_view count places)) page
places_held count places are page dirty =
    let small : stripe_of page < 16 = omega arith in
    let e = are.each (stripe_of page) small in
    let at = e.1 in
    let kept = e.2.kept page (sym (ap (λ (p : Place). (slot_at p page).dirty) at) ∙ dirty) in
    (kept.0, ap (λ (p : Place). (slot_at p page).value) at ∙ kept.1)

pub view_held : (v : PagesView) (count : ℕ) (places : List Place) → pages_view count places ≡ v → ArePlaces count places → (page : ℕ) → is_dirty v page ≡ true → IsInMemory (slot v) page
view_held v count places is are = subst (λ (w : PagesView). (page : ℕ) → is_dirty w page ≡ true → IsInMemory (slot w) page) is (places_held count places are)
