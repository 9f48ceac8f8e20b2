-- What a home tells after a page was written.
use Rattle.std.proofs.Common.{◌≡◌, ◌+◌, ◌<◌, ◌-◌, ◌^◌, min, ℕ, List, [], ◌∷◌, Some, Bool, true, false, IsTrue, cond, refl, sym, ap, ◌∙◌, arith, inl, inr}
use Rattle.std.specs.Option.{IfSome}
use Rattle.std.proofs.lemmas.Bool.Decides.{eqb_tells}
use Rattle.std.proofs.lemmas.Bool.{cases_lt}
use Rattle.ag_outside.specs.Counts.{HasRisen}
use Rattle.ag_outside.specs.Disks.{Content, Image}
use Rattle.ag_page.specs.Home.{with_page, written_over}
use Rattle.ag_pagestore.specs.Places.{place, image_of, IsOutside}
use Rattle.ag_pagestore.specs.Batches.{IsWritten}
use Rattle.ag_pagestore.specs.Homes.{told_images}
use Rattle.ag_pagestore.proofs.Pages.{image_is}
use Rattle.ag_pagestore.proofs.Sixteen.{image-long, at_place}

other_outside : (page q k : ℕ) → k < 16 → (q ≡ page → ⊥) → IsOutside page (place q + k)
other_outside page q k lt apart = grind arith

-- one page has the new image, and all others theirs
pub with_page_is : (old new : Image) (page : ℕ) (image : List (List ℕ)) → IsWritten old (record { page = page; image = image } ∷ []) new → image_of new ≡ with_page (image_of old) page image
with_page_is old new page image written =
    let same : (q : ℕ) → image_of new q ≡ with_page (image_of old) page image q = λ q. elim (eqb_tells q page) [
      | inl here ↦ ap (image_of new) here.1 ∙ written.pages.0 ∙ sym (ap (λ (b : Bool). cond b (written_over (image_of old page) image) (image_of old q)) here.0)
      | inr other ↦ image_is new q (image_of old q) (image-long old q) (λ k lt. written.others (place q + k) (other_outside page q k lt other.1, tt) ∙ sym (at_place old q k lt))
          ∙ sym (ap (λ (b : Bool). cond b (written_over (image_of old page) image) (image_of old q)) other.0)
    ] in
    λ i q. same q i

pub told_after : (keeps : Bool) (old new : Image) (page : ℕ) (image : List (List ℕ)) → (IsTrue keeps → IsWritten old (record { page = page; image = image } ∷ []) new) → IfSome (told_images keeps old) (λ images. told_images keeps new ≡ Some (with_page images page image))
told_after true old new page image written = ap (λ (f : ℕ → List Content). Some f) (with_page_is old new page image (written refl))
told_after false old new page image written = tt

-- a count that stands still at its end
pub counted : (n m : ℕ) → m ≡ min (n + 1) (2 ^ 64 - 1) → HasRisen n m
counted n m is = elim (cases_lt n (2 ^ 64 - 1)) [ inl lt ↦ inl (omega (arith, is)) | inr le ↦ inr (omega (arith, is)) ]
