-- Images of pages on disks whose pages are the same, and on one of zeros.
use Rattle.std.proofs.Common.{◌≡◌, ℕ, ◌<◌, ◌≤◌, List, map, Some, refl, ap, ◌∙◌, arith}
use Rattle.std.specs.Prelude.{replicate}
use Rattle.ag_model.specs.declared.answer.Cell.TheVariants.{Mark}
use Rattle.ag_outside.specs.Disks.{Content, Image}
use Rattle.ag_page.specs.Home.{cells_of, found}
use Rattle.ag_page.specs.Image.{image}
use Rattle.ag_pagestore.specs.Places.{place, image_of, page_cells}
use Rattle.ag_stripe.specs.Known.{in_home, in_image, by_found, bytes_of, empty_page}
use Rattle.ag_stripe.specs.Known.Known.{Value}
use Rattle.ag_kept.specs.Kept.{SamePages}
use Rattle.ag_store.specs.Standing.{told_on}
use Rattle.ag_store.specs.Views.{cells_on}
use Rattle.ag_store.proofs.Flags.{map-same, map-one}

-- what stands at the place of a page
pub image-same : (old new : Image) (page : ℕ) → SamePages old new → 16 ≤ page → page < 2064 → image_of new page ≡ image_of old page
unfolding image_of
image-same old new page same low high = map-same new old (place page) 16 (λ k from to. same k (omega arith, omega arith))

-- what it says
pub home-by : (old new : Image) (page : ℕ) → image_of new page ≡ image_of old page → in_home (told_on new) page ≡ in_home (told_on old) page
unfolding in_home
home-by old new page same = ap (λ (sectors : List Content). by_found (found sectors) (in_image page (map bytes_of sectors))) same

pub home-same : (old new : Image) (page : ℕ) → SamePages old new → 16 ≤ page → page < 2064 → in_home (told_on new) page ≡ in_home (told_on old) page
home-same old new page same low high = home-by old new page (image-same old new page same low high)

-- the cells of all pages
pub cells-same : (old new : Image) (pages : ℕ) → SamePages old new → pages ≤ 2048 → cells_on new pages ≡ cells_on old pages
cells-same old new pages same few = map-same (page_cells new) (page_cells old) 16 pages (λ k low high. ap cells_of (image-same old new k same low (omega arith)))

-- images of zeros
abbrev zeros : Content
zeros = Some (replicate 512 0)

zero-sectors : (disk : Image) (page : ℕ) → ((at : ℕ) → disk at ≡ Some (replicate 512 0)) → image_of disk page ≡ replicate 16 (Some (replicate 512 0))
unfolding image_of
zero-sectors disk page z = map-one disk (Some (replicate 512 0)) (place page) 16 (λ k low high. z k)

pub zero-cells : (disk : Image) (pages : ℕ) → ((at : ℕ) → disk at ≡ Some (replicate 512 0)) → cells_on disk pages ≡ replicate pages (replicate 16 (Mark 0))
zero-cells disk pages z = map-one (page_cells disk) (replicate 16 (Mark 0)) 16 pages (λ k low high. ap cells_of (zero-sectors disk k z))

zero-image : map bytes_of (replicate 16 (Some (replicate 512 0))) ≡ image 0 (replicate 8176 0)
unfolding image
zero-image = refl

pub zero-home : (disk : Image) (page : ℕ) → ((at : ℕ) → disk at ≡ Some (replicate 512 0)) → in_image page (image 0 (replicate 8176 0)) ≡ Value (empty_page page) → in_home (told_on disk) page ≡ Value (empty_page page)
unfolding in_home
zero-home disk page z says =
    ap (λ (sectors : List Content). by_found (found sectors) (in_image page (map bytes_of sectors))) (zero-sectors disk page z)
    ∙ ap (λ (i : List (List ℕ)). in_image page i) zero-image ∙ says
