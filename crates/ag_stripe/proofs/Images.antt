-- Page values by their images.
use Rattle.std.proofs.Common.{◌≡◌, ℕ, List, [], ◌∷◌, map, refl, sym, ap, subst, ◌∙◌}
use Rattle.std.specs.Prelude.{Option, Some, None, Ok}
use Rattle.std.specs.Option.{IfSome}
use Rattle.ag_model.specs.declared.value.PageValue.{PageValue}
use Rattle.ag_page.specs.declared.fault.PageFault.{PageFault}
use Rattle.ag_page.specs.declared.fault.PageFault.TheVariants.{NotPage, NoMemory}
use Rattle.ag_page.specs.declared.home.Got.{Got}
use Rattle.ag_page.specs.declared.home.Got.TheVariants.{Sound}
use Rattle.ag_page.specs.Home.{found, readable}
use Rattle.ag_page.specs.Image.{image_bytes}
use Rattle.ag_page.specs.Reading.{Fails, page_at}
use Rattle.ag_stripe.specs.Known.{Told, Known, Says, at_place, as_read, bytes_of, in_image, by_found, in_home}
use Rattle.ag_stripe.specs.Known.Known.{NotSound, NotItsImage}
use Rattle.ag_stripe.proofs.Readings.{says-refl}

-- an image that was read
pub image-read : (page : ℕ) (image : List (List ℕ)) (v : PageValue) → page_at (image_bytes image) ≡ Ok v → in_image page image ≡ at_place page v
unfolding in_image
image-read page image v e = ap (as_read page) e

-- an image of no page value
pub image-none : (page : ℕ) (image : List (List ℕ)) (e : PageFault) → e ≡ NotPage → Fails e (page_at (image_bytes image)) → in_image page image ≡ NotItsImage
unfolding in_image
image-none page image NotPage is h = ap (as_read page) h
image-none page image NoMemory is h = cc

-- ---- what the home tells

home_none : (page : ℕ) (k : Known) → Says (in_home None page) k
unfolding in_home
home_none page k = tt

unread : (image : List (List ℕ)) → map bytes_of (readable image) ≡ image
unread [] = refl
unread (s ∷ ss) = ap (λ (z : List (List ℕ)). s ∷ z) (unread ss)

-- a sound image was read
pub home-sound : (told : Told) (page : ℕ) (image : List (List ℕ)) (k : Known) → IfSome told (λ images. Sound ≡ found (images page)) → IfSome told (λ images. images page ≡ readable image) → in_image page image ≡ k → Says (in_home told page) k
unfolding in_home
home-sound None page image k f g e = tt
home-sound (Some images) page image k f g e =
    let is : by_found (found (images page)) (in_image page (map bytes_of (images page))) ≡ k =
    ap (λ (x : Got). by_found x (in_image page (map bytes_of (images page)))) (sym f) ∙ ap (λ (z : List (Option (List ℕ))). in_image page (map bytes_of z)) g ∙ ap (in_image page) (unread image) ∙ e in
    subst (λ (x : Known). Says (by_found (found (images page)) (in_image page (map bytes_of (images page)))) x) is (says-refl (by_found (found (images page)) (in_image page (map bytes_of (images page)))))

-- an image that isn't sound was found
pub home-bad : (told : Told) (page : ℕ) (got : Got) → ((k : Known) → by_found got k ≡ NotSound) → IfSome told (λ images. got ≡ found (images page)) → Says (in_home told page) NotSound
unfolding in_home
home-bad None page got bad f = tt
home-bad (Some images) page got bad f =
    let is : by_found (found (images page)) (in_image page (map bytes_of (images page))) ≡ NotSound =
    ap (λ (x : Got). by_found x (in_image page (map bytes_of (images page)))) (sym f) ∙ bad (in_image page (map bytes_of (images page))) in
    subst (λ (x : Known). Says (by_found (found (images page)) (in_image page (map bytes_of (images page)))) x) is (says-refl (by_found (found (images page)) (in_image page (map bytes_of (images page)))))
