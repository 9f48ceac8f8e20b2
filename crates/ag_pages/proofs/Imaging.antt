-- What the image that was written of a page says.
use Rattle.std.proofs.Common.{◌≡◌, ℕ, ◌<◌, ◌*◌, Bool, true, false, cond, eqb, List, [], ◌∷◌, ◌++◌, map, length, take, drop, refl, sym, ap, ◌∙◌, arith}
use Rattle.std.specs.Prelude.{Some, Result, Ok, Err}
use Rattle.std.specs.List.{AllByRecursion, list_all, range_with_len}
use Rattle.std.proofs.lemmas.Bool.{eq-eqb, and_from}
use Rattle.std.proofs.lemmas.List.{take_at, length-append, length-map}
use Rattle.ag_model.specs.declared.answer.Cell.{Cell}
use Rattle.ag_model.specs.declared.answer.Cell.TheVariants.{Mark, Lost}
use Rattle.ag_model.specs.declared.value.PageValue.{PageValue}
use Rattle.ag_model.specs.Cells.{has_lost, is_sound, same_mark, mark_after}
use Rattle.ag_outside.specs.Disks.{Content, Image}
use Rattle.ag_page.specs.declared.fault.PageFault.{PageFault}
use Rattle.ag_page.specs.declared.home.Got.{Got}
use Rattle.ag_page.specs.declared.home.Got.TheVariants.{Sound, Torn, Lost as LostImage}
use Rattle.ag_page.specs.Home.{cells_of, found, readable, with_mark, written_over}
use Rattle.ag_page.specs.Image.{image, sector, image_bytes}
use Rattle.ag_page.specs.Reading.{page_at}
use Rattle.ag_page.specs.Spelling.{has_image, page_bytes, IsInRange}
use Rattle.ag_page.proofs.Pages.{page_again, length-page_bytes}
use Rattle.ag_page.proofs.Sectors.{image_bytes-image}
use Rattle.ag_pagestore.specs.Places.{image_of}
use Rattle.ag_pagestore.proofs.Mixed.{AllMark, all_marked}
use Rattle.ag_stripe.specs.Known.{Known, Says, by_found, bytes_of, in_image, in_home, is_zero_page, empty_page, as_read}
use Rattle.ag_stripe.specs.Known.Known.{Value, NotSound, NotItsImage, Untold}
use Rattle.ag_stripe.proofs.Images.{image-read}

-- ---- an image with another mark

marked_sector : (m k : ℕ) (bytes : List ℕ) → length (sector 0 bytes k) ≡ 512 → take 511 (sector 0 bytes k) ++ m ∷ [] ≡ sector m bytes k
marked_sector m k bytes long =
    let part = take 511 (drop (511 * k) bytes) in
    ap (λ (z : List ℕ). z ++ m ∷ []) (take_at part (0 ∷ []) 511 (omega (arith, long, length-append part (0 ∷ []))))

marked_run : (m : ℕ) (bytes ks : List ℕ) → AllByRecursion (λ s. length s ≡ 512) (map (sector 0 bytes) ks) → with_mark m (map (sector 0 bytes) ks) ≡ map (sector m bytes) ks
marked_run m bytes [] long = refl
marked_run m bytes (k ∷ ks) long =
    ap (λ (s : List ℕ). s ∷ with_mark m (map (sector 0 bytes) ks)) (marked_sector m k bytes long.0)
    ∙ ap (λ (z : List (List ℕ)). sector m bytes k ∷ z) (marked_run m bytes ks long.1)

pub marked_image : (m : ℕ) (bytes : List ℕ) → AllByRecursion (λ s. length s ≡ 512) (image 0 bytes) → with_mark m (image 0 bytes) ≡ image m bytes
unfolding image
marked_image m bytes long = marked_run m bytes (range_with_len 0 16) long

-- ---- a written image is sound

lost-step : (c : Cell) (m : ℕ) (cs : List Cell) → c ≡ Mark m → has_lost cs ≡ false → has_lost (c ∷ cs) ≡ false
lost-step (Mark n) m cs is h = h
lost-step Lost m cs is h = cc

none_lost : (m : ℕ) (ns : List Content) → AllMark m ns → has_lost (cells_of ns) ≡ false
none_lost m [] all = refl
none_lost m (n ∷ ns) all = lost-step _ m (cells_of ns) all.0 (none_lost m ns all.1)

same-step : (c : Cell) (m : ℕ) (cs : List Cell) → c ≡ Mark m → list_all (same_mark (Mark m)) cs ≡ true → list_all (same_mark (Mark m)) (c ∷ cs) ≡ true
same-step (Mark n) m cs is h = and_from _ _ (eq-eqb m n (let e : n ≡ m = cc in sym e)) h
same-step Lost m cs is h = cc

all_same : (m : ℕ) (ns : List Content) → AllMark m ns → list_all (same_mark (Mark m)) (cells_of ns) ≡ true
all_same m [] all = refl
all_same m (n ∷ ns) all = same-step _ m (cells_of ns) all.0 (all_same m ns all.1)

sound-marked : (m : ℕ) (ns : List Content) → 0 < length ns → AllMark m ns → is_sound (cells_of ns) ≡ true
sound-marked m [] lt all = absurd (omega (arith, lt))
sound-marked m (n ∷ ns) lt all = ap (λ (c : Cell). list_all (same_mark c) (cells_of (n ∷ ns))) all.0 ∙ all_same m (n ∷ ns) all

found-marked : (m : ℕ) (ns : List Content) → 0 < length ns → AllMark m ns → found ns ≡ Sound
found-marked m ns lt all =
    ap (λ (b : Bool). cond b LostImage (cond (is_sound (cells_of ns)) Sound Torn)) (none_lost m ns all)
    ∙ ap (λ (b : Bool). cond b Sound Torn) (sound-marked m ns lt all)

unread : (image : List (List ℕ)) → map bytes_of (readable image) ≡ image
unread [] = refl
unread (s ∷ ss) = ap (λ (z : List (List ℕ)). s ∷ z) (unread ss)

-- ---- what a written image says

image_says : (page m : ℕ) (v : PageValue) → has_image v ≡ true → IsInRange v → v.page ≡ page → in_image page (image m (page_bytes v)) ≡ Value v
image_says page m v is range own =
    image-read page (image m (page_bytes v)) v (ap page_at (image_bytes-image m (page_bytes v) (length-page_bytes v is range)) ∙ page_again v is range)
    ∙ ap (λ (b : Bool). cond b (Value v) (cond (is_zero_page v) (Value (empty_page page)) NotItsImage)) (eq-eqb v.page page own)

-- the image that was written of a value says this value
pub written_says : (disk : Image) (old : List Content) (page : ℕ) (v : PageValue) → has_image v ≡ true → IsInRange v → v.page ≡ page → length (image 0 (page_bytes v)) ≡ 16 → AllByRecursion (λ s. length s ≡ 512) (image 0 (page_bytes v))
    → image_of disk page ≡ written_over old (image 0 (page_bytes v)) → in_home (Some (image_of disk)) page ≡ Value v
unfolding in_home
written_says disk old page v is range own long whole wrote =
    let m = mark_after (cells_of old) in
    let ns = written_over old (image 0 (page_bytes v)) in
    let sound : found ns ≡ Sound = found-marked m ns (omega (arith, long, length-map (with_mark m (image 0 (page_bytes v))) (λ s. Some s), length-map (image 0 (page_bytes v)) (λ s. take 511 s ++ m ∷ []))) (all_marked m (image 0 (page_bytes v)) whole) in
    ap (λ (im : List Content). by_found (found im) (in_image page (map bytes_of im))) wrote
    ∙ ap (λ (g : Got). by_found g (in_image page (map bytes_of ns))) sound
    ∙ ap (in_image page) (unread (with_mark m (image 0 (page_bytes v))) ∙ marked_image m (page_bytes v) whole)
    ∙ image_says page m v is range own

-- ---- what is known

-- where images are told, each page is told
found_told : (g : Got) (k : Known) → (k ≡ Untold → ⊥) → by_found g k ≡ Untold → ⊥
found_told Sound k told is = told is
found_told Torn k told is = cc
found_told LostImage k told is = cc

placed_told : (a b : Bool) (page : ℕ) (v : PageValue) → cond a (Value v) (cond b (Value (empty_page page)) NotItsImage) ≡ Untold → ⊥
placed_told true b page v is = cc
placed_told false true page v is = cc
placed_told false false page v is = cc

read_told : (page : ℕ) (r : Result PageValue PageFault) → as_read page r ≡ Untold → ⊥
read_told page (Ok v) is = placed_told (eqb v.page page) (is_zero_page v) page v is
read_told page (Err e) is = cc

image_told : (page : ℕ) (bytes : List (List ℕ)) → in_image page bytes ≡ Untold → ⊥
unfolding in_image
image_told page bytes is = read_told page (page_at (image_bytes bytes)) is

pub home_told : (disk : Image) (page : ℕ) → in_home (Some (image_of disk)) page ≡ Untold → ⊥
unfolding in_home
home_told disk page is = found_told (found (image_of disk page)) (in_image page (map bytes_of (image_of disk page))) (image_told page (map bytes_of (image_of disk page))) is

pub says_is : (k l : Known) → (k ≡ Untold → ⊥) → Says k l → l ≡ k
says_is (Value v) l told says = says
says_is NotSound l told says = says
says_is NotItsImage l told says = says
says_is Untold l told says = absurd (told refl)

-- the same image says the same
pub home_same : (old new : Image) (page : ℕ) → image_of new page ≡ image_of old page → in_home (Some (image_of new)) page ≡ in_home (Some (image_of old)) page
unfolding in_home
home_same old new page same = ap (λ (im : List Content). by_found (found im) (in_image page (map bytes_of im))) same
