-- The versions of a page, each at its place.
use Rattle.std.proofs.Common.{◌≡◌, ℕ, ◌+◌, ◌-◌, ◌<◌, ◌≤◌, ◌^◌, true, ◌&&◌, leb, List, [], ◌∷◌, ◌++◌, length, get_or, take, drop, replicate, refl, sym, ap, ◌∙◌, append_assoc, arith}
use Rattle.std.specs.List.{flat_map, list_all, AllByRecursion}
use Rattle.std.specs.Int.{w16, w64, to_be_bytes}
use Rattle.std.proofs.lemmas.Bool.{and_parts, and_from, le-leb}
use Rattle.std.proofs.lemmas.List.{drop_at, drop-drop, take-append-drop, drop_more, length-append}
use Rattle.std.proofs.lemmas.List.Concat.{flat_map-append}
use Rattle.std.proofs.lemmas.List.Sums.{sum_by-cons}
use Rattle.ag_lists.proofs.Each.{all_at, all_map, all_take}
use Rattle.ag_model.specs.declared.value.Version.{Version}
use Rattle.ag_model.specs.declared.value.PageValue.{PageValue}
use Rattle.ag_model.specs.Sizes.{change_size, versions_size}
use Rattle.ag_model.proofs.Numbers.{length-to_be_bytes}
use Rattle.ag_page.specs.Image.{image_bytes}
use Rattle.ag_page.specs.Spelling.{version_spelling, header, page_bytes, has_spelling, rise, IsVersion}
use Rattle.ag_page.proofs.Fields.{length-version}
use Rattle.ag_page.proofs.Pages.{image_parts, size-least, length-header, length-page_bytes}
use Rattle.ag_inplace.specs.Spelled.{Spells}
use Rattle.ag_inplace.specs.Entries.{number_in, place_of, StandsAt}
use Rattle.ag_inplace.proofs.Fields.{number-there}

-- a version that has a spelling, with numbers that fit
pub record IsSpelled (w : Version) : Type 0 where
  pub spelled : has_spelling w.change ≡ true
  pub range : IsVersion w

pub all-spelled : (ws : List Version) → list_all (λ w. has_spelling w.change) ws ≡ true → AllByRecursion IsVersion ws → AllByRecursion IsSpelled ws
all-spelled [] is each = tt
all-spelled (w ∷ ws) is each =
    let p = and_parts (has_spelling w.change) (list_all (λ u. has_spelling u.change) ws) is in
    (record { spelled = p.0; range = each.0 }, all-spelled ws p.1 each.1)

-- the spellings of versions
abbrev pub spelling : List Version → List ℕ
spelling ws = flat_map version_spelling ws

pub length-spelling : (ws : List Version) → AllByRecursion IsSpelled ws → length (spelling ws) ≡ versions_size ws
length-spelling [] h = refl
length-spelling (w ∷ ws) h =
    let ih = length-spelling ws h.1 in
    let own = length-version w (h.0).spelled (h.0).range.change in
    omega (arith, length-append (version_spelling w) (spelling ws), sum_by-cons (λ (v : Version). change_size v.change) w ws)

-- ---- a version in the middle

pub stands-mid : (bytes a c : List ℕ) (at : ℕ) (w : Version) → length bytes ≡ 8176 → IsSpelled w → bytes ≡ a ++ (version_spelling w ++ c) → length a ≡ at → StandsAt bytes at w
stands-mid bytes a c at w whole h is len =
    let own = length-version w h.spelled h.range.change in
    let size : length bytes ≡ at + (change_size w.change + length c) = omega (arith, ap length is, length-append a (version_spelling w ++ c), length-append (version_spelling w) c) in
    let from : drop at bytes ≡ version_spelling w ++ c = ap (drop at) is ∙ drop_at a (version_spelling w ++ c) at len in
    let after : drop (at + change_size w.change) bytes ≡ c = sym (drop-drop (change_size w.change) at bytes) ∙ ap (drop (change_size w.change)) from ∙ drop_at (version_spelling w) c (change_size w.change) own in
    record {
      whole = whole;
      spelled = h.spelled;
      range = h.range;
      room = omega arith;
      there = from ∙ ap (λ (z : List ℕ). version_spelling w ++ z) (sym after);
    }

-- ---- the parts of a page

-- the versions of a page have spellings
pub page-spelled : (image : List (List ℕ)) (v : PageValue) → Spells image v → AllByRecursion IsSpelled v.versions
page-spelled image v h = all-spelled v.versions (image_parts v h.fits).spelled h.range.versions

pub page-whole : (image : List (List ℕ)) (v : PageValue) → Spells image v → length (image_bytes image) ≡ 8176
page-whole image v h = ap length h.bytes ∙ length-page_bytes v h.fits h.range

pub page-room : (image : List (List ℕ)) (v : PageValue) → Spells image v → versions_size v.versions ≤ 8144
page-room image v h = (image_parts v h.fits).room

pub page-few : (image : List (List ℕ)) (v : PageValue) → Spells image v → length v.versions ≤ 271
page-few image v h = omega (arith, size-least v.versions, page-room image v h)

-- the zeros behind versions
abbrev pub zeros_behind : List Version → List ℕ
zeros_behind ws = replicate (8144 - versions_size ws) 0

-- the versions before one, itself, and those after it
pub spelling-split : (ws : List Version) (k : ℕ) (d : Version) → k < length ws → spelling ws ≡ spelling (take k ws) ++ (version_spelling (get_or ws k d) ++ spelling (drop (k + 1) ws))
spelling-split ws k d lt =
    ap spelling (sym (take-append-drop k ws)) ∙ flat_map-append version_spelling (take k ws) (drop k ws) ∙ ap (λ (z : List Version). spelling (take k ws) ++ spelling z) (drop_more ws k d lt)

pub page-split : (v : PageValue) (k : ℕ) (d : Version) → k < length v.versions →
    page_bytes v ≡ (header v ++ spelling (take k v.versions)) ++ (version_spelling (get_or v.versions k d) ++ (spelling (drop (k + 1) v.versions) ++ zeros_behind v.versions))
unfolding page_bytes
page-split v k d lt =
    let ws = v.versions in
    ap (λ (z : List ℕ). header v ++ (z ++ zeros_behind ws)) (spelling-split ws k d lt) ∙ regroup (header v) (spelling (take k ws)) (version_spelling (get_or ws k d)) (spelling (drop (k + 1) ws)) (zeros_behind ws)
  where
    regroup : (a b c d e : List ℕ) → a ++ ((b ++ (c ++ d)) ++ e) ≡ (a ++ b) ++ (c ++ (d ++ e))
    regroup a b c d e = simp append_assoc

pub length-front : (image : List (List ℕ)) (v : PageValue) (k : ℕ) → Spells image v → length (header v ++ spelling (take k v.versions)) ≡ place_of v.versions k
length-front image v k h =
    let all = all_take IsSpelled k v.versions (page-spelled image v h) in
    omega (arith, length-append (header v) (spelling (take k v.versions)), length-header v, length-spelling (take k v.versions) all)

-- each version of a page stands at its place
pub stands : (image : List (List ℕ)) (v : PageValue) (k : ℕ) (d : Version) → Spells image v → k < length v.versions → StandsAt (image_bytes image) (place_of v.versions k) (get_or v.versions k d)
stands image v k d h lt =
    let ws = v.versions in
    stands-mid (image_bytes image) (header v ++ spelling (take k ws)) (spelling (drop (k + 1) ws) ++ zeros_behind ws) (place_of ws k) (get_or ws k d) (page-whole image v h) (all_at IsSpelled ws k d (page-spelled image v h) lt)
    (h.bytes ∙ page-split v k d lt) (length-front image v k h)

-- ---- the header of a page

pub count-there : (image : List (List ℕ)) (v : PageValue) → Spells image v → number_in w16 (image_bytes image) 2 ≡ length v.versions
unfolding page_bytes header
count-there image v h =
    let n = to_be_bytes w16 (length v.versions) in
    let a = to_be_bytes w16 v.page in
    let rest = to_be_bytes w64 v.lsn ++ (to_be_bytes w64 v.horizon ++ replicate 12 0) in
    let back = spelling v.versions ++ zeros_behind v.versions in
    let is : drop 0 (image_bytes image) ≡ a ++ (n ++ (rest ++ back)) = h.bytes ∙ append_assoc a (n ++ rest) back ∙ ap (λ (z : List ℕ). a ++ z) (append_assoc n rest back) in
    number-there w16 (length v.versions) 0 2 (image_bytes image) a (rest ++ back) is (length-to_be_bytes w16 v.page) (omega (arith, page-few image v h))

pub horizon-there : (image : List (List ℕ)) (v : PageValue) → Spells image v → number_in w64 (image_bytes image) 12 ≡ v.horizon
unfolding page_bytes header
horizon-there image v h =
    let a = to_be_bytes w16 v.page in
    let b = to_be_bytes w16 (length v.versions) in
    let c = to_be_bytes w64 v.lsn in
    let d = to_be_bytes w64 v.horizon in
    let zs : List ℕ = replicate 12 0 in
    let back = spelling v.versions ++ zeros_behind v.versions in
    let is : drop 0 (image_bytes image) ≡ ((a ++ b) ++ c) ++ (d ++ (zs ++ back)) = h.bytes ∙ regroup a b c d zs back in
    number-there w64 v.horizon 0 12 (image_bytes image) ((a ++ b) ++ c) (zs ++ back) is (omega (arith, length-append (a ++ b) c, length-append a b, length-to_be_bytes w16 v.page, length-to_be_bytes w16 (length v.versions), length-to_be_bytes w64 v.lsn)) h.range.horizon
  where
    regroup : (a b c d e f : List ℕ) → (a ++ (b ++ (c ++ (d ++ e)))) ++ f ≡ ((a ++ b) ++ c) ++ (d ++ (e ++ f))
    regroup a b c d e f = simp append_assoc

-- ---- an image with the bytes of a page value that fits

are-spelled : (ws : List Version) → AllByRecursion IsSpelled ws → list_all (λ w. has_spelling w.change) ws ≡ true
are-spelled [] h = refl
are-spelled (w ∷ ws) h = and_from (has_spelling w.change) (list_all (λ u. has_spelling u.change) ws) (h.0).spelled (are-spelled ws h.1)

pub spells-from : (image : List (List ℕ)) (v : PageValue) → AllByRecursion IsSpelled v.versions → rise v.versions ≡ true → versions_size v.versions ≤ 8144 → v.page < 2 ^ 16 → v.lsn < 2 ^ 64 → v.horizon < 2 ^ 64
    → image_bytes image ≡ page_bytes v → Spells image v
spells-from image v each rises room page lsn horizon is =
    let spelled = are-spelled v.versions each in
    record {
      fits = and_from (list_all (λ w. has_spelling w.change) v.versions && rise v.versions) (leb (versions_size v.versions) 8144) (and_from (list_all (λ w. has_spelling w.change) v.versions) (rise v.versions) spelled rises) (le-leb (versions_size v.versions) 8144 room);
      range = record { page = page; lsn = lsn; horizon = horizon; versions = all_map IsSpelled IsVersion (λ w h. h.range) v.versions each };
      bytes = is;
    }
