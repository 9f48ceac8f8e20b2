-- Versions that are stamped one after the other.
use Rattle.std.proofs.Common.{◌≡◌, ℕ, ◌+◌, ◌-◌, ◌<◌, ◌≤◌, ◌^◌, Bool, true, false, ◌&&◌, cond, eqb, ltb, List, [], ◌∷◌, ◌++◌, length, get_or, map, take, drop, replicate, refl, sym, ap, ◌∙◌, append_assoc, eq-eqb, arith}
use Rattle.std.specs.List.{AllByRecursion}
use Rattle.std.specs.Int.{w32, w64, to_be_bytes}
use Rattle.std.proofs.lemmas.Bool.{ne_eqb}
use Rattle.std.proofs.lemmas.List.{take-append-drop, take_all, drop_all, drop_more, map_more, append-nil, length-append, length-take, length-replicate}
use Rattle.std.proofs.lemmas.List.Concat.{flat_map-append}
use Rattle.std.proofs.lemmas.List.Sums.{sum_by-cons, sum_by-take-drop}
use Rattle.ag_lists.proofs.Each.{all_at, all_take, all_drop}
use Rattle.ag_model.specs.declared.value.Version.{Version}
use Rattle.ag_model.specs.declared.value.PageValue.{PageValue}
use Rattle.ag_model.specs.Sizes.{change_size, versions_size}
use Rattle.ag_model.proofs.Numbers.{length-to_be_bytes}
use Rattle.ag_page.specs.Image.{image_bytes}
use Rattle.ag_page.specs.Spelling.{change_spelling, version_spelling, header, page_bytes, rise, rise_from}
use Rattle.ag_page.proofs.Fields.{length-version}
use Rattle.ag_page.proofs.Pages.{image_parts, length-header}
use Rattle.ag_version.specs.Edits.{stamped, after_commit}
use Rattle.ag_inplace.specs.Spelled.{Spells}
use Rattle.ag_inplace.specs.Entries.{place_of, StandsAt}
use Rattle.ag_inplace.proofs.Splices.{spliced, splice_mid, replaced-mid}
use Rattle.ag_inplace.proofs.Fields.{spelled-as}
use Rattle.ag_inplace.proofs.Standing.{IsSpelled, spelling, length-spelling, stands-mid, page-spelled, page-room, zeros_behind, spells-from}

-- ---- one version

-- another Commit of a version
abbrev with_commit : ℕ → Version → Version
with_commit lsn w = record { lsn = w.lsn; txn = w.txn; commit = lsn; key = w.key; change = w.change }

commit-written : (bytes new : List ℕ) (at lsn : ℕ) (w : Version) → StandsAt bytes at w → new ≡ spliced (at + 16) (to_be_bytes w64 lsn) bytes
    → new ≡ take at bytes ++ (version_spelling (with_commit lsn w) ++ drop (at + change_size w.change) bytes)
commit-written bytes new at lsn w h is =
    let rest = drop (at + change_size w.change) bytes in
    let a = to_be_bytes w64 w.lsn in
    let b = to_be_bytes w64 w.txn in
    let c = to_be_bytes w64 w.commit in
    let e = to_be_bytes w32 w.key ++ (change_spelling w.change ++ rest) in
    let front = take at bytes in
    let size = h.room in
    let whole = h.whole in
    let old : bytes ≡ ((front ++ a) ++ b) ++ (c ++ e) = sym (take-append-drop at bytes) ∙ ap (λ (z : List ℕ). front ++ z) (h.there ∙ spelled-as w rest) ∙ regroup front a b (c ++ e) in
    let len : length ((front ++ a) ++ b) ≡ at + 16 = omega (arith, length-append (front ++ a) b, length-append front a, length-take at bytes, length-to_be_bytes w64 w.lsn, length-to_be_bytes w64 w.txn) in
    is ∙ splice_mid (at + 16) ((front ++ a) ++ b) c e (to_be_bytes w64 lsn) bytes old len (length-to_be_bytes w64 w.commit ∙ sym (length-to_be_bytes w64 lsn))
    ∙ sym (regroup front a b (to_be_bytes w64 lsn ++ e)) ∙ ap (λ (z : List ℕ). front ++ z) (sym (spelled-as (with_commit lsn w) rest))
  where
    regroup : (a b c d : List ℕ) → a ++ (b ++ (c ++ d)) ≡ ((a ++ b) ++ c) ++ d
    regroup a b c d = simp append_assoc

pub stamps-own : (bytes new : List ℕ) (at lsn txn : ℕ) (w : Version) → StandsAt bytes at w → w.txn ≡ txn → new ≡ spliced (at + 16) (to_be_bytes w64 lsn) bytes
    → new ≡ take at bytes ++ (version_spelling (stamped lsn txn w) ++ drop (at + change_size w.change) bytes)
stamps-own bytes new at lsn txn w h own is =
    let test : eqb w.txn txn ≡ true = eq-eqb w.txn txn own in
    commit-written bytes new at lsn w h is ∙ ap (λ (b : Bool). take at bytes ++ (version_spelling (cond b (with_commit lsn w) w) ++ drop (at + change_size w.change) bytes)) (sym test)

pub stamps-other : (bytes : List ℕ) (at lsn txn : ℕ) (w : Version) → StandsAt bytes at w → (w.txn ≡ txn → ⊥) → bytes ≡ take at bytes ++ (version_spelling (stamped lsn txn w) ++ drop (at + change_size w.change) bytes)
stamps-other bytes at lsn txn w h other =
    let test : eqb w.txn txn ≡ false = ne_eqb w.txn txn other in
    sym (take-append-drop at bytes) ∙ ap (λ (z : List ℕ). take at bytes ++ z) h.there ∙ ap (λ (b : Bool). take at bytes ++ (version_spelling (cond b (with_commit lsn w) w) ++ drop (at + change_size w.change) bytes)) (sym test)

-- ---- what a stamp keeps

stamped-cases : (P : Version → Type 0) (lsn txn : ℕ) (w : Version) → P (with_commit lsn w) → P w → P (stamped lsn txn w)
stamped-cases P lsn txn w p q = by (eqb w.txn txn)
  where
    by : (b : Bool) → P (cond b (with_commit lsn w) w)
    by true = p
    by false = q

pub stamped-spelled : (lsn txn : ℕ) (w : Version) → lsn < 2 ^ 64 → IsSpelled w → IsSpelled (stamped lsn txn w)
stamped-spelled lsn txn w lt h =
    stamped-cases IsSpelled lsn txn w (record { spelled = h.spelled; range = record { lsn = h.range.lsn; txn = h.range.txn; commit = lt; key = h.range.key; change = h.range.change } }) h

pub all-stamped : (lsn txn : ℕ) (ws : List Version) → lsn < 2 ^ 64 → AllByRecursion IsSpelled ws → AllByRecursion IsSpelled (map (stamped lsn txn) ws)
all-stamped lsn txn [] lt h = tt
all-stamped lsn txn (w ∷ ws) lt h = (stamped-spelled lsn txn w lt h.0, all-stamped lsn txn ws lt h.1)

pub size-stamped : (lsn txn : ℕ) (ws : List Version) → versions_size (map (stamped lsn txn) ws) ≡ versions_size ws
size-stamped lsn txn [] = refl
size-stamped lsn txn (w ∷ ws) =
    let own : change_size (stamped lsn txn w).change ≡ change_size w.change = stamped-cases (λ (x : Version). change_size x.change ≡ change_size w.change) lsn txn w refl refl in
    omega (arith, size-stamped lsn txn ws, sum_by-cons (λ (v : Version). change_size v.change) w ws, sum_by-cons (λ (v : Version). change_size v.change) (stamped lsn txn w) (map (stamped lsn txn) ws))

-- ---- all versions of a page

-- the first versions are stamped
abbrev pub IsStampedTo : ℕ → ℕ → PageValue → ℕ → List ℕ → Type 0
IsStampedTo lsn txn v k bytes = bytes ≡ (header v ++ spelling (map (stamped lsn txn) (take k v.versions))) ++ (spelling (drop k v.versions) ++ zeros_behind v.versions)

pub stamped-none : (lsn txn : ℕ) (image : List (List ℕ)) (v : PageValue) → Spells image v → IsStampedTo lsn txn v 0 (image_bytes image)
unfolding page_bytes
stamped-none lsn txn image v h = h.bytes ∙ ap (λ (z : List ℕ). z ++ (spelling v.versions ++ zeros_behind v.versions)) (sym (append-nil (header v)))

length-stamped : (lsn txn : ℕ) (image : List (List ℕ)) (v : PageValue) (k : ℕ) → lsn < 2 ^ 64 → Spells image v → length (header v ++ spelling (map (stamped lsn txn) (take k v.versions))) ≡ place_of v.versions k
length-stamped lsn txn image v k lt h =
    let all = all-stamped lsn txn (take k v.versions) lt (all_take IsSpelled k v.versions (page-spelled image v h)) in
    omega (arith, length-append (header v) (spelling (map (stamped lsn txn) (take k v.versions))), length-header v, length-spelling (map (stamped lsn txn) (take k v.versions)) all, size-stamped lsn txn (take k v.versions))

split-next : (lsn txn : ℕ) (v : PageValue) (k : ℕ) (d : Version) (bytes : List ℕ) → k < length v.versions → IsStampedTo lsn txn v k bytes
    → bytes ≡ (header v ++ spelling (map (stamped lsn txn) (take k v.versions))) ++ (version_spelling (get_or v.versions k d) ++ (spelling (drop (k + 1) v.versions) ++ zeros_behind v.versions))
split-next lsn txn v k d bytes lt is =
    let ws = v.versions in
    let front = header v ++ spelling (map (stamped lsn txn) (take k ws)) in
    is ∙ ap (λ (z : List Version). front ++ (spelling z ++ zeros_behind ws)) (drop_more ws k d lt)
    ∙ ap (λ (z : List ℕ). front ++ z) (append_assoc (version_spelling (get_or ws k d)) (spelling (drop (k + 1) ws)) (zeros_behind ws))

-- the next version stands where it stood
pub stamped-stands : (lsn txn : ℕ) (image : List (List ℕ)) (v : PageValue) (k at : ℕ) (d : Version) (bytes : List ℕ) → lsn < 2 ^ 64 → Spells image v → k < length v.versions → at ≡ place_of v.versions k → length bytes ≡ 8176
    → IsStampedTo lsn txn v k bytes → StandsAt bytes at (get_or v.versions k d)
stamped-stands lsn txn image v k at d bytes small h lt place whole is =
    stands-mid bytes _ _ at (get_or v.versions k d) whole (all_at IsSpelled v.versions k d (page-spelled image v h) lt) (split-next lsn txn v k d bytes lt is) (length-stamped lsn txn image v k small h ∙ sym place)

pub stamped-more : (lsn txn : ℕ) (image : List (List ℕ)) (v : PageValue) (k at : ℕ) (d : Version) (old new : List ℕ) → lsn < 2 ^ 64 → Spells image v → k < length v.versions → at ≡ place_of v.versions k
    → new ≡ take at old ++ (version_spelling (stamped lsn txn (get_or v.versions k d)) ++ drop (at + change_size (get_or v.versions k d).change) old) → IsStampedTo lsn txn v k old → IsStampedTo lsn txn v (k + 1) new
stamped-more lsn txn image v k at d old new small h lt place e is =
    let ws = v.versions in
    let w = get_or ws k d in
    let x = stamped lsn txn w in
    let done = spelling (map (stamped lsn txn) (take k ws)) in
    let rest = spelling (drop (k + 1) ws) ++ zeros_behind ws in
    let own = all_at IsSpelled ws k d (page-spelled image v h) lt in
    let size : length (version_spelling w) ≡ change_size w.change = length-version w own.spelled own.range.change in
    let more : spelling (map (stamped lsn txn) (take (k + 1) ws)) ≡ done ++ version_spelling x =
    ap spelling (map_more (stamped lsn txn) ws k d lt) ∙ flat_map-append version_spelling (map (stamped lsn txn) (take k ws)) (x ∷ []) ∙ ap (λ (z : List ℕ). done ++ z) (append-nil (version_spelling x)) in
    e ∙ replaced-mid at (change_size w.change) (header v ++ done) (version_spelling w) rest (version_spelling x) old (split-next lsn txn v k d old lt is) (length-stamped lsn txn image v k small h ∙ sym place) size
    ∙ regroup (header v) done (version_spelling x) rest ∙ ap (λ (z : List ℕ). (header v ++ z) ++ rest) (sym more)
  where
    regroup : (a b c d : List ℕ) → (a ++ b) ++ (c ++ d) ≡ (a ++ (b ++ c)) ++ d
    regroup a b c d = simp append_assoc

pub stamped-whole : (lsn txn : ℕ) (image : List (List ℕ)) (v : PageValue) (k : ℕ) (bytes : List ℕ) → lsn < 2 ^ 64 → Spells image v → IsStampedTo lsn txn v k bytes → length bytes ≡ 8176
stamped-whole lsn txn image v k bytes small h is =
    let ws = v.versions in
    let front = header v ++ spelling (map (stamped lsn txn) (take k ws)) in
    let room = page-room image v h in
    omega (
      arith,
      ap length is,
      length-stamped lsn txn image v k small h,
      length-append front (spelling (drop k ws) ++ zeros_behind ws),
      length-append (spelling (drop k ws)) (zeros_behind ws),
      length-spelling (drop k ws) (all_drop IsSpelled k ws (page-spelled image v h)),
      length-replicate {A = ℕ} (8144 - versions_size ws) 0,
      sum_by-take-drop (λ (w : Version). change_size w.change) ws k,
    )

-- the versions after a stamp of them all
abbrev rest_of : ℕ → ℕ → PageValue → List ℕ
rest_of lsn txn v = spelling (map (stamped lsn txn) v.versions) ++ zeros_behind (map (stamped lsn txn) v.versions)

pub stamped-all : (lsn txn : ℕ) (v : PageValue) (k : ℕ) (bytes : List ℕ) → length v.versions ≤ k → IsStampedTo lsn txn v k bytes → bytes ≡ header v ++ rest_of lsn txn v
stamped-all lsn txn v k bytes le is =
    let ws = v.versions in
    let st = map (stamped lsn txn) ws in
    is ∙ ap (λ (z : List Version). (header v ++ spelling (map (stamped lsn txn) z)) ++ (spelling (drop k ws) ++ zeros_behind ws)) (take_all k ws le)
    ∙ ap (λ (z : List Version). (header v ++ spelling st) ++ (spelling z ++ zeros_behind ws)) (drop_all k ws le)
    ∙ append_assoc (header v) (spelling st) (zeros_behind ws)
    ∙ ap (λ (n : ℕ). header v ++ (spelling st ++ replicate (8144 - n) 0)) (sym (size-stamped lsn txn ws))

-- ---- the page after its Commit

rise-stamped : (lsn txn low : ℕ) (ws : List Version) → rise_from low (map (stamped lsn txn) ws) ≡ rise_from low ws
rise-stamped lsn txn low [] = refl
rise-stamped lsn txn low (w ∷ ws) =
    let own : (stamped lsn txn w).lsn ≡ w.lsn = stamped-cases (λ (x : Version). x.lsn ≡ w.lsn) lsn txn w refl refl in
    ap (λ (n : ℕ). ltb low n && rise_from n (map (stamped lsn txn) ws)) own ∙ ap (λ (b : Bool). ltb low w.lsn && b) (rise-stamped lsn txn w.lsn ws)

rises : (lsn txn : ℕ) (ws : List Version) → rise ws ≡ true → rise (map (stamped lsn txn) ws) ≡ true
rises lsn txn [] e = refl
rises lsn txn (w ∷ ws) e =
    let own : (stamped lsn txn w).lsn ≡ w.lsn = stamped-cases (λ (x : Version). x.lsn ≡ w.lsn) lsn txn w refl refl in
    ap (λ (n : ℕ). rise_from n (map (stamped lsn txn) ws)) own ∙ rise-stamped lsn txn w.lsn ws ∙ e

pub stamped-page : (lsn txn : ℕ) (old new : List (List ℕ)) (v : PageValue) → lsn < 2 ^ 64 → Spells old v → image_bytes new ≡ header (after_commit lsn txn v) ++ rest_of lsn txn v → Spells new (after_commit lsn txn v)
unfolding page_bytes
stamped-page lsn txn old new v small h is =
    let ws = v.versions in
    spells-from new (after_commit lsn txn v) (all-stamped lsn txn ws small (page-spelled old v h)) (rises lsn txn ws (image_parts v h.fits).rises) (omega (arith, size-stamped lsn txn ws, page-room old v h)) h.range.page small h.range.horizon is
