-- A version that is put behind the others.
use Rattle.std.proofs.Common.{◌≡◌, ℕ, ◌+◌, ◌-◌, ◌<◌, ◌≤◌, ◌^◌, true, ltb, List, [], ◌∷◌, ◌++◌, length, take, drop, replicate, slice_index, refl, sym, ap, ◌∙◌, append_assoc, arith}
use Rattle.std.proofs.lemmas.Bool.{and_parts, and_from, lt-ltb}
use Rattle.std.proofs.lemmas.List.{append-nil, replicate-append-replicate, length-append, length-replicate, length-take, length-drop}
use Rattle.std.proofs.lemmas.List.Concat.{flat_map-append}
use Rattle.std.proofs.lemmas.List.Sums.{sum_by_push}
use Rattle.ag_lists.proofs.Each.{all_push}
use Rattle.ag_model.specs.declared.value.Change.{Change}
use Rattle.ag_model.specs.declared.value.Version.{Version}
use Rattle.ag_model.specs.declared.value.PageValue.{PageValue}
use Rattle.ag_model.specs.Sizes.{change_size, versions_size, free_bytes}
use Rattle.ag_page.specs.Image.{image_bytes}
use Rattle.ag_page.specs.Spelling.{version_spelling, header, page_bytes, has_spelling, rise, rise_from, IsWhole}
use Rattle.ag_page.proofs.Fields.{length-version}
use Rattle.ag_page.proofs.Pages.{image_parts, length-header}
use Rattle.ag_inplace.specs.declared.directory.Directory.{Directory}
use Rattle.ag_inplace.specs.Listing.{Lists}
use Rattle.ag_version.specs.Edits.{new_version, after_change}
use Rattle.ag_inplace.specs.Spelled.{Spells, AreBelow}
use Rattle.ag_inplace.proofs.Splices.{replaced-mid}
use Rattle.ag_inplace.proofs.Listed.{place-last}
use Rattle.ag_inplace.proofs.Standing.{IsSpelled, spelling, length-spelling, page-spelled, page-room, zeros_behind, spells-from}

-- the bytes of a page with one version more, but for its header
pub put-behind : (image : List (List ℕ)) (v : PageValue) (at : ℕ) (x : Version) (new : List ℕ) → Spells image v → at ≡ 32 + versions_size v.versions → versions_size v.versions + change_size x.change ≤ 8144
    → new ≡ take at (image_bytes image) ++ (version_spelling x ++ drop (at + change_size x.change) (image_bytes image)) → new ≡ header v ++ (spelling (v.versions ++ x ∷ []) ++ zeros_behind (v.versions ++ x ∷ []))
unfolding page_bytes
put-behind image v at x new h place room is =
    let ws = v.versions in
    let n = change_size x.change in
    let m = 8144 - versions_size (ws ++ x ∷ []) in
    let size = sum_by_push (λ (w : Version). change_size w.change) ws x in
    let k : n + m ≡ 8144 - versions_size ws = omega arith in
    let zs : zeros_behind ws ≡ replicate n 0 ++ replicate m 0 = ap (λ (z : ℕ). replicate z 0) (sym k) ∙ sym (replicate-append-replicate n m 0) in
    let front = header v ++ spelling ws in
    let old : image_bytes image ≡ front ++ (replicate n 0 ++ replicate m 0) = h.bytes ∙ sym (append_assoc (header v) (spelling ws) (zeros_behind ws)) ∙ ap (λ (z : List ℕ). front ++ z) zs in
    let len : length front ≡ at = omega (arith, length-append (header v) (spelling ws), length-header v, length-spelling ws (page-spelled image v h)) in
    let more : spelling (ws ++ x ∷ []) ≡ spelling ws ++ version_spelling x = flat_map-append version_spelling ws (x ∷ []) ∙ ap (λ (z : List ℕ). spelling ws ++ z) (append-nil (version_spelling x)) in
    is ∙ replaced-mid at n front (replicate n 0) (replicate m 0) (version_spelling x) (image_bytes image) old len (length-replicate {A = ℕ} n 0)
    ∙ regroup (header v) (spelling ws) (version_spelling x) (replicate m 0) ∙ ap (λ (z : List ℕ). header v ++ (z ++ replicate m 0)) (sym more)
  where
    regroup : (a b c d : List ℕ) → (a ++ b) ++ (c ++ d) ≡ a ++ ((b ++ c) ++ d)
    regroup a b c d = simp append_assoc

-- ---- its LSN is above the others

rise_from-push : (low : ℕ) (ws : List Version) (x : Version) → low < x.lsn → AreBelow x.lsn ws → rise_from low ws ≡ true → rise_from low (ws ++ x ∷ []) ≡ true
rise_from-push low [] x lt below e = and_from (ltb low x.lsn) true (lt-ltb low x.lsn lt) refl
rise_from-push low (w ∷ ws) x lt below e =
    let p = and_parts (ltb low w.lsn) (rise_from w.lsn ws) e in
    and_from (ltb low w.lsn) (rise_from w.lsn (ws ++ x ∷ [])) p.0 (rise_from-push w.lsn ws x below.0 below.1 p.1)

rise-push : (ws : List Version) (x : Version) → AreBelow x.lsn ws → rise ws ≡ true → rise (ws ++ x ∷ []) ≡ true
rise-push [] x below e = refl
rise-push (w ∷ ws) x below e = rise_from-push w.lsn ws x below.0 below.1 e

pub put-page : (image new : List (List ℕ)) (v : PageValue) (lsn txn key : ℕ) (change : Change) → lsn < 2 ^ 64 → txn < 2 ^ 64 → key < 2 ^ 32 → has_spelling change ≡ true → IsWhole change → Spells image v → AreBelow lsn v.versions
    → versions_size v.versions + change_size change ≤ 8144 → image_bytes new ≡ page_bytes (after_change lsn txn key change v) → Spells new (after_change lsn txn key change v)
put-page image new v lsn txn key change a b c spelled whole h below room is =
    let ws = v.versions in
    let x = new_version lsn txn key change in
    let own : IsSpelled x = record { spelled = spelled; range = record { lsn = a; txn = b; commit = omega arith; key = c; change = whole } } in
    spells-from new (after_change lsn txn key change v) (all_push IsSpelled ws x (page-spelled image v h) own) (rise-push ws x below (image_parts v h.fits).rises)
    (omega (arith, sum_by_push (λ (w : Version). change_size w.change) ws x)) h.range.page a h.range.horizon is

-- the bytes that are free are those behind the last version
pub free-is : (image : List (List ℕ)) (v : PageValue) (end : ℕ) → Spells image v → end ≡ 32 + versions_size v.versions → 8176 - end ≡ free_bytes v
free-is image v end h is = omega (arith, page-room image v h)

pub put-bytes : (v : PageValue) (lsn txn key : ℕ) (change : Change) (bytes : List ℕ) → (let x = new_version lsn txn key change in bytes ≡ header (after_change lsn txn key change v) ++ (spelling (v.versions ++ x ∷ []) ++ zeros_behind (v.versions ++ x ∷ []))) → bytes ≡ page_bytes (after_change lsn txn key change v)
unfolding page_bytes
put-bytes v lsn txn key change bytes is = is

pub put-whole : (at : ℕ) (x : Version) (old new : List ℕ) → length old ≡ 8176 → at + change_size x.change ≤ 8176 → has_spelling x.change ≡ true → IsWhole x.change → new ≡ take at old ++ (version_spelling x ++ drop (at + change_size x.change) old) → length new ≡ 8176
put-whole at x old new whole room spelled own is =
    let rest = drop (at + change_size x.change) old in
    ap length is ∙ omega (arith, length-version x spelled own, length-append (take at old) (version_spelling x ++ rest), length-append (version_spelling x) rest, length-take at old, length-drop (at + change_size x.change) old)

-- where the last version ends
pub end-is : (d : Directory) (v : PageValue) (bytes : List ℕ) (n end : ℕ) → Lists bytes d v.versions → n ≡ d.count → end ≡ slice_index d.places n → end ≡ 32 + versions_size v.versions
end-is d v bytes n end h e is = is ∙ ap (λ (k : ℕ). slice_index d.places k) (e ∙ h.count) ∙ h.places (length v.versions) (omega arith) ∙ place-last v.versions
