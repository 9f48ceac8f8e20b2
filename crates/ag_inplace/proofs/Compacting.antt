-- Versions that are moved to the front of a page, one behind the other.
use Rattle.std.proofs.Common.{◌≡◌, ℕ, ◌+◌, ◌-◌, ◌<◌, ◌≤◌, ◌^◌, Bool, true, false, not, cond, ltb, List, [], ◌∷◌, ◌++◌, length, get_or, set, take, drop, replicate, refl, sym, ap, ◌∙◌, append_assoc, arith}
use Rattle.std.specs.List.{filter}
use Rattle.std.proofs.lemmas.Bool.{and_parts, and_from, ltb-true, lt-ltb}
use Rattle.std.proofs.lemmas.List.{take_at, drop_at, drop-drop, take_all, take-append-drop, take-replicate, drop_all, drop_more, append-nil, replicate-append-replicate, length-append, length-take, length-drop, length-replicate}
use Rattle.std.proofs.lemmas.List.Edits.{fill_by_more}
use Rattle.std.proofs.lemmas.List.Concat.{flat_map-append}
use Rattle.std.proofs.lemmas.List.Elements.{filter_more}
use Rattle.std.proofs.lemmas.List.Filters.{sum_by-filter_both}
use Rattle.std.proofs.lemmas.List.Sums.{sum_by_push}
use Rattle.ag_lists.proofs.Each.{all_at}
use Rattle.ag_lists.proofs.Tests.{by_bool}
use Rattle.ag_lists.proofs.Filters.{all_filter}
use Rattle.ag_model.specs.declared.value.Version.{Version}
use Rattle.ag_model.specs.declared.value.PageValue.{PageValue}
use Rattle.ag_model.specs.Sizes.{change_size, versions_size}
use Rattle.ag_page.specs.Image.{image_bytes}
use Rattle.ag_page.specs.Spelling.{version_spelling, header, page_bytes, rise, rise_from}
use Rattle.ag_page.proofs.Fields.{length-version}
use Rattle.ag_page.proofs.Pages.{image_parts, length-header}
use Rattle.ag_inplace.specs.Spelled.{Spells}
use Rattle.ag_inplace.specs.Entries.{place_of}
use Rattle.ag_inplace.specs.Flags.{kept}
use Rattle.ag_inplace.proofs.Splices.{spliced, splice_both}
use Rattle.ag_inplace.proofs.Standing.{IsSpelled, spelling, page-spelled, page-whole, page-room, zeros_behind, spells-from}
use Rattle.ag_inplace.proofs.Listed.{place-next, place-most, no_version}

-- ---- zeros

-- zeros are written further on
pub cleared-more : (from at n : ℕ) (part old one two : List ℕ) → from ≤ at → at ≤ length old → part ≡ replicate n 0 → one ≡ spliced from (replicate (at - from) 0) old → two ≡ spliced at part one
    → two ≡ spliced from (replicate (at + n - from) 0) old
cleared-more from at n part old one two le room zs is e =
    let front : List ℕ = replicate (at - from) 0 in
    let mid : at ≡ from + length front = omega (arith, length-replicate {A = ℕ} (at - from) 0) in
    let k : at - from + n ≡ at + n - from = omega arith in
    splice_both from at front part old one two (omega arith) mid is e
    ∙ ap (λ (z : List ℕ). spliced from (front ++ z) old) zs ∙ ap (λ (z : List ℕ). spliced from z old) (replicate-append-replicate (at - from) n 0 ∙ ap (λ (m : ℕ). replicate m 0) k)

pub cleared-none : (from : ℕ) (old : List ℕ) → old ≡ spliced from (replicate (from - from) 0) old
cleared-none from old =
    let none : from - from ≡ 0 = omega arith in
    let zs : replicate {A = ℕ} (from - from) 0 ≡ [] = ap (λ (n : ℕ). replicate n 0) none in
    sym (take-append-drop from old) ∙ (let e : from ≡ from + 0 = omega arith in ap (λ (n : ℕ). take from old ++ drop n old) e) ∙ ap (λ (z : List ℕ). spliced from z old) (sym zs)

pub cleared-all : (from to at : ℕ) (old new : List ℕ) → from ≤ to → to ≤ at → at ≤ to → new ≡ spliced from (replicate (at - from) 0) old → new ≡ take from old ++ (replicate (to - from) 0 ++ drop to old)
cleared-all from to at old new order over under is =
    let same : at ≡ to = omega arith in
    let end : from + length (replicate {A = ℕ} (to - from) 0) ≡ to = omega (arith, length-replicate {A = ℕ} (to - from) 0) in
    is ∙ ap (λ (n : ℕ). spliced from (replicate (n - from) 0) old) same ∙ ap (λ (n : ℕ). take from old ++ (replicate (to - from) 0 ++ drop n old)) end

pub zeros-taken : (n m : ℕ) → n ≤ m → take n (replicate {A = ℕ} m 0) ≡ replicate n 0
zeros-taken n m le = take-replicate n m 0 le

-- ---- how much a filter keeps

pub size-kept : (p : Version → Bool) (ws : List Version) → versions_size (filter p ws) ≤ versions_size ws
size-kept p ws = omega (arith, sum_by-filter_both p (λ w. not (p w)) (λ _. refl) (λ (w : Version). change_size w.change) ws)

-- ---- the loop

-- the first versions that pass stand in front, and the others behind a gap
pub record Compacts (p : Version → Bool) (v : PageValue) (k to count : ℕ) (bytes : List ℕ) : Type 0 where
  pub front : take to bytes ≡ header v ++ spelling (filter p (take k v.versions))
  pub back : drop (place_of v.versions k) bytes ≡ spelling (drop k v.versions) ++ zeros_behind v.versions
  pub place : to ≡ 32 + versions_size (filter p (take k v.versions))
  pub many : count ≡ length (filter p (take k v.versions))
  pub whole : length bytes ≡ 8176

pub compacts-behind : (p : Version → Bool) (v : PageValue) (k to count : ℕ) (bytes : List ℕ) → Compacts p v k to count bytes → to ≤ place_of v.versions k
compacts-behind p v k to count bytes h = omega (arith, h.place, size-kept p (take k v.versions))

pub compacts-none : (p : Version → Bool) (image : List (List ℕ)) (v : PageValue) → Spells image v → Compacts p v 0 32 0 (image_bytes image)
unfolding page_bytes
compacts-none p image v h = record {
  front = ap (take 32) h.bytes ∙ take_at (header v) (spelling v.versions ++ zeros_behind v.versions) 32 (length-header v) ∙ sym (append-nil (header v));
  back = ap (drop 32) h.bytes ∙ drop_at (header v) (spelling v.versions ++ zeros_behind v.versions) 32 (length-header v);
  place = refl;
  many = refl;
  whole = page-whole image v h;
}

-- the versions from one on
spelling-from : (v : PageValue) (k : ℕ) (d : Version) → k < length v.versions → spelling (drop k v.versions) ++ zeros_behind v.versions ≡ version_spelling (get_or v.versions k d) ++ (spelling (drop (k + 1) v.versions) ++ zeros_behind v.versions)
spelling-from v k d lt =
    let ws = v.versions in
    ap (λ (z : List Version). spelling z ++ zeros_behind ws) (drop_more ws k d lt) ∙ append_assoc (version_spelling (get_or ws k d)) (spelling (drop (k + 1) ws)) (zeros_behind ws)

length-one : (image : List (List ℕ)) (v : PageValue) (k : ℕ) (d : Version) → Spells image v → k < length v.versions → length (version_spelling (get_or v.versions k d)) ≡ change_size (get_or v.versions k d).change
length-one image v k d h lt = let own = all_at IsSpelled v.versions k d (page-spelled image v h) lt in length-version (get_or v.versions k d) own.spelled own.range.change

-- the bytes of the next version
pub next-version : (p : Version → Bool) (image : List (List ℕ)) (v : PageValue) (k to count : ℕ) (d : Version) (bytes : List ℕ) → Spells image v → k < length v.versions → Compacts p v k to count bytes
    → take (change_size (get_or v.versions k d).change) (drop (place_of v.versions k) bytes) ≡ version_spelling (get_or v.versions k d)
next-version p image v k to count d bytes h lt is =
    ap (take (change_size (get_or v.versions k d).change)) (is.back ∙ spelling-from v k d lt) ∙ take_at (version_spelling (get_or v.versions k d)) _ (change_size (get_or v.versions k d).change) (length-one image v k d h lt)

back-next : (image : List (List ℕ)) (v : PageValue) (k : ℕ) (d : Version) (bytes : List ℕ) → Spells image v → k < length v.versions → drop (place_of v.versions k) bytes ≡ spelling (drop k v.versions) ++ zeros_behind v.versions
    → drop (place_of v.versions (k + 1)) bytes ≡ spelling (drop (k + 1) v.versions) ++ zeros_behind v.versions
back-next image v k d bytes h lt is =
    let w = get_or v.versions k d in
    ap (λ (n : ℕ). drop n bytes) (place-next v.versions k d lt) ∙ sym (drop-drop (change_size w.change) (place_of v.versions k) bytes) ∙ ap (drop (change_size w.change)) (is ∙ spelling-from v k d lt)
    ∙ drop_at (version_spelling w) (spelling (drop (k + 1) v.versions) ++ zeros_behind v.versions) (change_size w.change) (length-one image v k d h lt)

filter-next : (p : Version → Bool) (ws : List Version) (k : ℕ) (d : Version) → k < length ws → p (get_or ws k d) ≡ true → filter p (take (k + 1) ws) ≡ filter p (take k ws) ++ get_or ws k d ∷ []
filter-next p ws k d lt passes = filter_more p ws k d lt ∙ ap (λ (b : Bool). filter p (take k ws) ++ cond b (get_or ws k d ∷ []) []) passes

filter-same : (p : Version → Bool) (ws : List Version) (k : ℕ) (d : Version) → k < length ws → p (get_or ws k d) ≡ false → filter p (take (k + 1) ws) ≡ filter p (take k ws)
filter-same p ws k d lt fails = filter_more p ws k d lt ∙ ap (λ (b : Bool). filter p (take k ws) ++ cond b (get_or ws k d ∷ []) []) fails ∙ append-nil (filter p (take k ws))

-- a version that doesn't pass
pub compacts-skip : (p : Version → Bool) (image : List (List ℕ)) (v : PageValue) (k to count next total : ℕ) (d : Version) (old new : List ℕ) → Spells image v → k < length v.versions → p (get_or v.versions k d) ≡ false
    → next ≡ to → total ≡ count → new ≡ old → Compacts p v k to count old → Compacts p v (k + 1) next total new
compacts-skip p image v k to count next total d old new h lt fails step all e is =
    let same = filter-same p v.versions k d lt fails in
    record {
      front = ap (take next) e ∙ ap (λ (n : ℕ). take n old) step ∙ is.front ∙ ap (λ (z : List Version). header v ++ spelling z) (sym same);
      back = ap (drop (place_of v.versions (k + 1))) e ∙ back-next image v k d old h lt is.back;
      place = step ∙ is.place ∙ ap (λ (z : List Version). 32 + versions_size z) (sym same);
      many = all ∙ is.many ∙ ap (λ (z : List Version). length z) (sym same);
      whole = ap length e ∙ is.whole;
    }

-- a version that passes
pub compacts-keep : (p : Version → Bool) (image : List (List ℕ)) (v : PageValue) (k to count size next total : ℕ) (d : Version) (old new : List ℕ) → Spells image v → k < length v.versions → p (get_or v.versions k d) ≡ true
    → size ≡ change_size (get_or v.versions k d).change → next ≡ to + size → total ≡ count + 1 → new ≡ take to old ++ (take size (drop (place_of v.versions k) old) ++ drop (to + size) old)
    → Compacts p v k to count old → Compacts p v (k + 1) next total new
compacts-keep p image v k to count size next total d old new h lt passes long step all e is =
    let ws = v.versions in
    let w = get_or ws k d in
    let sp = version_spelling w in
    let more = filter-next p ws k d lt passes in
    let own : length sp ≡ size = length-one image v k d h lt ∙ sym long in
    let behind = compacts-behind p v k to count old is in
    let part : take size (drop (place_of ws k) old) ≡ sp = ap (λ (n : ℕ). take n (drop (place_of ws k) old)) long ∙ next-version p image v k to count d old h lt is in
    let made : new ≡ (take to old ++ sp) ++ drop (to + size) old = e ∙ ap (λ (z : List ℕ). take to old ++ (z ++ drop (to + size) old)) part ∙ sym (append_assoc (take to old) sp (drop (to + size) old)) in
    let after = place-next ws k d lt in
    let end = place-in image v (k + 1) h in
    let whole = is.whole in
    let len : length (take to old ++ sp) ≡ next = omega (arith, length-append (take to old) sp, length-take to old) in
    let gap = place_of ws (k + 1) - next in
    let reach : next + gap ≡ place_of ws (k + 1) = omega arith in
    let front : take next new ≡ take to old ++ sp = ap (take next) made ∙ take_at (take to old ++ sp) (drop (to + size) old) next len in
    let rest : drop next new ≡ drop next old = ap (drop next) made ∙ drop_at (take to old ++ sp) (drop (to + size) old) next len ∙ ap (λ (n : ℕ). drop n old) (sym step) in
    let back : drop (place_of ws (k + 1)) new ≡ drop (place_of ws (k + 1)) old =
    ap (λ (n : ℕ). drop n new) (sym reach) ∙ sym (drop-drop gap next new) ∙ ap (drop gap) rest ∙ drop-drop gap next old ∙ ap (λ (n : ℕ). drop n old) reach in
    record {
      front = front ∙ ap (λ (z : List ℕ). z ++ sp) is.front ∙ append_assoc (header v) (spelling (filter p (take k ws))) sp
          ∙ ap (λ (z : List ℕ). header v ++ z) (ap (λ (z : List ℕ). spelling (filter p (take k ws)) ++ z) (sym (append-nil sp)) ∙ sym (flat_map-append version_spelling (filter p (take k ws)) (w ∷ [])) ∙ ap spelling (sym more));
      back = back ∙ back-next image v k d old h lt is.back;
      place = omega (arith, is.place, ap versions_size more, sum_by_push (λ (x : Version). change_size x.change) (filter p (take k ws)) w);
      many = omega (arith, all, is.many, ap (λ (z : List Version). length z) more, length-append (filter p (take k ws)) (w ∷ []));
      whole = ap length made ∙ omega (arith, length-append (take to old ++ sp) (drop (to + size) old), length-drop (to + size) old);
    }
  where
    place-in : (image : List (List ℕ)) (v : PageValue) (k : ℕ) → Spells image v → place_of v.versions k ≤ 8176
    place-in image v k h = omega (arith, place-most v.versions k, page-room image v h)

-- ---- its end

-- once the gap is zeros, the versions that pass stand there, and zeros behind them
pub compacted : (p : Version → Bool) (image : List (List ℕ)) (v : PageValue) (k to count end : ℕ) (old new : List ℕ) → Spells image v → length v.versions ≤ k → end ≡ 32 + versions_size v.versions → Compacts p v k to count old
    → new ≡ take to old ++ (replicate (end - to) 0 ++ drop end old) → new ≡ header v ++ (spelling (filter p v.versions) ++ zeros_behind (filter p v.versions))
compacted p image v k to count end old new h le last is e =
    let ws = v.versions in
    let done = spelling (filter p ws) in
    let whole : take k ws ≡ ws = take_all k ws le in
    let front : take to old ≡ header v ++ done = is.front ∙ ap (λ (z : List Version). header v ++ spelling (filter p z)) whole in
    let place : place_of ws k ≡ end = ap (λ (z : List Version). 32 + versions_size z) whole ∙ sym last in
    let back : drop end old ≡ zeros_behind ws = ap (λ (n : ℕ). drop n old) (sym place) ∙ is.back ∙ ap (λ (z : List Version). spelling z ++ zeros_behind ws) (drop_all k ws le) in
    let room = page-room image v h in
    let most = size-kept p ws in
    let here : to ≡ 32 + versions_size (filter p ws) = is.place ∙ ap (λ (z : List Version). 32 + versions_size (filter p z)) whole in
    let zs : replicate {A = ℕ} (end - to) 0 ++ zeros_behind ws ≡ zeros_behind (filter p ws) =
    replicate-append-replicate (end - to) (8144 - versions_size ws) 0 ∙ (let n : end - to + (8144 - versions_size ws) ≡ 8144 - versions_size (filter p ws) = omega arith in ap (λ (m : ℕ). replicate m 0) n) in
    e ∙ ap (λ (z : List ℕ). z ++ (replicate (end - to) 0 ++ drop end old)) front ∙ ap (λ (z : List ℕ). (header v ++ done) ++ (replicate (end - to) 0 ++ z)) back
    ∙ ap (λ (z : List ℕ). (header v ++ done) ++ z) zs ∙ append_assoc (header v) done (zeros_behind (filter p ws))

pub compacted-count : (p : Version → Bool) (v : PageValue) (k to count : ℕ) (bytes : List ℕ) → length v.versions ≤ k → Compacts p v k to count bytes → count ≡ length (filter p v.versions)
compacted-count p v k to count bytes le is = is.many ∙ ap (λ (z : List Version). length (filter p z)) (take_all k v.versions le)

-- ---- flags

-- one flag more
pub flags-more : (p : Version → Bool) (ws : List Version) (keep : List Bool) (k : ℕ) (b : Bool) → k < length keep → ((j : ℕ) → j < k → get_or keep j false ≡ p (get_or ws j no_version)) → b ≡ p (get_or ws k no_version)
    → (j : ℕ) → j < k + 1 → get_or (set keep k b) j false ≡ p (get_or ws j no_version)
flags-more p ws keep k b lt each e j below = ap (λ (t : Bool). get_or (set keep k t) j false) e ∙ fill_by_more (λ (i : ℕ). p (get_or ws i no_version)) keep k false lt each j below

-- ---- the page with the versions that pass

rise_from-lower : (low high : ℕ) (ws : List Version) → low ≤ high → rise_from high ws ≡ true → rise_from low ws ≡ true
rise_from-lower low high [] le e = refl
rise_from-lower low high (w ∷ ws) le e =
    let p = and_parts (ltb high w.lsn) (rise_from w.lsn ws) e in
    let above : high < w.lsn = ltb-true high w.lsn p.0 in
    and_from (ltb low w.lsn) (rise_from w.lsn ws) (lt-ltb low w.lsn (omega arith)) p.1

rise-kept_from : (p : Version → Bool) (low : ℕ) (ws : List Version) → rise_from low ws ≡ true → rise_from low (filter p ws) ≡ true
rise-kept_from p low [] e = refl
rise-kept_from p low (w ∷ ws) e =
    let q = and_parts (ltb low w.lsn) (rise_from w.lsn ws) e in
    let above : low < w.lsn = ltb-true low w.lsn q.0 in
    let rest = rise-kept_from p w.lsn ws q.1 in
    by_bool (p w) (λ b. rise_from low (cond b (w ∷ filter p ws) (filter p ws)) ≡ true)
    (λ t. and_from (ltb low w.lsn) (rise_from w.lsn (filter p ws)) q.0 rest)
    (λ t. rise_from-lower low w.lsn (filter p ws) (omega arith) rest)

rise-some : (low : ℕ) (ws : List Version) → rise_from low ws ≡ true → rise ws ≡ true
rise-some low [] e = refl
rise-some low (w ∷ ws) e = (and_parts (ltb low w.lsn) (rise_from w.lsn ws) e).1

rise-kept : (p : Version → Bool) (ws : List Version) → rise ws ≡ true → rise (filter p ws) ≡ true
rise-kept p [] e = refl
rise-kept p (w ∷ ws) e =
    by_bool (p w) (λ b. rise (cond b (w ∷ filter p ws) (filter p ws)) ≡ true)
    (λ t. rise-kept_from p w.lsn ws e)
    (λ t. rise-some w.lsn (filter p ws) (rise-kept_from p w.lsn ws e))

pub kept-page : (p : Version → Bool) (lsn horizon : ℕ) (old new : List (List ℕ)) (v : PageValue) → lsn < 2 ^ 64 → horizon < 2 ^ 64 → Spells old v
    → image_bytes new ≡ header (kept p lsn horizon v) ++ (spelling (filter p v.versions) ++ zeros_behind (filter p v.versions)) → Spells new (kept p lsn horizon v)
unfolding page_bytes
kept-page p lsn horizon old new v small low h is =
    spells-from new (kept p lsn horizon v) (all_filter IsSpelled p v.versions (page-spelled old v h)) (rise-kept p v.versions (image_parts v h.fits).rises) (omega (arith, size-kept p v.versions, page-room old v h)) h.range.page small low is
