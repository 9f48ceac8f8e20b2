-- A page that is read has these bytes, and the bytes of a page are read again.
use Rattle.std.proofs.Common.{◌≡◌, ℕ, ◌+◌, ◌-◌, ◌*◌, ◌^◌, ◌<◌, ◌≤◌, true, cond, leb, ◌&&◌, List, [], ◌∷◌, ◌++◌, length, replicate, Result, Ok, Err, IfOk, refl, sym, ap, subst, ◌∙◌, append_assoc, arith}
use Rattle.std.specs.List.{flat_map, list_all, AllByRecursion}
use Rattle.std.specs.Int.{w16, w64, byte_len, to_be_bytes}
use Rattle.std.proofs.lemmas.Bool.{and_parts, and_from, leb-true, le-leb}
use Rattle.std.proofs.lemmas.List.{length-append, length-replicate, replicate-append-replicate}
use Rattle.std.proofs.lemmas.List.Sums.{sum_by-cons}
use Rattle.ag_model.specs.Bytes.{AreBytes}
use Rattle.ag_model.proofs.Numbers.{length-to_be_bytes}
use Rattle.ag_model.specs.declared.value.Change.{Change}
use Rattle.ag_model.specs.declared.value.Change.TheVariants.{Put, Del}
use Rattle.ag_model.specs.declared.value.Version.{Version}
use Rattle.ag_model.specs.declared.value.PageValue.{PageValue}
use Rattle.ag_model.specs.Sizes.{change_size, versions_size}
use Rattle.ag_page.specs.declared.fault.PageFault.{PageFault}
use Rattle.ag_page.specs.declared.fault.PageFault.TheVariants.{NotPage}
use Rattle.ag_page.specs.Spelling.{version_spelling, header, page_bytes, are_zero, has_spelling, rise, has_image, IsVersion, IsInRange}
use Rattle.ag_page.specs.Reading.{◌>>=◌, Answers, number_at, versions_at, zeros_at, page_at}
use Rattle.ag_page.proofs.Takes.{bind_ok, when_ok, ok_is, Takes, Takes-then, number_takes, number_again}
use Rattle.ag_page.proofs.Zeros.{zeros-are, are_zeros}
use Rattle.ag_page.proofs.Fields.{versions_take, versions_again, length-version, zeros_take, zeros_again}

-- ---- how long a page is

pub length-versions : (ws : List Version) → list_all (λ w. has_spelling w.change) ws ≡ true → AllByRecursion IsVersion ws → length (flat_map version_spelling ws) ≡ versions_size ws
length-versions [] is each = refl
length-versions (w ∷ ws) is each =
    let p = and_parts (has_spelling w.change) (list_all (λ u. has_spelling u.change) ws) is in
    let ih = length-versions ws p.1 each.1 in
    let own = length-version w p.0 (each.0).change in
    omega (arith, length-append (version_spelling w) (flat_map version_spelling ws), sum_by-cons (λ (v : Version). change_size v.change) w ws)

change-least : (c : Change) → 30 ≤ change_size c
change-least Del = omega arith
change-least (Put v) = omega arith

-- each version takes 30 bytes at least
pub size-least : (ws : List Version) → 30 * length ws ≤ versions_size ws
size-least [] = omega arith
size-least (w ∷ ws) = omega (arith, size-least ws, change-least w.change, sum_by-cons (λ (v : Version). change_size v.change) w ws)

pub length-header : (v : PageValue) → length (header v) ≡ 32
unfolding header
length-header v =
    let p = v.page in
    let n = length v.versions in
    let l = v.lsn in
    let h = v.horizon in
    let zs : length {A = ℕ} (replicate 12 0) ≡ 12 = refl in
    omega (
      arith,
      zs,
      length-append (to_be_bytes w16 p) (to_be_bytes w16 n ++ (to_be_bytes w64 l ++ (to_be_bytes w64 h ++ replicate 12 0))),
      length-append (to_be_bytes w16 n) (to_be_bytes w64 l ++ (to_be_bytes w64 h ++ replicate 12 0)),
      length-append (to_be_bytes w64 l) (to_be_bytes w64 h ++ replicate 12 0),
      length-append (to_be_bytes w64 h) (replicate 12 0),
      length-to_be_bytes w16 p,
      length-to_be_bytes w16 n,
      length-to_be_bytes w64 l,
      length-to_be_bytes w64 h,
    )

-- ---- what is read

-- the parts of a page value that has an image
pub record HasImage (v : PageValue) : Type 0 where
  pub spelled : list_all (λ w. has_spelling w.change) v.versions ≡ true
  pub rises : rise v.versions ≡ true
  pub room : versions_size v.versions ≤ 8144

pub image_parts : (v : PageValue) → has_image v ≡ true → HasImage v
image_parts v e =
    let a = and_parts (list_all (λ w. has_spelling w.change) v.versions && rise v.versions) (leb (versions_size v.versions) 8144) e in
    let b = and_parts (list_all (λ w. has_spelling w.change) v.versions) (rise v.versions) a.0 in
    record { spelled = b.0; rises = b.1; room = leb-true (versions_size v.versions) 8144 a.1 }

-- a page that has these bytes
pub record PageIs (bytes : List ℕ) (v : PageValue) : Type 0 where
  pub image : has_image v ≡ true
  pub range : IsInRange v
  pub spelled : bytes ≡ page_bytes v

-- the parts of a page, put together
put_together : (bytes : List ℕ) (v : PageValue) (rest : List ℕ) → length bytes ≡ 8176 → Takes bytes (header v ++ flat_map version_spelling v.versions) rest → rise v.versions ≡ true → are_zero rest ≡ true
    → list_all (λ w. has_spelling w.change) v.versions ≡ true → IsInRange v → PageIs bytes v
unfolding page_bytes
put_together bytes v rest len takes rises zeros spelled range =
    let vs = flat_map version_spelling v.versions in
    let size = length-versions v.versions spelled range.versions in
    let whole : length bytes ≡ 32 + versions_size v.versions + length rest = omega (arith, ap length takes.parts, length-append (header v ++ vs) rest, length-append (header v) vs, length-header v) in
    let left : length rest ≡ 8144 - versions_size v.versions = omega arith in
    let tail : rest ≡ replicate (8144 - versions_size v.versions) 0 = zeros-are rest zeros ∙ ap (λ (n : ℕ). replicate n 0) left in
    let room : versions_size v.versions ≤ 8144 = omega arith in
    record {
      image = and_from (list_all (λ w. has_spelling w.change) v.versions && rise v.versions) (leb (versions_size v.versions) 8144) (and_from (list_all (λ w. has_spelling w.change) v.versions) (rise v.versions) spelled rises) (le-leb (versions_size v.versions) 8144 room);
      range = range;
      spelled = takes.parts ∙ append_assoc (header v) vs rest ∙ ap (λ (z : List ℕ). header v ++ (vs ++ z)) tail;
    }

pub page_is : (bytes : List ℕ) (v : PageValue) → AreBytes bytes → length bytes ≡ 8176 → page_at bytes ≡ Ok v → PageIs bytes v
unfolding page_at header
page_is bytes v fits len e =
    let made = λ (p l h : ℕ) (ws : List Version). let x : PageValue = record { page = p; lsn = l; horizon = h; versions = ws } in x in
    let last = λ (p l h : ℕ) (x : List Version × List ℕ). cond (rise x.0 && are_zero x.1) (Ok (made p l h x.0)) (Err NotPage) in
    let a = bind_ok (number_at w16 bytes) (λ page. number_at w16 page.1 >>= λ count. number_at w64 count.1 >>= λ lsn. number_at w64 lsn.1 >>= λ horizon. zeros_at 12 horizon.1 >>= λ rest. versions_at count.0 rest >>= λ versions. last page.0 lsn.0 horizon.0 versions) v e in
    let b = bind_ok (number_at w16 a.0.1) (λ count. number_at w64 count.1 >>= λ lsn. number_at w64 lsn.1 >>= λ horizon. zeros_at 12 horizon.1 >>= λ rest. versions_at count.0 rest >>= λ versions. last a.0.0 lsn.0 horizon.0 versions) v a.2 in
    let c = bind_ok (number_at w64 b.0.1) (λ lsn. number_at w64 lsn.1 >>= λ horizon. zeros_at 12 horizon.1 >>= λ rest. versions_at b.0.0 rest >>= λ versions. last a.0.0 lsn.0 horizon.0 versions) v b.2 in
    let d = bind_ok (number_at w64 c.0.1) (λ horizon. zeros_at 12 horizon.1 >>= λ rest. versions_at b.0.0 rest >>= λ versions. last a.0.0 c.0.0 horizon.0 versions) v c.2 in
    let z = bind_ok (zeros_at 12 d.0.1) (λ rest. versions_at b.0.0 rest >>= λ versions. last a.0.0 c.0.0 d.0.0 versions) v d.2 in
    let f = bind_ok (versions_at b.0.0 z.0) (λ versions. last a.0.0 c.0.0 d.0.0 versions) v z.2 in
    let g = when_ok (rise f.0.0 && are_zero f.0.1) (Ok (made a.0.0 c.0.0 d.0.0 f.0.0)) v f.2 in
    let tests = and_parts (rise f.0.0) (are_zero f.0.1) g.0 in
    let ta = number_takes w16 bytes a.0 fits a.1 in
    let tb = number_takes w16 a.0.1 b.0 ta.0.left b.1 in
    let tc = number_takes w64 b.0.1 c.0 tb.0.left c.1 in
    let td = number_takes w64 c.0.1 d.0 tc.0.left d.1 in
    let tz = zeros_take 12 d.0.1 z.0 td.0.left z.1 in
    let tf = versions_take b.0.0 z.0 f.0 tz.left f.1 in
    let t4 = Takes-then c.0.1 (to_be_bytes w64 d.0.0) d.0.1 (replicate 12 0) z.0 td.0 tz in
    let t3 = Takes-then b.0.1 (to_be_bytes w64 c.0.0) c.0.1 (to_be_bytes w64 d.0.0 ++ replicate 12 0) z.0 tc.0 t4 in
    let t2 = Takes-then a.0.1 (to_be_bytes w16 b.0.0) b.0.1 (to_be_bytes w64 c.0.0 ++ (to_be_bytes w64 d.0.0 ++ replicate 12 0)) z.0 tb.0 t3 in
    let t1 = Takes-then bytes (to_be_bytes w16 a.0.0) a.0.1 (to_be_bytes w16 b.0.0 ++ (to_be_bytes w64 c.0.0 ++ (to_be_bytes w64 d.0.0 ++ replicate 12 0))) z.0 ta.0 t2 in
    let x = made a.0.0 c.0.0 d.0.0 f.0.0 in
    let head : to_be_bytes w16 a.0.0 ++ (to_be_bytes w16 b.0.0 ++ (to_be_bytes w64 c.0.0 ++ (to_be_bytes w64 d.0.0 ++ replicate 12 0))) ≡ header x = ap (λ (n : ℕ). to_be_bytes w16 a.0.0 ++ (to_be_bytes w16 n ++ (to_be_bytes w64 c.0.0 ++ (to_be_bytes w64 d.0.0 ++ replicate 12 0)))) (sym tf.count) in
    let all = Takes-then bytes (header x) z.0 (flat_map version_spelling f.0.0) f.0.1 (subst (λ (h : List ℕ). Takes bytes h z.0) head t1) tf.takes in
    subst (PageIs bytes) (ok_is x v g.1)
    (put_together bytes x f.0.1 len all tests.0 tests.1 tf.spelled (record { page = ta.1; lsn = tc.1; horizon = td.1; versions = tf.each }))

pub answer_is : (bytes : List ℕ) (r : Result PageValue PageFault) → AreBytes bytes → length bytes ≡ 8176 → Answers r (page_at bytes) → IfOk r (PageIs bytes)
answer_is bytes (Ok v) fits len e = page_is bytes v fits len e
answer_is bytes (Err f) fits len e = tt

-- ---- what is read again

pub page_again : (v : PageValue) → has_image v ≡ true → IsInRange v → page_at (page_bytes v) ≡ Ok v
unfolding page_at page_bytes header
page_again v is range =
    let p = image_parts v is in
    let vs = flat_map version_spelling v.versions in
    let zs : List ℕ = replicate (8144 - versions_size v.versions) 0 in
    let count : length v.versions < 256 ^ byte_len w16 = omega (arith, size-least v.versions, p.room) in
    let regrouped : header v ++ (vs ++ zs) ≡ to_be_bytes w16 v.page ++ (to_be_bytes w16 (length v.versions) ++ (to_be_bytes w64 v.lsn ++ (to_be_bytes w64 v.horizon ++ (replicate 12 0 ++ (vs ++ zs))))) =
    append_assoc (to_be_bytes w16 v.page) (to_be_bytes w16 (length v.versions) ++ (to_be_bytes w64 v.lsn ++ (to_be_bytes w64 v.horizon ++ replicate 12 0))) (vs ++ zs)
    ∙ ap (λ (z : List ℕ). to_be_bytes w16 v.page ++ z) (append_assoc (to_be_bytes w16 (length v.versions)) (to_be_bytes w64 v.lsn ++ (to_be_bytes w64 v.horizon ++ replicate 12 0)) (vs ++ zs)
    ∙ ap (λ (z : List ℕ). to_be_bytes w16 (length v.versions) ++ z) (append_assoc (to_be_bytes w64 v.lsn) (to_be_bytes w64 v.horizon ++ replicate 12 0) (vs ++ zs)
    ∙ ap (λ (z : List ℕ). to_be_bytes w64 v.lsn ++ z) (append_assoc (to_be_bytes w64 v.horizon) (replicate 12 0) (vs ++ zs)))) in
    ap page_at regrouped
    ∙ (rw (
      number_again w16 v.page (to_be_bytes w16 (length v.versions) ++ (to_be_bytes w64 v.lsn ++ (to_be_bytes w64 v.horizon ++ (replicate 12 0 ++ (vs ++ zs))))) range.page,
      number_again w16 (length v.versions) (to_be_bytes w64 v.lsn ++ (to_be_bytes w64 v.horizon ++ (replicate 12 0 ++ (vs ++ zs)))) count,
      number_again w64 v.lsn (to_be_bytes w64 v.horizon ++ (replicate 12 0 ++ (vs ++ zs))) range.lsn,
      number_again w64 v.horizon (replicate 12 0 ++ (vs ++ zs)) range.horizon,
      zeros_again 12 (vs ++ zs),
      versions_again v.versions zs p.spelled range.versions,
      p.rises,
      are_zeros (8144 - versions_size v.versions),
    ) refl)

-- the bytes of a page are as many as an image has
pub length-page_bytes : (v : PageValue) → has_image v ≡ true → IsInRange v → length (page_bytes v) ≡ 8176
unfolding page_bytes
length-page_bytes v is range =
    let p = image_parts v is in
    let room = p.room in
    let vs = flat_map version_spelling v.versions in
    let zs : List ℕ = replicate (8144 - versions_size v.versions) 0 in
    omega (arith, length-header v, length-versions v.versions p.spelled range.versions, length-append (header v) (vs ++ zs), length-append vs zs, length-replicate {A = ℕ} (8144 - versions_size v.versions) 0)

-- page values with the same bytes are the same
pub page_bytes-once : (v w : PageValue) → has_image v ≡ true → IsInRange v → has_image w ≡ true → IsInRange w → page_bytes v ≡ page_bytes w → v ≡ w
page_bytes-once v w a b c d e = ok_is v w (sym (page_again v a b) ∙ ap page_at e ∙ page_again w c d)

-- the empty page of the number 0 is zeros alone
pub page_bytes-zeros : (n : ℕ) → n ≡ 8144 → header (record { page = 0; lsn = 0; horizon = 0; versions = [] }) ++ ([] ++ replicate n 0) ≡ replicate (32 + n) 0
unfolding header
page_bytes-zeros n is = replicate-append-replicate 32 n 0
