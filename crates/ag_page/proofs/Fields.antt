-- A change and a version that are read are those that were written, and what was written is read again.
use Rattle.std.proofs.Common.{◌≡◌, ℕ, zero, suc, ◌+◌, ◌-◌, ◌^◌, ◌<◌, ◌≤◌, Bool, true, false, cond, eqb, ltb, leb, List, [], ◌∷◌, ◌++◌, length, take, drop, replicate, Result, Ok, Err, refl, sym, ap, subst, ◌∙◌, inl, inr, append_assoc, arith, lit<}
use Rattle.std.specs.List.{flat_map, list_all, AllByRecursion}
use Rattle.std.specs.Int.{w16, w32, w64, byte_len, to_be_bytes}
use Rattle.std.proofs.lemmas.Bool.{and_parts, and_from, cases_Bool, leb-true, le-leb, ltb-false, le-ltb, eqb-true, ne_eqb}
use Rattle.std.proofs.lemmas.List.{take_at, drop_at, take-append-drop, length-append, length-take, length-drop, length-replicate}
use Rattle.ag_model.specs.Bytes.{AreBytes}
use Rattle.ag_model.proofs.Numbers.{length-to_be_bytes, AreBytes-drop}
use Rattle.ag_model.specs.declared.value.Value.{Value}
use Rattle.ag_model.specs.declared.value.Change.{Change}
use Rattle.ag_model.specs.declared.value.Change.TheVariants.{Put, Del}
use Rattle.ag_model.specs.declared.value.Version.{Version}
use Rattle.ag_model.specs.Sizes.{change_size}
use Rattle.ag_page.specs.declared.fault.PageFault.{PageFault}
use Rattle.ag_page.specs.declared.fault.PageFault.TheVariants.{NotPage}
use Rattle.ag_page.specs.Spelling.{change_spelling, version_spelling, has_spelling, are_zero, IsWhole, IsVersion}
use Rattle.ag_page.specs.Reading.{◌>>=◌, number_at, value_of, change_at, version_at, versions_at, zeros_at}
use Rattle.ag_page.proofs.Takes.{bind_ok, unless_ok, when_ok, ok_is, Takes, Takes-then, number_takes, number_again}
use Rattle.ag_page.proofs.Zeros.{zeros-are, are_zeros}

-- ---- changes

value_of-spelled : (text : List ℕ) → length text ≤ 64 → has_spelling (Put (value_of text)) ≡ true
value_of-spelled text h =
    and_from (leb (length text) 64) (are_zero (drop (length text) (text ++ replicate (64 - length text) 0))) (le-leb (length text) 64 h)
    (ap are_zero (drop_at text (replicate (64 - length text) 0) (length text) refl) ∙ are_zeros (64 - length text))

value_of-whole : (text : List ℕ) → length text ≤ 64 → length (value_of text).bytes ≡ 64
value_of-whole text h = omega (arith, length-append text (replicate (64 - length text) 0), length-replicate {A = ℕ} (64 - length text) 0)

value_of-text : (v : Value) → has_spelling (Put v) ≡ true → length v.bytes ≡ 64 → value_of (take v.len v.bytes) ≡ v
value_of-text v is whole =
    let p = and_parts (leb v.len 64) (are_zero (drop v.len v.bytes)) is in
    let most = leb-true v.len 64 p.0 in
    let len : length (take v.len v.bytes) ≡ v.len = omega (arith, length-take v.len v.bytes) in
    let tail : length (drop v.len v.bytes) ≡ 64 - v.len = omega (arith, length-drop v.len v.bytes) in
    let zs : drop v.len v.bytes ≡ replicate (64 - v.len) 0 = zeros-are (drop v.len v.bytes) p.1 ∙ ap (λ (n : ℕ). replicate n 0) tail in
    let bytes : take v.len v.bytes ++ replicate (64 - v.len) 0 ≡ v.bytes = ap (λ (z : List ℕ). take v.len v.bytes ++ z) (sym zs) ∙ take-append-drop v.len v.bytes in
    let made : (n : ℕ) (bs : List ℕ) → Value = λ n bs. record { len = n; bytes = bs } in
    ap (λ (n : ℕ). made n (take v.len v.bytes ++ replicate (64 - n) 0)) len ∙ ap (made v.len) bytes

-- what a change took
abbrev ChangeTakes : List ℕ → Change × List ℕ → Type 0
ChangeTakes bytes x = Takes bytes (change_spelling x.0) x.1 × (has_spelling x.0 ≡ true) × IsWhole x.0

pub change_takes : (bytes : List ℕ) (x : Change × List ℕ) → AreBytes bytes → change_at bytes ≡ Ok x → ChangeTakes bytes x
unfolding change_at
change_takes bytes x fits e =
    let value = λ (n : ℕ × List ℕ). let r : Result (Change × List ℕ) PageFault = Ok (Put (value_of (take n.0 n.1)), drop n.0 n.1) in r in
    let long_enough = λ (n : ℕ × List ℕ). cond (ltb (length n.1) n.0) (Err NotPage) (value n) in
    let a = bind_ok (number_at w16 bytes) (λ n. cond (eqb n.0 65535) (Ok (Del, n.1)) (cond (ltb 64 n.0) (Err NotPage) (long_enough n))) x e in
    let n = a.0 in
    let t = number_takes w16 bytes n fits a.1 in
    elim (cases_Bool (eqb n.0 65535)) [
      | inl gone ↦
          let made : Change × List ℕ = (Del, n.1) in
          let is : made ≡ x = ok_is made x (ap (λ (b : Bool). cond b (Ok (Del, n.1)) (cond (ltb 64 n.0) (Err NotPage) (long_enough n))) (sym gone) ∙ a.2) in
          subst (ChangeTakes bytes) is (subst (λ (k : ℕ). Takes bytes (to_be_bytes w16 k) n.1) (eqb-true n.0 65535 gone) t.0, refl, tt)
      | inr put ↦
          let g = unless_ok (ltb 64 n.0) (long_enough n) x (ap (λ (b : Bool). cond b (Ok (Del, n.1)) (cond (ltb 64 n.0) (Err NotPage) (long_enough n))) (sym put) ∙ a.2) in
          let h = unless_ok (ltb (length n.1) n.0) (value n) x g.1 in
          let most : n.0 ≤ 64 = ltb-false _ _ g.0 in
          let long : n.0 ≤ length n.1 = ltb-false _ _ h.0 in
          let text = take n.0 n.1 in
          let len : length text ≡ n.0 = omega (arith, length-take n.0 n.1) in
          let second : Takes n.1 text (drop n.0 n.1) = record { parts = sym (take-append-drop n.0 n.1); left = AreBytes-drop n.0 n.1 t.0.left } in
          let both = Takes-then bytes (to_be_bytes w16 n.0) n.1 text (drop n.0 n.1) t.0 second in
          let spelled : change_spelling (Put (value_of text)) ≡ to_be_bytes w16 n.0 ++ text = ap (λ (z : List ℕ). to_be_bytes w16 (length text) ++ z) (take_at text (replicate (64 - length text) 0) (length text) refl) ∙ ap (λ (k : ℕ). to_be_bytes w16 k ++ text) len in
          let made : Change × List ℕ = (Put (value_of text), drop n.0 n.1) in
          subst (ChangeTakes bytes) (ok_is made x h.1)
          (subst (λ (s : List ℕ). Takes bytes s (drop n.0 n.1)) (sym spelled) both, value_of-spelled text (omega arith), value_of-whole text (omega arith))
    ]

pub change_again : (c : Change) (rest : List ℕ) → has_spelling c ≡ true → IsWhole c → change_at (change_spelling c ++ rest) ≡ Ok (c, rest)
unfolding change_at
change_again Del rest is whole = rw (number_again w16 65535 rest (lit< tt)) refl
change_again (Put v) rest is whole =
    let p = and_parts (leb v.len 64) (are_zero (drop v.len v.bytes)) is in
    let small = leb-true v.len 64 p.0 in
    let text = take v.len v.bytes in
    let len : length text ≡ v.len = omega (arith, length-take v.len v.bytes) in
    let long : ltb (length (text ++ rest)) v.len ≡ false = le-ltb _ _ (omega (arith, length-append text rest)) in
    let most : ltb 64 v.len ≡ false = le-ltb _ _ small in
    let put : eqb v.len 65535 ≡ false = ne_eqb v.len 65535 (λ e. absurd (omega arith)) in
    let fits : v.len < 256 ^ byte_len w16 = omega arith in
    ap change_at (append_assoc (to_be_bytes w16 v.len) text rest)
    ∙ (rw (number_again w16 v.len (text ++ rest) fits, put, most, long, take_at text rest v.len len, drop_at text rest v.len len) (ap (λ (w : Value). Ok (Put w, rest)) (value_of-text v is whole)))

-- ---- versions

abbrev VersionTakes : List ℕ → Version × List ℕ → Type 0
VersionTakes bytes x = Takes bytes (version_spelling x.0) x.1 × (has_spelling x.0.change ≡ true) × IsVersion x.0

pub version_takes : (bytes : List ℕ) (x : Version × List ℕ) → AreBytes bytes → version_at bytes ≡ Ok x → VersionTakes bytes x
unfolding version_at version_spelling
version_takes bytes x fits e =
    let made = λ (lsn txn commit key : ℕ) (change : Change). let w : Version = record { lsn = lsn; txn = txn; commit = commit; key = key; change = change } in w in
    let a = bind_ok (number_at w64 bytes) (λ lsn. number_at w64 lsn.1 >>= λ txn. number_at w64 txn.1 >>= λ commit. number_at w32 commit.1 >>= λ key. change_at key.1 >>= λ change. Ok (made lsn.0 txn.0 commit.0 key.0 change.0, change.1)) x e in
    let b = bind_ok (number_at w64 a.0.1) (λ txn. number_at w64 txn.1 >>= λ commit. number_at w32 commit.1 >>= λ key. change_at key.1 >>= λ change. Ok (made a.0.0 txn.0 commit.0 key.0 change.0, change.1)) x a.2 in
    let c = bind_ok (number_at w64 b.0.1) (λ commit. number_at w32 commit.1 >>= λ key. change_at key.1 >>= λ change. Ok (made a.0.0 b.0.0 commit.0 key.0 change.0, change.1)) x b.2 in
    let d = bind_ok (number_at w32 c.0.1) (λ key. change_at key.1 >>= λ change. Ok (made a.0.0 b.0.0 c.0.0 key.0 change.0, change.1)) x c.2 in
    let f = bind_ok (change_at d.0.1) (λ change. Ok (made a.0.0 b.0.0 c.0.0 d.0.0 change.0, change.1)) x d.2 in
    let ta = number_takes w64 bytes a.0 fits a.1 in
    let tb = number_takes w64 a.0.1 b.0 ta.0.left b.1 in
    let tc = number_takes w64 b.0.1 c.0 tb.0.left c.1 in
    let td = number_takes w32 c.0.1 d.0 tc.0.left d.1 in
    let tf = change_takes d.0.1 f.0 td.0.left f.1 in
    let w = made a.0.0 b.0.0 c.0.0 d.0.0 f.0.0 in
    let y : Version × List ℕ = (w, f.0.1) in
    let t4 = Takes-then c.0.1 (to_be_bytes w32 d.0.0) d.0.1 (change_spelling f.0.0) f.0.1 td.0 tf.0 in
    let t3 = Takes-then b.0.1 (to_be_bytes w64 c.0.0) c.0.1 (to_be_bytes w32 d.0.0 ++ change_spelling f.0.0) f.0.1 tc.0 t4 in
    let t2 = Takes-then a.0.1 (to_be_bytes w64 b.0.0) b.0.1 (to_be_bytes w64 c.0.0 ++ (to_be_bytes w32 d.0.0 ++ change_spelling f.0.0)) f.0.1 tb.0 t3 in
    let t1 = Takes-then bytes (to_be_bytes w64 a.0.0) a.0.1 (to_be_bytes w64 b.0.0 ++ (to_be_bytes w64 c.0.0 ++ (to_be_bytes w32 d.0.0 ++ change_spelling f.0.0))) f.0.1 ta.0 t2 in
    subst (VersionTakes bytes) (ok_is y x f.2)
    (t1, tf.1, record { lsn = ta.1; txn = tb.1; commit = tc.1; key = td.1; change = tf.2 })

pub version_again : (w : Version) (rest : List ℕ) → has_spelling w.change ≡ true → IsVersion w → version_at (version_spelling w ++ rest) ≡ Ok (w, rest)
unfolding version_at version_spelling
version_again w rest is fits =
    let e = change_spelling w.change in
    let regrouped : version_spelling w ++ rest ≡ to_be_bytes w64 w.lsn ++ (to_be_bytes w64 w.txn ++ (to_be_bytes w64 w.commit ++ (to_be_bytes w32 w.key ++ (e ++ rest)))) =
    append_assoc (to_be_bytes w64 w.lsn) (to_be_bytes w64 w.txn ++ (to_be_bytes w64 w.commit ++ (to_be_bytes w32 w.key ++ e))) rest
    ∙ ap (λ (z : List ℕ). to_be_bytes w64 w.lsn ++ z) (append_assoc (to_be_bytes w64 w.txn) (to_be_bytes w64 w.commit ++ (to_be_bytes w32 w.key ++ e)) rest
    ∙ ap (λ (z : List ℕ). to_be_bytes w64 w.txn ++ z) (append_assoc (to_be_bytes w64 w.commit) (to_be_bytes w32 w.key ++ e) rest
    ∙ ap (λ (z : List ℕ). to_be_bytes w64 w.commit ++ z) (append_assoc (to_be_bytes w32 w.key) e rest))) in
    ap version_at regrouped
    ∙ (rw (
      number_again w64 w.lsn (to_be_bytes w64 w.txn ++ (to_be_bytes w64 w.commit ++ (to_be_bytes w32 w.key ++ (e ++ rest)))) fits.lsn,
      number_again w64 w.txn (to_be_bytes w64 w.commit ++ (to_be_bytes w32 w.key ++ (e ++ rest))) fits.txn,
      number_again w64 w.commit (to_be_bytes w32 w.key ++ (e ++ rest)) fits.commit,
      number_again w32 w.key (e ++ rest) fits.key,
      change_again w.change rest is fits.change,
    ) refl)

-- ---- versions one after the other

-- what versions took
pub record VersionsTake (n : ℕ) (bytes : List ℕ) (x : List Version × List ℕ) : Type 0 where
  pub takes : Takes bytes (flat_map version_spelling x.0) x.1
  pub count : length x.0 ≡ n
  pub spelled : list_all (λ w. has_spelling w.change) x.0 ≡ true
  pub each : AllByRecursion IsVersion x.0

pub versions_take : (n : ℕ) (bytes : List ℕ) (x : List Version × List ℕ) → AreBytes bytes → versions_at n bytes ≡ Ok x → VersionsTake n bytes x
unfolding versions_at
versions_take zero bytes x fits e = subst (VersionsTake zero bytes) (ok_is ([], bytes) x e) (record { takes = record { parts = refl; left = fits }; count = refl; spelled = refl; each = tt })
versions_take (suc n) bytes x fits e =
    let a = bind_ok (version_at bytes) (λ version. versions_at n version.1 >>= λ others. Ok (version.0 ∷ others.0, others.1)) x e in
    let b = bind_ok (versions_at n a.0.1) (λ others. Ok (a.0.0 ∷ others.0, others.1)) x a.2 in
    let first = version_takes bytes a.0 fits a.1 in
    let second = versions_take n a.0.1 b.0 first.0.left b.1 in
    let both = Takes-then bytes (version_spelling a.0.0) a.0.1 (flat_map version_spelling b.0.0) b.0.1 first.0 second.takes in
    let y : List Version × List ℕ = (a.0.0 ∷ b.0.0, b.0.1) in
    subst (VersionsTake (suc n) bytes) (ok_is y x b.2)
    (record {
      takes = both;
      count = ap suc second.count;
      spelled = and_from (has_spelling a.0.0.change) (list_all (λ w. has_spelling w.change) b.0.0) first.1 second.spelled;
      each = (first.2, second.each);
    })

pub versions_again : (ws : List Version) (rest : List ℕ) → list_all (λ w. has_spelling w.change) ws ≡ true → AllByRecursion IsVersion ws → versions_at (length ws) (flat_map version_spelling ws ++ rest) ≡ Ok (ws, rest)
unfolding versions_at
versions_again [] rest is each = refl
versions_again (w ∷ ws) rest is each =
    let p = and_parts (has_spelling w.change) (list_all (λ u. has_spelling u.change) ws) is in
    let regrouped : flat_map version_spelling (w ∷ ws) ++ rest ≡ version_spelling w ++ (flat_map version_spelling ws ++ rest) = append_assoc (version_spelling w) (flat_map version_spelling ws) rest in
    ap (versions_at (suc (length ws))) regrouped
    ∙ (rw (version_again w (flat_map version_spelling ws ++ rest) p.0 each.0, versions_again ws rest p.1 each.1) refl)

-- ---- how long they are

length-change : (c : Change) → has_spelling c ≡ true → IsWhole c → length (change_spelling c) + 28 ≡ change_size c
length-change Del is whole = omega (arith, length-to_be_bytes w16 65535)
length-change (Put v) is whole =
    let p = and_parts (leb v.len 64) (are_zero (drop v.len v.bytes)) is in
    let small = leb-true v.len 64 p.0 in
    omega (arith, length-append (to_be_bytes w16 v.len) (take v.len v.bytes), length-to_be_bytes w16 v.len, length-take v.len v.bytes)

pub length-version : (w : Version) → has_spelling w.change ≡ true → IsWhole w.change → length (version_spelling w) ≡ change_size w.change
unfolding version_spelling
length-version w is whole =
    let e = change_spelling w.change in
    omega (
      arith,
      length-change w.change is whole,
      length-append (to_be_bytes w64 w.lsn) (to_be_bytes w64 w.txn ++ (to_be_bytes w64 w.commit ++ (to_be_bytes w32 w.key ++ e))),
      length-append (to_be_bytes w64 w.txn) (to_be_bytes w64 w.commit ++ (to_be_bytes w32 w.key ++ e)),
      length-append (to_be_bytes w64 w.commit) (to_be_bytes w32 w.key ++ e),
      length-append (to_be_bytes w32 w.key) e,
      length-to_be_bytes w64 w.lsn,
      length-to_be_bytes w64 w.txn,
      length-to_be_bytes w64 w.commit,
      length-to_be_bytes w32 w.key,
    )

-- ---- zeros

pub zeros_take : (n : ℕ) (bytes rest : List ℕ) → AreBytes bytes → zeros_at n bytes ≡ Ok rest → Takes bytes (replicate n 0) rest
unfolding zeros_at
zeros_take n bytes rest fits e =
    let g = unless_ok (ltb (length bytes) n) (cond (are_zero (take n bytes)) (Ok (drop n bytes)) (Err NotPage)) rest e in
    let h = when_ok (are_zero (take n bytes)) (Ok (drop n bytes)) rest g.1 in
    let long : n ≤ length bytes = ltb-false _ _ g.0 in
    let len : length (take n bytes) ≡ n = omega (arith, length-take n bytes) in
    let front : take n bytes ≡ replicate n 0 = zeros-are (take n bytes) h.0 ∙ ap (λ (k : ℕ). replicate k 0) len in
    subst (Takes bytes (replicate n 0)) (ok_is (drop n bytes) rest h.1)
    (record { parts = sym (take-append-drop n bytes) ∙ ap (λ (z : List ℕ). z ++ drop n bytes) front; left = AreBytes-drop n bytes fits })

pub zeros_again : (n : ℕ) (rest : List ℕ) → zeros_at n (replicate n 0 ++ rest) ≡ Ok rest
unfolding zeros_at
zeros_again n rest =
    let len = length-replicate {A = ℕ} n 0 in
    let long : ltb (length (replicate n 0 ++ rest)) n ≡ false = le-ltb _ _ (omega (arith, length-append (replicate n 0) rest)) in
    rw (long, take_at (replicate n 0) rest n len, drop_at (replicate n 0) rest n len, are_zeros n) refl
