-- A field that is read is the field that was written, and what was written is read again.
use Rattle.std.proofs.Common.{◌≡◌, ℕ, zero, suc, ◌-◌, ◌*◌, ◌^◌, ◌<◌, ◌≤◌, true, false, cond, ltb, leb, ◌&&◌, List, [], ◌∷◌, ◌++◌, length, take, drop, replicate, Ok, Err, refl, sym, ap, subst, ◌∙◌, append_assoc, arith}
use Rattle.std.specs.List.{flat_map, AllByRecursion}
use Rattle.std.specs.Int.{w16, byte_len, to_be_bytes}
use Rattle.std.proofs.lemmas.Bool.{ltb-true, ltb-false, lt-ltb, le-ltb}
use Rattle.std.proofs.lemmas.Bool.Decides.{nat_tests}
use Rattle.std.proofs.lemmas.List.{take_at, drop_at, take-append-drop, length-append, length-take, length-replicate}
use Rattle.std.proofs.lemmas.List.Concat.{flat_map-cons}
use Rattle.ag_model.specs.Bytes.{AreBytes}
use Rattle.ag_model.specs.Proper.{RisesFrom}
use Rattle.ag_model.proofs.Numbers.{length-to_be_bytes, AreBytes-drop}
use Rattle.ag_model.specs.declared.value.Value.{Value}
use Rattle.ag_record.specs.declared.fault.RecordFault.TheVariants.{Short, BadLength, BadPage, BadOrder}
use Rattle.ag_record.specs.Spelling.{value_spelling, pages_spelling, IsValue, IsPage, ArePages}
use Rattle.ag_record.specs.Steps.{◌>>=◌, number_at}
use Rattle.ag_record.specs.Reading.{value_of, value_at, is_page, pages_at, list_at}
use Rattle.ag_record.proofs.Steps.{bind_ok, unless_ok, when_ok, ok_is, Takes, Takes-then, number_takes, number_again}

-- ---- values

IsValue-value_of : (text : List ℕ) → length text ≤ 64 → IsValue (value_of text)
IsValue-value_of text h = record {
  room = omega (arith, length-append text (replicate (64 - length text) 0), length-replicate {A = ℕ} (64 - length text) 0);
  most = h;
  zeros = drop_at text (replicate (64 - length text) 0) (length text) refl;
}

value_of-text : (v : Value) → IsValue v → value_of (take v.len v.bytes) ≡ v
value_of-text v is =
    let len : length (take v.len v.bytes) ≡ v.len = omega (arith, length-take v.len v.bytes, is.most, is.room) in
    let bytes : take v.len v.bytes ++ replicate (64 - v.len) 0 ≡ v.bytes = ap (λ (z : List ℕ). take v.len v.bytes ++ z) (sym is.zeros) ∙ take-append-drop v.len v.bytes in
    let made : (n : ℕ) (bs : List ℕ) → Value = λ n bs. record { len = n; bytes = bs } in
    ap (λ (n : ℕ). made n (take v.len v.bytes ++ replicate (64 - n) 0)) len ∙ ap (made v.len) bytes

pub value_takes : (bytes : List ℕ) (x : Value × List ℕ) → AreBytes bytes → value_at bytes ≡ Ok x → Takes bytes (value_spelling x.0) x.1 × IsValue x.0
unfolding value_at
value_takes bytes x fits e =
    let a = bind_ok (number_at Short w16 bytes) (λ n. cond (ltb 64 n.0) (Err BadLength) (cond (ltb (length n.1) n.0) (Err Short) (Ok (value_of (take n.0 n.1), drop n.0 n.1)))) x e in
    let n = a.0 in
    let t = number_takes Short w16 bytes n fits a.1 in
    let g = unless_ok (ltb 64 n.0) BadLength (cond (ltb (length n.1) n.0) (Err Short) (Ok (value_of (take n.0 n.1), drop n.0 n.1))) x a.2 in
    let h = unless_ok (ltb (length n.1) n.0) Short (Ok (value_of (take n.0 n.1), drop n.0 n.1)) x g.1 in
    let most : n.0 ≤ 64 = ltb-false _ _ g.0 in
    let long : n.0 ≤ length n.1 = ltb-false _ _ h.0 in
    let text = take n.0 n.1 in
    let len : length text ≡ n.0 = omega (arith, length-take n.0 n.1) in
    let second : Takes n.1 text (drop n.0 n.1) = record { parts = sym (take-append-drop n.0 n.1); left = AreBytes-drop n.0 n.1 t.0.left } in
    let both = Takes-then bytes (to_be_bytes w16 n.0) n.1 text (drop n.0 n.1) t.0 second in
    let spelled : value_spelling (value_of text) ≡ to_be_bytes w16 n.0 ++ text = ap (λ (z : List ℕ). to_be_bytes w16 (length text) ++ z) (take_at text (replicate (64 - length text) 0) (length text) refl) ∙ ap (λ (k : ℕ). to_be_bytes w16 k ++ text) len in
    subst (λ (y : Value × List ℕ). Takes bytes (value_spelling y.0) y.1 × IsValue y.0) (ok_is (value_of text, drop n.0 n.1) x h.1)
    (subst (λ (s : List ℕ). Takes bytes s (drop n.0 n.1)) (sym spelled) both, IsValue-value_of text (omega arith))

pub value_again : (v : Value) (rest : List ℕ) → IsValue v → value_at (value_spelling v ++ rest) ≡ Ok (v, rest)
unfolding value_at
value_again v rest is =
    let text = take v.len v.bytes in
    let len : length text ≡ v.len = omega (arith, length-take v.len v.bytes, is.most, is.room) in
    let long : ltb (length (text ++ rest)) v.len ≡ false = le-ltb _ _ (omega (arith, length-append text rest)) in
    let most : ltb 64 v.len ≡ false = le-ltb _ _ is.most in
    let fits : v.len < 256 ^ byte_len w16 = omega (arith, is.most) in
    ap value_at (append_assoc (to_be_bytes w16 v.len) text rest)
    ∙ (rw (number_again Short w16 v.len (text ++ rest) fits, most, long, take_at text rest v.len len, drop_at text rest v.len len) (ap (λ (w : Value). Ok (w, rest)) (value_of-text v is)))

-- ---- pages

pub is_page-IsPage : (page : ℕ) → is_page page ≡ true → IsPage page
is_page-IsPage page h = grind (arith, nat_tests)

pub IsPage-is_page : (page : ℕ) → IsPage page → is_page page ≡ true
IsPage-is_page page h = grind (arith, nat_tests)

pub pages_take : (n low : ℕ) (bytes : List ℕ) (x : List ℕ × List ℕ) → AreBytes bytes → pages_at low n bytes ≡ Ok x
    → Takes bytes (flat_map (to_be_bytes w16) x.0) x.1 × (length x.0 ≡ n) × AllByRecursion IsPage x.0 × RisesFrom low x.0
unfolding pages_at
pages_take zero low bytes x fits e =
    subst (λ (y : List ℕ × List ℕ). Takes bytes (flat_map (to_be_bytes w16) y.0) y.1 × (length y.0 ≡ 0) × AllByRecursion IsPage y.0 × RisesFrom low y.0) (ok_is ([], bytes) x e) (record { parts = refl; left = fits }, refl, tt, tt)
pages_take (suc n) low bytes x fits e =
    let others = λ (page : ℕ × List ℕ). pages_at page.0 n page.1 >>= λ others. Ok (page.0 ∷ others.0, others.1) in
    let a = bind_ok (number_at Short w16 bytes) (λ page. cond (is_page page.0) (cond (ltb low page.0) (others page) (Err BadOrder)) (Err BadPage)) x e in
    let page = a.0 in
    let first = number_takes Short w16 bytes page fits a.1 in
    let g = when_ok (is_page page.0) BadPage (cond (ltb low page.0) (others page) (Err BadOrder)) x a.2 in
    let h = when_ok (ltb low page.0) BadOrder (others page) x g.1 in
    let b = bind_ok (pages_at page.0 n page.1) (λ others. Ok (page.0 ∷ others.0, others.1)) x h.1 in
    let second = pages_take n page.0 page.1 b.0 first.0.left b.1 in
    let both = Takes-then bytes (to_be_bytes w16 page.0) page.1 (flat_map (to_be_bytes w16) b.0.0) b.0.1 first.0 second.0 in
    let made : List ℕ × List ℕ = (page.0 ∷ b.0.0, b.0.1) in
    subst (λ (y : List ℕ × List ℕ). Takes bytes (flat_map (to_be_bytes w16) y.0) y.1 × (length y.0 ≡ suc n) × AllByRecursion IsPage y.0 × RisesFrom low y.0) (ok_is made x b.2)
    (subst (λ (s : List ℕ). Takes bytes s b.0.1) (sym (flat_map-cons (to_be_bytes w16) page.0 b.0.0)) both, ap suc second.1, (is_page-IsPage page.0 g.0, second.2), (ltb-true _ _ h.0, second.3))

pub pages_again : (pages : List ℕ) (low : ℕ) (rest : List ℕ) → AllByRecursion IsPage pages → RisesFrom low pages → pages_at low (length pages) (flat_map (to_be_bytes w16) pages ++ rest) ≡ Ok (pages, rest)
unfolding pages_at
pages_again [] low rest each rising = refl
pages_again (page ∷ pages) low rest each rising =
    let regrouped : flat_map (to_be_bytes w16) (page ∷ pages) ++ rest ≡ to_be_bytes w16 page ++ (flat_map (to_be_bytes w16) pages ++ rest) = ap (λ (x : List ℕ). x ++ rest) (flat_map-cons (to_be_bytes w16) page pages) ∙ append_assoc (to_be_bytes w16 page) (flat_map (to_be_bytes w16) pages) rest in
    let fits : page < 256 ^ byte_len w16 = omega (arith, each.0) in
    ap (pages_at low (suc (length pages))) regrouped
    ∙ (rw (number_again Short w16 page (flat_map (to_be_bytes w16) pages ++ rest) fits, IsPage-is_page page each.0, lt-ltb _ _ rising.0, pages_again pages page rest each.1 rising.1) refl)

-- ---- lists of pages

within : (n : ℕ) → (leb 1 n && leb n 2048) ≡ true → (1 ≤ n) × (n ≤ 2048)
within n h = grind (arith, nat_tests)

is_within : (n : ℕ) → 1 ≤ n → n ≤ 2048 → (leb 1 n && leb n 2048) ≡ true
is_within n p q = grind (arith, nat_tests)

pub length-pages : (pages : List ℕ) → length (flat_map (to_be_bytes w16) pages) ≡ 2 * length pages
length-pages [] = refl
length-pages (page ∷ pages) =
    let ih = length-pages pages in
    let e = ap length (flat_map-cons (to_be_bytes w16) page pages) in
    omega (arith, length-append (to_be_bytes w16 page) (flat_map (to_be_bytes w16) pages), length-to_be_bytes w16 page)

pub list_takes : (bytes : List ℕ) (x : List ℕ × List ℕ) → AreBytes bytes → list_at bytes ≡ Ok x → Takes bytes (pages_spelling x.0) x.1 × ArePages x.0
unfolding list_at
list_takes bytes x fits e =
    let a = bind_ok (number_at Short w16 bytes) (λ n. cond (leb 1 n.0 && leb n.0 2048) (cond (ltb (length n.1) (2 * n.0)) (Err Short) (pages_at 0 n.0 n.1)) (Err BadLength)) x e in
    let n = a.0 in
    let first = number_takes Short w16 bytes n fits a.1 in
    let g = when_ok (leb 1 n.0 && leb n.0 2048) BadLength (cond (ltb (length n.1) (2 * n.0)) (Err Short) (pages_at 0 n.0 n.1)) x a.2 in
    let h = unless_ok (ltb (length n.1) (2 * n.0)) Short (pages_at 0 n.0 n.1) x g.1 in
    let second = pages_take n.0 0 n.1 x first.0.left h.1 in
    let both = Takes-then bytes (to_be_bytes w16 n.0) n.1 (flat_map (to_be_bytes w16) x.0) x.1 first.0 second.0 in
    let bounds = within n.0 g.0 in (
      subst (λ (k : ℕ). Takes bytes (to_be_bytes w16 k ++ flat_map (to_be_bytes w16) x.0) x.1) (sym second.1) both,
      record { least = omega (arith, bounds, second.1); most = omega (arith, bounds, second.1); each = second.2; rising = second.3 },
    )

pub list_again : (pages : List ℕ) (rest : List ℕ) → ArePages pages → list_at (pages_spelling pages ++ rest) ≡ Ok (pages, rest)
unfolding list_at
list_again pages rest is =
    let text = flat_map (to_be_bytes w16) pages in
    let fits : length pages < 256 ^ byte_len w16 = omega (arith, is.most) in
    let bounds = is_within (length pages) is.least is.most in
    let long : ltb (length (text ++ rest)) (2 * length pages) ≡ false = le-ltb _ _ (omega (arith, length-append text rest, length-pages pages)) in
    ap list_at (append_assoc (to_be_bytes w16 (length pages)) text rest)
    ∙ (rw (number_again Short w16 (length pages) (text ++ rest) fits, bounds, long, pages_again pages 0 rest is.each is.rising) refl)
