-- A word that is read is spelled, and what is spelled is read.
use Rattle.std.proofs.Common.{◌≡◌, ◌≢◌, ℕ, ◌+◌, ◌-◌, ◌*◌, ◌<◌, ◌≤◌, ◌^◌, List, [], ◌∷◌, ◌++◌, length, get_or, take, Bool, true, false, cond, ltb, leb, eqb, not, ◌&&◌, ◌||◌, Option, Some, None, refl, sym, ap, subst, ◌∙◌, arith, inl, inr, ◌⊎◌}
use Rattle.std.specs.Prelude.{codes, replicate}
use Rattle.std.specs.Str.{bytes_eq, all_ascii_digits}
use Rattle.std.specs.Str.Parse.{digits_value}
use Rattle.std.specs.Fmt.{decimal, digit_glyph}
use Rattle.std.specs.List.{flat_map, AllByRecursion}
use Rattle.std.proofs.lemmas.List.Concat.{flat_map-cons}
use Rattle.std.proofs.Common.{◌/◌, ◌%◌}
use Rattle.std.proofs.lemmas.Slice.Eq.{bytes_eq-Decides}
use Rattle.std.proofs.lemmas.Option.{cond_some}
use Rattle.std.proofs.lemmas.Bool.{le-ltb, ltb-true, leb-true, lt-leb, le-leb, lt-ltb, ne_eqb, eqb-true, eq-eqb, cases_lt, and_right, cases_Bool, eqb-false, and_parts, or_cases, not-true, or_left, or_right, and_from}
use Rattle.std.proofs.lemmas.List.{take_at, drop_at, take-append-drop, length-append, length-take, length-replicate}
use Rattle.std.proofs.lemmas.Fmt.{decimal-digits_value, digits_decimal, digits_value-decimal, decimal_nonempty, first_decimal, decimal_digit}
use Rattle.ag_lists.proofs.Results.{some_is}
use Rattle.ag_model.specs.declared.value.Value.{Value}
use Rattle.ag_model.specs.declared.event.Who.{Who}
use Rattle.ag_model.specs.declared.event.Who.TheVariants.{Letter, Primary}
use Rattle.ag_model.specs.declared.config.Config.{Config}
use Rattle.ag_rules.specs.Script.{IsWho}
use Rattle.ag_script.specs.Words.{Node, Other, Number, Bytes, Mask, Spells, who_text, value_text, IsValue}
use Rattle.ag_script.specs.Hex.{◌>>=◌, hex_at, hex_value, hex_pair}
use Rattle.ag_script.specs.ReadWord.{who_at, is_same, other_at, is_number, number_at, value_at, bytes_at, padded_value, mask_at}
use Rattle.ag_script.proofs.Numbers.{numerals}

pub cases_option : {A : Type 0} (o : Option A) → (o ≡ None) ⊎ ((x : A) × (o ≡ Some x))
cases_option None = inl refl
cases_option (Some x) = inr (x, refl)

cases_bool : (b : Bool) → (b ≡ true → b ≡ false) → b ≡ false
cases_bool true f = f refl
cases_bool false f = refl

guard : {A : Type 0} (b : Bool) (x y : A) → cond b None (Some x) ≡ Some y → (b ≡ false) × (x ≡ y)
guard true x y e = absurd cc
guard false x y e = (refl, cc)

pub pick : {A : Type 0} (b : Bool) (x y z : A) → cond b x y ≡ z → ((b ≡ true) × (x ≡ z)) ⊎ (y ≡ z)
pick true x y z e = inl (refl, e)
pick false x y z e = inr e

pub is_text : (text name : List ℕ) → bytes_eq text name ≡ true → text ≡ name
is_text text name e = (bytes_eq-Decides text name).0 e

abbrev two : ℕ → List ℕ → ℕ × List ℕ
two a x = (a, x)

pair_is : (a b : ℕ) (x y : List ℕ) → a ≡ b → x ≡ y → two a x ≡ two b y
pair_is a b x y p q = rw (p, q) refl

-- ---- nodes

node_letter : (c : Config) (b : ℕ) (who : Who) (t : Bool) → (leb 65 b && ltb b (65 + length c.modes)) ≡ t → cond t (Some (Letter (b - 65))) None ≡ Some who → Spells (Node c who) (b ∷ [])
node_letter c b who false is e = absurd cc
node_letter c b who true is e =
    let p = and_parts (leb 65 b) (ltb b (65 + length c.modes)) is in
    let low : 65 ≤ b = leb-true _ _ p.0 in
    let high : b < 65 + length c.modes = ltb-true _ _ p.1 in
    let text : b ≡ 65 + (b - 65) = omega arith in
    subst (λ (w : Who). (b ∷ [] ≡ who_text w) × IsWho c w) (some_is (Letter (b - 65)) who e) (ap (λ (x : ℕ). x ∷ []) text, omega arith)

node_one : (c : Config) (b : ℕ) (who : Who) (t : Bool) → eqb b 64 ≡ t → cond t (Some Primary) (cond (leb 65 b && ltb b (65 + length c.modes)) (Some (Letter (b - 65))) None) ≡ Some who → Spells (Node c who) (b ∷ [])
node_one c b who true is e = subst (λ (w : Who). (b ∷ [] ≡ who_text w) × IsWho c w) (some_is Primary who e) (ap (λ (x : ℕ). x ∷ []) (eqb-true _ _ is), tt)
node_one c b who false is e = node_letter c b who (leb 65 b && ltb b (65 + length c.modes)) refl e

pub node_takes : (c : Config) (text : List ℕ) (who : Who) → who_at c text ≡ Some who → Spells (Node c who) text
node_takes c [] who e = absurd cc
node_takes c (b ∷ d ∷ more) who e = absurd cc
node_takes c (b ∷ []) who e = node_one c b who (eqb b 64) refl e

pub node_again : (c : Config) (text : List ℕ) (who : Who) → Spells (Node c who) text → who_at c text ≡ Some who
node_again c text Primary h = rw h.0 refl
node_again c text (Letter n) h =
    let not_at : eqb (65 + n) 64 ≡ false = grind arith in
    let inside : (leb 65 (65 + n) && ltb (65 + n) (65 + length c.modes)) ≡ true = and_from _ _ (le-leb 65 (65 + n) (omega arith)) (lt-ltb (65 + n) (65 + length c.modes) (omega (arith, h.1))) in
    let back : 65 + n - 65 ≡ n = omega arith in
    rw h.0 (ap (λ (b : Bool). cond b (Some Primary) (cond (leb 65 (65 + n) && ltb (65 + n) (65 + length c.modes)) (Some (Letter (65 + n - 65))) None)) not_at
    ∙ ap (λ (b : Bool). cond b (Some (Letter (65 + n - 65))) None) inside ∙ ap (λ (m : ℕ). Some (Letter m)) back)

same_is : (a b : Who) → is_same a b ≡ true → a ≡ b
same_is (Letter n) (Letter m) e = ap Letter (eqb-true n m e)
same_is (Letter n) Primary e = absurd cc
same_is Primary (Letter m) e = absurd cc
same_is Primary Primary e = refl

is_same_refl : (a : Who) → is_same a a ≡ true
is_same_refl (Letter n) = eq-eqb n n refl
is_same_refl Primary = refl

differ : (a b : Who) → a ≢ b → is_same a b ≡ false
differ a b h = cases_bool (is_same a b) (λ t. absurd (h (same_is a b t)))

pub other_takes : (c : Config) (first : Who) (text : List ℕ) (who : Who) → other_at c first text ≡ Some who → Spells (Other c first who) text
other_takes c first text who e =
    elim (cases_option (who_at c text)) [
      | inl n ↦ absurd (let g : None ≡ Some who = sym (let i : other_at c first text ≡ None = rw n refl in i) ∙ e in cc)
      | inr x ↦ (
          let e1 : cond (is_same x.0 first) None (Some x.0) ≡ Some who = sym (let i : other_at c first text ≡ cond (is_same x.0 first) None (Some x.0) = rw x.1 refl in i) ∙ e in
          let g = guard (is_same x.0 first) x.0 who e1 in
          let n = node_takes c text x.0 x.1 in
          subst (λ (w : Who). (text ≡ who_text w) × IsWho c w × (w ≢ first)) g.1 (n.0, n.1, λ same. (let f : true ≡ false = sym (is_same_refl x.0) ∙ ap (is_same x.0) same ∙ g.0 in cc)))
    ]

pub other_again : (c : Config) (first : Who) (text : List ℕ) (who : Who) → Spells (Other c first who) text → other_at c first text ≡ Some who
other_again c first text who h = rw (node_again c text who (h.0, h.1), differ who first h.2) refl

-- ---- numbers

pub number_takes : (low high : ℕ) (text : List ℕ) (n : ℕ) → number_at low high text ≡ Some n → Spells (Number low high n) text
number_takes low high text n e =
    let c = cond_some (is_number text && ltb (digits_value 10 text) (2 ^ 64) && leb low (digits_value 10 text) && leb (digits_value 10 text) high) (digits_value 10 text) n e in
    let p1 = and_parts (is_number text && ltb (digits_value 10 text) (2 ^ 64) && leb low (digits_value 10 text)) (leb (digits_value 10 text) high) c.0 in
    let p2 = and_parts (is_number text && ltb (digits_value 10 text) (2 ^ 64)) (leb low (digits_value 10 text)) p1.0 in
    let p3 = and_parts (is_number text) (ltb (digits_value 10 text) (2 ^ 64)) p2.0 in
    let q1 = and_parts (all_ascii_digits text && ltb 0 (length text)) (ltb (length text) 2 || not (eqb (get_or text 0 0) 48)) p3.0 in
    let q2 = and_parts (all_ascii_digits text) (ltb 0 (length text)) q1.0 in
    let some : 0 < length text = ltb-true _ _ q2.1 in
    let small : digits_value 10 text < 2 ^ 64 = ltb-true _ _ p3.1 in
    let plain : get_or text 0 0 ≡ 48 → length text ≡ 1 = λ zero_first. elim (or_cases (ltb (length text) 2) (not (eqb (get_or text 0 0) 48)) q1.1) [
      | inl short ↦ (let s : length text < 2 = ltb-true _ _ short in omega arith)
      | inr other ↦ absurd (let a : eqb (get_or text 0 0) 48 ≡ true = eq-eqb _ _ zero_first in let b = not-true (eqb (get_or text 0 0) 48) other in let f : true ≡ false = sym a ∙ b in cc)
    ] in
    subst (λ (m : ℕ). (text ≡ decimal m) × (low ≤ m) × (m ≤ high) × (m < 2 ^ 64)) c.1
    (sym (decimal-digits_value numerals text q2.0 some plain small), leb-true _ _ p2.1, leb-true _ _ p1.1, small)

plain_decimal : (n : ℕ) → n < 2 ^ 64 → ltb (length (decimal n)) 2 || not (eqb (get_or (decimal n) 0 0) 48) ≡ true
plain_decimal n small = elim (cases_lt n 10) [
  | inl one ↦ or_left (ltb (length (decimal n)) 2) (not (eqb (get_or (decimal n) 0 0) 48)) (rw (decimal_digit n one) refl)
  | inr more ↦ or_right (ltb (length (decimal n)) 2) (not (eqb (get_or (decimal n) 0 0) 48)) (let first : 48 < get_or (decimal n) 0 0 = first_decimal n (omega arith) small in
      let f : eqb (get_or (decimal n) 0 0) 48 ≡ false = ne_eqb (get_or (decimal n) 0 0) 48 (λ same. (let i = first in omega (arith, i, same))) in ap not f)
]

pub number_again : (low high : ℕ) (text : List ℕ) (n : ℕ) → Spells (Number low high n) text → number_at low high text ≡ Some n
number_again low high text n h =
    let all : all_ascii_digits (decimal n) ≡ true = digits_decimal numerals n h.3 in
    let value : digits_value 10 (decimal n) ≡ n = digits_value-decimal numerals n h.3 in
    let some : ltb 0 (length (decimal n)) ≡ true = lt-ltb _ _ (decimal_nonempty n h.3) in
    let plain : ltb (length (decimal n)) 2 || not (eqb (get_or (decimal n) 0 0) 48) ≡ true = plain_decimal n h.3 in
    let number : is_number (decimal n) ≡ true = rw (all, some, plain) refl in
    rw h.0 (rw (number, value, lt-ltb n (2 ^ 64) h.3, le-leb low n h.1, le-leb n high h.2) refl)

-- ---- values

-- a pair of hex digits
pub found : {A B : Type 0} (o : Option A) (f : A → Option B) (y : B) → (o >>= f) ≡ Some y → (x : A) × (o ≡ Some x) × (f x ≡ Some y)
found None f y e = absurd cc
found (Some x) f y e = (x, refl, e)

hex_takes : (b d : ℕ) → hex_at b ≡ Some d → (b ≡ digit_glyph false d) × (d < 16)
hex_takes b d e = elim (pick (leb 48 b && leb b 57) (Some (b - 48)) (cond (leb 97 b && leb b 102) (Some (b - 87)) None) (Some d) e) [
  | inl p ↦ (
      let q = and_parts (leb 48 b) (leb b 57) p.0 in
      let low : 48 ≤ b = leb-true _ _ q.0 in
      let high : b ≤ 57 = leb-true _ _ q.1 in
      let is : b - 48 ≡ d = some_is (b - 48) d p.1 in
      let small : ltb d 10 ≡ true = lt-ltb d 10 (omega arith) in
      (let h : b ≡ 48 + d = omega arith in h ∙ sym (ap (λ (t : Bool). cond t (48 + d) (87 + d)) small), omega arith))
  | inr r ↦ elim (pick (leb 97 b && leb b 102) (Some (b - 87)) None (Some d) r) [
    | inl p ↦ (
        let q = and_parts (leb 97 b) (leb b 102) p.0 in
        let low : 97 ≤ b = leb-true _ _ q.0 in
        let high : b ≤ 102 = leb-true _ _ q.1 in
        let is : b - 87 ≡ d = some_is (b - 87) d p.1 in
        let big : ltb d 10 ≡ false = le-ltb d 10 (omega arith) in
        (let h : b ≡ 87 + d = omega arith in h ∙ sym (ap (λ (t : Bool). cond t (48 + d) (87 + d)) big), omega arith))
    | inr n ↦ absurd cc
  ]
]

hex_again : (d : ℕ) → d < 16 → hex_at (digit_glyph false d) ≡ Some d
hex_again d small = elim (cases_lt d 10) [
  | inl few ↦ (
      let glyph : digit_glyph false d ≡ 48 + d = ap (λ (t : Bool). cond t (48 + d) (87 + d)) (lt-ltb d 10 few) in
      let back : 48 + d - 48 ≡ d = omega arith in
      ap hex_at glyph ∙ ap (λ (t : Bool). cond t (Some (48 + d - 48)) (cond (leb 97 (48 + d) && leb (48 + d) 102) (Some (48 + d - 87)) None)) (and_from (leb 48 (48 + d)) (leb (48 + d) 57) (le-leb 48 (48 + d) (omega arith)) (le-leb (48 + d) 57 (omega arith))) ∙ ap Some back)
  | inr more ↦ (
      let glyph : digit_glyph false d ≡ 87 + d = ap (λ (t : Bool). cond t (48 + d) (87 + d)) (le-ltb d 10 more) in
      let back : 87 + d - 87 ≡ d = omega arith in
      ap hex_at glyph ∙ ap (λ (t : Bool). cond t (Some (87 + d - 48)) (cond (leb 97 (87 + d) && leb (87 + d) 102) (Some (87 + d - 87)) None)) (and_right (leb 48 (87 + d)) (leb (87 + d) 57) (lt-leb (87 + d) 57 (omega arith)))
      ∙ ap (λ (t : Bool). cond t (Some (87 + d - 87)) None) (and_from (leb 97 (87 + d)) (leb (87 + d) 102) (le-leb 97 (87 + d) (omega arith)) (le-leb (87 + d) 102 (omega arith))) ∙ ap Some back)
]

bytes_takes : (text bs : List ℕ) → bytes_at text ≡ Some bs → (text ≡ flat_map hex_pair bs) × AllByRecursion (λ b. b < 256) bs
bytes_takes [] bs e = subst (λ (b : List ℕ). ([] ≡ flat_map hex_pair b) × AllByRecursion (λ x. x < 256) b) (some_is [] bs e) (refl, tt)
bytes_takes (a ∷ []) bs e = absurd cc
bytes_takes (a ∷ b ∷ more) bs e =
    let x = found (hex_at a) (λ x. hex_at b >>= λ y. bytes_at more >>= λ bytes. Some ((16 * x + y) ∷ bytes)) bs e in
    let y = found (hex_at b) (λ y. bytes_at more >>= λ bytes. Some ((16 * x.0 + y) ∷ bytes)) bs x.2 in
    let z = found (bytes_at more) (λ bytes. Some ((16 * x.0 + y.0) ∷ bytes)) bs y.2 in
    let hx = hex_takes a x.0 x.1 in
    let hy = hex_takes b y.0 y.1 in
    let rest = bytes_takes more z.0 z.1 in
    let v = 16 * x.0 + y.0 in
    let high : v / 16 ≡ x.0 = omega (arith, hx.1, hy.1) in
    let low : v % 16 ≡ y.0 = omega (arith, hx.1, hy.1) in
    let pair : a ∷ b ∷ more ≡ hex_pair v ++ flat_map hex_pair z.0 = rw (high, low, ← hx.0, ← hy.0, ← rest.0) refl in
    subst (λ (l : List ℕ). (a ∷ b ∷ more ≡ flat_map hex_pair l) × AllByRecursion (λ x. x < 256) l) (some_is (v ∷ z.0) bs z.2) (pair ∙ sym (flat_map-cons hex_pair v z.0), (omega (arith, hx.1, hy.1), rest.1))

bytes_again : (bs : List ℕ) → AllByRecursion (λ b. b < 256) bs → bytes_at (flat_map hex_pair bs) ≡ Some bs
bytes_again [] h = refl
bytes_again (b ∷ bs) h =
    let small : b < 256 = h.0 in
    let whole : 16 * (b / 16) + b % 16 ≡ b = omega arith in
    ap bytes_at (flat_map-cons hex_pair b bs) ∙ rw (hex_again (b / 16) (omega arith), hex_again (b % 16) (omega arith), bytes_again bs h.1) (ap (λ (x : ℕ). Some (x ∷ bs)) whole)

padded_is : (bs : List ℕ) → AllByRecursion (λ b. b < 256) bs → length bs ≤ 64 → IsValue (padded_value bs)
padded_is bs small few = record {
  few = few;
  whole = omega (arith, length-append bs (replicate (64 - length bs) 0), length-replicate {A = ℕ} (64 - length bs) 0);
  zeros = drop_at bs (replicate (64 - length bs) 0) (length bs) refl;
  bytes = rw (take_at bs (replicate (64 - length bs) 0) (length bs) refl) small;
}

pub value_takes : (text : List ℕ) (v : Value) → value_at text ≡ Some v → Spells (Bytes v) text
value_takes text v e =
    elim (pick (bytes_eq text (codes "-")) (Some (padded_value [])) (bytes_at text >>= λ bytes. cond (ltb 0 (length bytes) && leb (length bytes) 64) (Some (padded_value bytes)) None) (Some v) e) [
      | inl p ↦ subst (λ (w : Value). (text ≡ value_text w) × IsValue w) (some_is (padded_value []) v p.1) (is_text text (codes "-") p.0, padded_is [] tt (omega arith))
      | inr q ↦ (
          let f = found (bytes_at text) (λ bytes. cond (ltb 0 (length bytes) && leb (length bytes) 64) (Some (padded_value bytes)) None) v q in
          let bs = f.0 in
          let g = cond_some (ltb 0 (length bs) && leb (length bs) 64) (padded_value bs) v f.2 in
          let r = and_parts (ltb 0 (length bs)) (leb (length bs) 64) g.0 in
          let some : 0 < length bs = ltb-true _ _ r.0 in
          let few : length bs ≤ 64 = leb-true _ _ r.1 in
          let t = bytes_takes text bs f.1 in
          let spelled : value_text (padded_value bs) ≡ flat_map hex_pair bs =
          ap (λ (b : Bool). cond b (codes "-") (flat_map hex_pair (take (length bs) (bs ++ replicate (64 - length bs) 0)))) (ne_eqb (length bs) 0 (λ z. omega (arith, z, some))) ∙ ap (flat_map hex_pair) (take_at bs (replicate (64 - length bs) 0) (length bs) refl) in
          subst (λ (w : Value). (text ≡ value_text w) × IsValue w) g.1 (t.0 ∙ sym spelled, padded_is bs t.1 few))
    ]

long_pairs : (bs : List ℕ) → 0 < length bs → bytes_eq (flat_map hex_pair bs) (codes "-") ≡ false
long_pairs [] some = absurd (omega arith)
long_pairs (b ∷ bs) some = ap (λ (t : List ℕ). bytes_eq t (codes "-")) (flat_map-cons hex_pair b bs) ∙ (and_right (eqb (digit_glyph false (b / 16)) 45) false refl)

value_is : (v : Value) (len : ℕ) (bytes : List ℕ) → len ≡ v.len → bytes ≡ v.bytes → Some (record { len = len; bytes = bytes }) ≡ Some v
value_is v len bytes p q = ap (λ (x : ℕ × List ℕ). let w : Value = record { len = x.0; bytes = x.1 } in Some w) (pair_is len v.len bytes v.bytes p q)

pub value_again : (text : List ℕ) (v : Value) → Spells (Bytes v) text → value_at text ≡ Some v
value_again text v h =
    elim (cases_Bool (eqb v.len 0)) [
      | inl zero ↦ (
          let none : v.len ≡ 0 = eqb-true _ _ zero in
          let said : value_text v ≡ codes "-" = ap (λ (b : Bool). cond b (codes "-") (flat_map hex_pair (take v.len v.bytes))) zero in
          let zeros : v.bytes ≡ replicate 64 0 = (let z = h.1.zeros in rw none at z) in
          rw (h.0 ∙ said) (value_is v 0 (replicate 64 0) (sym none) (sym zeros)))
      | inr some ↦ (
          let more : 0 < v.len = (let f = eqb-false _ _ some in elim (cases_lt 0 v.len) [ inl lt ↦ lt | inr le ↦ absurd (f (omega arith)) ]) in
          let bs = take v.len v.bytes in
          let len : length bs ≡ v.len = omega (arith, length-take v.len v.bytes, h.1.few, h.1.whole) in
          let said : value_text v ≡ flat_map hex_pair bs = ap (λ (b : Bool). cond b (codes "-") (flat_map hex_pair bs)) some in
          let read : bytes_at (flat_map hex_pair bs) ≡ Some bs = bytes_again bs h.1.bytes in
          let other : bytes_eq (flat_map hex_pair bs) (codes "-") ≡ false = long_pairs bs (omega (arith, len, more)) in
          let inside : (ltb 0 (length bs) && leb (length bs) 64) ≡ true = and_from (ltb 0 (length bs)) (leb (length bs) 64) (lt-ltb 0 (length bs) (omega (arith, len, more))) (le-leb (length bs) 64 (omega (arith, len, h.1.few))) in
          let bytes : bs ++ replicate (64 - length bs) 0 ≡ v.bytes = ap (λ (n : ℕ). bs ++ replicate (64 - n) 0) len ∙ ap (λ (x : List ℕ). bs ++ x) (sym h.1.zeros) ∙ take-append-drop v.len v.bytes in
          ap value_at (h.0 ∙ said) ∙ rw (other, read) (ap (λ (b : Bool). cond b (Some (padded_value bs)) None) inside ∙ value_is v (length bs) (bs ++ replicate (64 - length bs) 0) len bytes))
    ]

-- ---- masks

pub mask_takes : (text : List ℕ) (m : ℕ) → mask_at text ≡ Some m → Spells (Mask m) text
mask_takes text m e = elim (pick (ltb 0 (length text) && leb (length text) 16) (hex_value 0 text) None (Some m) e) [
  | inl p ↦ (let q = and_parts (ltb 0 (length text)) (leb (length text) 16) p.0 in (ltb-true _ _ q.0, leb-true _ _ q.1, p.1))
  | inr q ↦ absurd cc
]

pub mask_again : (text : List ℕ) (m : ℕ) → Spells (Mask m) text → mask_at text ≡ Some m
mask_again text m h = rw (and_from (ltb 0 (length text)) (leb (length text) 16) (lt-ltb _ _ h.0) (le-leb _ _ h.1)) h.2
