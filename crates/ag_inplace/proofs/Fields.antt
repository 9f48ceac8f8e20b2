-- The fields of a version that stands at a place.
use Rattle.std.proofs.Common.{◌≡◌, ℕ, ◌+◌, ◌-◌, ◌^◌, ◌<◌, ◌≤◌, true, leb, eqb, eq-eqb, List, [], ◌++◌, length, take, drop, replicate, refl, sym, ap, ◌∙◌, append_assoc, arith}
use Rattle.std.specs.Int.{Width, w16, w32, w64, byte_len, to_be_bytes, from_be_bytes}
use Rattle.std.proofs.lemmas.Bool.{and_parts, leb-true, ne_eqb}
use Rattle.std.proofs.lemmas.List.{take_at, drop_at, drop-drop, drop-replicate, take-append-drop, length-append, length-replicate, length-take, length-drop}
use Rattle.ag_model.specs.declared.value.Value.{Value}
use Rattle.ag_model.specs.declared.value.Change.{Change}
use Rattle.ag_model.specs.declared.value.Change.TheVariants.{Put, Del}
use Rattle.ag_model.specs.declared.value.Version.{Version}
use Rattle.ag_model.specs.Page.{is_del}
use Rattle.ag_model.specs.Sizes.{change_size}
use Rattle.ag_model.proofs.Numbers.{length-to_be_bytes, front_number-written}
use Rattle.ag_page.specs.Spelling.{change_spelling, version_spelling, has_spelling, are_zero, IsWhole}
use Rattle.ag_page.specs.Reading.{value_of}
use Rattle.ag_page.proofs.Zeros.{zeros-are}
use Rattle.ag_inplace.specs.Entries.{number_in, StandsAt}

-- a number behind so many bytes
pub number-there : (w : Width) (n at k : ℕ) (bytes before rest : List ℕ) → drop at bytes ≡ before ++ (to_be_bytes w n ++ rest) → length before ≡ k → n < 256 ^ byte_len w → number_in w bytes (at + k) ≡ n
number-there w n at k bytes before rest is len fits =
    let from : drop (at + k) bytes ≡ to_be_bytes w n ++ rest = sym (drop-drop k at bytes) ∙ ap (drop k) is ∙ drop_at before (to_be_bytes w n ++ rest) k len in
    ap (λ (z : List ℕ). from_be_bytes w (take (byte_len w) z)) from ∙ front_number-written w n rest fits

-- the spelling of a version, field by field
pub spelled-as : (w : Version) (rest : List ℕ) → version_spelling w ++ rest ≡ to_be_bytes w64 w.lsn ++ (to_be_bytes w64 w.txn ++ (to_be_bytes w64 w.commit ++ (to_be_bytes w32 w.key ++ (change_spelling w.change ++ rest))))
unfolding version_spelling
spelled-as w rest =
    let e = change_spelling w.change in
    append_assoc (to_be_bytes w64 w.lsn) (to_be_bytes w64 w.txn ++ (to_be_bytes w64 w.commit ++ (to_be_bytes w32 w.key ++ e))) rest
    ∙ ap (λ (z : List ℕ). to_be_bytes w64 w.lsn ++ z) (append_assoc (to_be_bytes w64 w.txn) (to_be_bytes w64 w.commit ++ (to_be_bytes w32 w.key ++ e)) rest
    ∙ ap (λ (z : List ℕ). to_be_bytes w64 w.txn ++ z) (append_assoc (to_be_bytes w64 w.commit) (to_be_bytes w32 w.key ++ e) rest
    ∙ ap (λ (z : List ℕ). to_be_bytes w64 w.commit ++ z) (append_assoc (to_be_bytes w32 w.key) e rest)))

-- the length that is spelled
abbrev pub len_of : Change → ℕ
len_of (Put v) = v.len
len_of Del = 65535

-- the bytes of the value
abbrev pub text_of : Change → List ℕ
text_of (Put v) = take v.len v.bytes
text_of Del = []

change-as : (c : Change) (rest : List ℕ) → change_spelling c ++ rest ≡ to_be_bytes w16 (len_of c) ++ (text_of c ++ rest)
change-as (Put v) rest = append_assoc (to_be_bytes w16 v.len) (take v.len v.bytes) rest
change-as Del rest = refl

len-small : (c : Change) → has_spelling c ≡ true → len_of c < 256 ^ byte_len w16
len-small (Put v) is = let p = and_parts (leb v.len 64) (are_zero (drop v.len v.bytes)) is in let small = leb-true v.len 64 p.0 in omega arith
len-small Del is = omega arith

-- what stands before each field
pub record HasFields (bytes : List ℕ) (at : ℕ) (w : Version) : Type 0 where
  pub lsn : number_in w64 bytes at ≡ w.lsn
  pub txn : number_in w64 bytes (at + 8) ≡ w.txn
  pub commit : number_in w64 bytes (at + 16) ≡ w.commit
  pub key : number_in w32 bytes (at + 24) ≡ w.key
  pub len : number_in w16 bytes (at + 28) ≡ len_of w.change
  pub text : drop (at + 30) bytes ≡ text_of w.change ++ drop (at + change_size w.change) bytes

pub fields : (bytes : List ℕ) (at : ℕ) (w : Version) → StandsAt bytes at w → HasFields bytes at w
fields bytes at w h =
    let rest = drop (at + change_size w.change) bytes in
    let a = to_be_bytes w64 w.lsn in
    let b = to_be_bytes w64 w.txn in
    let c = to_be_bytes w64 w.commit in
    let d = to_be_bytes w32 w.key in
    let e = to_be_bytes w16 (len_of w.change) in
    let f = text_of w.change ++ rest in
    let whole : drop at bytes ≡ a ++ (b ++ (c ++ (d ++ (e ++ f)))) = h.there ∙ spelled-as w rest ∙ ap (λ (z : List ℕ). a ++ (b ++ (c ++ (d ++ z)))) (change-as w.change rest) in
    let la = length-to_be_bytes w64 w.lsn in
    let lb = length-to_be_bytes w64 w.txn in
    let lc = length-to_be_bytes w64 w.commit in
    let ld = length-to_be_bytes w32 w.key in
    let le = length-to_be_bytes w16 (len_of w.change) in
    let two : drop at bytes ≡ (a ++ b) ++ (c ++ (d ++ (e ++ f))) = whole ∙ sym (append_assoc a b (c ++ (d ++ (e ++ f)))) in
    let three : drop at bytes ≡ ((a ++ b) ++ c) ++ (d ++ (e ++ f)) = two ∙ sym (append_assoc (a ++ b) c (d ++ (e ++ f))) in
    let four : drop at bytes ≡ (((a ++ b) ++ c) ++ d) ++ (e ++ f) = three ∙ sym (append_assoc ((a ++ b) ++ c) d (e ++ f)) in
    let five : drop at bytes ≡ ((((a ++ b) ++ c) ++ d) ++ e) ++ f = four ∙ sym (append_assoc (((a ++ b) ++ c) ++ d) e f) in
    let l2 : length (a ++ b) ≡ 16 = omega (arith, length-append a b) in
    let l3 : length ((a ++ b) ++ c) ≡ 24 = omega (arith, length-append (a ++ b) c) in
    let l4 : length (((a ++ b) ++ c) ++ d) ≡ 28 = omega (arith, length-append ((a ++ b) ++ c) d) in
    let l5 : length ((((a ++ b) ++ c) ++ d) ++ e) ≡ 30 = omega (arith, length-append (((a ++ b) ++ c) ++ d) e) in
    let zero_on : at + 0 ≡ at = omega arith in
    record {
      lsn = ap (number_in w64 bytes) (sym zero_on) ∙ number-there w64 w.lsn at 0 bytes [] (b ++ (c ++ (d ++ (e ++ f)))) whole refl h.range.lsn;
      txn = number-there w64 w.txn at 8 bytes a (c ++ (d ++ (e ++ f))) whole la h.range.txn;
      commit = number-there w64 w.commit at 16 bytes (a ++ b) (d ++ (e ++ f)) two l2 h.range.commit;
      key = number-there w32 w.key at 24 bytes ((a ++ b) ++ c) (e ++ f) three l3 h.range.key;
      len = number-there w16 (len_of w.change) at 28 bytes (((a ++ b) ++ c) ++ d) f four l4 (len-small w.change h.spelled);
      text = sym (drop-drop 30 at bytes) ∙ ap (drop 30) five ∙ drop_at ((((a ++ b) ++ c) ++ d) ++ e) f 30 l5;
    }

-- a version takes as many bytes as its length says
pub size-is : (c : Change) (n m : ℕ) → has_spelling c ≡ true → n ≡ len_of c → (n ≡ 65535 → m ≡ 30) → ((n ≡ 65535 → ⊥) → m ≡ 30 + n) → m ≡ change_size c
size-is Del n m is e gone put = gone e
size-is (Put v) n m is e gone put =
    let p = and_parts (leb v.len 64) (are_zero (drop v.len v.bytes)) is in
    let small = leb-true v.len 64 p.0 in
    let own : m ≡ 30 + n = put (λ z. absurd (omega arith)) in
    omega arith

-- a value is that of its bytes
value_of-text : (v : Value) → has_spelling (Put v) ≡ true → length v.bytes ≡ 64 → value_of (take v.len v.bytes) ≡ v
value_of-text v is whole =
    let p = and_parts (leb v.len 64) (are_zero (drop v.len v.bytes)) is in
    let most = leb-true v.len 64 p.0 in
    let len : length (take v.len v.bytes) ≡ v.len = omega (arith, length-take v.len v.bytes) in
    let tail : length (drop v.len v.bytes) ≡ 64 - v.len = omega (arith, length-drop v.len v.bytes) in
    let zs : drop v.len v.bytes ≡ replicate (64 - v.len) 0 = zeros-are (drop v.len v.bytes) p.1 ∙ ap (λ (n : ℕ). replicate n 0) tail in
    let bytes : take v.len v.bytes ++ replicate (64 - v.len) 0 ≡ v.bytes = ap (λ (z : List ℕ). take v.len v.bytes ++ z) (sym zs) ∙ take-append-drop v.len v.bytes in
    let made : (n : ℕ) (bs : List ℕ) → Value = λ n bs. record { len = n; bytes = bs } in
    ap (λ (n : ℕ). made n (take v.len v.bytes ++ replicate (64 - n) 0)) len ∙ ap (made v.len) bytes

-- a change that is no deletion has a length of at most 64
pub put-small : (c : Change) (n : ℕ) → has_spelling c ≡ true → n ≡ len_of c → (n ≡ 65535 → ⊥) → (n ≤ 64) × (30 + n ≡ change_size c)
put-small Del n is e put = absurd (put e)
put-small (Put v) n is e put =
    let p = and_parts (leb v.len 64) (are_zero (drop v.len v.bytes)) is in
    let small = leb-true v.len 64 p.0 in
    (omega arith, omega arith)

pub change-is : (c : Change) (n : ℕ) (there rest : List ℕ) (x : Value) → has_spelling c ≡ true → IsWhole c → n ≡ len_of c → (n ≡ 65535 → ⊥) → there ≡ text_of c ++ rest → x ≡ value_of (take n there) → Put x ≡ c
change-is Del n there rest x is whole e put t v = absurd (put e)
change-is (Put v) n there rest x is whole e put t made =
    let p = and_parts (leb v.len 64) (are_zero (drop v.len v.bytes)) is in
    let small = leb-true v.len 64 p.0 in
    let len : length (take v.len v.bytes) ≡ v.len = omega (arith, length-take v.len v.bytes) in
    let front : take n there ≡ take v.len v.bytes = ap (take n) t ∙ take_at (take v.len v.bytes) rest n (len ∙ sym e) in
    ap (λ (y : Value). Put y) (made ∙ ap value_of front ∙ value_of-text v is whole)

pub del-is : (c : Change) (n : ℕ) → has_spelling c ≡ true → n ≡ len_of c → n ≡ 65535 → Del ≡ c
del-is Del n is e gone = refl
del-is (Put v) n is e gone =
    let p = and_parts (leb v.len 64) (are_zero (drop v.len v.bytes)) is in
    let small = leb-true v.len 64 p.0 in
    absurd (omega arith)

-- a version has 30 bytes before its value
pub change-least : (c : Change) → 30 ≤ change_size c
change-least Del = omega arith
change-least (Put v) = omega arith

-- a value that is read into zeros
pub value-read : (n at : ℕ) (bytes out : List ℕ) → length bytes ≡ 8176 → at + n ≤ 8176 → n ≤ 64 → out ≡ take (length (take n (replicate {A = ℕ} 64 0))) (drop at bytes)
    → (let v : Value = record { len = n; bytes = out ++ drop n (replicate 64 0) } in v) ≡ value_of (take n (drop at bytes))
value-read n at bytes out whole room small is =
    let text = take n (drop at bytes) in
    let made : (n : ℕ) (bs : List ℕ) → Value = λ n bs. record { len = n; bytes = bs } in
    let one : length (take n (replicate {A = ℕ} 64 0)) ≡ n = omega (arith, length-take n (replicate {A = ℕ} 64 0), length-replicate {A = ℕ} 64 0) in
    let front : out ≡ text = is ∙ ap (λ (k : ℕ). take k (drop at bytes)) one in
    let len : n ≡ length text = omega (arith, length-take n (drop at bytes), length-drop at bytes) in
    ap (λ (z : List ℕ). made n (z ++ drop n (replicate 64 0))) front ∙ ap (λ (z : List ℕ). made n (text ++ z)) (drop-replicate n 64 0) ∙ ap (λ (k : ℕ). made k (text ++ replicate (64 - k) 0)) len

abbrev made : ℕ → ℕ → ℕ → ℕ → Change → Version
made lsn txn commit key change = record { lsn = lsn; txn = txn; commit = commit; key = key; change = change }

-- a version by its fields
pub version-is : (lsn txn commit key : ℕ) (change : Change) (w : Version) → lsn ≡ w.lsn → txn ≡ w.txn → commit ≡ w.commit → key ≡ w.key → change ≡ w.change → made lsn txn commit key change ≡ w
version-is lsn txn commit key change w a b c d e =
    ap (λ (z : ℕ). made z txn commit key change) a ∙ ap (λ (z : ℕ). made w.lsn z commit key change) b ∙ ap (λ (z : ℕ). made w.lsn w.txn z key change) c
    ∙ ap (λ (z : ℕ). made w.lsn w.txn w.commit z change) d ∙ ap (made w.lsn w.txn w.commit w.key) e

-- a version takes 94 bytes at most
pub change-most : (c : Change) → has_spelling c ≡ true → change_size c ≤ 94
change-most Del is = omega arith
change-most (Put v) is = let p = and_parts (leb v.len 64) (are_zero (drop v.len v.bytes)) is in let small = leb-true v.len 64 p.0 in omega arith

-- the length says whether a change is a deletion
pub is_del-len : (c : Change) (n : ℕ) → has_spelling c ≡ true → n ≡ len_of c → eqb n 65535 ≡ is_del c
is_del-len Del n is e = eq-eqb n 65535 e
is_del-len (Put v) n is e =
    let p = and_parts (leb v.len 64) (are_zero (drop v.len v.bytes)) is in
    let small = leb-true v.len 64 p.0 in
    ne_eqb n 65535 (λ z. absurd (omega arith))
