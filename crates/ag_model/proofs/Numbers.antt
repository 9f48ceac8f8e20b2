-- A number that was read big-endian, written again, gives the bytes that were read, and the other way round: at every width, by induction on the bytes.
use Rattle.std.proofs.Common.{◌≡◌, ℕ, zero, suc, ◌+◌, ◌-◌, ◌*◌, ◌/◌, ◌%◌, ◌^◌, ◌<◌, ◌≤◌, List, [], ◌∷◌, ◌++◌, length, get_or, take, drop, refl, sym, ap, subst, ◌∙◌, inl, inr, arith, mul_comm}
use Rattle.std.specs.Int.{Width, w8, w16, w32, w64, w128, byte_len, byte_at, byte_worth, bytes_high_first, sum_through, to_be_bytes, from_be_bytes}
use Rattle.std.proofs.Math.Nat.{one-le-pow, pow-succ', mod-lt, mod-eq_of_lt, div-one, add-mul, mul_assoc, add_assoc}
use Rattle.std.proofs.lemmas.Nat.{same_from_place, mul-add-lt, mod-mul-add, div-add-mod'}
use Rattle.std.proofs.lemmas.Bool.{cases_lt}
use Rattle.std.proofs.lemmas.List.{nil_from_length, take_at, drop_at, take-append-drop, length-take, get_or-drop, get_or-take, get_or_past}
use Rattle.ag_model.specs.Bytes.{AreBytes}

-- the number that bytes spell, the highest first
abbrev pub number : List ℕ → ℕ
number [] = 0
number (b ∷ bs) = b * 256 ^ length bs + number bs

pub AreBytes-rest : (b : ℕ) (bs : List ℕ) → AreBytes (b ∷ bs) → AreBytes bs
AreBytes-rest b bs h i = h (suc i)

AreBytes-cons : (b : ℕ) (bs : List ℕ) → b < 256 → AreBytes bs → AreBytes (b ∷ bs)
AreBytes-cons b bs h hs zero = h
AreBytes-cons b bs h hs (suc i) = hs i

-- bytes spell no number above them
number-lt : (bs : List ℕ) → AreBytes bs → number bs < 256 ^ length bs
number-lt [] h = omega arith
number-lt (b ∷ bs) h =
    let ih = number-lt bs (AreBytes-rest b bs h) in
    let below : b * 256 ^ length bs + number bs < 256 ^ length bs * 256 = mul-add-lt b (256 ^ length bs) (number bs) 256 (h 0) ih in
    rw (pow-succ' 256 (length bs)) (omega (arith, mul_comm (256 ^ length bs) 256))

-- bytes of one number and one length are the same
number-once : (xs ys : List ℕ) → AreBytes xs → AreBytes ys → length xs ≡ length ys → number xs ≡ number ys → xs ≡ ys
number-once [] [] p q l e = refl
number-once [] (y ∷ ys) p q l e = absurd (omega arith)
number-once (x ∷ xs) [] p q l e = absurd (omega arith)
number-once (x ∷ xs) (y ∷ ys) p q l e =
    let k : length xs ≡ length ys = omega arith in
    let top = number-lt ys (AreBytes-rest y ys q) in
    let same : x * 256 ^ length ys + number xs ≡ y * 256 ^ length ys + number ys = subst (λ (n : ℕ). x * 256 ^ n + number xs ≡ y * 256 ^ length ys + number ys) k e in
    let both = same_from_place x (number xs) y (number ys) (256 ^ length ys) (subst (λ (n : ℕ). number xs < 256 ^ n) k (number-lt xs (AreBytes-rest x xs p))) top same in
    let rest = number-once xs ys (AreBytes-rest x xs p) (AreBytes-rest y ys q) k both.1 in
    cc (both.0, rest)

-- a byte of a number, by its place
byte_at-pow : (k n : ℕ) → byte_at k n ≡ n / 256 ^ k % 256
byte_at-pow zero n = ap (λ (m : ℕ). m % 256) (sym (div-one n))
byte_at-pow (suc k) n = refl

byte_at-lt : (k n : ℕ) → byte_at k n < 256
byte_at-lt k n = rw (byte_at-pow k n) (mod-lt (n / 256 ^ k) (omega arith))

-- what is written are bytes
written-are_bytes : (k n : ℕ) → AreBytes (bytes_high_first k n)
written-are_bytes zero n = λ i. omega arith
written-are_bytes (suc k) n = AreBytes-cons (byte_at k n) (bytes_high_first k n) (byte_at-lt k n) (written-are_bytes k n)

written-length : (k n : ℕ) → length (bytes_high_first k n) ≡ k
written-length zero n = refl
written-length (suc k) n = let ih = written-length k n in omega arith

power_pos : (k : ℕ) → 0 < 256 ^ k
power_pos k = let h = one-le-pow k 256 (omega arith) in omega arith

-- the two low parts of a number
mod-parts : (n c : ℕ) → 0 < c → n % (256 * c) ≡ n / c % 256 * c + n % c
mod-parts n c h =
    let low = mod-lt n h in
    let middle : n / c % 256 < 256 = mod-lt (n / c) (omega arith) in
    let small : n / c % 256 * c + n % c < 256 * c = rw (mul_comm 256 c) (mul-add-lt (n / c % 256) c (n % c) 256 middle low) in
    let parts : n ≡ n / c / 256 * (256 * c) + (n / c % 256 * c + n % c) =
    sym (div-add-mod' n c)
    ∙ ap (λ (x : ℕ). x * c + n % c) (sym (div-add-mod' (n / c) 256))
    ∙ ap (λ (x : ℕ). x + n % c) (add-mul (n / c / 256 * 256) (n / c % 256) c ∙ ap (λ (x : ℕ). x + n / c % 256 * c) (mul_assoc (n / c / 256) 256 c))
    ∙ add_assoc (n / c / 256 * (256 * c)) (n / c % 256 * c) (n % c) in
    ap (λ (x : ℕ). x % (256 * c)) parts ∙ mod-mul-add (n / c / 256) (256 * c) (n / c % 256 * c + n % c) small

-- what is written spells the number below its place
number-written : (k n : ℕ) → number (bytes_high_first k n) ≡ n % 256 ^ k
number-written zero n = omega arith
number-written (suc k) n =
    let ih = number-written k n in
    let len = written-length k n in
    rw (ih, len, byte_at-pow k n, pow-succ' 256 k) (sym (mod-parts n (256 ^ k) (power_pos k)))

-- the sum that a read makes, its first byte taken out
sum-front : (f : ℕ → ℕ) (k : ℕ) → sum_through f (suc k) ≡ f 0 + sum_through (λ i. f (suc i)) k
sum-front f zero = refl
sum-front f (suc k) = let ih = sum-front f k in omega arith

sum-same : (f g : ℕ → ℕ) (k : ℕ) → ((i : ℕ) → f i ≡ g i) → sum_through f k ≡ sum_through g k
sum-same f g zero h = h 0
sum-same f g (suc k) h = let ih = sum-same f g k h in let one = h (suc k) in omega arith

worth-pow : (i b : ℕ) → byte_worth i b ≡ b * 256 ^ i
worth-pow zero b = omega arith
worth-pow (suc i) b = refl

-- what is read is the number that the bytes spell
read-number : (bs : List ℕ) (k : ℕ) → length bs ≡ suc k → sum_through (λ i. byte_worth (k - i) (get_or bs i 0)) k ≡ number bs
read-number [] k l = absurd (omega arith)
read-number (b ∷ bs) zero l =
    let none : length bs ≡ 0 = omega arith in
    rw (none, nil_from_length bs none) (omega arith)
read-number (b ∷ bs) (suc k) l =
    let len : length bs ≡ suc k = omega arith in
    let ih = read-number bs k len in
    let front = sum-front (λ i. byte_worth (suc k - i) (get_or (b ∷ bs) i 0)) k in
    let later = sum-same (λ i. byte_worth (suc k - suc i) (get_or bs i 0)) (λ i. byte_worth (k - i) (get_or bs i 0)) k (λ i. let e : suc k - suc i ≡ k - i = omega arith in ap (λ (n : ℕ). byte_worth n (get_or bs i 0)) e) in
    let first : byte_worth (suc k - 0) b ≡ b * 256 ^ length bs = let e : suc k - 0 ≡ suc k = omega arith in ap (λ (n : ℕ). byte_worth n b) e ∙ ap (λ (n : ℕ). b * 256 ^ n) (sym len) in
    front ∙ (rw (first, later, ih) refl)

-- each width has a byte
some_byte : (w : Width) → byte_len w ≡ suc (byte_len w - 1)
some_byte w8 = refl
some_byte w16 = refl
some_byte w32 = refl
some_byte w64 = refl
some_byte w128 = refl

read-is : (w : Width) (bs : List ℕ) → length bs ≡ byte_len w → from_be_bytes w bs ≡ number bs
read-is w bs l = read-number bs (byte_len w - 1) (l ∙ some_byte w)

-- as many bytes are written as the width has
pub length-to_be_bytes : (w : Width) (n : ℕ) → length (to_be_bytes w n) ≡ byte_len w
length-to_be_bytes w n = written-length (byte_len w) n

-- what is written are bytes
pub AreBytes-to_be_bytes : (w : Width) (n : ℕ) → AreBytes (to_be_bytes w n)
AreBytes-to_be_bytes w n = written-are_bytes (byte_len w) n

-- what is read is below the width's end
pub from_be_bytes-lt : (w : Width) (bytes : List ℕ) → length bytes ≡ byte_len w → AreBytes bytes → from_be_bytes w bytes < 256 ^ byte_len w
from_be_bytes-lt w bytes l h = rw (read-is w bytes l, ← l) (number-lt bytes h)

-- a number that was read, written again, gives the bytes that were read
pub to_be_bytes-from_be_bytes : (w : Width) (bytes : List ℕ) → length bytes ≡ byte_len w → AreBytes bytes → to_be_bytes w (from_be_bytes w bytes) ≡ bytes
to_be_bytes-from_be_bytes w bytes l h =
    let n = from_be_bytes w bytes in
    number-once (to_be_bytes w n) bytes (AreBytes-to_be_bytes w n) h (length-to_be_bytes w n ∙ sym l)
    (number-written (byte_len w) n ∙ mod-eq_of_lt (from_be_bytes-lt w bytes l h) ∙ read-is w bytes l)

-- a number that was written is read again
pub from_be_bytes-to_be_bytes : (w : Width) (n : ℕ) → n < 256 ^ byte_len w → from_be_bytes w (to_be_bytes w n) ≡ n
from_be_bytes-to_be_bytes w n h = read-is w (to_be_bytes w n) (length-to_be_bytes w n) ∙ number-written (byte_len w) n ∙ mod-eq_of_lt h

-- parts of bytes are bytes
pub AreBytes-drop : (n : ℕ) (bytes : List ℕ) → AreBytes bytes → AreBytes (drop n bytes)
AreBytes-drop n bytes h i = rw get_or-drop (h (n + i))

pub AreBytes-take : (n : ℕ) (bytes : List ℕ) → AreBytes bytes → AreBytes (take n bytes)
AreBytes-take n bytes h i =
    elim (cases_lt i n) [
      | inl lt ↦ rw (get_or-take n bytes i 0 lt) (h i)
      | inr le ↦ rw (get_or_past (take n bytes) i 0 (omega (arith, length-take n bytes))) (omega arith)
    ]

-- the number in front, written again, and what follows it are the bytes
pub front_number-read : (w : Width) (bytes : List ℕ) → byte_len w ≤ length bytes → AreBytes bytes → bytes ≡ to_be_bytes w (from_be_bytes w (take (byte_len w) bytes)) ++ drop (byte_len w) bytes
front_number-read w bytes l h =
    let len : length (take (byte_len w) bytes) ≡ byte_len w = omega (arith, length-take (byte_len w) bytes) in
    let back = to_be_bytes-from_be_bytes w (take (byte_len w) bytes) len (AreBytes-take (byte_len w) bytes h) in
    sym (ap (λ (front : List ℕ). front ++ drop (byte_len w) bytes) back ∙ take-append-drop (byte_len w) bytes)

-- it is below the width's end
pub front_number-lt : (w : Width) (bytes : List ℕ) → byte_len w ≤ length bytes → AreBytes bytes → from_be_bytes w (take (byte_len w) bytes) < 256 ^ byte_len w
front_number-lt w bytes l h = from_be_bytes-lt w (take (byte_len w) bytes) (omega (arith, length-take (byte_len w) bytes)) (AreBytes-take (byte_len w) bytes h)

-- a number that was written in front is read again, and what follows it stays
pub front_number-written : (w : Width) (n : ℕ) (rest : List ℕ) → n < 256 ^ byte_len w → from_be_bytes w (take (byte_len w) (to_be_bytes w n ++ rest)) ≡ n
front_number-written w n rest h = ap (from_be_bytes w) (take_at (to_be_bytes w n) rest (byte_len w) (length-to_be_bytes w n)) ∙ from_be_bytes-to_be_bytes w n h

pub after_number-written : (w : Width) (n : ℕ) (rest : List ℕ) → drop (byte_len w) (to_be_bytes w n ++ rest) ≡ rest
after_number-written w n rest = drop_at (to_be_bytes w n) rest (byte_len w) (length-to_be_bytes w n)
