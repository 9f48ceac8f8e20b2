-- What a reader takes from the front of bytes.
use Rattle.std.proofs.Common.{◌≡◌, ℕ, ◌^◌, ◌<◌, ◌≤◌, Bool, true, false, cond, ltb, List, ◌++◌, length, take, drop, Result, Ok, Err, refl, sym, ap, subst, ◌∙◌, append_assoc, arith}
use Rattle.std.specs.Int.{Width, byte_len, from_be_bytes, to_be_bytes}
use Rattle.std.proofs.lemmas.Bool.{ltb-false, le-ltb}
use Rattle.std.proofs.lemmas.List.{length-append}
use Rattle.ag_model.specs.Bytes.{AreBytes}
use Rattle.ag_model.proofs.Numbers.{length-to_be_bytes, AreBytes-drop, front_number-read, front_number-lt, front_number-written, after_number-written}
use Rattle.ag_page.specs.declared.fault.PageFault.{PageFault}
use Rattle.ag_page.specs.declared.fault.PageFault.TheVariants.{NotPage}
use Rattle.ag_page.specs.Reading.{◌>>=◌, number_at}

-- a step that met no fault
pub bind_ok : {A B : Type 0} (r : Result A PageFault) (f : A → Result B PageFault) (y : B) → (r >>= f) ≡ Ok y → (x : A) × (r ≡ Ok x) × (f x ≡ Ok y)
bind_ok (Ok x) f y e = (x, refl, e)
bind_ok (Err d) f y e = absurd cc

-- a test that met no fault
pub unless_ok : {A : Type 0} (b : Bool) (r : Result A PageFault) (y : A) → cond b (Err NotPage) r ≡ Ok y → (b ≡ false) × (r ≡ Ok y)
unless_ok true r y e = absurd cc
unless_ok false r y e = (refl, e)

pub when_ok : {A : Type 0} (b : Bool) (r : Result A PageFault) (y : A) → cond b r (Err NotPage) ≡ Ok y → (b ≡ true) × (r ≡ Ok y)
when_ok true r y e = (refl, e)
when_ok false r y e = absurd cc

abbrev done : {A : Type 0} → A → Result A PageFault
done x = Ok x

pub ok_is : {A : Type 0} (x y : A) → done x ≡ done y → x ≡ y
ok_is x y e = cc

-- what was taken stood in front, and bytes are left
pub record Takes (bytes text rest : List ℕ) : Type 0 where
  pub parts : bytes ≡ text ++ rest
  pub left : AreBytes rest

pub Takes-then : (a x b y c : List ℕ) → Takes a x b → Takes b y c → Takes a (x ++ y) c
Takes-then a x b y c p q = record { parts = p.parts ∙ ap (λ (t : List ℕ). x ++ t) q.parts ∙ sym (append_assoc x y c); left = q.left }

-- a number that is read is the one that was written
pub number_takes : (w : Width) (bytes : List ℕ) (x : ℕ × List ℕ) → AreBytes bytes → number_at w bytes ≡ Ok x → Takes bytes (to_be_bytes w x.0) x.1 × (x.0 < 256 ^ byte_len w)
number_takes w bytes x fits e =
    let g = unless_ok (ltb (length bytes) (byte_len w)) (Ok (from_be_bytes w (take (byte_len w) bytes), drop (byte_len w) bytes)) x e in
    let long : byte_len w ≤ length bytes = ltb-false _ _ g.0 in
    subst (λ (y : ℕ × List ℕ). Takes bytes (to_be_bytes w y.0) y.1 × (y.0 < 256 ^ byte_len w)) (ok_is (from_be_bytes w (take (byte_len w) bytes), drop (byte_len w) bytes) x g.1)
    (record { parts = front_number-read w bytes long fits; left = AreBytes-drop (byte_len w) bytes fits }, front_number-lt w bytes long fits)

-- a number that was written is read again
pub number_again : (w : Width) (n : ℕ) (rest : List ℕ) → n < 256 ^ byte_len w → number_at w (to_be_bytes w n ++ rest) ≡ Ok (n, rest)
number_again w n rest lt =
    let len = length-to_be_bytes w n in
    let long : ltb (length (to_be_bytes w n ++ rest)) (byte_len w) ≡ false = le-ltb _ _ (omega (arith, length-append (to_be_bytes w n) rest)) in
    rw (long, front_number-written w n rest lt, after_number-written w n rest) refl
