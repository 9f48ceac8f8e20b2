-- What a step that met no fault took from the front, whatever the faults are.
use Rattle.std.proofs.Common.{◌≡◌, ℕ, ◌^◌, ◌<◌, ◌≤◌, Bool, true, false, cond, ltb, List, ◌∷◌, ◌++◌, length, take, drop, Result, Ok, Err, ◌⊎◌, inl, inr, refl, sym, ap, subst, ◌∙◌, append_assoc, arith}
use Rattle.std.specs.Int.{Width, byte_len, from_be_bytes, to_be_bytes}
use Rattle.std.proofs.lemmas.Bool.{ltb-false, le-ltb}
use Rattle.std.proofs.lemmas.List.{length-append}
use Rattle.ag_model.specs.Bytes.{AreBytes}
use Rattle.ag_model.proofs.Numbers.{length-to_be_bytes, AreBytes-drop, front_number-read, front_number-lt, front_number-written, after_number-written}
use Rattle.ag_record.specs.Steps.{◌>>=◌, number_at}

-- a step that met no fault
pub bind_ok : {A B F : Type 0} (r : Result A F) (f : A → Result B F) (y : B) → (r >>= f) ≡ Ok y → (x : A) × (r ≡ Ok x) × (f x ≡ Ok y)
bind_ok (Ok x) f y e = (x, refl, e)
bind_ok (Err d) f y e = absurd cc

-- a test that met no fault
pub unless_ok : {A F : Type 0} (b : Bool) (d : F) (r : Result A F) (y : A) → cond b (Err d) r ≡ Ok y → (b ≡ false) × (r ≡ Ok y)
unless_ok true d r y e = absurd cc
unless_ok false d r y e = (refl, e)

pub when_ok : {A F : Type 0} (b : Bool) (d : F) (r : Result A F) (y : A) → cond b r (Err d) ≡ Ok y → (b ≡ true) × (r ≡ Ok y)
when_ok true d r y e = (refl, e)
when_ok false d r y e = absurd cc

-- one way was gone or the other
pub chosen : {A F : Type 0} (b : Bool) (r s : Result A F) (x : A) → cond b r s ≡ Ok x → ((b ≡ true) × (r ≡ Ok x)) ⊎ (s ≡ Ok x)
chosen true r s x e = inl (refl, e)
chosen false r s x e = inr e

abbrev done : {A F : Type 0} → A → Result A F
done x = Ok x

pub ok_is : {A F : Type 0} (x y : A) → done {A = A} {F = F} x ≡ done y → x ≡ y
ok_is x y e = cc

-- what a reader took from the front
pub record Takes (bytes text rest : List ℕ) : Type 0 where
  pub parts : bytes ≡ text ++ rest
  pub left : AreBytes rest

pub Takes-then : (a x b y c : List ℕ) → Takes a x b → Takes b y c → Takes a (x ++ y) c
Takes-then a x b y c p q = record { parts = p.parts ∙ ap (λ (t : List ℕ). x ++ t) q.parts ∙ sym (append_assoc x y c); left = q.left }

pub Takes-kind : (kind : ℕ) (bytes text rest : List ℕ) → Takes bytes text rest → Takes (kind ∷ bytes) (kind ∷ text) rest
Takes-kind kind bytes text rest t = record { parts = ap (λ (z : List ℕ). kind ∷ z) t.parts; left = t.left }

-- a number that was read, written again, gives the bytes that were read
pub number_takes : {F : Type 0} (short : F) (w : Width) (bytes : List ℕ) (x : ℕ × List ℕ) → AreBytes bytes → number_at short w bytes ≡ Ok x → Takes bytes (to_be_bytes w x.0) x.1 × (x.0 < 256 ^ byte_len w)
number_takes short w bytes x fits e =
    let g = unless_ok (ltb (length bytes) (byte_len w)) short (Ok (from_be_bytes w (take (byte_len w) bytes), drop (byte_len w) bytes)) x e in
    let long : byte_len w ≤ length bytes = ltb-false _ _ g.0 in
    subst (λ (y : ℕ × List ℕ). Takes bytes (to_be_bytes w y.0) y.1 × (y.0 < 256 ^ byte_len w)) (ok_is (from_be_bytes w (take (byte_len w) bytes), drop (byte_len w) bytes) x g.1)
    (record { parts = front_number-read w bytes long fits; left = AreBytes-drop (byte_len w) bytes fits }, front_number-lt w bytes long fits)

-- a number that was written is read again
pub number_again : {F : Type 0} (short : F) (w : Width) (n : ℕ) (rest : List ℕ) → n < 256 ^ byte_len w → number_at short w (to_be_bytes w n ++ rest) ≡ Ok (n, rest)
number_again short w n rest lt =
    let len = length-to_be_bytes w n in
    let long : ltb (length (to_be_bytes w n ++ rest)) (byte_len w) ≡ false = le-ltb _ _ (omega (arith, length-append (to_be_bytes w n) rest)) in
    rw (long, front_number-written w n rest lt, after_number-written w n rest) refl
