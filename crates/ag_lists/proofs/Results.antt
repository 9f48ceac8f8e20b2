-- Results and options of a known kind.
use Rattle.std.proofs.Common.{◌≡◌, Bool, true, false, cond, Some, Result, Ok, Err, refl}
use Rattle.std.specs.Result.{IsErrOf, OnOk}

pub ok_is : {X E : Type 0} (x y : X) → ◌≡◌ {A = Result X E} (Ok x) (Ok y) → x ≡ y
ok_is x y e = cc

pub err_is : {X E : Type 0} {e f : E} → IsErrOf {T = X} (Err e) f → e ≡ f
err_is h = cc

-- a fault is no answer
pub not_ok : {X E : Type 0} (e : E) (x : X) → ◌≡◌ {A = Result X E} (Err e) (Ok x) → ⊥
not_ok e x h = cc

pub always_on_ok : {X E : Type 0} {P : Type 0} (r : Result X E) → P → OnOk r P
always_on_ok (Ok x) p = p
always_on_ok (Err e) p = tt

-- a test that met no fault
pub unless_ok : {X E : Type 0} (b : Bool) (d : E) (r : Result X E) (y : X) → cond b (Err d) r ≡ Ok y → (b ≡ false) × (r ≡ Ok y)
unless_ok true d r y e = absurd cc
unless_ok false d r y e = (refl, e)

pub when_ok : {X E : Type 0} (b : Bool) (d : E) (r : Result X E) (y : X) → cond b r (Err d) ≡ Ok y → (b ≡ true) × (r ≡ Ok y)
when_ok true d r y e = (refl, e)
when_ok false d r y e = absurd cc

pub some_is : {X : Type 0} (x y : X) → Some x ≡ Some y → x ≡ y
some_is x y e = cc
