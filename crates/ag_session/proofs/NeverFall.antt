-- No session goes back, whichever replicas it asks.
use Rattle.std.proofs.Common.{◌≡◌, ℕ, ◌≤◌, List, [], ◌∷◌, ◌++◌, map, Bool, true, false, refl, arith, Option, Some, None, Result, Ok, Err, IfOk}
use Rattle.std.specs.Prelude.{◌==◌, ◌&&◌, nat_lt, if◌then◌else◌}
use Rattle.std.specs.List.{AllByRecursion}
use Rattle.std.proofs.lemmas.Bool.{ltb-false}
use Rattle.ag_model.specs.declared.config.Token.{Token}
use Rattle.ag_rules.specs.Checks.{token_or_none, is_of_older_term, is_behind}
use Rattle.ag_rules.specs.SessionLaw.{Reaches, NotBelow, NeverFalls}
use Rattle.ag_session.specs.declared.session.SessionFault.{SessionFault}
use Rattle.ag_session.specs.Checked.{checked, checked_seen}
use Rattle.ag_session.specs.Answered.{answered, given, token_left, seen_by}

-- what holds of both sides of a choice holds of the choice
if_has : {A : Type 0} (P : A → Type 0) (b : Bool) (x y : A) → (b ≡ true → P x) → (b ≡ false → P y) → P (if b then x else y)
if_has P true x y p q = p refl
if_has P false x y p q = q refl

reaches_refl : (t : Token) → Reaches t t
reaches_refl t = (omega arith, λ _. omega arith)

reaches_trans : (a b c : Token) → Reaches a b → Reaches b c → Reaches a c
reaches_trans a b c p q = (
  omega (arith, p.0, q.0),
  λ e.
      let ab : a.term ≡ b.term = omega (arith, p.0, q.0) in
      let bc : b.term ≡ c.term = omega (arith, p.0, q.0) in
      omega (arith, p.1 ab, q.1 bc),
)

-- in the same term the LSN isn't below
not_behind : (same low : Bool) (Q : Type 0) → (same && low) ≡ false → same ≡ true → (low ≡ false → Q) → Q
not_behind true low Q f e q = q f
not_behind false low Q f e q = absurd (cc)

-- a check passes only forward
seen_reaches : (seen : Token) (term lsn : ℕ) → IfOk (checked_seen seen term lsn) (Reaches seen)
seen_reaches seen term lsn =
    if_has (λ (r : Result Token SessionFault). IfOk r (Reaches seen)) (is_of_older_term seen term) _ _ (λ _. tt)
    (λ new. if_has (λ (r : Result Token SessionFault). IfOk r (Reaches seen)) (is_behind seen term lsn) _ _ (λ _. tt)
    (λ forward. (
      ltb-false term seen.term new,
      λ e. not_behind (term == seen.term) (nat_lt lsn seen.lsn) (seen.lsn ≤ lsn) forward (grind arith) (ltb-false lsn seen.lsn),
    )))

check_reaches : (t : Option Token) (term lsn : ℕ) → IfOk (checked t term lsn) (Reaches (token_or_none t))
check_reaches None term lsn = (omega arith, λ _. omega arith)
check_reaches (Some seen) term lsn = seen_reaches seen term lsn

-- the token goes forward, whatever is answered
left_reaches : (t : Option Token) (r : Result Token SessionFault) → IfOk r (Reaches (token_or_none t)) → Reaches (token_or_none t) (token_or_none (token_left t r))
left_reaches t (Ok token) p = p
left_reaches t (Err fault) p = reaches_refl (token_or_none t)

all_map : {A : Type 0} (P Q : A → Type 0) → ((x : A) → P x → Q x) → (xs : List A) → AllByRecursion P xs → AllByRecursion Q xs
all_map P Q f [] p = tt
all_map P Q f (x ∷ xs) p = (f x p.0, all_map P Q f xs p.1)

-- what is answered from here on lies above the token that was left, and so above the one before
above_given : (t : Option Token) (r : Result Token SessionFault) (rest : List Token) → Reaches (token_or_none t) (token_or_none (token_left t r)) → AllByRecursion (Reaches (token_or_none (token_left t r))) rest → AllByRecursion (Reaches (token_or_none t)) (given r ++ rest)
above_given t (Ok token) rest p q = (p, all_map (Reaches token) (Reaches (token_or_none t)) (λ x h. reaches_trans (token_or_none t) token x p h) rest q)
above_given t (Err fault) rest p q = q

-- all that a session is answered lies above its token
pub above_token : (t : Option Token) (asked : List Token) → AllByRecursion (Reaches (token_or_none t)) (answered t asked)
above_token t [] = tt
above_token t (a ∷ asked) =
    above_given t (checked t a.term a.lsn) (answered (token_left t (checked t a.term a.lsn)) asked)
    (left_reaches t (checked t a.term a.lsn) (check_reaches t a.term a.lsn))
    (above_token (token_left t (checked t a.term a.lsn)) asked)

seen_not_below : (session : ℕ) (a : Token) (rest : List Token) → AllByRecursion (Reaches a) rest → AllByRecursion (NotBelow (seen_by session a)) (map (seen_by session) rest)
seen_not_below session a [] p = tt
seen_not_below session a (x ∷ rest) p = (λ _. p.0, seen_not_below session a rest p.1)

falls_given : (session : ℕ) (t : Option Token) (r : Result Token SessionFault) (rest : List Token) → AllByRecursion (Reaches (token_or_none (token_left t r))) rest → NeverFalls (map (seen_by session) rest) → NeverFalls (map (seen_by session) (given r ++ rest))
falls_given session t (Ok token) rest p f = (seen_not_below session token rest p, f)
falls_given session t (Err fault) rest p f = f

-- and never falls
pub never_falls : (session : ℕ) (t : Option Token) (asked : List Token) → NeverFalls (map (seen_by session) (answered t asked))
never_falls session t [] = tt
never_falls session t (a ∷ asked) =
    falls_given session t (checked t a.term a.lsn) (answered (token_left t (checked t a.term a.lsn)) asked)
    (above_token (token_left t (checked t a.term a.lsn)) asked)
    (never_falls session (token_left t (checked t a.term a.lsn)) asked)
