-- What each record of a log has, where the log goes on or is cut.
use Rattle.std.proofs.Common.{◌≡◌, ℕ, ◌+◌, List, [], ◌∷◌, ◌++◌, length, inl, inr, refl, sym, ap, ◌∙◌, subst, append_assoc, length-append}
use Rattle.std.specs.Prelude.{◌⊎◌}
use Rattle.std.specs.List.{AllByRecursion, enumerate_from}
use Rattle.std.proofs.lemmas.List.{append-nil}
use Rattle.ag_model.specs.declared.record.Record.{Record}
use Rattle.ag_model.specs.Page.{numbered}
use Rattle.ag_laws.specs.Prefix.{IsPrefixOf}
use Rattle.ag_law_proper.specs.Places.{EachPlace}

nil_cons : (front : List Record) (r : Record) (back : List Record) → (let nil : List Record = [] in nil ≡ front ++ r ∷ back) → ⊥
nil_cons [] r back e = cc
nil_cons (x ∷ front) r back e = cc

pub each_none : (Q : List Record → Record → List Record → Type 0) → EachPlace Q []
each_none Q front r back e = absurd (nil_cons front r back e)

-- a beginning, where less may come after a record
pub each_shorter : (Q : List Record → Record → List Record → Type 0) → ((front : List Record) (r : Record) (back more : List Record) → Q front r (back ++ more) → Q front r back) → (a b : List Record) → IsPrefixOf a b → EachPlace Q b → EachPlace Q a
each_shorter Q less a b p all front r back e = less front r back p.0 (all front r (back ++ p.0) (sym p.1 ∙ ap (λ l. l ++ p.0) e ∙ append_assoc front (r ∷ back) p.0))

-- a place in a log that goes on: an old one, or a new one
pub record OldPlace (log new front : List Record) (r : Record) (back : List Record) : Type 0 where
  pub old : List Record
  pub place : log ≡ front ++ r ∷ old
  pub back_is : back ≡ old ++ new

pub record NewPlace (log new front : List Record) (r : Record) (back : List Record) : Type 0 where
  pub first : List Record
  pub front_is : front ≡ log ++ first
  pub place : new ≡ first ++ r ∷ back

pub place_in : (log new front : List Record) (r : Record) (back : List Record) → log ++ new ≡ front ++ r ∷ back → OldPlace log new front r back ⊎ NewPlace log new front r back
place_in [] new front r back e = inr (record { first = front; front_is = refl; place = e })
place_in (x ∷ log) new [] r back e =
    let same : x ≡ r = cc in
    let rest : log ++ new ≡ back = cc in
    inl (record { old = log; place = ap (λ y. y ∷ log) same; back_is = sym rest })
place_in (x ∷ log) new (y ∷ front) r back e =
    let same : x ≡ y = cc in
    let rest : log ++ new ≡ front ++ r ∷ back = cc in
    again same (place_in log new front r back rest)
  where
    again : x ≡ y → OldPlace log new front r back ⊎ NewPlace log new front r back → OldPlace (x ∷ log) new (y ∷ front) r back ⊎ NewPlace (x ∷ log) new (y ∷ front) r back
    again same (inl o) = inl (record { old = o.old; place = ap (λ l. x ∷ l) o.place ∙ ap (λ z. z ∷ front ++ r ∷ o.old) same; back_is = o.back_is })
    again same (inr n) = inr (record { first = n.first; front_is = ap (λ l. y ∷ l) n.front_is ∙ ap (λ z. z ∷ log ++ n.first) (sym same); place = n.place })

-- a log that goes on
pub each_append : (Q : List Record → Record → List Record → Type 0) (log new : List Record) → ((front : List Record) (r : Record) (back : List Record) → log ≡ front ++ r ∷ back → Q front r back → Q front r (back ++ new))
    → ((first : List Record) (r : Record) (back : List Record) → new ≡ first ++ r ∷ back → Q (log ++ first) r back) → EachPlace Q log → EachPlace Q (log ++ new)
each_append Q log new old next all front r back e = by_place (place_in log new front r back e)
  where
    by_place : OldPlace log new front r back ⊎ NewPlace log new front r back → Q front r back
    by_place (inl o) = subst (Q front r) (sym o.back_is) (old front r o.old o.place (all front r o.old o.place))
    by_place (inr n) = subst (λ (f : List Record). Q f r back) (sym n.front_is) (next n.first r back n.place)

-- a log with one record more
pub each_one : (Q : List Record → Record → List Record → Type 0) (log : List Record) (x : Record) → ((front : List Record) (r : Record) (back : List Record) → log ≡ front ++ r ∷ back → Q front r back → Q front r (back ++ x ∷ [])) → Q log x [] → EachPlace Q log → EachPlace Q (log ++ x ∷ [])
each_one Q log x old next all = each_append Q log (x ∷ []) old here all
  where
    here : (first : List Record) (r : Record) (back : List Record) → x ∷ [] ≡ first ++ r ∷ back → Q (log ++ first) r back
    here [] r back e =
        let same : x ≡ r = cc in
        let none : [] ≡ back = cc in
        subst (λ (f : List Record). Q f r back) (sym (append-nil log)) (subst (λ (b : List Record). Q log r b) none (subst (λ (y : Record). Q log y []) same next))
    here (y ∷ first) r back e =
        let none : (let nil : List Record = [] in nil ≡ first ++ r ∷ back) = cc in
        absurd (nil_cons first r back none)

-- the same by the numbers of the records
pub each_numbered : (P : ℕ → Record → Type 0) (log : List Record) → EachPlace (λ front r back. P (length front + 1) r) log → AllByRecursion (λ r. P r.0 r.1) (numbered log)
each_numbered P log all = from [] log refl
  where
    from : (front rest : List Record) → log ≡ front ++ rest → AllByRecursion (λ (r : ℕ × Record). P r.0 r.1) (enumerate_from (length front + 1) rest)
    from front [] e = tt
    from front (r ∷ rest) e = (
      all front r rest e,
      subst (λ (n : ℕ). AllByRecursion (λ (r : ℕ × Record). P r.0 r.1) (enumerate_from n rest)) (ap (λ n. n + 1) (length-append front (r ∷ []))) (from (front ++ r ∷ []) rest (e ∙ sym (append_assoc front (r ∷ []) rest))),
    )
