-- A pass with all parts closes the front.
use Rattle.std.proofs.Common.{◌≡◌, ◌≢◌, ℕ, zero, suc, ◌+◌, ◌%◌, ◌<◌, ◌≤◌, ◌⊎◌, ⊎_elim, inl, inr, Bool, true, false, List, [], ◌∷◌, ◌++◌, length, get_or, set, sym, refl, ap, ◌∙◌, subst, arith, length-append, get_or-set_other}
use Rattle.std.specs.List.{sum_by}
use Rattle.std.proofs.lemmas.List.Sums.{sum_by-set, sum_by-cons}
use mathlib.Core.Logic.{dite}
use mathlib.Core.Option.{some, some-injective, some-ne-none}
use native.Mathlib.Decide.{ℕ_discrete}
use lib.ListN.{get_elem?}
use Rattle.atomic_table.specs.Table.{State, Final, Seen}
use Rattle.atomic_table.proofs.Lists.{set_else}
use Rattle.ag_model.specs.declared.record.Log.{Log}
use Rattle.ag_model.specs.Stripes.{Standing, StandsFor}
use Rattle.ag_front.specs.declared.view.View.{View}
use Rattle.ag_front.specs.declared.rule.Slot.{Slot}
use Rattle.ag_front.specs.declared.rule.Slot.TheVariants.{Stripe, History}
use Rattle.ag_front.specs.Rule.{turn_of, FollowsRule}
use Rattle.ag_front.specs.Steps.{spent_view}
use Rattle.ag_front.specs.Closes.{IsStripe, AllHome, ClosedStripes}
use Rattle.ag_front.proofs.Keeps.{there}

one_part : (f : View → ℕ) (vs : List View) (j : ℕ) (u : View) → get_elem? vs j ≡ some u → f u ≤ sum_by f vs
one_part f [] j u e = absurd (some-ne-none u (sym e))
one_part f (v ∷ vs) zero u e = let same : f v ≡ f u = ap f (some-injective v u e) in let c = sum_by-cons f v vs in omega arith
one_part f (v ∷ vs) (suc j) u e = let h = one_part f vs j u e in let c = sum_by-cons f v vs in omega arith

-- where one view has all parts, the others have none
others_none : (vs : List View) (id j : ℕ) (v u : View) (n : ℕ) → get_elem? vs id ≡ some v → get_elem? vs j ≡ some u → j ≢ id → sum_by (λ (x : View). x.parts) vs ≡ n → v.parts ≡ n → u.parts ≡ 0
others_none vs id j v u n here at apart all mine = let t = there vs id v here in let e = sum_by-set (λ (x : View). x.parts) vs id spent_view v t.0 in let g : (get_or vs id v).parts ≡ v.parts = ap (λ (x : View). x.parts) (t.1 v) in
    let h = one_part (λ (x : View). x.parts) (set vs id spent_view) j u (set_else vs id j spent_view apart ∙ at) in omega arith

-- the place of the last is the length
pub snoc_at : {A : Type 0} (l : List A) (a b : A) (j n : ℕ) → length l ≡ n → get_elem? (l ++ a ∷ []) j ≡ some b → (get_elem? l j ≡ some b) ⊎ ((j ≡ n) × (a ≡ b))
snoc_at [] a b zero n len e = inr (len, some-injective a b e)
snoc_at [] a b (suc j) n len e = absurd (some-ne-none b (sym e))
snoc_at (x ∷ xs) a b zero n len e = inl e
snoc_at (x ∷ xs) a b (suc j) zero len e = absurd (omega arith)
snoc_at (x ∷ xs) a b (suc j) (suc n) len e = ⊎_elim inl (λ q. inr (ap suc q.0, q.1)) (snoc_at xs a b j n (omega arith) e)

module _ {T : Type 0} (standing : T → Standing) (count : ℕ) where
  abbrev Rule : State (Slot T) View → Type 0
  Rule = FollowsRule standing count

  all_in : (s : State (Slot T) View) (r : Rule s) (id : ℕ) (v : View) → get_elem? s.views id ≡ some v → v.parts ≡ 4096 → v.hand ≡ 0 → (k : ℕ) → k < 17 → turn_of s.words k % 2 ≡ 0
  all_in s r id v here all free k small = dite (ℕ_discrete (turn_of s.words k % 2) 1)
      (λ odd. let o = r.out k small odd in let h = o.2 in dite (ℕ_discrete (r.holder k) id)
      (λ is. let same : v ≡ o.0 = some-injective v o.0 (sym here ∙ (ap (λ (x : ℕ). get_elem? s.views x) (sym is) ∙ o.1)) in let q : v.hand ≡ o.0.hand = ap (λ (x : View). x.hand) same in absurd (omega arith))
      (λ isnt. let none_left = others_none s.views id (r.holder k) v o.0 4096 here o.1 isnt r.shared all in let q = r.spent (r.holder k) o.0 o.1 none_left in absurd (omega arith)))
      (λ not. omega arith)

  whole_log : (s : State (Slot T) View) (r : Rule s) (id : ℕ) (v : View) → get_elem? s.views id ≡ some v → v.parts ≡ 4096 → v.seen ≡ r.log
  whole_log s r id v here all = let w = r.written in let p = w.3 in dite (ℕ_discrete r.writer id)
      (λ is. let same : v ≡ w.0 = some-injective v w.0 (sym here ∙ (ap (λ (x : ℕ). get_elem? s.views x) (sym is) ∙ w.1)) in
      ((r.each id v here (omega arith)).author (ap (λ (x : View). x.author) same ∙ w.2)).1)
      (λ isnt. let none_left = others_none s.views id r.writer v w.0 4096 here w.1 isnt r.shared all in absurd (omega arith))

  pub all_home : (id : ℕ) (v : View) (ws : List ℕ) (xs : List (Slot T)) → v.parts ≡ 4096 → v.hand ≡ 0 → Final (Seen Rule id v) ws xs → AllHome standing v xs
  all_home id v ws xs all free f = let s = f.0 in let r = f.1.0 in let here = f.1.1 in let home = f.4 in let whole = whole_log s r id v here all in let kn = r.each id v here (omega arith) in record {
    stripes = λ k l. let h = r.laid.stripe_home k l (all_in s r id v here all free k (omega arith)) in let st = h.2 in let at = st.at in let a = kn.floors_low k l in let b = r.laid.published_low k l in (
      h.0,
      home k (Stripe h.0) h.1,
      record {
        stands = record {
          numbered = st.numbered;
          paged = st.paged ∙ sym kn.counted;
          at = refl;
          stands = subst (StandsFor (standing h.0)) (sym whole) st.stands;
        };
        floor = omega arith;
      },
    );
    log = home 16 (History r.log) (r.laid.log_home (all_in s r id v here all free 16 (omega arith))) ∙ ap (λ (x : Log). some (History x)) (sym whole);
  }

  pub closed_none : (v : View) → ClosedStripes standing v [] 0
  closed_none v = record { many = refl; each = λ k t e. absurd (some-ne-none t (sym e)) }

  pub closed_next : (v : View) (xs : List (Slot T)) (ts : List T) (n : ℕ) (t : T) (x : Slot T) → n < 16 → AllHome standing v xs → get_elem? xs n ≡ some x → x ≡ Stripe t → ClosedStripes standing v ts n
      → ClosedStripes standing v (ts ++ t ∷ []) (n + 1)
  closed_next v xs ts n t x small all at is was = let many = was.many in let h = all.stripes n small in
      let same : Stripe h.0 ≡ Stripe t = some-injective (Stripe h.0) (Stripe t) (sym h.1 ∙ (at ∙ ap some is)) in let is_t : h.0 ≡ t = cc same in record {
        many = length-append ts (t ∷ []) ∙ (let q = many in omega arith);
        each = λ k u e. ⊎_elim (was.each k u) (λ (q : (k ≡ n) × (t ≡ u)). subst (λ (y : ℕ × T). IsStripe standing v y.0 y.1) (λ i. (sym q.0 i, (is_t ∙ q.1) i)) h.2) (snoc_at ts t u k n many e);
      }

pub emptied_here : (fs : List Bool) (k : ℕ) → get_or (set fs k false) k false ≡ false
emptied_here [] k = refl
emptied_here (f ∷ fs) zero = refl
emptied_here (f ∷ fs) (suc k) = emptied_here fs k

pub emptied : (fs gs : List Bool) (k : ℕ) → gs ≡ set fs k false → ((j : ℕ) → j < k → get_or fs j false ≡ false) → (j : ℕ) → j < k + 1 → get_or gs j false ≡ false
emptied fs gs k is before j l = subst (λ (xs : List Bool). get_or xs j false ≡ false) (sym is) (dite (ℕ_discrete j k) (λ e. ap (λ (x : ℕ). get_or (set fs k false) x false) e ∙ emptied_here fs k) (λ other. get_or-set_other fs k j false false other ∙ before j (omega arith)))

pub still_full : (fs gs : List Bool) (k n : ℕ) → gs ≡ set fs k false → ((j : ℕ) → k ≤ j → j < n → get_or fs j false ≡ true) → (j : ℕ) → k + 1 ≤ j → j < n → get_or gs j false ≡ true
still_full fs gs k n is after j l m = subst (λ (xs : List Bool). get_or xs j false ≡ true) (sym is) (get_or-set_other fs k j false false (λ e. omega arith) ∙ after j (omega arith) m)

pub same_slot : {A : Type 0} (xs : List A) (k : ℕ) (a b : A) → get_elem? xs k ≡ some a → get_elem? xs k ≡ some b → b ≡ a
same_slot xs k a b p q = some-injective b a (sym q ∙ p)
