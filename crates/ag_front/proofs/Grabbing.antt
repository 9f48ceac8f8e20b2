-- The two tries of a grab.
use Rattle.std.proofs.Common.{◌≡◌, ◌≢◌, ℕ, zero, suc, ◌+◌, ◌%◌, ◌<◌, ◌≤◌, inl, inr, List, [], ◌∷◌, length, get_or, set, sym, refl, ap, ◌∙◌, subst, arith, length-set, get_or-set_same}
use mathlib.Core.Logic.{dite}
use native.Mathlib.Decide.{ℕ_discrete}
use Rattle.atomic_table.specs.Table.{Me}
use Rattle.ag_model.specs.Stripes.{Standing}
use Rattle.ag_front.specs.declared.view.View.{View}
use Rattle.ag_front.specs.declared.rule.Slot.{Slot}
use Rattle.ag_front.specs.declared.rule.Slot.TheVariants.{Stripe}
use Rattle.ag_front.specs.Slots.{counted_up, tried, with_stripe, Missed, HasStripe, Took, IsBusy}

pub set_twice : {A : Type 0} (xs : List A) (k : ℕ) (a b : A) → set (set xs k a) k b ≡ set xs k b
set_twice [] k a b = refl
set_twice (x ∷ xs) zero a b = refl
set_twice (x ∷ xs) (suc k) a b = ap (λ ys. x ∷ ys) (set_twice xs k a b)

module _ {T : Type 0} (standing : T → Standing) where
  abbrev M : Type 0
  M = Me (Slot T) View

  pub took_second : (k n : ℕ) (m m1 m' : M) → n % 2 ≡ 0 → m1 ≡ (tried m.0 k n, m.1) → HasStripe standing k m1 (set m1.0.turn k (n + 1)) (counted_up m1.0.tries k) m' → Took standing k (n + 1) m m'
  took_second k n m m1 m' even is = subst (λ (x : M). HasStripe standing k x (set x.0.turn k (n + 1)) (counted_up x.0.tries k) m' → Took standing k (n + 1) m m') (sym is)
      (λ h. record {
        tries = counted_up (counted_up m.0.tries k) k;
        has = record {
          seen = h.seen;
          stripe = h.stripe;
          is = h.is ∙ (λ i. (with_stripe m.0 k h.seen (standing h.stripe).applied (set_twice m.0.turn k n (n + 1) i) (counted_up (counted_up m.0.tries k) k), (k, Stripe h.stripe) ∷ m.1));
          more = h.more;
          stands = h.stands;
          floor = h.floor;
          done = h.done;
          sound = h.sound;
        };
        odd = omega arith;
      })

  pub took_turn : (k n : ℕ) (m m' : M) → k < 17 → Took standing k n m m' → n ≡ get_or m'.0.turn k 0
  took_turn k n m m' small t = let h = t.has in let is : m'.0.turn ≡ set m.0.turn k n = λ i. ((h.is i).0).turn in let z = h.sound.sized.turn_size in let l = length-set m.0.turn k n in let q = ap length is in
      sym (ap (λ (xs : List ℕ). get_or xs k 0) is ∙ get_or-set_same m.0.turn k n 0 (omega arith))

module _ {T : Type 0} where
  pub missed_turn : (k n : ℕ) (m m' : Me (Slot T) View) → k < 17 → Missed k m n m' → n ≡ get_or m'.0.turn k 0
  missed_turn k n m m' small t = let is : m'.0.turn ≡ set m.0.turn k n = λ i. ((t.0 i).0).turn in let z = t.2.sized.turn_size in let l = length-set m.0.turn k n in let q = ap length is in
      sym (ap (λ (xs : List ℕ). get_or xs k 0) is ∙ get_or-set_same m.0.turn k n 0 (omega arith))

  missed_tries : (k n : ℕ) (m m' : Me (Slot T) View) → k < 17 → Missed k m n m' → get_or m.0.tries k 0 + 1 ≡ get_or m'.0.tries k 0
  missed_tries k n m m' small t = let is : m'.0.tries ≡ counted_up m.0.tries k = λ i. ((t.0 i).0).tries in let z = t.2.sized.tries_size in let l = length-set m.0.tries k (get_or m.0.tries k 0 + 1) in let q = ap length is in
      sym (ap (λ (xs : List ℕ). get_or xs k 0) is ∙ get_or-set_same m.0.tries k (get_or m.0.tries k 0 + 1) 0 (omega arith))

  only_these : (k n c : ℕ) (m m' : Me (Slot T) View) → m' ≡ (record m.0 { turn = set m.0.turn k n; tries = set m.0.tries k c }, m.1) → n ≡ get_or m'.0.turn k 0 → c ≡ get_or m'.0.tries k 0
      → m'.0 ≡ record m.0 { turn = set m.0.turn k (get_or m'.0.turn k 0); tries = set m.0.tries k (get_or m'.0.tries k 0) }
  only_these k n c m m' is a b = (λ i. (is i).0) ∙ (λ i. record m.0 { turn = set m.0.turn k (a i); tries = set m.0.tries k (b i) })

  pub busy_twice : (k start n o : ℕ) (m m1 m' : Me (Slot T) View) → k < 17 → get_or m.0.turn k 0 ≤ start → start % 2 ≡ 0 → Missed k m n m1 → n ≢ start → start ≤ n + 1 → n % 2 ≡ 0 → Missed k m1 o m' → o ≢ n → IsBusy k m m'
  busy_twice k start n o m m1 m' small low seven t other near neven u again = let a = missed_turn k n m m1 small t in let b = missed_tries k n m m1 small t in let up = t.1 in
      let a' = missed_turn k o m1 m' small u in let b' = missed_tries k o m1 m' small u in let up' = u.1 in
      let turn1 : m1.0.turn ≡ set m.0.turn k n = λ i. ((t.0 i).0).turn in let tries1 : m1.0.tries ≡ counted_up m.0.tries k = λ i. ((t.0 i).0).tries in
      let is : m' ≡ (record m.0 { turn = set m.0.turn k o; tries = set m.0.tries k (get_or m1.0.tries k 0 + 1) }, m.1) =
      u.0 ∙ (λ i. (record ((t.0 i).0) { turn = set (turn1 i) k o; tries = set (tries1 i) k (get_or m1.0.tries k 0 + 1) }, (t.0 i).1))
      ∙ (λ i. (record m.0 { turn = set_twice m.0.turn k n o i; tries = set_twice m.0.tries k (get_or m.0.tries k 0 + 1) (get_or m1.0.tries k 0 + 1) i }, m.1)) in record {
        in_hand = λ i. (is i).1;
        only = only_these k o (get_or m1.0.tries k 0 + 1) m m' is a' b';
        why = dite (ℕ_discrete (o % 2) 1) (λ odd. inl (ap (λ (x : ℕ). x % 2) (sym a') ∙ odd, omega arith, omega arith))
            (λ even. let z : o % 2 ≡ 0 = omega arith in inr (inl (ap (λ (x : ℕ). x % 2) (sym a') ∙ z, omega arith, omega arith)));
      }
