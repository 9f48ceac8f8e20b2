-- The rule holds at the opening.
use Rattle.std.proofs.Common.{◌≡◌, ℕ, zero, suc, ◌+◌, ◌<◌, ◌≤◌, List, [], ◌∷◌, map, length, get_or, set, replicate, sym, refl, ap, ◌∙◌, subst, arith, length-append}
use Rattle.std.proofs.lemmas.List.{get_or-replicate, length-replicate, length-map}
use mathlib.Core.Option.{some, some-injective, some-ne-none}
use lib.ListN.{get_elem?}
use Rattle.atomic_table.specs.Table.{opening}
use Rattle.atomic_table.proofs.Lists.{at_map, at_longer, at_last, at_index}
use Rattle.ag_front.proofs.Keeps.{set_case}
use Rattle.ag_model.specs.declared.record.Log.{Log}
use Rattle.ag_model.specs.Prefixes.{IsBlockEnd}
use Rattle.ag_model.specs.Proper.{IsProper}
use Rattle.ag_model.specs.Stripes.{Standing}
use Rattle.ag_model.proofs.Prefixes.{prefix_refl, prefix_empty}
use Rattle.ag_front.specs.declared.view.View.{View}
use Rattle.ag_front.specs.declared.rule.Slot.TheVariants.{Stripe, History}
use Rattle.ag_front.specs.Rule.{starting, turn_of, IsSound, StandsAt, Knows, FollowsRule}
use Rattle.ag_front.specs.Opens.{all_slots, OpeningWords, AreStripes, OpeningsOf, AppliedOf}

-- the place of a list that is there
pub place : {A : Type 0} (l : List A) (i : ℕ) → i < length l → (a : A) × (get_elem? l i ≡ some a)
place [] i h = absurd (omega arith)
place (x ∷ xs) zero h = (x, refl)
place (x ∷ xs) (suc i) h = place xs i (omega arith)

only_first : {A : Type 0} (a b : A) (j : ℕ) → get_elem? (a ∷ []) j ≡ some b → (j ≡ 0) × (a ≡ b)
only_first a b zero e = (refl, some-injective a b e)
only_first a b (suc j) e = absurd (some-ne-none b (sym e))

module _ {T : Type 0} (standing : T → Standing) where
  pub first_sound : (log : Log) (ts : List T) (count : ℕ) (xs ys : List ℕ) → IsProper count log → AreStripes standing log ts count → length xs ≡ 16 → length ys ≡ 16 → OpeningsOf standing ts 16 xs → AppliedOf standing ts 16 ys
      → IsSound (starting count log xs ys)
  first_sound log ts count xs ys proper all xsize ysize xis yis = let many = all.many in record {
    sized = record {
      floor_size = xsize;
      done_size = ysize;
      turn_size = length-replicate {A = ℕ} 17 0;
      takes_size = length-replicate {A = ℕ} 17 0;
      tries_size = length-replicate {A = ℕ} 17 0;
      loads_size = length-replicate {A = ℕ} 16 0;
    };
    proper = proper;
    first_old = prefix_empty count log proper;
    second_old = prefix_empty count log proper;
    dones = λ k l. let t = place ts k (omega arith) in let h = all.each k t.0 t.1 in subst (λ (n : ℕ). IsBlockEnd log n) (sym (yis k l t.0 t.1)) h.stands.applied;
    floors = λ k l _. let t = place ts k (omega arith) in subst (λ (n : ℕ). IsBlockEnd log n) (sym (xis k l t.0 t.1).0) (all.ends k t.0 t.1);
  }

  pub opens : (log : Log) (ts : List T) (count : ℕ) (ws xs ys : List ℕ) → IsProper count log → AreStripes standing log ts count
      → OpeningWords ws xs → length xs ≡ 16 → length ys ≡ 16 → OpeningsOf standing ts 16 xs → AppliedOf standing ts 16 ys
      → FollowsRule standing count (opening ws (all_slots ts log) (starting count log xs ys))
  opens log ts count ws xs ys proper all words xsize ysize xis yis = let many = all.many in let v : View = starting count log xs ys in
      let zero_turn : (k : ℕ) → k < 17 → turn_of ws k ≡ 0 = words.turns in
      let end_x : (k : ℕ) → k < 16 → IsBlockEnd log (get_or xs k 0) = λ k l. let t = place ts k (omega arith) in subst (λ (n : ℕ). IsBlockEnd log n) (sym (xis k l t.0 t.1).0) (all.ends k t.0 t.1) in
      let end_y : (k : ℕ) → k < 16 → IsBlockEnd log (get_or ys k 0) = λ k l. let t = place ts k (omega arith) in let h = all.each k t.0 t.1 in
      subst (λ (n : ℕ). IsBlockEnd log n) (sym (yis k l t.0 t.1)) h.stands.applied in
      let low : (k : ℕ) → k < 16 → get_or xs k 0 ≤ get_or ys k 0 = λ k l. let t = place ts k (omega arith) in let a = xis k l t.0 t.1 in let b = yis k l t.0 t.1 in let c = a.0 in let d = a.1 in omega arith in
      let sound : IsSound v = first_sound log ts count xs ys proper all xsize ysize xis yis in record {
        log = log;
        at = λ k. get_or ys k 0;
        holder = λ k. 0;
        writer = 0;
        laid = record {
          wide = words.wide;
          deep = length-map (all_slots ts log) some ∙ (length-append (map Stripe ts) (History log ∷ []) ∙ (let e = length-map ts Stripe in omega arith));
          proper = proper;
          ends = end_y;
          published_end = λ k l. subst (λ (n : ℕ). IsBlockEnd log n) (sym (words.first k l)) (end_x k l);
          published_low = λ k l. let a = words.first k l in let b = low k l in omega arith;
          turns_low = λ k l. let a = zero_turn k l in omega arith;
          stripe_home = λ k l _. let t = place ts k (omega arith) in let h = all.each k t.0 t.1 in (
            t.0,
            at_map some (all_slots ts log) k (Stripe t.0) (at_longer (map Stripe ts) (History log ∷ []) k (Stripe t.0) (at_map Stripe ts k t.0 t.1)),
            subst (λ (n : ℕ). StandsAt standing count log k n t.0) (sym (yis k l t.0 t.1)) h,
          );
          log_home = λ _. at_map some (all_slots ts log) 16 (History log) (at_last (map Stripe ts) (History log) 16 (length-map ts Stripe ∙ many));
        };
        each = λ j u e p. let o = only_first v u j e in subst (λ (x : View). Knows standing count ws log (λ k. get_or ys k 0) (λ k. 0) 0 j x) o.1 record {
          sound = sound;
          seen = prefix_refl count log proper;
          some_part = omega arith;
          counted = refl;
          floors = end_x;
          floors_low = λ k l. let a = words.first k l in omega arith;
          dones_low = λ k l. omega arith;
          turns_low = λ k l. let a : get_or (replicate 17 0) k 0 ≡ 0 = get_or-replicate 17 k 0 0 l in subst (λ (n : ℕ). n ≤ turn_of ws k) (sym a) (omega arith);
          author = λ _. (o.0, refl);
          held = λ k _ h. absurd (omega arith);
          held_stripe = λ k _ h. absurd (omega arith);
          held_log = λ h. absurd (omega arith);
        };
        spent = λ j u e p. let o = only_first v u j e in ap (λ (x : View). x.hand) (sym o.1);
        out = λ k l odd. let a = zero_turn k l in absurd (omega arith);
        written = (v, refl, refl, omega arith);
        shared = refl;
      }

-- one more stripe was asked for a number
pub asked_next : {T : Type 0} (P : ℕ → T → Type 0) (ts : List T) (n x : ℕ) (s : T) (xs : List ℕ) → n < length xs → n < length ts → s ≡ get_or ts n s → P x s
    → ((k : ℕ) → k < n → (t : T) → get_elem? ts k ≡ some t → P (get_or xs k 0) t) → (k : ℕ) → k < n + 1 → (t : T) → get_elem? ts k ≡ some t → P (get_or (set xs n x) k 0) t
asked_next P ts n x s xs inside there s_is is was k l t e = set_case (λ (y : ℕ). P y t) xs n x k inside
    (λ same. subst (P x) (some-injective s t (sym (at_index ts n s there s_is) ∙ (ap (λ (z : ℕ). get_elem? ts z) (sym same) ∙ e))) is)
    (λ other. was k (omega arith) t e)

pub words_done : (ws xs : List ℕ) (n : ℕ) → length ws ≡ 33 → 16 ≤ n → ((k : ℕ) → k < n → get_or ws k 0 ≡ get_or xs k 0) → ((k : ℕ) → 16 ≤ k → k < 33 → get_or ws k 0 ≡ 0) → OpeningWords ws xs
words_done ws xs n wide all first rest = record { wide = wide; first = λ k l. first k (omega arith); turns = λ k l. rest (16 + k) (omega arith) (omega arith) }
