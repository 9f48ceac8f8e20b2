-- How the giving back of a slot, and the taking of the log, keep the rule.
use Rattle.std.proofs.Common.{◌≡◌, ◌≢◌, ℕ, ◌+◌, ◌-◌, ◌%◌, ◌^◌, ◌<◌, ◌≤◌, ◌⊎◌, ⊎_elim, inl, inr, eqb, true, List, [], ◌∷◌, length, get_or, set, sym, refl, ap, ◌∙◌, subst, arith, length-set, eq-eqb, ne_eqb}
use mathlib.Core.Logic.{dite}
use mathlib.Core.Option.{none, some, some-injective}
use native.Mathlib.Decide.{ℕ_discrete}
use lib.ListN.{get_elem?}
use prog.Atomic.{either}
use Rattle.atomic_table.specs.Table.{State, Me, step, keeps, takes, gives, stepped, Allows}
use Rattle.atomic_table.proofs.Lists.{set_here, set_else}
use Rattle.ag_model.specs.declared.record.Log.{Log}
use Rattle.ag_model.specs.Prefixes.{IsPrefix, IsBlockEnd}
use Rattle.ag_model.specs.declared.record.Record.{Record}
use Rattle.ag_model.specs.Blocks.{with_block}
use Rattle.ag_model.specs.Proper.{IsProper}
use Rattle.ag_model.specs.Stripes.{Standing}
use Rattle.ag_model.proofs.Prefixes.{prefix_trans, prefix_refl, end_later, end_earlier, end_low, stands_later}
use Rattle.ag_model.proofs.ProperPrefixes.{prefix_more}
use Rattle.ag_front.specs.declared.view.View.{View}
use Rattle.ag_front.specs.declared.rule.Slot.{Slot}
use Rattle.ag_front.specs.declared.rule.Slot.TheVariants.{Stripe, History}
use Rattle.ag_front.specs.Rule.{published, turn_of, IsSoundOf, IsSound, StandsAt, Knows, FollowsRule}
use Rattle.ag_front.specs.Slots.{counted_up, tried, with_log, log_tried, log_given, stripe_given, MayGive}
use Rattle.ag_front.proofs.Keeps.{set_case, rebuild, reseated, as_it_was}
use Rattle.ag_front.proofs.Taking.{put, put_here, put_else, turn_words, missed, taken}

abbrev pub first_of' : {A : Type 0} → A → List A → A
first_of' d [] = d
first_of' d (x ∷ xs) = x

-- one slot in hand is one slot
pub one_slot : {A : Type 0} (k k' : ℕ) (x x' : A) → ◌≡◌ {A = List (ℕ × A)} ((k, x) ∷ []) ((k', x') ∷ []) → (k ≡ k') × (x ≡ x')
one_slot {A} k k' x x' e = (ap (λ (l : List (ℕ × A)). (first_of' (k, x) l).0) e, ap (λ (l : List (ℕ × A)). (first_of' (k, x) l).1) e)

module _ {T : Type 0} (standing : T → Standing) (count : ℕ) where
  abbrev St : Type 0
  St = State (Slot T) View

  abbrev M : Type 0
  M = Me (Slot T) View

  abbrev Rule : St → Type 0
  Rule = FollowsRule standing count

  abbrev K : List ℕ → Log → (ℕ → ℕ) → (ℕ → ℕ) → ℕ → ℕ → View → Type 0
  K = Knows standing count

  -- who holds a slot other than k
  others_out : (s : St) (r : Rule s) (id : ℕ) (v w : View) (k n : ℕ) → k < 17 → get_elem? s.views id ≡ some v → v.hand ≡ k + 1 → n % 2 ≡ 0
      → (j : ℕ) → j < 17 → turn_of (set s.words (16 + k) n) j % 2 ≡ 1 → (x : View) × (get_elem? (set s.views id w) (r.holder j) ≡ some x) × (x.hand ≡ j + 1)
  others_out s r id v w k n small here held even j l odd = let t = turn_words standing count s.words k n r.laid.wide small in dite (ℕ_discrete j k)
      (λ is. let f : turn_of (set s.words (16 + k) n) j ≡ turn_of (set s.words (16 + k) n) k = ap (turn_of (set s.words (16 + k) n)) is in let g = t.0 in absurd (omega arith))
      (λ not. let o = r.out j l (ap (λ (x : ℕ). x % 2) (sym (t.1 j not)) ∙ odd) in let h = o.2 in
      let apart : r.holder j ≢ id = λ e. let same : v ≡ o.0 = some-injective v o.0 (sym here ∙ (ap (λ (x : ℕ). get_elem? s.views x) (sym e) ∙ o.1)) in let q : v.hand ≡ o.0.hand = ap (λ (x : View). x.hand) same in not (omega arith) in
      (o.0, set_else s.views id (r.holder j) w apart ∙ o.1, h))

  -- turn words that only rise
  turns_up : (words xs : List ℕ) (k n : ℕ) → length words ≡ 33 → k < 17 → turn_of words k ≤ n → ((i : ℕ) → i < 17 → get_or xs i 0 ≤ turn_of words i) → (i : ℕ) → i < 17 → get_or xs i 0 ≤ turn_of (set words (16 + k) n) i
  turns_up words xs k n wide small up low i l = let t = turn_words standing count words k n wide small in let g = t.0 in let b = low i l in dite (ℕ_discrete i k)
      (λ e. let f : turn_of (set words (16 + k) n) i ≡ turn_of (set words (16 + k) n) k = ap (turn_of (set words (16 + k) n)) e in let h : turn_of words i ≡ turn_of words k = ap (turn_of words) e in omega arith)
      (λ not. let a = t.1 i not in omega arith)

  turn_set : (words xs : List ℕ) (k n : ℕ) → length words ≡ 33 → length xs ≡ 17 → k < 17 → turn_of words k ≤ n → ((i : ℕ) → i < 17 → get_or xs i 0 ≤ turn_of words i) → (i : ℕ) → i < 17 → get_or (set xs k n) i 0 ≤ turn_of (set words (16 + k) n) i
  turn_set words xs k n wide long small up low i l = let t = turn_words standing count words k n wide small in let g = t.0 in
      set_case (λ (x : ℕ). x ≤ turn_of (set words (16 + k) n) i) xs k n i (omega arith) (λ e. let f : turn_of (set words (16 + k) n) i ≡ turn_of (set words (16 + k) n) k = ap (turn_of (set words (16 + k) n)) e in omega arith) (λ _. turns_up words xs k n wide small up low i l)

  -- a view stays sound where a stripe was given back
  stripe_sound : (v : View) (k n a : ℕ) (t : T) → k < 16 → IsSound v → StandsAt standing v.pages v.seen k a t → IsSound (record v { done = set v.done k a; turn = set v.turn k n; hand = 0 })
  stripe_sound v k n a t small ok st = let z = ok.sized in let zd = z.done_size in
      let end_seen : IsBlockEnd v.seen a = subst (λ (x : ℕ). IsBlockEnd v.seen x) st.at st.stands.applied in record {
        sized = record {
          floor_size = z.floor_size;
          done_size = length-set v.done k a ∙ z.done_size;
          turn_size = length-set v.turn k n ∙ z.turn_size;
          takes_size = z.takes_size;
          tries_size = z.tries_size;
          loads_size = z.loads_size;
        };
        proper = ok.proper;
        first_old = ok.first_old;
        second_old = ok.second_old;
        dones = λ j l. set_case (λ (x : ℕ). IsBlockEnd v.seen x) v.done k a j (omega arith) (λ _. end_seen) (λ _. ok.dones j l);
        floors = ok.floors;
      }

  given_stripe : (s : St) (r : Rule s) (id : ℕ) (v : View) (k n a : ℕ) (t : T) → k < 16 → get_elem? s.views id ≡ some v → 0 < v.parts → v.hand ≡ k + 1
      → n % 2 ≡ 0 → n < 2 ^ 64 - 1 → turn_of s.words k ≤ n → v.at ≤ a → StandsAt standing v.pages v.seen k a t
      → Rule record { words = set s.words (16 + k) n; homes = set s.homes k (some (Stripe t)); views = set s.views id (record v { done = set v.done k a; turn = set v.turn k n; hand = 0 }) }
  given_stripe s r id v k n a t small here some_part held even low up more st = let kn = r.each id v here some_part in let ok = r.laid in let z = kn.sound.sized in let zt = z.turn_size in let zd = z.done_size in
      let deep = ok.deep in
      let w : View = record v { done = set v.done k a; turn = set v.turn k n; hand = 0 } in let at : ℕ → ℕ = put r.at k a in let words : List ℕ = set s.words (16 + k) n in
      let tw = turn_words standing count s.words k n ok.wide (omega arith) in let at_k = tw.0 in
      let mine_held = kn.held k (omega arith) held in let hs = kn.held_stripe k small held in let at_was = hs.0 in
      let here_a : at k ≡ a = put_here r.at k a in
      let end_seen : IsBlockEnd v.seen a = subst (λ (x : ℕ). IsBlockEnd v.seen x) st.at st.stands.applied in
      let end_a : IsBlockEnd r.log a = end_later v.seen r.log a kn.seen end_seen in
      let rise : (j : ℕ) → r.at j ≤ at j = λ j. dite (ℕ_discrete j k) (λ e. let f : at j ≡ at k = ap at e in let g : r.at j ≡ r.at k = ap r.at e in omega arith) (λ not. let f = put_else r.at k a j not in omega arith) in
      rebuild standing count s r words (set s.homes k (some (Stripe t))) r.log at r.holder id v w here some_part refl refl record {
        wide = length-set s.words (16 + k) n ∙ ok.wide;
        deep = length-set s.homes k (some (Stripe t)) ∙ ok.deep;
        proper = ok.proper;
        ends = λ j l. dite (ℕ_discrete j k) (λ e. subst (λ (x : ℕ). IsBlockEnd r.log x) (sym (ap at e ∙ here_a)) end_a) (λ not. subst (λ (x : ℕ). IsBlockEnd r.log x) (sym (put_else r.at k a j not)) (ok.ends j l));
        published_end = λ j l. subst (λ (x : ℕ). IsBlockEnd r.log x) (sym (tw.2 j l)) (ok.published_end j l);
        published_low = λ j l. let p = tw.2 j l in let q = ok.published_low j l in let u = rise j in omega arith;
        turns_low = λ j l. dite (ℕ_discrete j k) (λ e. let f : turn_of words j ≡ turn_of words k = ap (turn_of words) e in omega arith) (λ other. let p = tw.1 j other in let q = ok.turns_low j l in omega arith);
        stripe_home = λ j l e. dite (ℕ_discrete j k)
            (λ is. (
              t,
              ap (λ (x : ℕ). get_elem? (set s.homes k (some (Stripe t))) x) is ∙ set_here s.homes k (some (Stripe t)) (omega arith),
              record {
                numbered = st.numbered ∙ sym is;
                paged = st.paged ∙ kn.counted;
                at = st.at ∙ sym (ap at is ∙ here_a);
                stands = stands_later (standing t) v.seen r.log kn.seen st.stands (end_low v.pages v.seen (standing t).applied kn.sound.proper st.stands.applied);
              },
            ))
            (λ other. let h = ok.stripe_home j l (ap (λ (x : ℕ). x % 2) (sym (tw.1 j other)) ∙ e) in (h.0, set_else s.homes k j (some (Stripe t)) other ∙ h.1, subst (λ (x : ℕ). StandsAt standing count r.log j x h.0) (sym (put_else r.at k a j other)) h.2));
        log_home = λ e. let other : 16 ≢ k = λ q. omega arith in set_else s.homes k 16 (some (Stripe t)) other ∙ ok.log_home (ap (λ (x : ℕ). x % 2) (sym (tw.1 16 other)) ∙ e);
      } record {
        sound = stripe_sound v k n a t small kn.sound st;
        seen = kn.seen;
        some_part = some_part;
        counted = kn.counted;
        floors = kn.floors;
        floors_low = λ j l. let p = tw.2 j l in let q = kn.floors_low j l in omega arith;
        dones_low = λ j l. set_case (λ (x : ℕ). x ≤ at j) v.done k a j (omega arith) (λ e. let f : at j ≡ at k = ap at e in omega arith) (λ _. let p = kn.dones_low j l in let q = rise j in omega arith);
        turns_low = turn_set s.words v.turn k n ok.wide zt (omega arith) up kn.turns_low;
        author = kn.author;
        held = λ j l e. absurd (omega arith);
        held_stripe = λ j l e. absurd (omega arith);
        held_log = λ e. absurd (omega arith);
      }
      (λ j u other at_j ku. let not_k : u.hand ≢ k + 1 = λ e. let h = ku.held k (omega arith) e in other (sym h.1 ∙ mine_held.1) in record {
        sound = ku.sound;
        seen = ku.seen;
        some_part = ku.some_part;
        counted = ku.counted;
        floors = ku.floors;
        floors_low = λ i l. let p = tw.2 i l in let q = ku.floors_low i l in omega arith;
        dones_low = λ i l. let p = ku.dones_low i l in let q = rise i in omega arith;
        turns_low = turns_up s.words u.turn k n ok.wide (omega arith) up ku.turns_low;
        author = ku.author;
        held = λ i l e. let h = ku.held i l e in let not : i ≢ k = λ q. not_k (omega arith) in (ap (λ (x : ℕ). x % 2) (tw.1 i not) ∙ h.0, h.1);
        held_stripe = λ i l e. let h = ku.held_stripe i l e in let not : i ≢ k = λ q. not_k (omega arith) in let f = put_else r.at k a i not in let p = h.1 in (h.0 ∙ sym f, omega arith);
        held_log = ku.held_log;
      })
      (others_out s r id v w k n (omega arith) here held even)

  small_mod : (n : ℕ) → n < 2 ^ 64 - 1 → n + 1 ≡ (n + 1) % 2 ^ 64
  small_mod n l = omega arith

  pub gives_stripe : (slots id : ℕ) (v : View) (k : ℕ) (t : T) → k < 16 → 0 < v.parts → v.hand ≡ k + 1 → v.at ≤ (standing t).applied → StandsAt standing v.pages v.seen k (standing t).applied t
      → Allows Rule slots id (v, (k, Stripe t) ∷ []) (16 + k) (λ n. (n + 1) % 2 ^ 64) (stripe_given standing (step slots (16 + k) 1 0 none) (v, (k, Stripe t) ∷ []))
  gives_stripe slots id v k t small some_part held more st s r _ here _ = let x : ℕ = turn_of s.words k in let low = r.laid.turns_low k (omega arith) in let kn = r.each id v here some_part in let h = (kn.held k (omega arith) held).0 in
      let is = small_mod x low in let w : View = record v { done = set v.done k (standing t).applied; turn = set v.turn k (x + 1); hand = 0 } in
      let tight : x + 1 < 2 ^ 64 - 1 = omega arith in (
        w,
        gives,
        tt,
        subst (λ (n : ℕ). Rule (stepped s (16 + k) n id ((k, Stripe t) ∷ []) w gives)) is
            (given_stripe s r id v k (x + 1) (standing t).applied t small here some_part held (omega arith) tight (omega arith) more st),
        λ k' t' e. let o = one_slot k k' (Stripe t) (Stripe t') e in let same : k ≡ k' = o.0 in let same_t : t ≡ t' = cc (o.1) in (low, (λ i. (record v { done = set v.done (same i) (standing (same_t i)).applied; turn = set v.turn (same i) (x + 1); hand = 0 }, [])), subst (λ (j : ℕ). get_or v.turn j 0 ≤ x + 1) same (let q = kn.turns_low k (omega arith) in omega arith), stripe_sound v k (x + 1) (standing t).applied t small kn.sound st),
      )

  log_sound : (log : Log) (v : View) (l : Log) (n : ℕ) (tries took : List ℕ) → IsProper v.pages l → IsPrefix v.seen l → IsPrefix l log → ((k : ℕ) → k < 16 → IsBlockEnd log (get_or v.floor k 0)) → length tries ≡ 17 → length took ≡ 17 → IsSound v
      → IsSoundOf v.pages l v.olds.0 v.olds.1 v.floor v.done (set v.turn 16 n) took tries v.loads
  log_sound log v l n tries took proper more begins floors tries_size took_size ok = let z = ok.sized in record {
    sized = record {
      floor_size = z.floor_size;
      done_size = z.done_size;
      turn_size = length-set v.turn 16 n ∙ z.turn_size;
      takes_size = took_size;
      tries_size = tries_size;
      loads_size = z.loads_size;
    };
    proper = proper;
    first_old = prefix_trans v.olds.0 v.seen l ok.first_old more;
    second_old = prefix_trans v.olds.1 v.seen l ok.second_old more;
    dones = λ j i. end_later v.seen l (get_or v.done j 0) more (ok.dones j i);
    floors = λ j i le. end_earlier l log (get_or v.floor j 0) begins (floors j i) le;
  }

  pub takes_log : (slots id : ℕ) (me : M) (old new : ℕ) → 0 < me.0.parts → me.0.hand ≡ 0 → old % 2 ≡ 0 → new ≡ old + 1 → new < 2 ^ 64 - 1
      → Allows Rule slots id me 32 (λ x. either (eqb x old) new x) (log_tried (step slots 32 old new none) me)
  takes_log slots id me old new some_part free even up low s r _ here _ = let v : View = me.0 in let x : ℕ = turn_of s.words 16 in let kn = r.each id v here some_part in let ok = r.laid in let z = kn.sound.sized in
      dite (ℕ_discrete x old)
      (λ hit. let home = ok.log_home (ap (λ (y : ℕ). y % 2) hit ∙ even) in
      let w : View = with_log v r.log (set v.turn 16 new) (counted_up v.tries 16) in
      let odd : new % 2 ≡ 1 = omega arith in let up' : x ≤ new = omega arith in
      let tw = turn_words standing count s.words 16 new ok.wide (omega arith) in let at_k = tw.0 in
      let sound : IsSound w = log_sound r.log v r.log new (counted_up v.tries 16) (counted_up v.takes 16) (subst (λ (c : ℕ). IsProper c r.log) (sym kn.counted) ok.proper) kn.seen (prefix_refl count r.log ok.proper) kn.floors (length-set v.tries 16 (get_or v.tries 16 0 + 1) ∙ z.tries_size) (length-set v.takes 16 (get_or v.takes 16 0 + 1) ∙ z.takes_size) kn.sound in
      let mine : K (set s.words 32 new) r.log r.at (put r.holder 16 id) r.writer id w = record {
        sound = sound;
        seen = prefix_refl count r.log ok.proper;
        some_part = some_part;
        counted = kn.counted;
        floors = kn.floors;
        floors_low = λ j l. let a = tw.2 j l in let b = kn.floors_low j l in omega arith;
        dones_low = kn.dones_low;
        turns_low = turn_set s.words v.turn 16 new ok.wide z.turn_size (omega arith) up' kn.turns_low;
        author = λ e. let a = kn.author e in (a.0, refl);
        held = λ j l e. let is : j ≡ 16 = omega arith in (ap (λ (y : ℕ). turn_of (set s.words 32 new) y % 2) is ∙ (ap (λ (y : ℕ). y % 2) at_k ∙ odd), ap (put r.holder 16 id) is ∙ put_here r.holder 16 id);
        held_stripe = λ j l e. absurd (omega arith);
        held_log = λ e. refl;
      } in (
        w,
        takes 16 (History r.log),
        home,
        subst (λ b. Rule (stepped s 32 (either b new x) id me.1 w (takes 16 (History r.log)))) (sym (eq-eqb x old hit))
            (taken standing count s r id v w 16 new (omega arith) here some_part free refl refl refl odd low (ap (λ (y : ℕ). y % 2) hit ∙ even) up' mine),
        (
          (λ _. record {
            log = r.log;
            is = refl;
            more = kn.seen;
            proper = sound.proper;
            whole = λ e. (kn.author e).1;
            sound = sound;
          }),
          λ miss. absurd (miss hit),
        ),
      ))
      (λ miss. let w : View = tried v 16 x in let m = missed standing count s r id v 16 (omega arith) here some_part in (
        w,
        keeps,
        tt,
        subst (λ b. Rule (stepped s 32 (either b new x) id me.1 w keeps)) (sym (ne_eqb x old miss))
            (as_it_was standing count s 32 id me.1 w (reseated standing count s r id v w here some_part refl refl refl m)),
        ((λ hit. absurd (miss hit)), λ _. (refl, kn.turns_low 16 (omega arith), m.sound)),
      ))

  given_log : (s : St) (r : Rule s) (id : ℕ) (v : View) (n : ℕ) (log : Log) → get_elem? s.views id ≡ some v → 0 < v.parts → v.hand ≡ 17
      → n % 2 ≡ 0 → n < 2 ^ 64 - 1 → turn_of s.words 16 ≤ n → IsProper count log → IsPrefix r.log log → (v.author ≡ true) ⊎ (log ≡ r.log)
      → (sound : IsSound (record v { seen = log; turn = set v.turn 16 n; hand = 0 }))
      → Rule record { words = set s.words 32 n; homes = set s.homes 16 (some (History log)); views = set s.views id (record v { seen = log; turn = set v.turn 16 n; hand = 0 }) }
  given_log s r id v n log here some_part held even low up proper more who sound = let kn = r.each id v here some_part in let ok = r.laid in let z = kn.sound.sized in
      let deep = ok.deep in let w : View = record v { seen = log; turn = set v.turn 16 n; hand = 0 } in let words : List ℕ = set s.words 32 n in
      let tw = turn_words standing count s.words 16 n ok.wide (omega arith) in let at_k = tw.0 in let mine_held = kn.held 16 (omega arith) held in
      rebuild standing count s r words (set s.homes 16 (some (History log))) log r.at r.holder id v w here some_part refl refl record {
        wide = length-set s.words 32 n ∙ ok.wide;
        deep = length-set s.homes 16 (some (History log)) ∙ ok.deep;
        proper = proper;
        ends = λ j l. end_later r.log log (r.at j) more (ok.ends j l);
        published_end = λ j l. end_later r.log log (published words j) more (subst (λ (x : ℕ). IsBlockEnd r.log x) (sym (tw.2 j l)) (ok.published_end j l));
        published_low = λ j l. let p = tw.2 j l in let q = ok.published_low j l in omega arith;
        turns_low = λ j l. dite (ℕ_discrete j 16) (λ e. let f : turn_of words j ≡ turn_of words 16 = ap (turn_of words) e in omega arith) (λ other. let p = tw.1 j other in let q = ok.turns_low j l in omega arith);
        stripe_home = λ j l e. let other : j ≢ 16 = λ q. omega arith in let h = ok.stripe_home j l (ap (λ (x : ℕ). x % 2) (sym (tw.1 j other)) ∙ e) in let st = h.2 in (
          h.0,
          set_else s.homes 16 j (some (History log)) other ∙ h.1,
          record {
            numbered = st.numbered;
            paged = st.paged;
            at = st.at;
            stands = stands_later (standing h.0) r.log log more st.stands (end_low count r.log (standing h.0).applied ok.proper st.stands.applied);
          },
        );
        log_home = λ e. set_here s.homes 16 (some (History log)) (omega arith);
      } record {
        sound = sound;
        seen = prefix_refl count log proper;
        some_part = some_part;
        counted = kn.counted;
        floors = λ j l. end_later r.log log (get_or v.floor j 0) more (kn.floors j l);
        floors_low = λ j l. let p = tw.2 j l in let q = kn.floors_low j l in omega arith;
        dones_low = kn.dones_low;
        turns_low = turn_set s.words v.turn 16 n ok.wide z.turn_size (omega arith) up kn.turns_low;
        author = λ e. ((kn.author e).0, refl);
        held = λ j l e. absurd (omega arith);
        held_stripe = λ j l e. absurd (omega arith);
        held_log = λ e. absurd (omega arith);
      }
      (λ j u other at_j ku. let not_k : u.hand ≢ 17 = λ e. let h = ku.held 16 (omega arith) e in other (sym h.1 ∙ mine_held.1) in record {
        sound = ku.sound;
        seen = prefix_trans u.seen r.log log ku.seen more;
        some_part = ku.some_part;
        counted = ku.counted;
        floors = λ i l. end_later r.log log (get_or u.floor i 0) more (ku.floors i l);
        floors_low = λ i l. let p = tw.2 i l in let q = ku.floors_low i l in omega arith;
        dones_low = ku.dones_low;
        turns_low = turns_up s.words u.turn 16 n ok.wide (omega arith) up ku.turns_low;
        author = λ e. let a = ku.author e in (a.0, ⊎_elim (λ (q : v.author ≡ true). let b = kn.author q in absurd (other (a.0 ∙ sym b.0))) (λ (q : log ≡ r.log). a.1 ∙ sym q) who);
        held = λ i l e. let h = ku.held i l e in let not : i ≢ 16 = λ q. not_k (omega arith) in (ap (λ (x : ℕ). x % 2) (tw.1 i not) ∙ h.0, h.1);
        held_stripe = ku.held_stripe;
        held_log = λ e. absurd (not_k e);
      })
      (others_out s r id v w 16 n (omega arith) here held even)

  pub gives_log : (slots id : ℕ) (v : View) (log : Log) → 0 < v.parts → v.hand ≡ 17 → MayGive v log
      → Allows Rule slots id (v, (16, History log) ∷ []) 32 (λ n. (n + 1) % 2 ^ 64) (log_given (step slots 32 1 0 none) (v, (16, History log) ∷ []))
  gives_log slots id v log some_part held may s r _ here _ = let x : ℕ = turn_of s.words 16 in let low = r.laid.turns_low 16 (omega arith) in let kn = r.each id v here some_part in let h = (kn.held 16 (omega arith) held).0 in
      let z = kn.sound.sized in
      let is = small_mod x low in let w : View = record v { seen = log; turn = set v.turn 16 (x + 1); hand = 0 } in
      let tight : x + 1 < 2 ^ 64 - 1 = omega arith in let whole : v.seen ≡ r.log = kn.held_log held in
      let at_whole : IsProper count v.seen = subst (IsProper count) (sym whole) r.laid.proper in
      let proper : IsProper count log = ⊎_elim (λ (q : log ≡ v.seen). subst (IsProper count) (sym q) at_whole)
      (λ (q : (v.author ≡ true) × (new : List Record) × (log ≡ with_block v.seen new) × IsProper v.pages log). subst (λ (c : ℕ). IsProper c log) kn.counted q.3) may in
      let more_v : IsPrefix v.seen log = ⊎_elim (λ (q : log ≡ v.seen). subst (λ (y : Log). IsPrefix v.seen y) (sym q) (prefix_refl count v.seen at_whole))
      (λ (q : (v.author ≡ true) × (new : List Record) × (log ≡ with_block v.seen new) × IsProper v.pages log). subst (λ (y : Log). IsPrefix v.seen y) (sym q.2) (prefix_more v.pages v.seen q.1 kn.sound.proper (subst (IsProper v.pages) q.2 q.3))) may in
      let more : IsPrefix r.log log = subst (λ (y : Log). IsPrefix y log) whole more_v in
      let who : (v.author ≡ true) ⊎ (log ≡ r.log) = ⊎_elim (λ (q : log ≡ v.seen). inr (q ∙ whole)) (λ (q : (v.author ≡ true) × (new : List Record) × (log ≡ with_block v.seen new) × IsProper v.pages log). inl q.0) may in
      let sound : IsSound w = log_sound log v log (x + 1) v.tries v.takes (subst (λ (c : ℕ). IsProper c log) (sym kn.counted) proper) more_v (prefix_refl count log proper) (λ k l. end_later r.log log (get_or v.floor k 0) more (kn.floors k l)) z.tries_size z.takes_size kn.sound in (
        w,
        gives,
        tt,
        subst (λ (n : ℕ). Rule (stepped s 32 n id ((16, History log) ∷ []) w gives)) is
            (given_log s r id v (x + 1) log here some_part held (omega arith) tight (omega arith) proper more who sound),
        λ log' e. let o = one_slot 16 16 (History log) (History log') e in let same : log ≡ log' = cc (o.1) in (low, (λ i. (record v { seen = same i; turn = set v.turn 16 (x + 1); hand = 0 }, [])), sound),
      )
