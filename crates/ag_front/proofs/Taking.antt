-- How the taking of a slot keeps the rule.
use Rattle.std.proofs.Common.{◌≡◌, ◌≢◌, ℕ, ◌+◌, ◌-◌, ◌%◌, ◌^◌, ◌<◌, ◌≤◌, eqb, List, ◌∷◌, length, get_or, set, sym, refl, ap, ◌∙◌, subst, arith, length-set, get_or-set_other, get_or-set_same, eq-eqb, ne_eqb}
use mathlib.Core.Logic.{dite}
use mathlib.Core.Option.{none, some, some-injective}
use native.Mathlib.Decide.{ℕ_discrete}
use lib.ListN.{get_elem?}
use prog.Atomic.{either}
use Rattle.atomic_table.specs.Table.{State, Me, step, keeps, takes, stepped, Allows}
use Rattle.atomic_table.proofs.Lists.{set_here, set_else}
use Rattle.ag_model.specs.declared.record.Log.{Log}
use Rattle.ag_model.specs.Prefixes.{IsPrefix, IsBlockEnd}
use Rattle.ag_model.specs.Blocks.{cut_at}
use Rattle.ag_model.specs.Stripes.{Standing}
use Rattle.ag_model.proofs.Prefixes.{prefix_trans, prefix_length, prefix_at, cut_length, end_later, end_earlier, stands_earlier}
use Rattle.ag_front.specs.declared.view.View.{View}
use Rattle.ag_front.specs.declared.rule.Slot.{Slot}
use Rattle.ag_front.specs.declared.rule.Slot.TheVariants.{Stripe}
use Rattle.ag_front.specs.Rule.{published, turn_of, Knows, FollowsRule}
use Rattle.ag_front.specs.Steps.{longer}
use Rattle.ag_front.specs.Slots.{counted_up, tried, with_stripe, Missed, HasStripe, stripe_tried}
use Rattle.ag_front.proofs.Keeps.{there, set_case, rebuild, reseated, as_it_was, seen_proper}
use Rattle.ag_front.proofs.Merging.{longer_begins, longer_first, longer_second, longer_log, pick}

-- a function with another value at k
pub put : (ℕ → ℕ) → ℕ → ℕ → ℕ → ℕ
put f k c j = pick (ℕ_discrete j k) c (f j)

pub put_here : (f : ℕ → ℕ) (k c : ℕ) → put f k c k ≡ c
unfolding put
put_here f k c = go (ℕ_discrete k k)
  where
    go : (d : Dec (k ≡ k)) → pick d c (f k) ≡ c
    go (yes _) = refl
    go (no n) = absurd (n refl)

pub put_else : (f : ℕ → ℕ) (k c j : ℕ) → j ≢ k → put f k c j ≡ f j
unfolding put
put_else f k c j other = go (ℕ_discrete j k)
  where
    go : (d : Dec (j ≡ k)) → pick d c (f j) ≡ f j
    go (yes e) = absurd (other e)
    go (no _) = refl

module _ {T : Type 0} (standing : T → Standing) (count : ℕ) where
  abbrev pub St : Type 0
  St = State (Slot T) View

  abbrev pub M : Type 0
  M = Me (Slot T) View

  abbrev pub Rule : St → Type 0
  Rule = FollowsRule standing count

  abbrev pub K : List ℕ → Log → (ℕ → ℕ) → (ℕ → ℕ) → ℕ → ℕ → View → Type 0
  K = Knows standing count

  -- the turn word of the slot k is set to n
  pub turn_words : (words : List ℕ) (k n : ℕ) → length words ≡ 33 → k < 17 → (turn_of (set words (16 + k) n) k ≡ n) × ((j : ℕ) → j ≢ k → turn_of (set words (16 + k) n) j ≡ turn_of words j) × ((j : ℕ) → j < 16 → published (set words (16 + k) n) j ≡ published words j)
  turn_words words k n wide small = (get_or-set_same words (16 + k) n 0 (omega arith), (λ j other. get_or-set_other words (16 + k) (16 + j) n 0 (λ e. other (omega arith))), λ j l. get_or-set_other words (16 + k) j n 0 (λ e. omega arith))

  -- a failed compare and exchange
  pub missed : (s : St) (r : Rule s) (id : ℕ) (v : View) (k : ℕ) → k < 17 → get_elem? s.views id ≡ some v → 0 < v.parts
      → K s.words r.log r.at r.holder r.writer id (tried v k (turn_of s.words k))
  missed s r id v k small here some_part = let kn = r.each id v here some_part in let z = kn.sound.sized in let zt = z.turn_size in record {
    sound = record {
      sized = record {
        floor_size = z.floor_size;
        done_size = z.done_size;
        turn_size = length-set v.turn k (turn_of s.words k) ∙ z.turn_size;
        takes_size = z.takes_size;
        tries_size = length-set v.tries k (get_or v.tries k 0 + 1) ∙ z.tries_size;
        loads_size = z.loads_size;
      };
      proper = kn.sound.proper;
      first_old = kn.sound.first_old;
      second_old = kn.sound.second_old;
      dones = kn.sound.dones;
      floors = kn.sound.floors;
    };
    seen = kn.seen;
    some_part = some_part;
    counted = kn.counted;
    floors = kn.floors;
    floors_low = kn.floors_low;
    dones_low = kn.dones_low;
    turns_low = λ j l. set_case (λ (x : ℕ). x ≤ turn_of s.words j) v.turn k (turn_of s.words k) j (omega arith) (λ e. let f : turn_of s.words j ≡ turn_of s.words k = ap (turn_of s.words) e in omega arith) (λ _. kn.turns_low j l);
    author = kn.author;
    held = kn.held;
    held_stripe = kn.held_stripe;
    held_log = kn.held_log;
  }

  -- the slot k goes out to the seat id
  pub taken : (s : St) (r : Rule s) (id : ℕ) (v w : View) (k n : ℕ) → k < 17 → get_elem? s.views id ≡ some v → 0 < v.parts → v.hand ≡ 0 → w.parts ≡ v.parts → w.author ≡ v.author → w.hand ≡ k + 1
      → n % 2 ≡ 1 → n < 2 ^ 64 - 1 → turn_of s.words k % 2 ≡ 0 → turn_of s.words k ≤ n
      → K (set s.words (16 + k) n) r.log r.at (put r.holder k id) r.writer id w
      → Rule record { words = set s.words (16 + k) n; homes = set s.homes k none; views = set s.views id w }
  taken s r id v w k n small here some_part free same_parts same_author in_hand odd low even up mine = let ok = r.laid in let t = turn_words s.words k n ok.wide small in
      let at_k = t.0 in let inside = (there s.views id v here).0 in
      rebuild standing count s r (set s.words (16 + k) n) (set s.homes k none) r.log r.at (put r.holder k id) id v w here some_part same_parts same_author record {
        wide = length-set s.words (16 + k) n ∙ ok.wide;
        deep = length-set s.homes k none ∙ ok.deep;
        proper = ok.proper;
        ends = ok.ends;
        published_end = λ j l. subst (λ (x : ℕ). IsBlockEnd r.log x) (sym (t.2 j l)) (ok.published_end j l);
        published_low = λ j l. let a = t.2 j l in let b = ok.published_low j l in omega arith;
        turns_low = λ j l. dite (ℕ_discrete j k) (λ e. let f : turn_of (set s.words (16 + k) n) j ≡ turn_of (set s.words (16 + k) n) k = ap (turn_of (set s.words (16 + k) n)) e in omega arith) (λ other. let a = t.1 j other in let b = ok.turns_low j l in omega arith);
        stripe_home = λ j l e. dite (ℕ_discrete j k) (λ is. let f : turn_of (set s.words (16 + k) n) j ≡ turn_of (set s.words (16 + k) n) k = ap (turn_of (set s.words (16 + k) n)) is in absurd (omega arith))
            (λ other. let h = ok.stripe_home j l (ap (λ (x : ℕ). x % 2) (sym (t.1 j other)) ∙ e) in (h.0, set_else s.homes k j none other ∙ h.1, h.2));
        log_home = λ e. dite (ℕ_discrete 16 k) (λ is. let f : turn_of (set s.words (16 + k) n) 16 ≡ turn_of (set s.words (16 + k) n) k = ap (turn_of (set s.words (16 + k) n)) is in absurd (omega arith))
            (λ other. set_else s.homes k 16 none other ∙ ok.log_home (ap (λ (x : ℕ). x % 2) (sym (t.1 16 other)) ∙ e));
      } mine
      (λ j u other at kn. let not_k : u.hand ≢ k + 1 = λ e. let h = kn.held k small e in let p = h.0 in absurd (omega arith) in record {
        sound = kn.sound;
        seen = kn.seen;
        some_part = kn.some_part;
        counted = kn.counted;
        floors = kn.floors;
        floors_low = λ i l. let a = t.2 i l in let b = kn.floors_low i l in omega arith;
        dones_low = kn.dones_low;
        turns_low = λ i l. let b = kn.turns_low i l in dite (ℕ_discrete i k) (λ e. let f : turn_of (set s.words (16 + k) n) i ≡ turn_of (set s.words (16 + k) n) k = ap (turn_of (set s.words (16 + k) n)) e in let g : turn_of s.words i ≡ turn_of s.words k = ap (turn_of s.words) e in omega arith) (λ not. let a = t.1 i not in omega arith);
        author = kn.author;
        held = λ i l e. let h = kn.held i l e in let not : i ≢ k = λ q. not_k (omega arith) in (ap (λ (x : ℕ). x % 2) (t.1 i not) ∙ h.0, put_else r.holder k id i not ∙ h.1);
        held_stripe = kn.held_stripe;
        held_log = kn.held_log;
      })
      (λ j l odd'. dite (ℕ_discrete j k)
      (λ is. (w, ap (λ (x : ℕ). get_elem? (set s.views id w) (put r.holder k id x)) is ∙ (ap (λ (x : ℕ). get_elem? (set s.views id w) x) (put_here r.holder k id) ∙ set_here s.views id w inside), in_hand ∙ ap (λ (x : ℕ). x + 1) (sym is)))
      (λ not. let o = r.out j l (ap (λ (x : ℕ). x % 2) (sym (t.1 j not)) ∙ odd') in let h = o.2 in
      let apart : r.holder j ≢ id = λ e. let same : v ≡ o.0 = some-injective v o.0 (sym here ∙ (ap (λ (x : ℕ). get_elem? s.views x) (sym e) ∙ o.1)) in let q : v.hand ≡ o.0.hand = ap (λ (x : View). x.hand) same in absurd (omega arith) in
      (o.0, ap (λ (x : ℕ). get_elem? (set s.views id w) x) (put_else r.holder k id j not) ∙ (set_else s.views id (r.holder j) w apart ∙ o.1), h)))

  -- the prefix of the log for which the stripe k stands
  abbrev part : Log → (ℕ → ℕ) → ℕ → Log
  part log at k = cut_at (at k) log

  -- the view of a seat that takes the stripe k at the word n
  stripe_mine : (s : St) (r : Rule s) (id : ℕ) (v : View) (k n : ℕ) → k < 16 → get_elem? s.views id ≡ some v → 0 < v.parts → v.hand ≡ 0 → n % 2 ≡ 1 → turn_of s.words k ≤ n
      → (turn tries : List ℕ) → turn ≡ set v.turn k n → length tries ≡ 17
      → K (set s.words (16 + k) n) r.log r.at (put r.holder k id) r.writer id (with_stripe v k (longer v.seen (part r.log r.at k)) (r.at k) turn tries)
  stripe_mine s r id v k n small here some_part free odd up turn tries turn_is tries_size = let kn = r.each id v here some_part in let ok = r.laid in let z = kn.sound.sized in let zt = z.turn_size in let zd = z.done_size in
      let words = turn_words s.words k n ok.wide (omega arith) in let at_k = words.0 in
      let begins = prefix_at count r.log (r.at k) ok.proper (ok.ends k small) in
      let seen : IsPrefix (longer v.seen (part r.log r.at k)) r.log = longer_begins v.seen (part r.log r.at k) r.log kn.seen begins in
      let from_v : IsPrefix v.seen (longer v.seen (part r.log r.at k)) = longer_first v.seen (part r.log r.at k) r.log kn.seen begins in
      let from_t : IsPrefix (part r.log r.at k) (longer v.seen (part r.log r.at k)) = longer_second v.seen (part r.log r.at k) r.log kn.seen begins in
      let ends = cut_length count r.log (r.at k) ok.proper (ok.ends k small) in let reach = prefix_length (part r.log r.at k) (longer v.seen (part r.log r.at k)) from_t in record {
        sound = record {
          sized = record {
            floor_size = z.floor_size;
            done_size = length-set v.done k (r.at k) ∙ z.done_size;
            turn_size = ap length turn_is ∙ (length-set v.turn k n ∙ z.turn_size);
            takes_size = length-set v.takes k (get_or v.takes k 0 + 1) ∙ z.takes_size;
            tries_size = tries_size;
            loads_size = z.loads_size;
          };
          proper = seen_proper standing count v (longer v.seen (part r.log r.at k)) r.log kn.sound.proper kn.counted ok.proper from_v seen;
          first_old = prefix_trans v.olds.0 v.seen (longer v.seen (part r.log r.at k)) kn.sound.first_old from_v;
          second_old = prefix_trans v.olds.1 v.seen (longer v.seen (part r.log r.at k)) kn.sound.second_old from_v;
          dones = λ j l. set_case (λ (x : ℕ). IsBlockEnd (longer v.seen (part r.log r.at k)) x) v.done k (r.at k) j (omega arith)
              (λ _. end_earlier (longer v.seen (part r.log r.at k)) r.log (r.at k) seen (ok.ends k small) (omega arith)) (λ _. end_later v.seen (longer v.seen (part r.log r.at k)) (get_or v.done j 0) from_v (kn.sound.dones j l));
          floors = λ j l le. end_earlier (longer v.seen (part r.log r.at k)) r.log (get_or v.floor j 0) seen (kn.floors j l) le;
        };
        seen = seen;
        some_part = some_part;
        counted = kn.counted;
        floors = kn.floors;
        floors_low = λ j l. let a = words.2 j l in let b = kn.floors_low j l in omega arith;
        dones_low = λ j l. set_case (λ (x : ℕ). x ≤ r.at j) v.done k (r.at k) j (omega arith) (λ e. let f : r.at j ≡ r.at k = ap r.at e in omega arith) (λ _. kn.dones_low j l);
        turns_low = λ j l. subst (λ (xs : List ℕ). get_or xs j 0 ≤ turn_of (set s.words (16 + k) n) j) (sym turn_is)
            (set_case (λ (x : ℕ). x ≤ turn_of (set s.words (16 + k) n) j) v.turn k n j (omega arith) (λ e. let f : turn_of (set s.words (16 + k) n) j ≡ turn_of (set s.words (16 + k) n) k = ap (turn_of (set s.words (16 + k) n)) e in omega arith) (λ other. let a = words.1 j other in let b = kn.turns_low j l in omega arith));
        author = λ e. let a = kn.author e in (a.0, longer_log v.seen (part r.log r.at k) r.log begins a.1);
        held = λ j l e. let is : j ≡ k = omega arith in let f : turn_of (set s.words (16 + k) n) j ≡ turn_of (set s.words (16 + k) n) k = ap (turn_of (set s.words (16 + k) n)) is in
            (ap (λ (x : ℕ). x % 2) (f ∙ at_k) ∙ odd, ap (put r.holder k id) is ∙ put_here r.holder k id);
        held_stripe = λ j l e. let is : j ≡ k = omega arith in let f : r.at j ≡ r.at k = ap r.at is in (sym f, omega arith);
        held_log = λ e. absurd (omega arith);
      }

  pub takes_stripe : (slots id : ℕ) (me : M) (k old new : ℕ) → k < 16 → 0 < me.0.parts → me.0.hand ≡ 0 → old % 2 ≡ 0 → new ≡ old + 1 → new < 2 ^ 64 - 1
      → Allows Rule slots id me (16 + k) (λ x. either (eqb x old) new x) (stripe_tried standing (step slots (16 + k) old new none) me)
  takes_stripe slots id me k old new small some_part free even up low s r _ here _ = let v : View = me.0 in let x : ℕ = turn_of s.words k in let kn = r.each id v here some_part in let ok = r.laid in let z = kn.sound.sized in
      dite (ℕ_discrete x old)
      (λ hit. let home = ok.stripe_home k small (ap (λ (y : ℕ). y % 2) hit ∙ even) in let t : T = home.0 in let st = home.2 in
      let seen : Log = longer v.seen (part r.log r.at k) in
      let w : View = with_stripe v k seen (r.at k) (set v.turn k new) (counted_up v.tries k) in
      let odd : new % 2 ≡ 1 = omega arith in
      let mine = stripe_mine s r id v k new small here some_part free odd (omega arith) (set v.turn k new) (counted_up v.tries k) refl (length-set v.tries k (get_or v.tries k 0 + 1) ∙ z.tries_size) in
      let begins = prefix_at count r.log (r.at k) ok.proper (ok.ends k small) in
      let from_t : IsPrefix (part r.log r.at k) seen = longer_second v.seen (part r.log r.at k) r.log kn.seen begins in
      let reach = prefix_length (part r.log r.at k) seen from_t in let long = cut_length count r.log (r.at k) ok.proper (ok.ends k small) in
      let at_is = st.at in let fl = kn.floors_low k small in let pl = ok.published_low k small in let dl = kn.dones_low k small in
      let has : HasStripe standing k me (set v.turn k new) (counted_up v.tries k) (w, (k, Stripe t) ∷ me.1) = record {
        seen = seen;
        stripe = t;
        is = λ i. (with_stripe v k seen (sym at_is i) (set v.turn k new) (counted_up v.tries k), (k, Stripe t) ∷ me.1);
        more = longer_first v.seen (part r.log r.at k) r.log kn.seen begins;
        stands = record {
          numbered = st.numbered;
          paged = st.paged ∙ sym kn.counted;
          at = refl;
          stands = stands_earlier (standing t) seen r.log mine.seen st.stands (omega arith);
        };
        floor = omega arith;
        done = omega arith;
        sound = mine.sound;
      } in (
        w,
        takes k (Stripe t),
        home.1,
        subst (λ b. Rule (stepped s (16 + k) (either b new x) id me.1 w (takes k (Stripe t)))) (sym (eq-eqb x old hit))
            (taken s r id v w k new (omega arith) here some_part free refl refl refl odd low (ap (λ (y : ℕ). y % 2) hit ∙ even) (omega arith) mine),
        λ k' e. let back : k ≡ k' = omega arith in ((λ _. subst (λ (j : ℕ). HasStripe standing j me (set v.turn j new) (counted_up v.tries j) (w, (k, Stripe t) ∷ me.1)) back has), λ miss. absurd (miss hit)),
      ))
      (λ miss. let w : View = tried v k x in let m = missed s r id v k (omega arith) here some_part in (
        w,
        keeps,
        tt,
        subst (λ b. Rule (stepped s (16 + k) (either b new x) id me.1 w keeps)) (sym (ne_eqb x old miss))
            (as_it_was standing count s (16 + k) id me.1 w (reseated standing count s r id v w here some_part refl refl refl m)),
        λ k' e. let back : k ≡ k' = omega arith in ((λ hit. absurd (miss hit)), λ _. subst (λ (j : ℕ). Missed j me x (w, me.1)) back (refl, kn.turns_low k (omega arith), m.sound)),
      ))
