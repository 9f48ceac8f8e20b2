-- The application of a block to a stripe that was taken, and what is read of it.
use Rattle.std.proofs.Common.{◌≡◌, ℕ, ◌+◌, ◌%◌, ◌<◌, ◌≤◌, List, [], ◌∷◌, length, get_or, set, sym, refl, ap, ◌∙◌, subst, arith, le_refl, get_or-set_same, length-set, false}
use mathlib.Core.Logic.{dite}
use native.Mathlib.Decide.{dec_le}
use Rattle.atomic_table.specs.Table.{Me, rest}
use Rattle.std.proofs.Math.Nat.{mod-lt}
use Rattle.ag_law_picks.proofs.Picks.{pick-is}
use Rattle.ag_model.specs.declared.message.Block.{Block}
use Rattle.ag_model.specs.declared.value.PageValue.{PageValue}
use Rattle.ag_model.specs.declared.value.Row.{Row}
use Rattle.ag_model.specs.declared.value.TooOld.{TooOld}
use Rattle.ag_model.specs.Page.{value, pick}
use Rattle.ag_model.specs.Rows.{page_of}
use Rattle.ag_model.specs.declared.record.Log.{Log}
use Rattle.ag_model.specs.Prefixes.{end_of, IsPrefix, HasBlock}
use Rattle.ag_model.specs.Proper.{IsProper}
use Rattle.ag_model.specs.Stripes.{Standing, StandsFor, IsPageOf, IsNextBlock, IsSameStripe}
use Rattle.ag_model.proofs.Prefixes.{prefix_trans, no_end_inside, end_low}
use Rattle.ag_front.specs.declared.view.View.{View}
use Rattle.ag_front.specs.declared.rule.Slot.{Slot}
use Rattle.ag_front.specs.declared.rule.Slot.TheVariants.{Stripe, Away}
use Rattle.ag_front.specs.Rule.{IsSound, StandsAt, least}
use Rattle.ag_front.specs.Slots.{counted_up, Took}
use Rattle.ag_front.specs.Applies.{CanBring, IsBrought, StripeVisited, stripe_of_key, known_value, IsRowAt, IsTooOld}
use Rattle.ag_front.proofs.Loads.{least_each}
use Rattle.ag_front.proofs.Giving.{first_of'}
use Rattle.ag_front.proofs.Grabbing.{set_twice}

module _ {T : Type 0} (standing : T → Standing) where
  abbrev M : Type 0
  M = Me (Slot T) View

  -- where the stripe isn't past the block's start, the block is its next one
  pub can_apply : (seen : Log) (count k : ℕ) (t : T) (block : Block) → CanBring standing seen count k t block → (standing t).applied < block.first → IsNextBlock (standing t) seen block
  can_apply seen count k t block h low = let reached = h.reached in record {
    proper = subst (λ (n : ℕ). IsProper n seen) (sym h.stands.paged) h.proper;
    stands = h.stands.stands;
    stands_in = h.stands_in;
    next = omega arith;
  }

  pub brought : (seen : Log) (count k : ℕ) (t t' : T) (block : Block) → CanBring standing seen count k t block → (standing t).applied < block.first
      → (standing t').applied ≡ (standing t).applied + length block.records → IsSameStripe (standing t) (standing t') → ((log : Log) → IsNextBlock (standing t) log block → StandsFor (standing t') log)
      → IsBrought standing seen count k t t' block
  brought seen count k t t' block h low up same shown = let reached = h.reached in record {
    stands = record {
      numbered = same.number ∙ h.stands.numbered;
      paged = same.pages ∙ h.stands.paged;
      at = refl;
      stands = shown seen (can_apply seen count k t block h low);
    };
    further = omega arith;
    reached = omega arith;
  }

  pub stays_on : (seen : Log) (count k : ℕ) (t : T) (block : Block) → CanBring standing seen count k t block → block.first ≤ (standing t).applied → IsBrought standing seen count k t t block
  stays_on seen count k t block h past = let b = h.stands_in in let first = b.first in record {
    stands = h.stands;
    further = le_refl (standing t).applied;
    reached = dite (dec_le (block.first + length block.records) ((standing t).applied + 1)) (λ le. le)
        (λ not. let inside = no_end_inside seen block (standing t).applied b h.stands.stands.applied (omega arith) in absurd (omega arith));
  }

  -- the stripe in hand is the one that was taken
  pub in_hand : (k n : ℕ) (m m' : M) (x : Slot T) (t : T) → (h : Took standing k n m m') → m'.1 ≡ (k, x) ∷ rest m'.1 → x ≡ Stripe t → h.has.stripe ≡ t
  in_hand k n m m' x t h is found = let e : x ≡ Stripe h.has.stripe = sym (ap (λ (l : List (ℕ × Slot T)). (first_of' (k, x) l).1) is) ∙ (λ i. (first_of' (k, x) ((h.has.is i).1)).1) in cc (e, found)

  -- the view after the stripe was given back at a
  after_all : (k n n' a : ℕ) (m m1 m2 m3 : M) → (h : Took standing k n m m1) → m2 ≡ (m1.0, (k, Away) ∷ rest m1.1) → m3 ≡ (record m2.0 { done = set m2.0.done k a; turn = set m2.0.turn k n'; hand = 0 }, [])
      → m3 ≡ (record m.0 { seen = h.has.seen; done = set m.0.done k a; turn = set m.0.turn k n'; takes = counted_up m.0.takes k; tries = h.tries; hand = 0; at = (standing h.has.stripe).applied }, [])
  after_all k n n' a m m1 m2 m3 h p q = q
      ∙ ((λ i. (record (p i).0 { done = set (p i).0.done k a; turn = set (p i).0.turn k n'; hand = 0 }, []))
      ∙ ((λ i. (record ((h.has.is i).0) { done = set ((h.has.is i).0).done k a; turn = set ((h.has.is i).0).turn k n'; hand = 0 }, []))
      ∙ (λ i. (record m.0 { seen = h.has.seen; done = set_twice m.0.done k (standing h.has.stripe).applied a i; turn = set_twice m.0.turn k n n' i; takes = counted_up m.0.takes k; tries = h.tries; hand = 0; at = (standing h.has.stripe).applied }, []))))

  -- a stripe was taken, and given back at a
  pub visited : (k n n' a : ℕ) (m m1 m2 m3 : M) → (h : Took standing k n m m1) → k < 16 → m2 ≡ (m1.0, (k, Away) ∷ rest m1.1) → m3 ≡ (record m2.0 { done = set m2.0.done k a; turn = set m2.0.turn k n'; hand = 0 }, []) → IsSound m3.0
      → StripeVisited k a m m3 × (m3.0.turn ≡ set m.0.turn k n') × (get_or m3.0.done k 0 ≡ a)
  visited k n n' a m m1 m2 m3 h small p q sound = let e = after_all k n n' a m m1 m2 m3 h p q in
      let turn : m3.0.turn ≡ set m.0.turn k n' = λ i. ((e i).0).turn in
      let size : length m.0.turn ≡ 17 = sym (length-set m.0.turn k n) ∙ (sym (λ i. length ((h.has.is i).0).turn) ∙ h.has.sound.sized.turn_size) in
      let dsize : length m.0.done ≡ 16 = sym (length-set m.0.done k (standing h.has.stripe).applied) ∙ (sym (λ i. length ((h.has.is i).0).done) ∙ h.has.sound.sized.done_size) in
      let at : n' ≡ get_or m3.0.turn k 0 = sym ((λ i. get_or (turn i) k 0) ∙ get_or-set_same m.0.turn k n' 0 (omega arith)) in (
        record {
          free = ((λ i. (e i).1), (λ i. ((e i).0).hand));
          more = subst (λ (x : Log). IsPrefix m.0.seen x) (sym (λ i. ((e i).0).seen)) h.has.more;
          sound = sound;
          done = λ i. ((e i).0).done;
          takes = λ i. ((e i).0).takes;
          turn = turn ∙ ap (λ (x : ℕ). set m.0.turn k x) at;
          floor = λ i. ((e i).0).floor;
          loads = λ i. ((e i).0).loads;
          olds = λ i. ((e i).0).olds;
          author = λ i. ((e i).0).author;
          parts = λ i. ((e i).0).parts;
          pages = λ i. ((e i).0).pages;
        },
        turn,
        (λ i. get_or ((e i).0).done k 0) ∙ get_or-set_same m.0.done k a 0 (omega arith),
      )

  -- the stripe that was taken can be brought through a block that the pass had seen
  pub can_bring : (k n : ℕ) (m m' : M) (t : T) (block : Block) → (h : Took standing k n m m') → h.has.stripe ≡ t → HasBlock m.0.seen block → block.first ≤ get_or m.0.done k 0 + 1
      → CanBring standing h.has.seen m.0.pages k t block
  can_bring k n m m' t block h is there reached = let up = h.has.done in subst (λ (u : T). CanBring standing h.has.seen m.0.pages k u block) is record {
    proper = subst (λ (x : ℕ × Log). IsProper x.0 x.1) (λ i. (((h.has.is i).0).pages, ((h.has.is i).0).seen)) h.has.sound.proper;
    stands = h.has.stands;
    stands_in = record { before = there.before; prefix = prefix_trans there.before m.0.seen h.has.seen there.prefix h.has.more; with_it = prefix_trans _ m.0.seen h.has.seen there.with_it h.has.more; first = there.first };
    reached = omega arith;
  }

  -- what the stripe that goes home has to meet
  pub may_give : (k n : ℕ) (m m1 m2 : M) (t t' : T) → (h : Took standing k n m m1) → h.has.stripe ≡ t → m2 ≡ (m1.0, (k, Away) ∷ rest m1.1)
      → StandsAt standing m.0.pages h.has.seen k (standing t').applied t' → (standing t).applied ≤ (standing t').applied
      → (m2.0.at ≤ (standing t').applied) × StandsAt standing m2.0.pages m2.0.seen k (standing t').applied t'
  may_give k n m m1 m2 t t' h is p on further = let e : (standing h.has.stripe).applied ≡ (standing t).applied = ap (λ (u : T). (standing u).applied) is in let at : m2.0.at ≡ (standing h.has.stripe).applied = (λ i. ((p i).0).at) ∙ (λ i. ((h.has.is i).0).at) in
      let same : ◌≡◌ {A = ℕ × Log} (m.0.pages, h.has.seen) (m2.0.pages, m2.0.seen) = sym ((λ i. (((p i).0).pages, ((p i).0).seen)) ∙ (λ i. (((h.has.is i).0).pages, ((h.has.is i).0).seen))) in
      (omega arith, subst (λ (x : ℕ × Log). StandsAt standing x.0 x.1 k (standing t').applied t') same on)

  -- the stripe of a key's page has that page
  page_there : (pages key : ℕ) → 16 ≤ pages → (16 ≤ page_of pages key) × (page_of pages key < 16 + pages)
  page_there pages key wide = let below : key % pages < pages = mod-lt key (omega arith) in (omega arith, omega arith)

  -- the value that the stripe has of a key's page is the one that the pass then knows
  value_known : (k n n' key : ℕ) (m m1 m2 m3 : M) (t : T) → k < 16 → k ≡ stripe_of_key m.0.pages key → 16 ≤ m.0.pages → (standing t).is_bad (page_of m.0.pages key) ≡ false
      → (h : Took standing k n m m1) → h.has.stripe ≡ t → m2 ≡ (m1.0, (k, Away) ∷ rest m1.1) → m3 ≡ (record m2.0 { done = set m2.0.done k (standing t).applied; turn = set m2.0.turn k n'; hand = 0 }, [])
      → ((standing t).value (page_of (standing t).pages key) ≡ known_value m3.0 key) × (m3.0.seen ≡ h.has.seen) × (m3.0.pages ≡ m.0.pages) × (get_or m3.0.done k 0 ≡ (standing t).applied)
  value_known k n n' key m m1 m2 m3 t small own wide sound h is p q =
      let st = subst (λ (u : T). StandsAt standing m.0.pages h.has.seen k (standing u).applied u) is h.has.stands in
      let e = after_all k n n' (standing t).applied m m1 m2 m3 h p q in
      let dsize : length m.0.done ≡ 16 = sym (length-set m.0.done k (standing h.has.stripe).applied) ∙ (sym (λ i. length ((h.has.is i).0).done) ∙ h.has.sound.sized.done_size) in
      let seen : m3.0.seen ≡ h.has.seen = λ i. ((e i).0).seen in let pages : m3.0.pages ≡ m.0.pages = λ i. ((e i).0).pages in
      let done : get_or m3.0.done k 0 ≡ (standing t).applied = (λ i. get_or ((e i).0).done k 0) ∙ get_or-set_same m.0.done k (standing t).applied 0 (omega arith) in
      let paged : (standing t).pages ≡ m.0.pages = st.paged in
      let there = page_there m.0.pages key wide in
      let own_page : IsPageOf (standing t) (page_of m.0.pages key) = record { low = there.0; high = subst (λ (c : ℕ). page_of m.0.pages key < 16 + c) (sym paged) there.1; stripe = sym own ∙ sym st.numbered } in
      let here : (standing t).value (page_of m.0.pages key) ≡ value (standing t).pages h.has.seen.records (standing t).applied (page_of m.0.pages key) = st.stands.values (page_of m.0.pages key) own_page sound in
      let known : known_value m3.0 key ≡ value m.0.pages h.has.seen.records (standing t).applied (page_of m.0.pages key) =
      (λ i. value (pages i) (seen i).records (get_or m3.0.done (stripe_of_key (pages i) key) 0) (page_of (pages i) key))
      ∙ (λ i. value m.0.pages h.has.seen.records (get_or m3.0.done (sym own i) 0) (page_of m.0.pages key))
      ∙ (λ i. value m.0.pages h.has.seen.records (done i) (page_of m.0.pages key)) in
      (ap (λ (c : ℕ). (standing t).value (page_of c key)) paged ∙ (here ∙ (ap (λ (c : ℕ). value c h.has.seen.records (standing t).applied (page_of m.0.pages key)) paged ∙ sym known)), seen, pages, done)

  -- the row that the stripe answers is the one after so many records
  pub row_read : (k n n' key at : ℕ) (m m1 m2 m3 : M) (t : T) (row : Row) → k < 16 → k ≡ stripe_of_key m.0.pages key → 16 ≤ m.0.pages → (standing t).is_bad (page_of m.0.pages key) ≡ false → at ≤ least m.0.floor
      → (h : Took standing k n m m1) → h.has.stripe ≡ t → m2 ≡ (m1.0, (k, Away) ∷ rest m1.1) → m3 ≡ (record m2.0 { done = set m2.0.done k (standing t).applied; turn = set m2.0.turn k n'; hand = 0 }, [])
      → ((standing t).value (page_of (standing t).pages key)).horizon ≤ at → row ≡ pick ((standing t).value (page_of (standing t).pages key)) key at → IsRowAt m3.0 key at row
  row_read k n n' key at m m1 m2 m3 t row small own wide sound front h is p q fresh row_is =
      let same = value_known k n n' key m m1 m2 m3 t small own wide sound h is p q in
      let fsize : length m.0.floor ≡ 16 = sym (λ i. length ((h.has.is i).0).floor) ∙ h.has.sound.sized.floor_size in
      let low = least_each m.0.floor k (omega arith) in let up = h.has.floor in
      let applied : (standing h.has.stripe).applied ≡ (standing t).applied = ap (λ (u : T). (standing u).applied) is in
      let proper : IsProper m.0.pages h.has.seen = subst (λ (x : ℕ × Log). IsProper x.0 x.1) (λ i. (((h.has.is i).0).pages, ((h.has.is i).0).seen)) h.has.sound.proper in
      let st = h.has.stands.stands.applied in
      let high = end_low m.0.pages h.has.seen (standing h.has.stripe).applied proper st in
      let seen = same.1 in let pages = same.2 in let done = same.3 in
      let len : end_of m3.0.seen ≡ end_of h.has.seen = ap end_of seen in
      let proper3 : IsProper m3.0.pages m3.0.seen = subst (λ (x : ℕ × Log). IsProper x.0 x.1) (λ i. (sym pages i, sym seen i)) proper in
      let at_own : get_or m3.0.done (stripe_of_key m3.0.pages key) 0 ≡ (standing t).applied = ap (λ (j : ℕ). get_or m3.0.done j 0) (ap (λ (c : ℕ). stripe_of_key c key) pages ∙ sym own) ∙ done in
      let horizon : (known_value m3.0 key).horizon ≤ at = subst (λ (v : PageValue). v.horizon ≤ at) same.0 fresh in record {
        reached = omega arith;
        fresh = horizon;
        row_there = row_is ∙ (ap (λ (v : PageValue). pick v key at) same.0
            ∙ pick-is m3.0.pages at (get_or m3.0.done (stripe_of_key m3.0.pages key) 0) key m3.0.seen.records proper3.each (omega arith) (omega arith) horizon);
      }

  pub old_read : (k n n' key at : ℕ) (m m1 m2 m3 : M) (t : T) (e : TooOld) → k < 16 → k ≡ stripe_of_key m.0.pages key → 16 ≤ m.0.pages → (standing t).is_bad (page_of m.0.pages key) ≡ false
      → (h : Took standing k n m m1) → h.has.stripe ≡ t → m2 ≡ (m1.0, (k, Away) ∷ rest m1.1) → m3 ≡ (record m2.0 { done = set m2.0.done k (standing t).applied; turn = set m2.0.turn k n'; hand = 0 }, [])
      → at < ((standing t).value (page_of (standing t).pages key)).horizon → e ≡ record { snapshot = at; horizon = ((standing t).value (page_of (standing t).pages key)).horizon } → IsTooOld m3.0 key at e
  old_read k n n' key at m m1 m2 m3 t e small own wide sound h is p q old told =
      let same = (value_known k n n' key m m1 m2 m3 t small own wide sound h is p q).0 in record {
        below = subst (λ (v : PageValue). at < v.horizon) same old;
        told = told ∙ (λ i. record { snapshot = at; horizon = (same i).horizon });
      }
