-- The log taken, made longer, and given back.
use Rattle.std.proofs.Common.{◌≡◌, ℕ, ◌+◌, true, List, [], ◌∷◌, get_or, set, sym, ap, ◌∙◌, subst, arith, get_or-set_other}
use lib.Seq.{set-get_or}
use Rattle.atomic_table.specs.Table.{Me, rest}
use Rattle.ag_model.specs.declared.record.Log.{Log}
use Rattle.ag_model.specs.Prefixes.{end_of, IsPrefix}
use Rattle.ag_model.specs.declared.record.Record.{Record}
use Rattle.ag_model.specs.Blocks.{with_block}
use Rattle.ag_model.specs.Proper.{IsProper}
use Rattle.std.specs.Prelude.{Result, Ok, Err, IfOk, OnErr}
use Rattle.ag_front.specs.declared.fault.DispatchFault.{DispatchFault}
use Rattle.ag_model.proofs.Prefixes.{prefix_trans, prefix_refl}
use Rattle.ag_model.proofs.ProperPrefixes.{prefix_more}
use Rattle.ag_front.specs.declared.view.View.{View}
use Rattle.ag_front.specs.declared.rule.Slot.{Slot}
use Rattle.ag_front.specs.declared.rule.Slot.TheVariants.{History, Away}
use Rattle.ag_front.specs.Rule.{IsSound}
use Rattle.ag_front.specs.Slots.{counted_up, tried, with_log, Missed, HasLog, TookLog, Trying, LogVisited}
use Rattle.ag_front.proofs.Giving.{first_of'}
use Rattle.ag_front.proofs.Grabbing.{set_twice}

module _ {T : Type 0} where
  pub trying_none : (turn : ℕ) (m : Me (Slot T) View) → turn ≡ get_or m.0.turn 16 0 → Trying turn m m
  trying_none turn m is = record { tries = m.0.tries; is = λ i. (record m.0 { turn = (sym (set-get_or m.0.turn 16 0) ∙ ap (λ (x : ℕ). set m.0.turn 16 x) (sym is)) i }, m.1) }

  pub trying_next : (a n : ℕ) (m m1 m2 : Me (Slot T) View) → Trying a m m1 → Missed 16 m1 n m2 → Trying n m m2
  trying_next a n m m1 m2 was miss = record {
    tries = counted_up was.tries 16;
    is = miss.0 ∙ ((λ i. (tried ((was.is i).0) 16 n, (was.is i).1)) ∙ (λ i. (record m.0 { turn = set_twice m.0.turn 16 a n i; tries = counted_up was.tries 16 }, m.1)));
  }

  pub took_log : (a n : ℕ) (m m1 m2 : Me (Slot T) View) → Trying a m m1 → HasLog m1 (set m1.0.turn 16 n) (counted_up m1.0.tries 16) m2 → TookLog n m m2
  took_log a n m m1 m2 was = subst (λ (x : Me (Slot T) View). HasLog x (set x.0.turn 16 n) (counted_up x.0.tries 16) m2 → TookLog n m m2) (sym was.is) (λ h. record {
    log = h.log;
    tries = counted_up was.tries 16;
    is = h.is ∙ (λ i. (with_log m.0 h.log (set_twice m.0.turn 16 a n i) (counted_up was.tries 16), (16, History h.log) ∷ m.1));
    more = h.more;
    proper = h.proper;
    whole = h.whole;
    sound = h.sound;
  })

  pub log_in_hand : (n : ℕ) (m m' : Me (Slot T) View) (x : Slot T) (log : Log) → (h : TookLog n m m') → m'.1 ≡ (16, x) ∷ rest m'.1 → x ≡ History log → h.log ≡ log
  log_in_hand n m m' x log h is found = let e : x ≡ History h.log = sym (ap (λ (l : List (ℕ × Slot T)). (first_of' (16, x) l).1) is) ∙ (λ i. (first_of' (16, x) ((h.is i).1)).1) in cc (e, found)

  -- the author's log is no shorter
  pub log_further : (n : ℕ) (m m1 : Me (Slot T) View) (log log' : Log) (block : List Record) (first : ℕ) (r : Result ℕ DispatchFault) → (h : TookLog n m m1) → h.log ≡ log → m.0.author ≡ true
      → (first ≡ end_of m.0.seen + 1 → IsProper m.0.pages (with_block m.0.seen block)) → IfOk r (λ _. first ≡ end_of log + 1) → IfOk r (λ _. log' ≡ with_block log block) → OnErr r (log' ≡ log) → IsPrefix h.log log'
  log_further n m m1 log log' block first r h is author proper = go r
    where
      go : (q : Result ℕ DispatchFault) → IfOk q (λ _. first ≡ end_of log + 1) → IfOk q (λ _. log' ≡ with_block log block) → OnErr q (log' ≡ log) → IsPrefix h.log log'
      go (Ok x) next longer same = let whole : m.0.seen ≡ log = h.whole author ∙ is in
          let more = subst (λ (x : Log). IsProper m.0.pages (with_block x block)) (h.whole author) (proper (next ∙ ap (λ (x : Log). end_of x + 1) (sym whole))) in
          subst (λ (x : Log). IsPrefix h.log x) (ap (λ (x : Log). with_block x block) is ∙ sym longer) (prefix_more m.0.pages h.log block h.proper more)
      go (Err e) next longer same = subst (λ (x : Log). IsPrefix h.log x) (is ∙ sym same) (prefix_refl m.0.pages h.log h.proper)

  pub log_visited : (n n' : ℕ) (m m1 m2 m3 : Me (Slot T) View) (log' : Log) → (h : TookLog n m m1) → m2 ≡ (m1.0, (16, Away) ∷ rest m1.1) → IsPrefix h.log log'
      → m3 ≡ (record m2.0 { seen = log'; turn = set m2.0.turn 16 n'; hand = 0 }, []) → IsSound m3.0 → LogVisited m m3 × (m3.0.seen ≡ log') × (m3.0.turn ≡ set m.0.turn 16 n')
  log_visited n n' m m1 m2 m3 log' h p further q sound =
      let e : m3 ≡ (record m.0 { seen = log'; turn = set m.0.turn 16 n'; takes = counted_up m.0.takes 16; tries = h.tries; hand = 0; at = end_of h.log }, []) = q
      ∙ ((λ i. (record ((p i).0) { seen = log'; turn = set ((p i).0).turn 16 n'; hand = 0 }, []))
      ∙ ((λ i. (record ((h.is i).0) { seen = log'; turn = set ((h.is i).0).turn 16 n'; hand = 0 }, []))
      ∙ (λ i. (record m.0 { seen = log'; turn = set_twice m.0.turn 16 n n' i; takes = counted_up m.0.takes 16; tries = h.tries; hand = 0; at = end_of h.log }, [])))) in (
        record {
          free = ((λ i. (e i).1), (λ i. ((e i).0).hand));
          more = subst (λ (x : Log). IsPrefix m.0.seen x) (sym (λ i. ((e i).0).seen)) (prefix_trans m.0.seen h.log log' h.more further);
          sound = sound;
          takes = λ i. ((e i).0).takes;
          turns = λ k l. (λ i. get_or ((e i).0).turn k 0) ∙ get_or-set_other m.0.turn 16 k n' 0 (λ q. omega arith);
          floor = λ i. ((e i).0).floor;
          done = λ i. ((e i).0).done;
          loads = λ i. ((e i).0).loads;
          olds = λ i. ((e i).0).olds;
          author = λ i. ((e i).0).author;
          parts = λ i. ((e i).0).parts;
          pages = λ i. ((e i).0).pages;
        },
        (λ i. ((e i).0).seen),
        (λ i. ((e i).0).turn),
      )

  -- the log was given back as it was
  pub log_visited_same : (n n' : ℕ) (m m1 m2 m3 : Me (Slot T) View) (log : Log) → (h : TookLog n m m1) → h.log ≡ log → m2 ≡ (m1.0, (16, Away) ∷ rest m1.1)
      → m3 ≡ (record m2.0 { seen = log; turn = set m2.0.turn 16 n'; hand = 0 }, []) → IsSound m3.0 → LogVisited m m3 × (m3.0.seen ≡ log) × (m3.0.turn ≡ set m.0.turn 16 n')
  log_visited_same n n' m m1 m2 m3 log h is p q sound = log_visited n n' m m1 m2 m3 log h p (subst (λ (x : Log). IsPrefix h.log x) is (prefix_refl m.0.pages h.log h.proper)) q sound
