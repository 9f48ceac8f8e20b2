-- What is planned is what an accepted Resume does.
use Rattle.std.specs.Prelude.{if◌then◌else◌, nat_lt}
use Rattle.std.proofs.Common.{◌≡◌, ℕ, ◌+◌, ◌≤◌, ◌<◌, min, List, length, Bool, true, false, refl, sym, ap, ◌∙◌, subst, arith}
use Rattle.std.specs.Prelude.{◌==◌, ◌||◌, ◌&&◌}
use Rattle.std.specs.List.{filter}
use Rattle.std.proofs.lemmas.Bool.{eqb-true, or_from}
use Rattle.std.proofs.lemmas.Bool.Decides.{nat_tests}
use Rattle.ag_model.specs.Rows.{contains, page_numbers}
use Rattle.ag_model.proofs.PageSets.{pages_where-below}
use Rattle.ag_master.specs.declared.master.Master.{Master}
use Rattle.ag_rules.specs.Replica.{Replica, records, end}
use Rattle.ag_rules.specs.ResumeMessage.{foreign_from, still_initialises, may_follow, by_fork, goes_on, reverting_master}
use Rattle.ag_lists.proofs.Tests.{if_has}
use Rattle.ag_revert.specs.declared.plans.Plan.{Plan}
use Rattle.ag_revert.specs.declared.plans.Plan.TheVariants.{Follow, Revert, Continue}
use Rattle.ag_revert.specs.Touched.{touched_after}
use Rattle.ag_revert.specs.Planned.{union, rule_master, reverting, planned}
use Rattle.ag_revert.specs.Resumed.{IsMasterOf, AreBelow, IsDone}
use Rattle.ag_revert.proofs.Touches.{foreign_agrees}

-- the tests of a state and a term, where the term counts in that state alone
same_test : (x y : Bool) (s t term : ℕ) (c : Bool) → x ≡ y → (y ≡ true → s ≡ t) → (x && ((s == term) && c)) ≡ (y && ((t == term) && c))
same_test x true s t term c same is = rw (same, is refl) refl
same_test x false s t term c same is = rw same refl

-- no number but zero has a list that isn't empty
above_zero : (n : ℕ) → (n == 0) ≡ false → 0 < n
above_zero n other = grind (arith, nat_tests)

module _ (pages n term fork undo : ℕ) (r : Replica) (m : Master) (few : pages ≤ 2048) (h : IsMasterOf r m) (own : AreBelow pages m.foreign) (new : AreBelow pages (touched_after pages (records r) fork)) where
  -- the foreign pages are those of the event
  same_pages : union m.foreign (touched_after pages (records r) fork) ≡ foreign_from pages r fork
  same_pages =
      pages_where-below (λ p. contains p m.foreign || contains p (touched_after pages (records r) fork)) pages few
      (λ p above. or_from (contains p m.foreign) (contains p (touched_after pages (records r) fork)) (own p above) (new p above))
      ∙ ap (λ ps. filter (λ p. contains p ps || contains p (touched_after pages (records r) fork)) (page_numbers pages)) h.foreign
      ∙ sym (foreign_agrees pages fork r few)

  still : still_initialises m.state m.term (end r) term fork ≡ goes_on r term fork
  still = same_test (m.state == 4) (r.state == 4) m.term r.term term (fork == end r) h.initialising h.term

  same_master : (foreign : List ℕ) → rule_master (reverting m (end r) term fork undo foreign) ≡ reverting_master r term fork undo foreign
  same_master foreign =
      λ i. record {
        term = term;
        state = 3;
        incarnation = if nat_lt fork (end r) then h.incarnation i + 1 else h.incarnation i;
        redo_start = min (h.redo i) fork;
        undo = undo;
        foreign = foreign;
      }

  -- the plan of the replica, with so many foreign pages
  abbrev plan_of : List ℕ → Plan
  plan_of foreign = by_fork Continue Follow (Revert (reverting m (end r) term fork undo foreign)) r.state r.term (end r) term fork foreign

  told : planned m (end r) term fork undo (touched_after pages (records r) fork) ≡ plan_of (foreign_from pages r fork)
  told =
      ap (λ b. if b then Continue else if may_follow (union m.foreign (touched_after pages (records r) fork)) then Follow else Revert (reverting m (end r) term fork undo (union m.foreign (touched_after pages (records r) fork)))) still
      ∙ ap plan_of same_pages

  pub plan_is_done : IsDone pages n r term fork undo (planned m (end r) term fork undo (touched_after pages (records r) fork))
  plan_is_done =
      subst (λ (p : Plan). IsDone pages n r term fork undo p) (sym told)
      (if_has (λ (p : Plan). IsDone pages n r term fork undo p) (goes_on r term fork) Continue _
      (λ on. (on, rw on refl))
      (λ off.
      if_has (λ (p : Plan). IsDone pages n r term fork undo p) (length (foreign_from pages r fork) == 0) Follow (Revert (reverting m (end r) term fork undo (foreign_from pages r fork)))
      (λ none. (off, eqb-true (length (foreign_from pages r fork)) 0 none, rw (off, none) refl))
      (λ some. (off, above_zero (length (foreign_from pages r fork)) some, rw (off, some) refl, same_master (foreign_from pages r fork), refl))))

-- what a replica keeps, beside the cut, the format and its number, is a master of it
pub kept_is : (r : Replica) (format cut pages replica : ℕ) → (r.kept.master.state == 4) ≡ (r.state == 4) → ((r.state == 4) ≡ true → r.kept.master.term ≡ r.term)
    → IsMasterOf r (record { format = format; state = r.kept.master.state; incarnation = r.kept.master.incarnation; term = r.kept.master.term; cut = cut; undo = r.kept.master.undo; redo = r.kept.master.redo_start; pages = pages; replica = replica; foreign = r.kept.master.foreign })
kept_is r format cut pages replica state term = record { initialising = state; term = term; incarnation = refl; redo = refl; foreign = refl }
