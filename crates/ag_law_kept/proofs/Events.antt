-- Each event keeps what holds, and adds what it confirms.
use Rattle.std.specs.Prelude.{if◌then◌else◌, ◌==◌, not, ◌&&◌}
use Rattle.std.proofs.Common.{◌≡◌, ◌≢◌, ℕ, zero, suc, ◌+◌, ◌<◌, ◌≤◌, List, [], ◌∷◌, length, Bool, true, false, refl, sym, ap, ◌∙◌, arith}
use Rattle.std.specs.List.{filter, range_with_len}
use Rattle.std.proofs.lemmas.Bool.{false≢true, not-false, and_parts, or_parts, eqb-true, eqb-false, not-true}
use Rattle.ag_model.specs.declared.config.Register.{Register}
use Rattle.ag_model.specs.declared.event.Suffix.{Suffix}
use Rattle.ag_model.specs.declared.answer.Refusal.TheVariants.{Nothing, NoTarget}
use Rattle.ag_rules.specs.Group.{Group, replica, with_replica, has}
use Rattle.ag_rules.specs.Plan.{Part, Plan, here, at_node, refused}
use Rattle.ag_rules.specs.Cut.{cut}
use Rattle.ag_rules.specs.Next.{apart, at_session}
use Rattle.ag_rules.specs.Failover.{moved, moved_by_force, plan_of_planned, plan_of_force, plan_of_auto, plan_to_first, targets, is_target, has_mode_auto, primary_serves, checks_of_planned, checks_of_force}
use Rattle.ag_rules.specs.KeptLaw.{Confirmed}
use Rattle.ag_lists.proofs.Tests.{by_bool, if_has}
use Rattle.ag_laws.specs.Logs.{Logs, Setting}
use Rattle.ag_laws.specs.Good.{Good}
use Rattle.ag_laws.specs.Keeps.{Keeps}
use Rattle.ag_laws.proofs.Cuts.{cut_has, stop_has, fail_has}
use Rattle.ag_law_kept.specs.Past.{Past}
use Rattle.ag_law_kept.specs.Holds.{Holds}
use Rattle.ag_law_kept.proofs.World.{IsWorld, AreGrown, world}
use Rattle.ag_law_kept.proofs.Moved.{world_like}
use Rattle.ag_law_kept.proofs.Goes.{fit_of, Outcome, leader_on, goes_holds, fallen_holds, disk_core, DiskGoes, register_posted}
use Rattle.ag_law_kept.proofs.Calm.{PartCalm, same_calm}
use Rattle.ag_law_kept.proofs.Leads.{PartFits, cut_fits, cut_calm}
use Rattle.ag_law_kept.proofs.Nexts.{Remembers, Next, next_same, cut_register, failover_next}

-- the first of some numbers that pass
abbrev FirstPasses : (ℕ → Bool) → ℕ → List ℕ → Type 0
FirstPasses q high [] = Unit {0}
FirstPasses q high (n ∷ ns) = (n < high) × (q n ≡ true)

first_passes : (q : ℕ → Bool) (from count high : ℕ) → from + count ≤ high → FirstPasses q high (filter q (range_with_len from count))
first_passes q from zero high h = tt
first_passes q from (suc count) high h =
    if_has (FirstPasses q high) (q from) (from ∷ filter q (range_with_len (from + 1) count)) (filter q (range_with_len (from + 1) count))
    (λ t. (omega arith, t))
    (λ _. first_passes q (from + 1) count high (omega arith))

-- where none passes
pub none_passes : (q : ℕ → Bool) (from count m : ℕ) → length (filter q (range_with_len from count)) ≡ 0 → from ≤ m → m < from + count → q m ≡ false
none_passes q from zero m none low high = absurd (omega (arith, low, high))
none_passes q from (suc count) m none low high =
    by_bool (q from) (λ v. q from ≡ v → length (if v then from ∷ filter q (range_with_len (from + 1) count) else filter q (range_with_len (from + 1) count)) ≡ 0 → q m ≡ false)
    (λ _ e z. absurd (omega (arith, z)))
    (λ _ e z.
    by_bool (from == m) (λ v. (from == m) ≡ v → q m ≡ false)
    (λ _ y. ap q (sym (eqb-true from m y)) ∙ e)
    (λ _ y. none_passes q (from + 1) count m z (omega (arith, low, eqb-false from m y)) (omega (arith, high)))
    refl)
    refl none

module _ (past : Past) (cs : List Confirmed) (s : Setting) (logs : Logs) (g : Group) (good : Good s logs g) (r : Remembers past s g) (h : Holds past cs logs g) where
  -- what comes of a plan
  abbrev pub Comes2 : Suffix → Plan → Type 0
  Comes2 suffix p = (k : Keeps s logs g (cut suffix p).after) → Next past cs k.setting k.grown g (cut suffix p).after

  -- an event at one replica
  pub calm : (n : ℕ) (suffix : Suffix) (part : Part) → n < length g.replicas → PartCalm g.config.pages (replica g n) part → Comes2 suffix (at_node g n part)
  calm n suffix part there c k = next_same past cs s logs g _ good r k (ap (λ (x : Register). x.term) (cut_register g n part suffix)) (λ w2 gr. cut_calm past cs logs k.grown g n part suffix (world past s logs g r.meets good) h there c w2 gr)

  pub fits : (n : ℕ) (suffix : Suffix) (part : Part) → n < length g.replicas → PartFits past logs g.register g.config.pages n (replica g n) part → Comes2 suffix (at_node g n part)
  fits n suffix part there c k = next_same past cs s logs g _ good r k (ap (λ (x : Register). x.term) (cut_register g n part suffix)) (λ w2 gr. cut_fits past cs logs k.grown g n part suffix (world past s logs g r.meets good) h there c w2 gr)

  -- an event of two replicas
  pub two : (n m : ℕ) (suffix : Suffix) (plan : Plan) → n < length g.replicas → (n ≢ m → Comes2 suffix plan) → Comes2 suffix (apart g n m plan)
  two n m suffix plan there f =
      if_has (Comes2 suffix) (n == m) (at_node g n (refused Nothing (replica g n))) plan
      (λ _. calm n suffix (refused Nothing (replica g n)) there (same_calm g.config.pages (replica g n) _ (fit_of past n g.config.pages (replica g n) (h.states n))))
      (λ e. f (eqb-false n m e))

  pub planned_next : (n : ℕ) (suffix : Suffix) → n < length g.replicas → Comes2 suffix (plan_of_planned g n)
  unfolding plan_of_planned
  planned_next n suffix there =
      failover_next past cs s logs g n (moved g.register n) (checks_of_planned (here g n) (replica g n) (replica g g.register.primary)) suffix good r h there refl refl refl
      (λ p.
      let member : has g.register.synced n ≡ true = not-false _ (or_parts _ _ p.1.1.1.1.1.0).0 in
      record { apart = λ e. eqb-false g.register.primary n p.0 (sym e); back = p.1.1.0; normal = (h.members n member).normal })

  pub force_next : (n : ℕ) (suffix : Suffix) → n < length g.replicas → Comes2 suffix (plan_of_force g n)
  unfolding plan_of_force
  force_next n suffix there =
      failover_next past cs s logs g n (moved_by_force g.register n (length g.config.modes)) (checks_of_force (here g n) (replica g n)) suffix good r h there refl refl refl
      (λ p. record { apart = λ e. eqb-false g.register.primary n p.0 (sym e); back = p.1.1.0; normal = p.1.1.1.0 })

  to_first : (ns : List ℕ) (suffix : Suffix) → primary_serves g ≡ false → FirstPasses (is_target g) (length g.config.modes) ns → Comes2 suffix (plan_to_first g ns)
  to_first [] suffix serves p = calm 0 suffix (refused NoTarget (replica g 0)) (omega (arith, good.there)) (same_calm g.config.pages (replica g 0) _ (fit_of past 0 g.config.pages (replica g 0) (h.states 0)))
  to_first (n ∷ ns) suffix serves p =
      let a : (((replica g n).up && not (replica g n).cut_off) ≡ true) × ((has_mode_auto g n && has g.register.synced n) ≡ true) = and_parts _ _ p.1 in
      let b : ((replica g n).up ≡ true) × (not (replica g n).cut_off ≡ true) = and_parts _ _ a.0 in
      let c : (has_mode_auto g n ≡ true) × (has g.register.synced n ≡ true) = and_parts _ _ a.1 in
      failover_next past cs s logs g n (moved g.register n) [] suffix good r h (omega (arith, p.0, (world past s logs g r.meets good).count)) refl refl refl
      (λ _. record { apart = λ e. false≢true (sym serves ∙ ap (λ (m : ℕ). (replica g m).up && not (replica g m).cut_off) (sym e) ∙ a.0); back = not-true (replica g n).cut_off b.1; normal = (h.members n c.1).normal })

  pub auto_next : (suffix : Suffix) → Comes2 suffix (plan_of_auto g)
  unfolding plan_of_auto
  auto_next suffix =
      if_has (Comes2 suffix) (primary_serves g) (at_node g 0 (refused Nothing (replica g 0))) (plan_to_first g (targets g))
      (λ _. calm 0 suffix (refused Nothing (replica g 0)) (omega (arith, good.there)) (same_calm g.config.pages (replica g 0) _ (fit_of past 0 g.config.pages (replica g 0) (h.states 0))))
      (λ f. to_first (targets g) suffix f
      (if_has (FirstPasses (is_target g) (length g.config.modes)) (has_mode_auto g g.register.primary) (filter (is_target g) (range_with_len 0 (length g.config.modes))) [] (λ _. first_passes (is_target g) 0 (length g.config.modes) (length g.config.modes) (omega arith)) (λ _. tt)))

  -- an event of a session
  pub session_next : (n x : ℕ) (suffix : Suffix) (part : Part) → n < length g.replicas → PartCalm g.config.pages (replica g n) part → Comes2 suffix (at_session g n x part)
  session_next n x suffix part there c k =
      next_same past cs s logs g _ good r k (cut_has (λ q. q.after.register.term ≡ g.register.term) suffix (at_session g n x part) (λ i mask. refl) (λ i. refl) (ap (λ (y : Register). y.term) (register_posted n part.out (with_replica g n part.after))))
      (cut_has (λ q. IsWorld past k.grown q.after → AreGrown past logs k.grown q.after → Outcome past cs k.grown q.after) suffix (at_session g n x part)
      (λ i mask w2 gr. fallen_holds past cs logs k.grown g n w0 h there _ w2 gr (stop_has (DiskGoes g.config.pages (replica g n).kept) (disk_core g.config.pages (replica g n).kept) mask i (replica g n).kept part.writes c.goes.batches c.goes.writes))
      (λ i w2 gr. fallen_holds past cs logs k.grown g n w0 h there _ w2 gr (fail_has (DiskGoes g.config.pages (replica g n).kept) i (replica g n).kept part.writes c.goes.writes))
      (λ w2 gr.
      let o : Outcome past cs k.grown (at_node g n part).after =
      goes_holds past cs logs k.grown g n w0 h there part.after part.out (at_node g n part).after refl (world_like past k.grown (at_session g n x part).after (at_node g n part).after refl refl refl refl w2) (record { longer = gr.longer; others = gr.others }) c.goes.after (λ e. leader_on past logs k.grown g.register n (replica g n) part.after gr.longer (c.leads e) (h.leaders n)) c.goes.out in
      let y : Holds o.now cs k.grown (at_node g n part).after = o.holds in
      record { now = o.now; holds = record { asked = y.asked; knowing = y.knowing; states = y.states; leaders = y.leaders; messages = y.messages; members = y.members; takens = y.takens; targets = y.targets; commits = y.commits }; target = o.target; safe = o.safe }))
    where
      w0 : IsWorld past logs g
      w0 = world past s logs g r.meets good
