-- What comes of an event, from the invariant of the logs and from what was remembered.
use Rattle.std.specs.Prelude.{◌==◌, nat_lt, ◌&&◌, ◌||◌}
use Rattle.std.proofs.Common.{◌≡◌, ◌≢◌, ℕ, ◌+◌, ◌<◌, ◌≤◌, List, ◌++◌, length, Bool, true, false, refl, sym, ap, ◌∙◌, subst, arith, length-set}
use Rattle.std.proofs.lemmas.Bool.{eqb-true, eqb-false, ltb-true, ltb-false}
use Rattle.std.proofs.lemmas.List.{get_or-set_other}
use Rattle.std.proofs.Math.Bool.{and-false}
use Rattle.ag_model.specs.declared.config.Register.{Register}
use Rattle.ag_model.specs.declared.event.Suffix.{Suffix}
use Rattle.ag_rules.specs.Replica.{Replica, is_reverting}
use Rattle.ag_rules.specs.Group.{Group, replica, with_replica, has, nobody}
use Rattle.ag_rules.specs.Plan.{Part, Check, here, refused, at_node, at_node_after}
use Rattle.ag_rules.specs.Cut.{cut}
use Rattle.ag_rules.specs.Failover.{failover, failover_checks, failover_records, group_moved, old_primary, takes_over, target}
use Rattle.ag_rules.specs.KeptLaw.{Confirmed}
use Rattle.ag_lists.proofs.Tests.{by_bool, or_same}
use Rattle.ag_laws.specs.Logs.{Logs, Setting}
use Rattle.ag_laws.specs.Good.{Good}
use Rattle.ag_laws.specs.Keeps.{Keeps, Later}
use Rattle.ag_laws.proofs.Plans.{unless_has, Passes}
use Rattle.ag_laws.proofs.Cuts.{cut_has}
use Rattle.ag_law_kept.specs.Past.{Past, Meets, move}
use Rattle.ag_law_kept.specs.Holds.{Holds}
use Rattle.ag_law_kept.proofs.World.{IsWorld, AreGrown, world, are_grown}
use Rattle.ag_law_kept.proofs.Goes.{Fit, fit_of, Outcome, register_posted}
use Rattle.ag_law_kept.proofs.Calm.{same_calm}
use Rattle.ag_law_kept.proofs.Leads.{PartFits, cut_calm, cut_fits, takes_over_fits}
use Rattle.ag_law_kept.proofs.Moves.{by_term, target_now, target_other, safe_now, safe_other, AllCut, down_holds, all_cut, moved_world, moved_holds}

-- whether a failover into the term, to a member of the set, leads from one group to the next
abbrev pub safely : ℕ → Group → Group → Bool
safely t g after = nat_lt g.register.term t && ((after.register.term == t) && has g.register.synced after.register.primary)

-- what is remembered fits the store
pub record Remembers (past : Past) (s : Setting) (g : Group) : Type 0 where
  pub meets : Meets past s
  pub ahead : (t : ℕ) → g.register.term < t → past.safe t ≡ false

-- what comes of an event
pub record Next (past : Past) (cs : List Confirmed) (s2 : Setting) (grown : Logs) (g after : Group) : Type 0 where
  pub now : Past
  pub holds : Holds now cs grown after
  pub remembers : Remembers now s2 after
  pub safe : (t : ℕ) → now.safe t ≡ (past.safe t || safely t g after)

not_safely : (t : ℕ) (g after : Group) → (after.register.term ≡ t → t ≤ g.register.term) → safely t g after ≡ false
not_safely t g after low =
    by_term (safely t g after ≡ false) after.register.term t
    (λ same. ap (λ b. b && ((after.register.term == t) && has g.register.synced after.register.primary)) (below (low same)))
    (λ apart. ap (λ b. nat_lt g.register.term t && (b && has g.register.synced after.register.primary)) (differ apart) ∙ and-false (nat_lt g.register.term t))
  where
    below : t ≤ g.register.term → nat_lt g.register.term t ≡ false
    below h = by_bool (nat_lt g.register.term t) (λ v. nat_lt g.register.term t ≡ v → nat_lt g.register.term t ≡ false) (λ _ e. absurd (omega (arith, ltb-true g.register.term t e, h))) (λ _ e. e) refl

    differ : after.register.term ≢ t → (after.register.term == t) ≡ false
    differ p = by_bool (after.register.term == t) (λ v. (after.register.term == t) ≡ v → (after.register.term == t) ≡ false) (λ _ e. absurd (p (eqb-true after.register.term t e))) (λ _ e. e) refl

-- an event in the same term
pub next_same : (past : Past) (cs : List Confirmed) (s : Setting) (logs : Logs) (g after : Group) → Good s logs g → Remembers past s g → (k : Keeps s logs g after) → after.register.term ≡ g.register.term → (IsWorld past k.grown after → AreGrown past logs k.grown after → Outcome past cs k.grown after) → Next past cs k.setting k.grown g after
next_same past cs s logs g after good r k same f =
    let low : k.setting.now ≡ s.now = sym k.good.now ∙ same ∙ good.now in
    let meets : Meets past k.setting = λ t h. r.meets t (omega (arith, h, low)) ∙ k.later.leader t (omega (arith, h, low)) in
    let o : Outcome past cs k.grown after = f (world past k.setting k.grown after meets k.good) (are_grown past s k.setting logs k.grown after meets k.good.now k.later) in
    record {
      now = o.now;
      holds = o.holds;
      remembers = record { meets = λ t h. sym (o.target t) ∙ meets t h; ahead = λ t h. sym (o.safe t) ∙ r.ahead t (omega (arith, h, same)) };
      safe = λ t. sym (o.safe t) ∙ or_same (past.safe t) (safely t g after) (not_safely t g after (λ e. omega (arith, e, same)));
    }

-- an event of one replica leaves the store
pub cut_register : (g : Group) (n : ℕ) (part : Part) (suffix : Suffix) → (cut suffix (at_node g n part)).after.register ≡ g.register
cut_register g n part suffix = cut_has (λ q. q.after.register ≡ g.register) suffix (at_node g n part) (λ w mask. refl) (λ c. refl) (register_posted n part.out (with_replica g n part.after))

-- what a target of a failover is
pub record CanTake (g : Group) (n : ℕ) : Type 0 where
  pub apart : n ≢ g.register.primary
  pub back : (replica g n).cut_off ≡ false
  pub normal : is_reverting (replica g n).state ≡ false

pub failover_next : (past : Past) (cs : List Confirmed) (s : Setting) (logs : Logs) (g : Group) (n : ℕ) (store : Register) (checks : List Check) (suffix : Suffix) → Good s logs g → Remembers past s g → Holds past cs logs g → n < length g.replicas → store.term ≡ g.register.term + 1 → store.primary ≡ n → store.synced ≡ 0
    → (Passes (checks ++ failover_checks (here g n) (replica g n)) → CanTake g n) → (k : Keeps s logs g (cut suffix (failover g n store checks)).after) → Next past cs k.setting k.grown g (cut suffix (failover g n store checks)).after
failover_next past cs s logs g n store checks suffix good r h there term primary empty allowed =
    let rep : Replica = replica g n in
    let w : IsWorld past logs g = world past s logs g r.meets good in
    let f : Fit g.config.pages rep = fit_of past n g.config.pages rep (h.states n) in
    unless_has (λ part. (k : Keeps s logs g (cut suffix (at_node_after g (group_moved g store) n part)).after) → Next past cs k.setting k.grown g (cut suffix (at_node_after g (group_moved g store) n part)).after)
    (checks ++ failover_checks (here g n) rep) rep _
    (λ why k. next_same past cs s logs g _ good r k (ap (λ (x : Register). x.term) (cut_register g n (refused why rep) suffix)) (λ w2 gr. cut_calm past cs logs k.grown g n (refused why rep) suffix w h there (same_calm g.config.pages rep _ f) w2 gr))
    (λ p k. takes w f (allowed p) k)
  where
    takes : IsWorld past logs g → Fit g.config.pages (replica g n) → CanTake g n
        → (let after = (cut suffix (at_node (group_moved g store) n (takes_over (record (here g n) { store = store }) (failover_records (here g n) (replica g n)) (target (replica g n))))).after in (k : Keeps s logs g after) → Next past cs k.setting k.grown g after)
    takes w f can k =
        let new : Part = takes_over (record (here g n) { store = store }) (failover_records (here g n) (replica g n)) (target (replica g n)) in
        let p : ℕ = g.register.primary in
        let g1 : Group = with_replica g p (old_primary (replica g p)) in
        let g2 : Group = group_moved g store in
        let after : Group = (cut suffix (at_node g2 n new)).after in
        let d : Holds past cs logs g1 × IsWorld past logs g1 = down_holds past cs logs g w h in
        let cuts : AllCut g1 n = all_cut past cs logs g w h n can.apart can.back in
        let there1 : n < length g1.replicas = omega (arith, there, length-set g.replicas p (old_primary (replica g p))) in
        let past2 : Past = move past (g.register.term + 1) n (has g.register.synced n) in
        let world2 : IsWorld past2 logs g2 = moved_world past cs logs g1 d.1 d.0 n store cuts there1 term primary empty in
        let holds2 : Holds past2 cs logs g2 = moved_holds past cs logs g1 d.1 d.0 n store cuts there1 term primary empty in
        let same : replica g2 n ≡ replica g n = get_or-set_other g.replicas p n (old_primary (replica g p)) nobody can.apart in
        let fits : PartFits past2 logs store g.config.pages n (replica g2 n) new = subst (λ (x : Replica). PartFits past2 logs store g.config.pages n x new) (sym same) (takes_over_fits past2 logs n (record (here g n) { store = store }) (failover_records (here g n) (replica g n)) (replica g n) f can.normal) in
        let at : after.register ≡ store = cut_register g2 n new suffix in
        let meets : Meets past2 k.setting = meets_moved k.setting k.grown after at k.good k.later in
        moved_next k.setting k.grown after at meets (cut_fits past2 cs logs k.grown g2 n new suffix world2 holds2 there1 fits (world past2 k.setting k.grown after meets k.good) (are_grown past2 s k.setting logs k.grown after meets k.good.now k.later))
      where
        -- the targets after the store moved
        meets_moved : (s2 : Setting) (grown : Logs) (after : Group) → after.register ≡ store → Good s2 grown after → Later s logs s2 grown after → Meets (move past (g.register.term + 1) n (has g.register.synced n)) s2
        meets_moved s2 grown after at good2 later t low =
            let high : s2.now ≡ g.register.term + 1 = sym good2.now ∙ ap (λ (x : Register). x.term) at ∙ term in
            by_term ((move past (g.register.term + 1) n (has g.register.synced n)).target t ≡ s2.leader t) t (g.register.term + 1)
            (λ e. ap (move past (g.register.term + 1) n (has g.register.synced n)).target e ∙ target_now past (g.register.term + 1) n (has g.register.synced n) ∙ sym primary ∙ ap (λ (x : Register). x.primary) (sym at) ∙ good2.primary ∙ ap s2.leader (high ∙ sym e))
            (λ e. target_other past (g.register.term + 1) n (has g.register.synced n) t e ∙ r.meets t (omega (arith, low, high, e, good.now)) ∙ later.leader t (omega (arith, low, high, e, good.now)))

        -- what is remembered after the store moved
        moved_next : (s2 : Setting) (grown : Logs) (after : Group) → after.register ≡ store → Meets (move past (g.register.term + 1) n (has g.register.synced n)) s2 → Outcome (move past (g.register.term + 1) n (has g.register.synced n)) cs grown after → Next past cs s2 grown g after
        moved_next s2 grown after at meets o =
            let past2 : Past = move past (g.register.term + 1) n (has g.register.synced n) in
            let at_term : after.register.term ≡ g.register.term + 1 = ap (λ (x : Register). x.term) at ∙ term in
            record {
              now = o.now;
              holds = o.holds;
              remembers = record {
                meets = λ t low. sym (o.target t) ∙ meets t low;
                ahead = λ t low. sym (o.safe t) ∙ safe_other past (g.register.term + 1) n (has g.register.synced n) t (λ e. omega (arith, low, e, at_term)) ∙ r.ahead t (omega (arith, low, at_term));
              };
              safe = λ t. sym (o.safe t) ∙ by_term (past2.safe t ≡ (past.safe t || safely t g after)) t (g.register.term + 1)
                  (λ e.
                  ap past2.safe e ∙ safe_now past (g.register.term + 1) n (has g.register.synced n)
                  ∙ ap (has g.register.synced) (sym primary ∙ ap (λ (x : Register). x.primary) (sym at))
                  ∙ sym (ap (λ b. b && ((after.register.term == t) && has g.register.synced after.register.primary)) (lt_yes g.register.term t (omega (arith, e))) ∙ ap (λ b. b && has g.register.synced after.register.primary) (eq_yes after.register.term t (at_term ∙ sym e)))
                  ∙ ap (λ b. b || safely t g after) (sym (r.ahead t (omega (arith, e)))))
                  (λ e. safe_other past (g.register.term + 1) n (has g.register.synced n) t e ∙ or_same (past.safe t) (safely t g after) (not_safely t g after (λ q. absurd (e (sym q ∙ at_term)))));
            }
          where
            lt_yes : (a b : ℕ) → a < b → nat_lt a b ≡ true
            lt_yes a b q = by_bool (nat_lt a b) (λ v. nat_lt a b ≡ v → nat_lt a b ≡ true) (λ _ e. e) (λ _ e. absurd (omega (arith, q, ltb-false a b e))) refl

            eq_yes : (a b : ℕ) → a ≡ b → (a == b) ≡ true
            eq_yes a b q = by_bool (a == b) (λ v. (a == b) ≡ v → (a == b) ≡ true) (λ _ e. e) (λ _ e. absurd (eqb-false a b e q)) refl
