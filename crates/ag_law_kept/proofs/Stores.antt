-- Events that change a set of the store: `resume`, `sync` and `timeout`.
use Rattle.std.specs.Prelude.{◌==◌, not, Option, Some, slice_get}
use Rattle.std.proofs.Common.{◌≡◌, ◌≢◌, ℕ, ◌+◌, ◌<◌, ◌≤◌, List, length, set, true, false, inl, inr, refl, sym, ap, ◌∙◌, subst, arith, length-set, set-set, get_or-set_same}
use Rattle.std.proofs.lemmas.Bool.{not-false, or_parts, ltb-false}
use Rattle.std.proofs.lemmas.List.{get_or-set_other}
use Rattle.ag_model.specs.declared.record.Record.TheVariants.{Term}
use Rattle.ag_model.specs.declared.config.Register.{Register}
use Rattle.ag_model.specs.declared.event.Suffix.{Suffix}
use Rattle.ag_model.specs.declared.answer.Answer.TheVariants.{Resumed, Synchronised, TimedOut}
use Rattle.ag_model.specs.declared.config.Ticket.{Ticket}
use Rattle.ag_rules.specs.ResumeMessage.{waits_for}
use Rattle.ag_lists.proofs.Places.{at_set, at_set_there}
use Rattle.ag_lists.proofs.Each.{all_map}
use Rattle.ag_laws.specs.Prefix.{IsPrefixOf}
use Rattle.ag_rules.specs.Replica.{Replica, Kept, Peer, records, end, peer, no_peer, is_reverting}
use Rattle.ag_rules.specs.Group.{Group, replica, with_replica, link, has, nobody, with_member, without_member}
use Rattle.ag_rules.specs.Plan.{Plan, here, at_once, at_node, at_node_after}
use Rattle.ag_rules.specs.Cut.{cut}
use Rattle.ag_rules.specs.CutEvent.{told}
use Rattle.ag_rules.specs.ResumeEvent.{plan_of_resume, checks_of_resume, with_resumed}
use Rattle.ag_rules.specs.SyncEvent.{plan_of_sync, checks_of_sync, with_synced, plan_of_timeout, checks_of_timeout, without_synced, disconnected}
use Rattle.ag_rules.specs.KeptLaw.{Confirmed}
use Rattle.ag_laws.specs.Logs.{Logs}
use Rattle.ag_laws.proofs.Prefix.{prefix_refl}
use Rattle.ag_laws.proofs.Plans.{unless_has}
use Rattle.ag_laws.proofs.BlockKeeps.{same_term}
use Rattle.ag_law_kept.specs.Known.{IsKnown}
use Rattle.ag_law_kept.specs.Past.{Past}
use Rattle.ag_law_kept.specs.Holds.{Knowing, IsState, IsLeader, HasBegun, IsMember, IsTaken, IsConfirmed, Holds}
use Rattle.ag_law_kept.proofs.Known.{known_less, get_within, has_term}
use Rattle.ag_law_kept.proofs.World.{IsGrounded, HasOwn, Acts, IsWorld, AreGrown}
use Rattle.ag_law_kept.proofs.Longer.{Waits, messages_longer}
use Rattle.ag_law_kept.proofs.Moved.{NewReplica, moved, fresh_of, world_like}
use Rattle.ag_law_kept.proofs.Goes.{Fit, fit_of, Outcome, LeadsOn, leader_on, new_replica, waits_refl}
use Rattle.ag_law_kept.proofs.Calm.{still, same_calm}
use Rattle.ag_law_kept.proofs.Leads.{cut_calm}
use Rattle.ag_law_kept.proofs.Greets.{cut_quiet}
use Rattle.ag_law_kept.proofs.Sets.{member_added, member_removed}

-- another suspended set
suspended_holds : (past : Past) (cs : List Confirmed) (logs : Logs) (g : Group) (x : ℕ) → Holds past cs logs g → Holds past cs logs (record g { register = record g.register { suspended = x } })
suspended_holds past cs logs g x h = record {
  asked = h.asked;
  knowing = h.knowing;
  states = h.states;
  leaders = λ n e. let l : IsLeader past logs g.register n (replica g n) = h.leaders n e in record { stale = l.stale; primary = l.primary; copy = l.copy; old = l.old; peers = l.peers; free = l.free; normal = l.normal };
  messages = h.messages;
  members = λ m e. let i : IsMember past logs g.register (length g.replicas) m (replica g m) = h.members m e in record { there = i.there; term = i.term; normal = i.normal; begun = i.begun };
  takens = h.takens;
  targets = h.targets;
  commits = all_map (IsConfirmed past logs g.register) (IsConfirmed past logs (record g.register { suspended = x })) (λ c i. record { some = i.some; term = i.term; reached = i.reached; within = i.within; commit = i.commit; held = i.held; took = i.took }) cs h.commits;
}

-- what comes of an event that changes the store, unless it is refused
abbrev pub Comes : Past → List Confirmed → Logs → Logs → Suffix → Plan → Type 0
Comes past cs logs grown suffix p = IsWorld past grown (cut suffix p).after → AreGrown past logs grown (cut suffix p).after → Outcome past cs grown (cut suffix p).after

pub resume_event_holds : (past : Past) (cs : List Confirmed) (logs grown : Logs) (g : Group) (n : ℕ) (suffix : Suffix) → IsWorld past logs g → Holds past cs logs g → n < length g.replicas → Comes past cs logs grown suffix (plan_of_resume g n)
unfolding plan_of_resume
resume_event_holds past cs logs grown g n suffix w h there =
    let r : Replica = replica g n in
    let g2 : Group = record g { register = with_resumed g.register n } in
    let f : Fit g.config.pages r = fit_of past n g.config.pages r (h.states n) in
    unless_has (λ part. Comes past cs logs grown suffix (at_node_after g g2 n part)) (checks_of_resume (here g n) r) r (at_once Resumed r)
    (λ why. cut_calm past cs logs grown g n _ suffix w h there (same_calm g.config.pages r _ f))
    (λ _. cut_calm past cs logs grown g2 n (at_once Resumed r) suffix (world_like past logs g g2 refl refl refl refl w) (suspended_holds past cs logs g (without_member g.register.suspended n) h) there (same_calm g.config.pages r _ f))

-- the store's set is another one, and its primary knows
synced_holds : (past : Past) (cs : List Confirmed) (grown : Logs) (g1 : Group) (n set2 : ℕ) → IsWorld past grown g1 → Holds past cs grown g1 → n < length g1.replicas → (replica g1 n).leads ≡ true → (replica g1 n).term ≡ g1.register.term → past.target g1.register.term ≡ n
    → ((m : ℕ) → has set2 m ≡ true → IsMember past grown g1.register (length g1.replicas) m (replica g1 m)) → ((c : Confirmed) → IsConfirmed past grown g1.register c → c.term ≡ g1.register.term → (m : ℕ) → has set2 m ≡ true → IsKnown (past.told m c.term) (grown c.term) c.lsn)
    → Holds past cs grown (with_replica (record g1 { register = record g1.register { synced = set2 } }) n (told set2 (replica g1 n)))
synced_holds past cs grown g1 n set2 w h there leads now mine members held =
    let r2 : Replica = told set2 (replica g1 n) in
    let store2 : Register = record g1.register { synced = set2 } in
    record {
      asked = h.asked;
      knowing = at_set_there (λ m r. Knowing past grown m (records r) r.term) g1.replicas nobody n r2 there (λ m _. h.knowing m) (h.knowing n);
      states = at_set_there (λ m r. IsState past m g1.config.pages r) g1.replicas nobody n r2 there (λ m _. h.states m) (let s : IsState past n g1.config.pages (replica g1 n) = h.states n in record { disk = s.disk; low = s.low; saved = s.saved; follows = s.follows; whole = s.whole });
      leaders = at_set_there (λ m r. r.leads ≡ true → IsLeader past grown store2 m r) g1.replicas nobody n r2 there
          (λ m apart e.
          let l : IsLeader past grown g1.register m (replica g1 m) = h.leaders m e in
          let a : Acts past m (replica g1 m) = (w.each m).acts e in
          record { stale = l.stale; primary = l.primary; copy = λ q. absurd (apart (sym a.target ∙ ap past.target q ∙ mine)); old = l.old; peers = l.peers; free = l.free; normal = l.normal })
          (λ e. let l : IsLeader past grown g1.register n (replica g1 n) = h.leaders n e in record { stale = l.stale; primary = l.primary; copy = λ _. refl; old = λ low safe. absurd (omega (arith, low, now)); peers = l.peers; free = l.free; normal = l.normal });
      messages = messages_longer past grown grown (λ t. prefix_refl (grown t)) (replica g1) (replica (with_replica g1 n r2)) (link g1) (at_set (λ m x. Waits (replica g1 m) x) g1.replicas nobody n r2 (λ m. waits_refl (replica g1 m)) (λ t q. q)) h.messages;
      members = subst (λ (count : ℕ). (m : ℕ) → has set2 m ≡ true → IsMember past grown store2 count m (replica (with_replica g1 n r2) m)) (sym (length-set g1.replicas n r2))
          (at_set_there (λ m r. has set2 m ≡ true → IsMember past grown store2 (length g1.replicas) m r) g1.replicas nobody n r2 there
          (λ m _ e. let i : IsMember past grown g1.register (length g1.replicas) m (replica g1 m) = members m e in record { there = i.there; term = i.term; normal = i.normal; begun = i.begun })
          (λ e. let i : IsMember past grown g1.register (length g1.replicas) n (replica g1 n) = members n e in record { there = i.there; term = i.term; normal = i.normal; begun = i.begun }));
      takens = λ t low safe.
          at_set_there (λ m r. m ≡ past.target (t + 1) → IsTaken past grown t r) g1.replicas nobody n r2 there
          (λ m _ e. subst (λ (k : ℕ). IsTaken past grown t (replica g1 k)) (sym e) (h.takens t low safe))
          (λ e. let i : IsTaken past grown t (replica g1 n) = subst (λ (k : ℕ). IsTaken past grown t (replica g1 k)) (sym e) (h.takens t low safe) in record { reached = i.reached; begun = i.begun; kept = i.kept })
          (past.target (t + 1)) refl;
      targets = h.targets;
      commits = all_map (IsConfirmed past grown g1.register) (IsConfirmed past grown store2) (λ c i. record { some = i.some; term = i.term; reached = i.reached; within = i.within; commit = i.commit; held = held c i; took = i.took }) cs h.commits;
    }

module _ (past : Past) (cs : List Confirmed) (logs grown : Logs) (g : Group) (n m : ℕ) (w : IsWorld past logs g) (h : Holds past cs logs g) (there : n < length g.replicas) where
  -- what has to hold of the new set
  abbrev pub NewSet : Replica → ℕ → Type 0
  NewSet r1 set2 =
      ((k : ℕ) → has set2 k ≡ true → IsMember past grown g.register (length (with_replica g n r1).replicas) k (replica (with_replica g n r1) k))
      × ((c : Confirmed) → IsConfirmed past grown g.register c → c.term ≡ g.register.term → (k : ℕ) → has set2 k ≡ true → IsKnown (past.told k c.term) (grown c.term) c.lsn)

  -- the store's primary, which isn't cut off, changes the store's set
  changes_holds : (r1 : Replica) (set2 : ℕ) → (replica g n).leads ≡ true → (replica g n).cut_off ≡ false → r1.kept ≡ (replica g n).kept → r1.state ≡ (replica g n).state → r1.following.ticket ≡ (replica g n).following.ticket → (r1.leads ≡ true → LeadsOn (replica g n) r1) → r1.leads ≡ true → r1.term ≡ (replica g n).term
      → (IsWorld past grown (with_replica g n r1) → Holds past cs grown (with_replica g n r1) → NewSet r1 set2)
      → (let after = with_replica (record g { register = record g.register { synced = set2 } }) n (told set2 r1) in IsWorld past grown after → AreGrown past logs grown after → Outcome past cs grown after)
  changes_holds r1 set2 leads back kept state ticket on leads1 term1 sets w2 gr =
      let r : Replica = replica g n in
      let now : ℕ = g.register.term in
      let g1 : Group = with_replica g n r1 in
      let after : Group = with_replica (record g { register = record g.register { synced = set2 } }) n (told set2 r1) in
      let l : IsLeader past logs g.register n r = h.leaders n leads in
      let a : Acts past n r = (w.each n).acts leads in
      let at : r.term ≡ now = l.stale back in
      let mine : past.target now ≡ n = ap past.target (sym at) ∙ a.target in
      let same1 : replica g1 n ≡ r1 = get_or-set_same g.replicas n r1 nobody there in
      let same2 : replica after n ≡ told set2 r1 = get_or-set_same g.replicas n (told set2 r1) nobody there in
      let ground2 : IsGrounded past grown now n (told set2 r1) = subst (IsGrounded past grown now n) same2 (w2.each n) in
      let ground1 : IsGrounded past grown now n r1 = record {
        prefix = ground2.prefix;
        term = ground2.term;
        reached = ground2.reached;
        own = λ e. let o : HasOwn grown (told set2 r1) = ground2.own e in record { whole = o.whole; begun = o.begun };
        ahead = ground2.ahead;
        acts = λ e. let x : Acts past n (told set2 r1) = ground2.acts e in record { up = x.up; target = x.target; some = x.some };
        down = ground2.down;
      } in
      let world1 : IsWorld past grown g1 = record {
        are = w2.are;
        each = at_set_there (λ k x. IsGrounded past grown now k x) g.replicas nobody n r1 there (λ k apart. subst (IsGrounded past grown now k) (get_or-set_other g.replicas n k (told set2 r1) nobody apart) (w2.each k)) ground1;
        primary = w2.primary;
        there = omega (arith, w.there, length-set g.replicas n r1);
        count = length-set g.replicas n r1 ∙ w.count;
      } in
      let f : Fit g.config.pages r = fit_of past n g.config.pages r (h.states n) in
      let new1 : NewReplica past grown g n r1 = new_replica past cs logs grown g n w h there r1 g1 world1 gr.longer same1 refl (still g.config.pages r r1 f kept state ticket) (λ e. leader_on past logs grown g.register n r r1 gr.longer (on e) (h.leaders n)) in
      let h1 : Holds past cs grown g1 =
      moved past cs logs grown g n r1 w h there gr.longer
      (fresh_of past logs grown g after n (told set2 r1) w w2 gr there refl refl (omega (arith, term1)) (λ _. subst (λ (k : Kept). IsPrefixOf (records r) k.log.records) (sym kept) (prefix_refl (records r)))) new1
      (messages_longer past logs grown gr.longer (replica g) (replica g1) (link g) (at_set (λ k x. Waits (replica g k) x) g.replicas nobody n r1 (λ k. waits_refl (replica g k)) (λ t q. subst (λ (o : Option Ticket). waits_for o t ≡ true) ticket q)) h.messages) in
      let sets1 : ((k : ℕ) → has set2 k ≡ true → IsMember past grown g1.register (length g1.replicas) k (replica g1 k)) × ((c : Confirmed) → IsConfirmed past grown g1.register c → c.term ≡ g1.register.term → (k : ℕ) → has set2 k ≡ true → IsKnown (past.told k c.term) (grown c.term) c.lsn) = sets world1 h1 in
      let h2 : Holds past cs grown (with_replica (record g1 { register = record g1.register { synced = set2 } }) n (told set2 (replica g1 n))) =
      synced_holds past cs grown g1 n set2 world1 h1 (omega (arith, there, length-set g.replicas n r1)) (ap (λ (x : Replica). x.leads) same1 ∙ leads1) (ap (λ (x : Replica). x.term) same1 ∙ term1 ∙ at) mine sets1.0 sets1.1 in
      record {
        now = past;
        holds = subst (λ (rs : List Replica). Holds past cs grown (record g { register = record g.register { synced = set2 }; replicas = rs })) (ap (λ x. set (set g.replicas n r1) n (told set2 x)) same1 ∙ set-set g.replicas n r1 (told set2 r1)) h2;
        target = λ t. refl;
        safe = λ t. refl;
      }

  pub timeout_holds : (suffix : Suffix) → Comes past cs logs grown suffix (plan_of_timeout g n m)
  unfolding plan_of_timeout
  timeout_holds suffix =
      let r : Replica = replica g n in
      let set2 : ℕ = without_member g.register.synced m in
      let g2 : Group = record g { register = without_synced g.register m } in
      let r1 : Replica = disconnected r m in
      unless_has (λ part. Comes past cs logs grown suffix (at_node_after g g2 n part)) (checks_of_timeout (here g n) r m) r (at_once TimedOut (told set2 r1))
      (λ why. cut_calm past cs logs grown g n _ suffix w h there (same_calm g.config.pages r _ (fit_of past n g.config.pages r (h.states n))))
      (λ p.
      let leads : r.leads ≡ true = not-false _ p.1.1.0 in
      let on : r1.leads ≡ true → LeadsOn r r1 = λ e. record {
        leads = e;
        term = refl;
        cut = λ c. c;
        synced = refl;
        known = at_set (λ k (x : Peer). x.hardened ≡ (peer r k).hardened) r.leading.peers no_peer m (record (peer r m) { connected = false }) (λ k. refl) refl;
        free = λ q. q;
        normal = λ q. q;
      } in
      subst (λ (q : Plan). IsWorld past grown q.after → AreGrown past logs grown q.after → Outcome past cs grown q.after) (sym (cut_quiet suffix (at_node g2 n (at_once TimedOut (told set2 r1))) refl))
      (changes_holds r1 set2 leads p.1.0 refl refl refl on leads refl
      (λ w1 h1. (
        (λ k e. h1.members k (member_removed g.register.synced m k e)),
        (λ c i at k e. i.held at k (member_removed g.register.synced m k e)),
      ))))

  pub sync_holds : (suffix : Suffix) → m < length g.replicas → n ≢ m → Comes past cs logs grown suffix (plan_of_sync g n m)
  unfolding plan_of_sync
  sync_holds suffix m_there apart =
      let r : Replica = replica g n in
      let other : Replica = replica g m in
      let set2 : ℕ = with_member g.register.synced m in
      let g2 : Group = record g { register = with_synced g.register m } in
      unless_has (λ part. Comes past cs logs grown suffix (at_node_after g g2 n part)) (checks_of_sync (here g n) r m other) r (at_once Synchronised (told set2 r))
      (λ why. cut_calm past cs logs grown g n _ suffix w h there (same_calm g.config.pages r _ (fit_of past n g.config.pages r (h.states n))))
      (λ p.
      let leads : r.leads ≡ true = not-false _ p.1.1.0 in
      let two : (has g.register.synced m ≡ false) × (not (other.term == r.term) ≡ false) = or_parts _ _ (or_parts _ _ p.1.1.1.1.0).1 in
      let same : other.term ≡ r.term = same_term other.term r.term two.1 in
      let normal : is_reverting other.state ≡ false = p.1.1.1.1.1.0 in
      let enough : end r ≤ (peer r m).hardened = ltb-false (peer r m).hardened (end r) p.1.1.1.1.1.1.0 in
      let on : r.leads ≡ true → LeadsOn r r = λ e. record { leads = e; term = refl; cut = λ c. c; synced = refl; known = λ k. refl; free = λ q. q; normal = λ q. q } in
      subst (λ (q : Plan). IsWorld past grown q.after → AreGrown past logs grown q.after → Outcome past cs grown q.after) (sym (cut_quiet suffix (at_node g2 n (at_once Synchronised (told set2 r))) refl))
      (changes_holds r set2 leads p.1.0 refl refl refl on leads refl (λ w1 h1. joined w1 h1 leads p.1.0 same normal enough)))
    where
      joined : IsWorld past grown (with_replica g n (replica g n)) → Holds past cs grown (with_replica g n (replica g n)) → (replica g n).leads ≡ true → (replica g n).cut_off ≡ false → (replica g m).term ≡ (replica g n).term → is_reverting (replica g m).state ≡ false → end (replica g n) ≤ (peer (replica g n) m).hardened → NewSet (replica g n) (with_member g.register.synced m)
      joined w1 h1 leads back same normal enough =
          let r : Replica = replica g n in
          let g1 : Group = with_replica g n r in
          let now : ℕ = g.register.term in
          let same1 : replica g1 n ≡ r = get_or-set_same g.replicas n r nobody there in
          let other1 : replica g1 m ≡ replica g m = get_or-set_other g.replicas n m r nobody (λ e. apart (sym e)) in
          let l : IsLeader past grown g.register n r = subst (IsLeader past grown g.register n) same1 (h1.leaders n (ap (λ (x : Replica). x.leads) same1 ∙ leads)) in
          let a : IsGrounded past grown now n r = subst (IsGrounded past grown now n) same1 (w1.each n) in
          let acts : Acts past n r = a.acts leads in
          let own : HasOwn grown r = a.own acts.target in
          let at : r.term ≡ now = l.stale back in
          let known : (f : ℕ) → f ≤ end r → IsKnown (past.told m now) (grown now) f = λ f low. subst (λ (t : ℕ). IsKnown (past.told m t) (grown t) f) at (known_less (past.told m r.term) (grown r.term) f (peer r m).hardened (omega (arith, low, enough)) (l.peers m)) in
          let place : (i : ℕ) × (slice_get (records r) i ≡ Some (Term r.term)) = has_term (records r) r.term acts.some own.begun in
          let begun : HasBegun past grown now m = record {
            place = place.0;
            is = subst (λ (t : ℕ). slice_get (grown t) place.0 ≡ Some (Term t)) at (ap (λ x. slice_get x place.0) (sym own.whole) ∙ place.1);
            known = known (place.0 + 1) (omega (arith, get_within place.0 (records r) (Term r.term) place.1));
          } in
          let member : IsMember past grown g.register (length g1.replicas) m (replica g1 m) = record {
            there = omega (arith, m_there, length-set g.replicas n r);
            term = ap (λ (x : Replica). x.term) other1 ∙ same ∙ at;
            normal = ap (λ (x : Replica). is_reverting x.state) other1 ∙ normal;
            begun = begun;
          } in (
            (λ k e. elim (member_added g.register.synced m k e) [ inl is ↦ subst (λ (j : ℕ). IsMember past grown g.register (length g1.replicas) j (replica g1 j)) (sym is) member | inr old ↦ h1.members k old ]),
            (λ c i here k e. elim (member_added g.register.synced m k e) [
              | inl is ↦ subst (λ (j : ℕ). IsKnown (past.told j c.term) (grown c.term) c.lsn) (sym is) (subst (λ (t : ℕ). IsKnown (past.told m t) (grown t) c.lsn) (sym here) (known c.lsn (omega (arith, i.within, ap length own.whole, ap (λ t. length (grown t)) at, ap (λ t. length (grown t)) here))))
              | inr old ↦ i.held here k old
            ]),
          )
