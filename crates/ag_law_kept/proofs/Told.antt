-- A replica that waits for no ticket tells its log, and joins.
use Rattle.std.proofs.Common.{◌≡◌, ℕ, ◌+◌, ◌<◌, ◌≤◌, max, List, [], length, take, true, refl, sym, ap, ◌∙◌, subst, arith}
use Rattle.std.specs.Prelude.{Option, Some, None, slice_get, ◌==◌, ◌&&◌}
use Rattle.std.proofs.lemmas.Bool.{false≢true, and_parts, eqb-true}
use Rattle.ag_model.specs.declared.record.Record.{Record}
use Rattle.ag_model.specs.declared.record.Record.TheVariants.{Term}
use Rattle.ag_model.specs.declared.config.Ticket.{Ticket}
use Rattle.ag_model.specs.declared.message.Body.{Body}
use Rattle.ag_model.specs.declared.message.Body.TheVariants.{Hello, Resume, Block as OfBlock, Ack, PageAsk, PageGive, PageNo}
use Rattle.ag_rules.specs.Replica.{Replica, records, end}
use Rattle.ag_rules.specs.Group.{Group, replica, link}
use Rattle.ag_rules.specs.ResumeMessage.{waits_for}
use Rattle.ag_rules.specs.KeptLaw.{Confirmed}
use Rattle.ag_lists.proofs.Tests.{by_bool, if_has}
use Rattle.ag_lists.proofs.Each.{all_map}
use Rattle.ag_laws.specs.Prefix.{IsPrefixOf}
use Rattle.ag_laws.specs.Logs.{Logs}
use Rattle.ag_laws.proofs.Prefix.{prefix_refl}
use Rattle.ag_law_kept.specs.Known.{IsKnown, AtMost, Covers}
use Rattle.ag_law_kept.specs.Past.{Past, tell, ask}
use Rattle.ag_law_kept.specs.Tells.{BodyTells, MessageTells}
use Rattle.ag_law_kept.specs.Holds.{Knowing, IsState, IsLeader, HasBegun, IsMember, IsTaken, IsConfirmed, Holds}
use Rattle.ag_law_kept.proofs.Known.{known_covered, covers_refl, covers_trans, covers_prefix, covers_here, most_length}
use Rattle.ag_law_kept.proofs.World.{IsWorld}

-- no ticket is waited for
pub no_wait : (o : Option Ticket) (ticket : Ticket) → o ≡ None → waits_for o ticket ≡ true → ⊥
no_wait o ticket none w = false≢true (sym (ap (λ (x : Option Ticket). waits_for x ticket) none) ∙ w)

-- what was told, and what is told now
tell_is : (P : ℕ → ℕ → List Record → Type 0) (past : Past) (n t : ℕ) (log : List Record) → ((m u : ℕ) → P m u (past.told m u)) → P n t log → (m u : ℕ) → P m u ((tell past n t log).told m u)
tell_is P past n t log old new m u =
    if_has (P m u) ((m == n) && (u == t)) log (past.told m u)
    (λ e.
    let b : ((m == n) ≡ true) × ((u == t) ≡ true) = and_parts _ _ e in
    let one : n ≡ m = sym (eqb-true m n b.0) in
    let two : t ≡ u = sym (eqb-true u t b.1) in
    subst (λ (k : ℕ). P k u log) one (subst (λ (k : ℕ). P n k log) two new))
    (λ _. old m u)

module _ (past : Past) (cs : List Confirmed) (logs : Logs) (g : Group) (n t : ℕ) (w : IsWorld past logs g) (h : Holds past cs logs g) (none : (replica g n).following.ticket ≡ None) where
  -- what it tells in a term that its own isn't past
  pub told_holds : (replica g n).term ≤ t → t ≤ g.register.term → t ≤ max (past.asked n) (replica g n).term → Holds (tell past n t (records (replica g n))) cs logs g
  told_holds low high asks = record {
    asked = h.asked;
    knowing = λ m. record { here = (knows m (replica g m).term).0 refl; before = λ u e. (knows m u).1 e; asks = λ u a e. (knows m u).2 a e };
    states = λ m. let s : IsState past m g.config.pages (replica g m) = h.states m in record { disk = s.disk; low = s.low; saved = s.saved; follows = s.follows; whole = λ e ticket q. sym (still m (past.asked m) ticket q) ∙ s.whole e ticket q };
    leaders = λ m e. let l : IsLeader past logs g.register m (replica g m) = h.leaders m e in record { stale = l.stale; primary = l.primary; copy = l.copy; old = l.old; peers = λ k. known_covered _ _ _ _ (covers k (replica g m).term) (l.peers k); free = l.free; normal = l.normal };
    messages = λ a b. all_map (MessageTells past logs a (replica g a) b (replica g b)) (MessageTells new logs a (replica g a) b (replica g b)) (λ m p. body a b m.term m.body p) (link g a b) (h.messages a b);
    members = λ m e. let i : IsMember past logs g.register (length g.replicas) m (replica g m) = h.members m e in record { there = i.there; term = i.term; normal = i.normal; begun = begun g.register.term m i.begun };
    takens = λ u low2 safe.
        let i : IsTaken past logs u (replica g (past.target (u + 1))) = h.takens u low2 safe in
        record {
          reached = i.reached;
          begun = begun u (past.target (u + 1)) i.begun;
          kept = λ some. subst (λ (told : List Record). (grown : List Record) → IsPrefixOf (logs u) grown → (f : ℕ) → IsKnown told grown f → IsPrefixOf (take f told) (logs (u + 1)) × ((i : ℕ) → slice_get (logs (u + 1)) i ≡ Some (Term (u + 1)) → f ≤ i))
              (target_still (past.target (u + 1)) u refl low2 some) (i.kept some);
        };
    targets = h.targets;
    commits = all_map (IsConfirmed past logs g.register) (IsConfirmed new logs g.register) (λ c i. record {
      some = i.some;
      term = i.term;
      reached = i.reached;
      within = i.within;
      commit = i.commit;
      held = λ e m q. known_covered _ _ _ _ (covers m c.term) (i.held e m q);
      took = λ e safe. known_covered _ _ _ _ (covers (past.target (c.term + 1)) c.term) (i.took e safe);
    }) cs h.commits;
  }
    where
      r : Replica
      r = replica g n

      new : Past
      new = tell past n t (records (replica g n))

      first : Covers (past.told n t) (records (replica g n)) (logs t)
      first =
          by_bool ((replica g n).term == t) (λ v. ((replica g n).term == t) ≡ v → Covers (past.told n t) (records (replica g n)) (logs t))
          (λ _ e.
          let same : (replica g n).term ≡ t = eqb-true (replica g n).term t e in
          subst (λ (u : ℕ). Covers (past.told n u) (records (replica g n)) (logs u)) same (covers_here _ (records (replica g n)) _ (w.each n).prefix (h.knowing n).here))
          (λ _ e. covers_prefix (past.told n t) (records (replica g n)) (logs t) ((h.knowing n).before t (grind arith)))
          refl

      covers : (m u : ℕ) → Covers (past.told m u) ((tell past n t (records (replica g n))).told m u) (logs u)
      covers = tell_is (λ m u x. Covers (past.told m u) x (logs u)) past n t (records (replica g n)) (λ m u. covers_refl (past.told m u) (logs u)) first

      knows : (m u : ℕ) → ((replica g m).term ≡ u → AtMost ((tell past n t (records (replica g n))).told m u) (logs u) (end (replica g m))) × ((replica g m).term < u → IsPrefixOf ((tell past n t (records (replica g n))).told m u) (records (replica g m)))
          × (past.asked m < u → (replica g m).term < u → (tell past n t (records (replica g n))).told m u ≡ [])
      knows = tell_is (λ m u x. ((replica g m).term ≡ u → AtMost x (logs u) (end (replica g m))) × ((replica g m).term < u → IsPrefixOf x (records (replica g m))) × (past.asked m < u → (replica g m).term < u → x ≡ [])) past n t (records (replica g n))
          (λ m u. ((λ e. subst (λ (k : ℕ). AtMost (past.told m k) (logs k) (end (replica g m))) e (h.knowing m).here), (λ e. (h.knowing m).before u e), (λ a e. (h.knowing m).asks u a e)))
          ((λ e. most_length (records (replica g n)) (logs t) (end (replica g n)) (omega arith)), (λ e. prefix_refl (records (replica g n))), (λ a e. absurd (omega (arith, a, e, asks))))

      still : (m u : ℕ) (ticket : Ticket) → waits_for (replica g m).following.ticket ticket ≡ true → past.told m u ≡ (tell past n t (records (replica g n))).told m u
      still = tell_is (λ m u x. (ticket : Ticket) → waits_for (replica g m).following.ticket ticket ≡ true → past.told m u ≡ x) past n t (records (replica g n)) (λ m u ticket q. refl) (λ ticket q. absurd (no_wait (replica g n).following.ticket ticket none q))

      target_still : (m u : ℕ) → past.target (u + 1) ≡ m → u < g.register.term → 0 < length (logs (u + 1)) → past.told m u ≡ (tell past n t (records (replica g n))).told m u
      target_still = tell_is (λ m u x. past.target (u + 1) ≡ m → u < g.register.term → 0 < length (logs (u + 1)) → past.told m u ≡ x) past n t (records (replica g n)) (λ m u e q s. refl)
          (λ e q s. let empty : logs (t + 1) ≡ [] = (w.each n).ahead (t + 1) (omega arith) e (omega arith) in absurd (omega (arith, s, ap length empty)))

      begun : (u m : ℕ) → HasBegun past logs u m → HasBegun (tell past n t (records (replica g n))) logs u m
      begun u m b = record { place = b.place; is = b.is; known = known_covered _ _ _ _ (covers m u) b.known }

      body : (a b : ℕ) (term : ℕ) (x : Body) → BodyTells past logs a (replica g a) b (replica g b) term x → BodyTells (tell past n t (records (replica g n))) logs a (replica g a) b (replica g b) term x
      body a b term (Hello ticket its_end starts) p = record {
        log = p.log;
        long = p.long;
        lists = p.lists;
        traced = p.traced;
        low = p.low;
        covers = covers_trans p.log (past.told a term) _ (logs term) p.covers (covers a term);
        waits = λ q. (sym (still a term ticket q) ∙ (p.waits q).0, (p.waits q).1);
      }
      body a b term (Resume ticket fork its_end) p = λ q. (subst (λ (x : List Record). AtMost x (logs term) fork) (still b term ticket q) (p q).0, (p q).1)
      body a b term (OfBlock block) p = tt
      body a b term (Ack hardened its_low) p = known_covered _ _ _ _ (covers a term) p
      body a b term (PageAsk page lsn primary) p = tt
      body a b term (PageGive lsn v) p = tt
      body a b term (PageNo page) p = tt

  -- it joins in a term that isn't before its last join
  pub asked_holds : past.asked n ≤ t → t ≤ g.register.term → Holds (ask past n t) cs logs g
  asked_holds low high = record {
    asked = λ m. (fits m).2;
    knowing = λ m. let k : Knowing past logs m (records (replica g m)) (replica g m).term = h.knowing m in record { here = k.here; before = k.before; asks = λ u a e. k.asks u (omega (arith, a, (fits m).1)) e };
    states = λ m. let s : IsState past m g.config.pages (replica g m) = h.states m in record { disk = s.disk; low = s.low; saved = s.saved; follows = s.follows; whole = λ e ticket q. ap (past.told m) (sym ((fits m).0 ticket q)) ∙ s.whole e ticket q };
    leaders = λ m e. let l : IsLeader past logs g.register m (replica g m) = h.leaders m e in record { stale = l.stale; primary = l.primary; copy = l.copy; old = l.old; peers = l.peers; free = l.free; normal = l.normal };
    messages = λ a b. all_map (MessageTells past logs a (replica g a) b (replica g b)) (MessageTells (ask past n t) logs a (replica g a) b (replica g b)) (λ m p. body a b m.term m.body p) (link g a b) (h.messages a b);
    members = λ m e. let i : IsMember past logs g.register (length g.replicas) m (replica g m) = h.members m e in record { there = i.there; term = i.term; normal = i.normal; begun = begun g.register.term m i.begun };
    takens = λ u low2 safe. let i : IsTaken past logs u (replica g (past.target (u + 1))) = h.takens u low2 safe in record { reached = i.reached; begun = begun u (past.target (u + 1)) i.begun; kept = i.kept };
    targets = h.targets;
    commits = all_map (IsConfirmed past logs g.register) (IsConfirmed (ask past n t) logs g.register) (λ c i. record { some = i.some; term = i.term; reached = i.reached; within = i.within; commit = i.commit; held = i.held; took = i.took }) cs h.commits;
  }
    where
      fits : (m : ℕ) → ((ticket : Ticket) → waits_for (replica g m).following.ticket ticket ≡ true → past.asked m ≡ (ask past n t).asked m) × (past.asked m ≤ (ask past n t).asked m) × ((ask past n t).asked m ≤ g.register.term)
      fits m =
          if_has (λ (x : ℕ). ((ticket : Ticket) → waits_for (replica g m).following.ticket ticket ≡ true → past.asked m ≡ x) × (past.asked m ≤ x) × (x ≤ g.register.term)) (m == n) t (past.asked m)
          (λ e.
          let same : n ≡ m = sym (eqb-true m n e) in
          subst (λ (k : ℕ). ((ticket : Ticket) → waits_for (replica g k).following.ticket ticket ≡ true → past.asked k ≡ t) × (past.asked k ≤ t) × (t ≤ g.register.term)) same ((λ ticket q. absurd (no_wait (replica g n).following.ticket ticket none q)), low, high))
          (λ _. ((λ ticket q. refl), omega arith, h.asked m))

      begun : (u m : ℕ) → HasBegun past logs u m → HasBegun (ask past n t) logs u m
      begun u m b = record { place = b.place; is = b.is; known = b.known }

      body : (a b : ℕ) (term : ℕ) (x : Body) → BodyTells past logs a (replica g a) b (replica g b) term x → BodyTells (ask past n t) logs a (replica g a) b (replica g b) term x
      body a b term (Hello ticket its_end starts) p = record {
        log = p.log;
        long = p.long;
        lists = p.lists;
        traced = p.traced;
        low = p.low;
        covers = p.covers;
        waits = λ q. ((p.waits q).0, (p.waits q).1 ∙ (fits a).0 ticket q);
      }
      body a b term (Resume ticket fork its_end) p = λ q. ((p q).0, (p q).1 ∙ (fits b).0 ticket q)
      body a b term (OfBlock block) p = tt
      body a b term (Ack hardened its_low) p = p
      body a b term (PageAsk page lsn primary) p = tt
      body a b term (PageGive lsn v) p = tt
      body a b term (PageNo page) p = tt
