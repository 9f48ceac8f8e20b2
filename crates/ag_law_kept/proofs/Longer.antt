-- What holds where the logs of the terms go on.
use Rattle.std.proofs.Common.{◌≡◌, ℕ, ◌+◌, ◌-◌, ◌<◌, ◌≤◌, List, length, take, true, false, refl, sym, ◌∙◌, subst, arith, length-take-le}
use Rattle.std.specs.Prelude.{Some, slice_get, nat_lt}
use Rattle.std.specs.List.{AllByRecursion}
use Rattle.std.proofs.lemmas.Bool.{ltb-true, ltb-false}
use Rattle.ag_model.specs.declared.record.Record.{Record}
use Rattle.ag_model.specs.declared.record.Record.TheVariants.{Term}
use Rattle.ag_model.specs.declared.config.Register.{Register}
use Rattle.ag_model.specs.declared.config.Ticket.{Ticket}
use Rattle.ag_model.specs.declared.message.Message.{Message}
use Rattle.ag_model.specs.declared.message.Body.{Body}
use Rattle.ag_model.specs.declared.message.Body.TheVariants.{Hello, Resume, Block as OfBlock, Ack, PageAsk, PageGive, PageNo}
use Rattle.ag_rules.specs.Replica.{Replica, records, end, peer, is_reverting}
use Rattle.ag_rules.specs.ResumeMessage.{waits_for}
use Rattle.ag_rules.specs.KeptLaw.{Confirmed}
use Rattle.ag_lists.proofs.Tests.{by_bool}
use Rattle.ag_lists.proofs.Each.{all_map}
use Rattle.ag_laws.specs.Prefix.{IsPrefixOf}
use Rattle.ag_laws.specs.Logs.{Logs}
use Rattle.ag_laws.proofs.Prefix.{prefix_trans, prefix_length}
use Rattle.ag_laws.proofs.Grow.{traced_longer, take_is_prefix}
use Rattle.ag_law_kept.specs.Known.{IsKnown, AtMost}
use Rattle.ag_law_kept.specs.Past.{Past}
use Rattle.ag_law_kept.specs.Tells.{BodyTells, MessageTells}
use Rattle.ag_law_kept.specs.Holds.{Knowing, IsLeader, HasBegun, IsMember, IsTaken, IsConfirmed}
use Rattle.ag_law_kept.proofs.Known.{known_longer, most_longer, covers_longer, get_prefix, get_within, same_beginning}
use Rattle.ag_law_kept.proofs.World.{AreTraced, IsGrounded, no_later}

-- a replica that waits for a ticket then, waited for it before
abbrev pub Waits : Replica → Replica → Type 0
Waits r r2 = (ticket : Ticket) → waits_for r2.following.ticket ticket ≡ true → waits_for r.following.ticket ticket ≡ true

module _ (past : Past) (logs grown : Logs) (longer : (t : ℕ) → IsPrefixOf (logs t) (grown t)) where
  pub knowing_longer : (n : ℕ) (log : List Record) (term : ℕ) → Knowing past logs n log term → Knowing past grown n log term
  knowing_longer n log term k = record { here = most_longer (past.told n term) (logs term) (grown term) (length log) (longer term) k.here; before = k.before; asks = k.asks }

  pub leader_longer : (store : Register) (n : ℕ) (r : Replica) → IsLeader past logs store n r → IsLeader past grown store n r
  leader_longer store n r l = record {
    stale = l.stale;
    primary = l.primary;
    copy = l.copy;
    old = l.old;
    peers = λ m. known_longer (past.told m r.term) (logs r.term) (grown r.term) (peer r m).hardened (longer r.term) (l.peers m);
    free = l.free;
    normal = l.normal;
  }

  pub begun_longer : (t m : ℕ) → HasBegun past logs t m → HasBegun past grown t m
  begun_longer t m b = record {
    place = b.place;
    is = sym (get_prefix b.place (logs t) (grown t) (get_within b.place (logs t) (Term t) b.is) (longer t)) ∙ b.is;
    known = known_longer (past.told m t) (logs t) (grown t) (b.place + 1) (longer t) b.known;
  }

  pub member_longer : (store : Register) (count m : ℕ) (r r2 : Replica) → IsMember past logs store count m r → r.term ≤ r2.term → r2.term ≤ store.term → is_reverting r2.state ≡ false → IsMember past grown store count m r2
  member_longer store count m r r2 i up low normal = record { there = i.there; term = omega (arith, i.term, up, low); normal = normal; begun = begun_longer store.term m i.begun }

  pub commit_longer : (store : Register) (c : Confirmed) → IsConfirmed past logs store c → IsConfirmed past grown store c
  commit_longer store c i = record {
    some = i.some;
    term = i.term;
    reached = i.reached;
    within = omega (arith, i.within, prefix_length (logs c.term) (grown c.term) (longer c.term));
    commit = sym (get_prefix (c.lsn - 1) (logs c.term) (grown c.term) (omega (arith, i.some, i.within)) (longer c.term)) ∙ i.commit;
    held = λ e m h. known_longer (past.told m c.term) (logs c.term) (grown c.term) c.lsn (longer c.term) (i.held e m h);
    took = λ h s. known_longer (past.told (past.target (c.term + 1)) c.term) (logs c.term) (grown c.term) c.lsn (longer c.term) (i.took h s);
  }

  -- a message whose two replicas have moved
  pub body_longer : (a : ℕ) (from from2 : Replica) (b : ℕ) (to to2 : Replica) (term : ℕ) (body : Body) → Waits from from2 → Waits to to2 → BodyTells past logs a from b to term body → BodyTells past grown a from2 b to2 term body
  body_longer a from from2 b to to2 term (Hello ticket its_end starts) f t p = record {
    log = p.log;
    long = p.long;
    lists = p.lists;
    traced = traced_longer logs grown p.log longer p.traced;
    low = p.low;
    covers = covers_longer p.log (past.told a term) (logs term) (grown term) (longer term) p.covers;
    waits = λ w. p.waits (f ticket w);
  }
  body_longer a from from2 b to to2 term (Resume ticket fork its_end) f t p = λ w. (most_longer (past.told b term) (logs term) (grown term) fork (longer term) (p (t ticket w)).0, (p (t ticket w)).1)
  body_longer a from from2 b to to2 term (OfBlock block) f t p = tt
  body_longer a from from2 b to to2 term (Ack hardened low) f t p = known_longer (past.told a term) (logs term) (grown term) hardened (longer term) p
  body_longer a from from2 b to to2 term (PageAsk page lsn primary) f t p = tt
  body_longer a from from2 b to to2 term (PageGive lsn v) f t p = tt
  body_longer a from from2 b to to2 term (PageNo page) f t p = tt

  pub messages_longer : (old new : ℕ → Replica) (links : ℕ → ℕ → List Message) → ((m : ℕ) → Waits (old m) (new m)) → ((a b : ℕ) → AllByRecursion (MessageTells past logs a (old a) b (old b)) (links a b))
      → (a b : ℕ) → AllByRecursion (MessageTells past grown a (new a) b (new b)) (links a b)
  messages_longer old new links waits all a b = all_map (MessageTells past logs a (old a) b (old b)) (MessageTells past grown a (new a) b (new b)) (λ m p. body_longer a (old a) (new a) b (old b) (new b) m.term m.body (waits a) (waits b) p) (links a b) (all a b)

  -- a term that a safe failover began, where its log may begin now
  pub taken_longer : (now n t : ℕ) (r r2 : Replica) → AreTraced logs now → IsGrounded past logs now n r → Knowing past logs n (records r) r.term → n ≡ past.target (t + 1) → IsTaken past logs t r → r.term ≤ r2.term
      → (length (logs (t + 1)) ≡ 0 → 0 < length (grown (t + 1)) → (r.term ≤ t) × IsPrefixOf (records r) (grown (t + 1))) → IsTaken past grown t r2
  taken_longer now n t r r2 are ground know is i up fresh = record {
    reached = omega (arith, i.reached, up);
    begun = begun_longer t (past.target (t + 1)) i.begun;
    kept = λ some g p f k.
        by_bool (nat_lt 0 (length (logs (t + 1)))) (λ v. nat_lt 0 (length (logs (t + 1))) ≡ v → IsPrefixOf (take f (past.told (past.target (t + 1)) t)) (grown (t + 1)) × ((j : ℕ) → slice_get (grown (t + 1)) j ≡ Some (Term (t + 1)) → f ≤ j))
        (λ _ e. began (ltb-true 0 (length (logs (t + 1))) e) g p f k)
        (λ _ e. begins (fresh (omega (arith, ltb-false 0 (length (logs (t + 1))) e)) some) g p f k)
        refl;
  }
    where
      -- its log had begun
      began : 0 < length (logs (t + 1)) → (g : List Record) → IsPrefixOf (grown t) g → (f : ℕ) → IsKnown (past.told (past.target (t + 1)) t) g f → IsPrefixOf (take f (past.told (past.target (t + 1)) t)) (grown (t + 1)) × ((j : ℕ) → slice_get (grown (t + 1)) j ≡ Some (Term (t + 1)) → f ≤ j)
      began some g p f k =
          let old : IsPrefixOf (take f (past.told (past.target (t + 1)) t)) (logs (t + 1)) × ((j : ℕ) → slice_get (logs (t + 1)) j ≡ Some (Term (t + 1)) → f ≤ j) = i.kept some g (prefix_trans (logs t) (grown t) g (longer t) p) f k in
          let long : f ≤ length (logs (t + 1)) = omega (arith, length-take-le f (past.told (past.target (t + 1)) t) k.0, prefix_length (take f (past.told (past.target (t + 1)) t)) (logs (t + 1)) old.0) in (
            prefix_trans (take f (past.told (past.target (t + 1)) t)) (logs (t + 1)) (grown (t + 1)) old.0 (longer (t + 1)),
            (λ j e.
                by_bool (nat_lt j (length (logs (t + 1)))) (λ v. nat_lt j (length (logs (t + 1))) ≡ v → f ≤ j)
                (λ _ y. old.1 j (get_prefix j (logs (t + 1)) (grown (t + 1)) (ltb-true j (length (logs (t + 1))) y) (longer (t + 1)) ∙ e))
                (λ _ y. omega (arith, ltb-false j (length (logs (t + 1))) y, long))
                refl),
          )

      -- it begins with the log of the target, which still is in the term before
      begins : (r.term ≤ t) × IsPrefixOf (records r) (grown (t + 1)) → (g : List Record) → IsPrefixOf (grown t) g → (f : ℕ) → IsKnown (past.told (past.target (t + 1)) t) g f → IsPrefixOf (take f (past.told (past.target (t + 1)) t)) (grown (t + 1)) × ((j : ℕ) → slice_get (grown (t + 1)) j ≡ Some (Term (t + 1)) → f ≤ j)
      begins b g p f k =
          let at : r.term ≡ t = omega (arith, b.0, i.reached) in
          let up : IsPrefixOf (logs t) g = prefix_trans (logs t) (grown t) g (longer t) p in
          let mine : IsPrefixOf (records r) (logs t) = subst (λ (u : ℕ). IsPrefixOf (records r) (logs u)) at ground.prefix in
          let most : AtMost (past.told (past.target (t + 1)) t) (logs t) (end r) = subst (λ (m : ℕ). AtMost (past.told m t) (logs t) (end r)) is (subst (λ (u : ℕ). AtMost (past.told n u) (logs u) (end r)) at know.here) in
          let low : f ≤ end r = most g up f k in
          let same : take f (past.told (past.target (t + 1)) t) ≡ take f (records r) = same_beginning f (past.told (past.target (t + 1)) t) (records r) g k.0 low k.1 (prefix_trans (records r) (logs t) g mine up) in (
            prefix_trans (take f (past.told (past.target (t + 1)) t)) (records r) (grown (t + 1)) (subst (λ (l : List Record). IsPrefixOf l (records r)) (sym same) (take_is_prefix f (records r))) b.1,
            (λ j e.
                by_bool (nat_lt j f) (λ v. nat_lt j f ≡ v → f ≤ j)
                (λ _ y.
                let small : j < end r = omega (arith, ltb-true j f y, low) in
                let there : slice_get (logs t) j ≡ Some (Term (t + 1)) = sym (get_prefix j (records r) (logs t) small mine) ∙ get_prefix j (records r) (grown (t + 1)) small b.1 ∙ e in
                absurd (omega (arith, no_later logs now j t (t + 1) are there)))
                (λ _ y. ltb-false j f y)
                refl),
          )
