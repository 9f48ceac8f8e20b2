-- The store moves to a new term: what was known of the set is what is known of its target.
use Rattle.std.specs.Prelude.{◌==◌, not, Some, ◌&&◌, slice_get}
use Rattle.std.proofs.Common.{◌≡◌, ◌≢◌, ℕ, ◌+◌, ◌<◌, ◌≤◌, List, [], length, take, Bool, true, false, refl, sym, ap, ◌∙◌, subst, arith, length-set}
use Rattle.std.proofs.lemmas.Bool.{false≢true, and_parts, eqb-true, eqb-false, not-true}
use Rattle.std.proofs.lemmas.List.{get_or-set_other}
use Rattle.ag_model.specs.declared.record.Record.{Record}
use Rattle.ag_model.specs.declared.config.Register.{Register}
use Rattle.ag_model.specs.declared.message.Body.{Body}
use Rattle.ag_model.specs.declared.message.Body.TheVariants.{Hello, Resume, Block as OfBlock, Ack, PageAsk, PageGive, PageNo}
use Rattle.ag_rules.specs.Replica.{Replica, records, stepped_down}
use Rattle.ag_rules.specs.Group.{Group, replica, with_replica, link, has, nobody}
use Rattle.ag_rules.specs.Failover.{old_primary}
use Rattle.ag_rules.specs.KeptLaw.{Confirmed}
use Rattle.ag_model.specs.declared.record.Record.TheVariants.{Term}
use Rattle.ag_lists.proofs.Tests.{by_bool, if_has}
use Rattle.ag_lists.proofs.Places.{at_set, at_set_there}
use Rattle.ag_lists.proofs.Each.{all_map}
use Rattle.ag_laws.specs.Prefix.{IsPrefixOf}
use Rattle.ag_laws.specs.Logs.{Logs}
use Rattle.ag_laws.proofs.Prefix.{prefix_refl}
use Rattle.ag_law_kept.specs.Known.{IsKnown}
use Rattle.ag_law_kept.specs.Past.{Past, move}
use Rattle.ag_law_kept.specs.Tells.{BodyTells, MessageTells}
use Rattle.ag_law_kept.specs.Holds.{Knowing, IsState, IsLeader, HasBegun, IsMember, IsTaken, IsConfirmed, Holds}
use Rattle.ag_law_kept.proofs.World.{IsGrounded, HasOwn, Acts, IsWorld}
use Rattle.ag_law_kept.proofs.Longer.{Waits, messages_longer}
use Rattle.ag_law_kept.proofs.Moved.{NewReplica, moved}
use Rattle.ag_law_kept.proofs.Goes.{Fit, fit_of, waits_refl}
use Rattle.ag_law_kept.proofs.Sets.{none_member}

-- the term that the store moves to, and the others
pub target_now : (past : Past) (t n : ℕ) (b : Bool) → (move past t n b).target t ≡ n
target_now past t n b = if_has (λ (x : ℕ). x ≡ n) (t == t) n (past.target t) (λ _. refl) (λ f. absurd (eqb-false t t f refl))

pub target_other : (past : Past) (t n : ℕ) (b : Bool) (u : ℕ) → u ≢ t → (move past t n b).target u ≡ past.target u
target_other past t n b u p = if_has (λ (x : ℕ). x ≡ past.target u) (u == t) n (past.target u) (λ e. absurd (p (eqb-true u t e))) (λ _. refl)

pub safe_now : (past : Past) (t n : ℕ) (b : Bool) → (move past t n b).safe t ≡ b
safe_now past t n b = if_has (λ (x : Bool). x ≡ b) (t == t) b (past.safe t) (λ _. refl) (λ f. absurd (eqb-false t t f refl))

pub safe_other : (past : Past) (t n : ℕ) (b : Bool) (u : ℕ) → u ≢ t → (move past t n b).safe u ≡ past.safe u
safe_other past t n b u p = if_has (λ (x : Bool). x ≡ past.safe u) (u == t) b (past.safe u) (λ e. absurd (p (eqb-true u t e))) (λ _. refl)

-- where terms are known to be the new one, or an older one
pub by_term : (P : Type 0) (a b : ℕ) → (a ≡ b → P) → (a ≢ b → P) → P
by_term P a b same apart = by_bool (a == b) (λ v. (a == b) ≡ v → P) (λ _ e. same (eqb-true a b e)) (λ _ e. apart (eqb-false a b e)) refl

-- a replica after the old primary stepped down
old_has : (P : Replica → Type 0) (r : Replica) → (r.leads ≡ true → r.cut_off ≡ false → P (stepped_down r)) → ((r.up && (r.leads && not r.cut_off)) ≡ false → P r) → P (old_primary r)
old_has P r down up =
    if_has P (r.up && (r.leads && not r.cut_off)) (stepped_down r) r
    (λ e. down (and_parts _ _ (and_parts _ _ e).1).0 (not-true _ (and_parts _ _ (and_parts _ _ e).1).1))
    (λ e. up e)

-- no replica acts as primary and isn't cut off, nor is the target one that acts
pub record AllCut (g : Group) (n : ℕ) : Type 0 where
  pub cut : (m : ℕ) → (replica g m).leads ≡ true → (replica g m).cut_off ≡ true
  pub target : (replica g n).leads ≡ true → ⊥

module _ (past : Past) (cs : List Confirmed) (logs : Logs) (g : Group) (w : IsWorld past logs g) (h : Holds past cs logs g) where
  -- the store's primary steps down, where it learns of the change
  pub down_holds : (let g1 = with_replica g g.register.primary (old_primary (replica g g.register.primary)) in Holds past cs logs g1 × IsWorld past logs g1)
  down_holds =
      let p : ℕ = g.register.primary in
      let r : Replica = replica g p in
      let f : Fit g.config.pages r = fit_of past p g.config.pages r (h.states p) in
      let waits : Waits r (old_primary r) = old_has (λ x. Waits r x) r (λ _ _ t q. absurd (false≢true q)) (λ _ t q. q) in
      let new : NewReplica past logs g p (old_primary r) =
      old_has (NewReplica past logs g p) r
      (λ leads back. record {
        knowing = h.knowing p;
        state = record { disk = f.disk; low = λ _. omega arith; saved = f.saved ∙ (h.leaders p leads).normal; follows = λ _. refl; whole = λ e t q. absurd (false≢true q) };
        leader = λ e. absurd (false≢true e);
        term = omega arith;
        reached = (w.each p).reached;
        normal = λ _. refl;
      })
      (λ _. record { knowing = h.knowing p; state = h.states p; leader = h.leaders p; term = omega arith; reached = (w.each p).reached; normal = λ i. (h.members p i).normal }) in
      let ground : IsGrounded past logs g.register.term p (old_primary r) =
      old_has (IsGrounded past logs g.register.term p) r
      (λ leads back. let a : IsGrounded past logs g.register.term p r = w.each p in record {
        prefix = a.prefix;
        term = a.term;
        reached = a.reached;
        own = λ e. let o : HasOwn logs r = a.own e in record { whole = o.whole; begun = o.begun };
        ahead = a.ahead;
        acts = λ e. absurd (false≢true e);
        down = λ _. refl;
      })
      (λ _. w.each p) in (
        moved past cs logs logs g p (old_primary r) w h w.there (λ t. prefix_refl (logs t)) (λ t low none some. absurd (omega (arith, none, some))) new
            (messages_longer past logs logs (λ t. prefix_refl (logs t)) (replica g) (replica (with_replica g p (old_primary r))) (link g) (at_set (λ m x. Waits (replica g m) x) g.replicas nobody p (old_primary r) (λ m. waits_refl (replica g m)) waits) h.messages),
        record {
          are = w.are;
          each = at_set_there (λ m x. IsGrounded past logs g.register.term m x) g.replicas nobody p (old_primary r) w.there (λ m _. w.each m) ground;
          primary = w.primary;
          there = omega (arith, w.there, length-set g.replicas p (old_primary r));
          count = length-set g.replicas p (old_primary r) ∙ w.count;
        },
      )

  -- then nobody acts as primary but those that are cut off
  pub all_cut : (n : ℕ) → n ≢ g.register.primary → (replica g n).cut_off ≡ false → AllCut (with_replica g g.register.primary (old_primary (replica g g.register.primary))) n
  all_cut n apart back = record {
    cut = at_set_there (λ m x. x.leads ≡ true → x.cut_off ≡ true) g.replicas nobody p (old_primary r) w.there (λ m other e. others m other e) (old_has (λ x. x.leads ≡ true → x.cut_off ≡ true) r (λ _ _ e. absurd (false≢true e)) (λ stays e. stay stays e));
    target = λ e.
        let same : replica (with_replica g p (old_primary r)) n ≡ replica g n = get_or-set_other g.replicas p n (old_primary r) nobody apart in
        false≢true (sym back ∙ others n apart (ap (λ (x : Replica). x.leads) (sym same) ∙ e));
  }
    where
      p : ℕ
      p = g.register.primary

      r : Replica
      r = replica g g.register.primary

      others : (m : ℕ) → m ≢ g.register.primary → (replica g m).leads ≡ true → (replica g m).cut_off ≡ true
      others m other e =
          by_bool (replica g m).cut_off (λ v. (replica g m).cut_off ≡ v → (replica g m).cut_off ≡ true) (λ _ y. y)
          (λ _ y. absurd (other (sym ((w.each m).acts e).target ∙ ap past.target ((h.leaders m e).stale y) ∙ w.primary))) refl

      stay : ((replica g g.register.primary).up && ((replica g g.register.primary).leads && not (replica g g.register.primary).cut_off)) ≡ false → (replica g g.register.primary).leads ≡ true → (replica g g.register.primary).cut_off ≡ true
      stay e l =
          by_bool (replica g g.register.primary).cut_off (λ v. (replica g g.register.primary).cut_off ≡ v → v ≡ true) (λ _ _. refl)
          (λ _ y. absurd (false≢true (sym e ∙ all_true (replica g g.register.primary).up (replica g g.register.primary).leads (replica g g.register.primary).cut_off ((w.each g.register.primary).acts l).up l y))) refl
        where
          all_true : (a b c : Bool) → a ≡ true → b ≡ true → c ≡ false → (a && (b && not c)) ≡ true
          all_true true true false x y z = refl
          all_true true true true x y z = absurd (false≢true (sym z))
          all_true true false c x y z = absurd (false≢true y)
          all_true false b c x y z = absurd (false≢true x)

  -- the store moves to the next term
  module _ (n : ℕ) (store : Register) (cuts : AllCut g n) (there : n < length g.replicas) (term : store.term ≡ g.register.term + 1) (primary : store.primary ≡ n) (empty : store.synced ≡ 0) where
    target_before : (t : ℕ) → t ≤ g.register.term → (move past (g.register.term + 1) n (has g.register.synced n)).target t ≡ past.target t
    target_before t low = target_other past (g.register.term + 1) n (has g.register.synced n) t (λ e. omega (arith, low, e))

    safe_before : (t : ℕ) → t ≤ g.register.term → (move past (g.register.term + 1) n (has g.register.synced n)).safe t ≡ past.safe t
    safe_before t low = safe_other past (g.register.term + 1) n (has g.register.synced n) t (λ e. omega (arith, low, e))

    pub moved_world : IsWorld (move past (g.register.term + 1) n (has g.register.synced n)) logs (record g { register = store })
    moved_world = record {
      are = record { traced = w.are.traced; bounded = w.are.bounded; future = λ t e. w.are.future t (omega (arith, e, term)); none = w.are.none; some = omega (arith, term) };
      each = λ m. let a : IsGrounded past logs g.register.term m (replica g m) = w.each m in record {
        prefix = a.prefix;
        term = a.term;
        reached = omega (arith, a.reached, term);
        own = λ e. let o : HasOwn logs (replica g m) = a.own (sym (target_before (replica g m).term a.reached) ∙ e) in record { whole = o.whole; begun = o.begun };
        ahead = λ t high e low. by_term (logs t ≡ []) t (g.register.term + 1) (λ same. w.are.future t (omega (arith, same))) (λ apart. a.ahead t (omega (arith, high, term, apart)) (sym (target_before t (omega (arith, high, term, apart))) ∙ e) low);
        acts = λ e. let x : Acts past m (replica g m) = a.acts e in record { up = x.up; target = target_before (replica g m).term a.reached ∙ x.target; some = x.some };
        down = a.down;
      };
      primary = ap (move past (g.register.term + 1) n (has g.register.synced n)).target term ∙ target_now past (g.register.term + 1) n (has g.register.synced n) ∙ sym primary;
      there = omega (arith, there, primary);
      count = w.count;
    }

    begun_on : (t m : ℕ) → HasBegun past logs t m → HasBegun (move past (g.register.term + 1) n (has g.register.synced n)) logs t m
    begun_on t m b = record { place = b.place; is = b.is; known = b.known }

    body_on : (a b : ℕ) (t : ℕ) (x : Body) → BodyTells past logs a (replica g a) b (replica g b) t x → BodyTells (move past (g.register.term + 1) n (has g.register.synced n)) logs a (replica g a) b (replica g b) t x
    body_on a b t (Hello ticket its_end starts) p = record { log = p.log; long = p.long; lists = p.lists; traced = p.traced; low = p.low; covers = p.covers; waits = p.waits }
    body_on a b t (Resume ticket fork its_end) p = p
    body_on a b t (OfBlock block) p = tt
    body_on a b t (Ack hardened low) p = p
    body_on a b t (PageAsk page lsn other) p = tt
    body_on a b t (PageGive lsn v) p = tt
    body_on a b t (PageNo page) p = tt

    pub moved_holds : Holds (move past (g.register.term + 1) n (has g.register.synced n)) cs logs (record g { register = store })
    moved_holds =
        let past2 : Past = move past (g.register.term + 1) n (has g.register.synced n) in
        let now : ℕ = g.register.term in
        let named : past2.target (now + 1) ≡ n = target_now past (now + 1) n (has g.register.synced n) in
        let is_safe : past2.safe (now + 1) ≡ has g.register.synced n = safe_now past (now + 1) n (has g.register.synced n) in
        record {
          asked = λ m. omega (arith, h.asked m, term);
          knowing = λ m. let k : Knowing past logs m (records (replica g m)) (replica g m).term = h.knowing m in record { here = k.here; before = k.before; asks = k.asks };
          states = λ m. let s : IsState past m g.config.pages (replica g m) = h.states m in record { disk = s.disk; low = s.low; saved = s.saved; follows = s.follows; whole = s.whole };
          leaders = λ m e.
              let l : IsLeader past logs g.register m (replica g m) = h.leaders m e in
              let reached : (replica g m).term ≤ now = (w.each m).reached in
              record {
                stale = λ q. absurd (false≢true (sym q ∙ cuts.cut m e));
                primary = λ q. absurd (cuts.target (ap (λ k. (replica g k).leads) (sym primary ∙ q) ∙ e));
                copy = λ q. absurd (omega (arith, q, reached, term));
                old = λ low safe.
                    by_term (has (replica g m).leading.synced (past2.target ((replica g m).term + 1)) ≡ true) (replica g m).term now
                    (λ at.
                    let one : (replica g m).term + 1 ≡ now + 1 = ap (λ t. t + 1) at in
                    ap (λ t. has (replica g m).leading.synced (past2.target t)) one ∙ ap (has (replica g m).leading.synced) named ∙ ap (λ s. has s n) (l.copy at) ∙ sym is_safe ∙ ap past2.safe (sym one) ∙ safe)
                    (λ apart.
                    let small : (replica g m).term < now = omega (arith, reached, apart) in
                    ap (has (replica g m).leading.synced) (target_before ((replica g m).term + 1) (omega (arith, small))) ∙ l.old small (sym (safe_before ((replica g m).term + 1) (omega (arith, small))) ∙ safe));
                peers = l.peers;
                free = l.free;
                normal = l.normal;
              };
          messages = λ a b. all_map (MessageTells past logs a (replica g a) b (replica g b)) (MessageTells past2 logs a (replica g a) b (replica g b)) (λ m p. body_on a b m.term m.body p) (link g a b) (h.messages a b);
          members = λ m e. absurd (none_member m (ap (λ s. has s m) (sym empty) ∙ e));
          takens = λ t low safe.
              by_term (IsTaken past2 logs t (replica g (past2.target (t + 1)))) t now
              (λ at. subst (λ (u : ℕ). IsTaken past2 logs u (replica g (past2.target (u + 1)))) (sym at)
              (let i : IsMember past logs g.register (length g.replicas) n (replica g n) = h.members n (sym is_safe ∙ ap (λ u. past2.safe (u + 1)) (sym at) ∙ safe) in
              record {
                reached = subst (λ (k : ℕ). now ≤ (replica g k).term) (sym named) (omega (arith, i.term));
                begun = subst (λ (k : ℕ). HasBegun past2 logs now k) (sym named) (begun_on now n i.begun);
                kept = λ some. absurd (omega (arith, some, ap length (w.are.future (now + 1) (omega arith))));
              }))
              (λ apart.
              let small : t + 1 ≤ now = omega (arith, low, term, apart) in
              let i : IsTaken past logs t (replica g (past.target (t + 1))) = h.takens t (omega (arith, small)) (sym (safe_before (t + 1) small) ∙ safe) in
              let same : past.target (t + 1) ≡ past2.target (t + 1) = sym (target_before (t + 1) small) in
              record {
                reached = subst (λ (k : ℕ). t ≤ (replica g k).term) same i.reached;
                begun = subst (λ (k : ℕ). HasBegun past2 logs t k) same (begun_on t (past.target (t + 1)) i.begun);
                kept = λ some. subst (λ (k : ℕ). KeptOf t k) same (i.kept some);
              });
          targets = λ t low safe.
              by_term (past2.target (t + 1) < length g.config.modes) t now
              (λ at. omega (arith, there, w.count, named, ap (λ u. past2.target (u + 1)) at))
              (λ apart.
              let small : t + 1 ≤ now = omega (arith, low, term, apart) in
              omega (arith, h.targets t (omega (arith, small)) (sym (safe_before (t + 1) small) ∙ safe), target_before (t + 1) small));
          commits = all_map (IsConfirmed past logs g.register) (IsConfirmed past2 logs store) (λ c i. record {
            some = i.some;
            term = i.term;
            reached = omega (arith, i.reached, term);
            within = i.within;
            commit = i.commit;
            held = λ e m q. absurd (omega (arith, e, i.reached, term));
            took = λ low safe.
                by_term (IsKnown (past.told (past2.target (c.term + 1)) c.term) (logs c.term) c.lsn) c.term now
                (λ at. subst (λ (k : ℕ). IsKnown (past.told k c.term) (logs c.term) c.lsn) (sym (ap (λ t. past2.target (t + 1)) at ∙ named)) (i.held at n (sym is_safe ∙ ap (λ t. past2.safe (t + 1)) (sym at) ∙ safe)))
                (λ apart.
                let small : c.term + 1 ≤ now = omega (arith, i.reached, apart) in
                subst (λ (k : ℕ). IsKnown (past.told k c.term) (logs c.term) c.lsn) (sym (target_before (c.term + 1) small)) (i.took (omega (arith, small)) (sym (safe_before (c.term + 1) small) ∙ safe)));
          }) cs h.commits;
        }
      where
        KeptOf : ℕ → ℕ → Type 0
        KeptOf t k = (grown : List Record) → IsPrefixOf (logs t) grown → (f : ℕ) → IsKnown (past.told k t) grown f → IsPrefixOf (take f (past.told k t)) (logs (t + 1)) × ((i : ℕ) → slice_get (logs (t + 1)) i ≡ Some (Term (t + 1)) → f ≤ i)
