-- `join`: a replica tells its whole log, and waits for a fresh ticket.
use Rattle.std.specs.Prelude.{◌==◌, None}
use Rattle.std.proofs.Common.{◌≡◌, ◌≢◌, ℕ, ◌+◌, ◌<◌, ◌≤◌, List, [], ◌∷◌, length, Bool, true, false, refl, sym, ap, ◌∙◌, subst, arith, length-set, set-set}
use Rattle.std.specs.List.{AllByRecursion}
use Rattle.std.proofs.lemmas.Bool.{false≢true, not-false, and_parts, eqb-true, eqb-false}
use Rattle.std.proofs.lemmas.List.{get_or-set_other}
use Rattle.ag_model.specs.declared.record.Record.{Record}
use Rattle.ag_model.specs.declared.config.Ticket.{Ticket}
use Rattle.ag_model.specs.declared.event.Suffix.{Suffix}
use Rattle.ag_model.specs.declared.message.Body.{Body}
use Rattle.ag_model.specs.declared.message.Body.TheVariants.{Hello, Resume, Block as OfBlock, Ack, PageAsk, PageGive, PageNo}
use Rattle.ag_rules.specs.Replica.{Replica, records, is_reverting}
use Rattle.ag_rules.specs.Group.{Group, replica, with_replica, link, nobody}
use Rattle.ag_model.specs.declared.answer.Answer.TheVariants.{Joined}
use Rattle.ag_rules.specs.Plan.{sending, Plan, Posting, here, at_node, posted}
use Rattle.ag_rules.specs.Cut.{cut}
use Rattle.ag_rules.specs.JoinEvent.{join_part, checks_of_join, joining, hello_message}
use Rattle.ag_rules.specs.ResumeMessage.{waits_for}
use Rattle.ag_rules.specs.KeptLaw.{Confirmed}
use Rattle.ag_lists.proofs.Tests.{by_bool, if_has}
use Rattle.ag_lists.proofs.Places.{at_set, at_set_there}
use Rattle.ag_lists.proofs.Each.{all_map2}
use Rattle.ag_laws.specs.Logs.{Logs, Setting}
use Rattle.ag_laws.specs.Fits.{IsGiven, BodyFits, MessageFits}
use Rattle.ag_laws.proofs.Prefix.{prefix_refl}
use Rattle.ag_laws.proofs.Plans.{unless_has}
use Rattle.ag_laws.proofs.Groups.{replicas_posted}
use Rattle.ag_laws.proofs.Grow.{traced_prefix}
use Rattle.ag_law_kept.specs.Known.{Covers}
use Rattle.ag_law_kept.specs.Past.{Past, tell, ask}
use Rattle.ag_law_kept.specs.Tells.{BodyTells, MessageTells}
use Rattle.ag_law_kept.specs.Holds.{Knowing, IsLeader, Holds}
use Rattle.ag_law_kept.proofs.Known.{covers_refl}
use Rattle.ag_law_kept.proofs.World.{IsGrounded, HasOwn, Acts, IsWorld, AreGrown}
use Rattle.ag_law_kept.proofs.Longer.{Waits, knowing_longer, messages_longer}
use Rattle.ag_law_kept.proofs.Moved.{NewReplica, moved, fresh_of}
use Rattle.ag_law_kept.proofs.Posts.{holds_posted}
use Rattle.ag_law_kept.proofs.Told.{told_holds, asked_holds}
use Rattle.ag_law_kept.proofs.Goes.{Fit, fit_of, Outcome, first_world, first_same, told_same, waits_refl}
use Rattle.ag_law_kept.proofs.Calm.{same_calm}
use Rattle.ag_law_kept.proofs.Leads.{cut_calm}
use Rattle.ag_law_kept.proofs.Greets.{cut_quiet}

-- a world reads the targets of what is remembered alone
pub world_past : (past past2 : Past) (logs : Logs) (g : Group) → ((t : ℕ) → past2.target t ≡ past.target t) → IsWorld past logs g → IsWorld past2 logs g
world_past past past2 logs g same w = record {
  are = w.are;
  each = λ n. let a : IsGrounded past logs g.register.term n (replica g n) = w.each n in record {
    prefix = a.prefix;
    term = a.term;
    reached = a.reached;
    own = λ e. a.own (sym (same (replica g n).term) ∙ e);
    ahead = λ t h e q. a.ahead t h (sym (same t) ∙ e) q;
    acts = λ e. let x : Acts past n (replica g n) = a.acts e in record { up = x.up; target = same (replica g n).term ∙ x.target; some = x.some };
    down = a.down;
  };
  primary = same g.register.term ∙ w.primary;
  there = w.there;
  count = w.count;
}

ask_same : (past : Past) (n t : ℕ) → (ask past n t).asked n ≡ t
ask_same past n t = if_has (λ (x : ℕ). x ≡ t) (n == n) t (past.asked n) (λ _. refl) (λ f. absurd (eqb-false n n f refl))

-- a replica without its ticket
abbrev without_ticket : Replica → Replica
without_ticket r = record r { following = record r.following { ticket = None } }

-- the state after a join
joined_state : (P : ℕ → Type 0) (r : Replica) → (r.state ≡ 1 → P 0) → (r.state ≢ 1 → P r.state) → P (joining r).state
joined_state P r one other = if_has P (r.state == 1) 0 r.state (λ e. one (eqb-true r.state 1 e)) (λ e. other (eqb-false r.state 1 e))

-- the messages, where a replica waits for a fresh ticket
body_given : (past : Past) (s : Setting) (logs grown : Logs) (a : ℕ) (a0 a1 a2 : Replica) (b : ℕ) (b0 b1 b2 : Replica) (term : ℕ) (x : Body)
    → ((t : Ticket) → IsGiven t a0 → waits_for a2.following.ticket t ≡ true → waits_for a1.following.ticket t ≡ true) → ((t : Ticket) → IsGiven t b0 → waits_for b2.following.ticket t ≡ true → waits_for b1.following.ticket t ≡ true)
    → BodyFits s logs a0 b b0 term x → BodyTells past grown a a1 b b1 term x → BodyTells past grown a a2 b b2 term x
body_given past s logs grown a a0 a1 a2 b b0 b1 b2 term (Hello ticket its_end starts) f t fits p = record { log = p.log; long = p.long; lists = p.lists; traced = p.traced; low = p.low; covers = p.covers; waits = λ q. p.waits (f ticket fits.given q) }
body_given past s logs grown a a0 a1 a2 b b0 b1 b2 term (Resume ticket fork its_end) f t fits p = λ q. p (t ticket fits.given q)
body_given past s logs grown a a0 a1 a2 b b0 b1 b2 term (OfBlock block) f t fits p = tt
body_given past s logs grown a a0 a1 a2 b b0 b1 b2 term (Ack hardened low) f t fits p = p
body_given past s logs grown a a0 a1 a2 b b0 b1 b2 term (PageAsk page lsn primary) f t fits p = tt
body_given past s logs grown a a0 a1 a2 b b0 b1 b2 term (PageGive lsn v) f t fits p = tt
body_given past s logs grown a a0 a1 a2 b b0 b1 b2 term (PageNo page) f t fits p = tt

module _ (past : Past) (cs : List Confirmed) (s : Setting) (logs grown : Logs) (g : Group) (n : ℕ) (w : IsWorld past logs g) (h : Holds past cs logs g) (there : n < length g.replicas) (fits : (a b : ℕ) → AllByRecursion (MessageFits s logs (replica g a) b (replica g b)) (link g a b)) where
  joins_holds : (replica g n).up ≡ true → (replica g n).leads ≡ false → (let after = posted n (record { to = g.register.primary; message = hello_message (here g n) (replica g n) } ∷ []) (with_replica g n (joining (replica g n))) in IsWorld past grown after → AreGrown past logs grown after → Outcome past cs grown after)
  joins_holds up follows w2 gr =
      let r : Replica = replica g n in
      let now : ℕ = g.register.term in
      let r0 : Replica = without_ticket r in
      let r1 : Replica = joining r in
      let out : List Posting = record { to = g.register.primary; message = hello_message (here g n) r } ∷ [] in
      let after : Group = posted n out (with_replica g n r1) in
      let g0 : Group = with_replica g n r0 in
      let world1 : IsWorld past grown (with_replica g n r1) = first_world past cs logs grown g n w h there r1 out after refl w2 in
      let ground1 : IsGrounded past grown now n r1 = subst (IsGrounded past grown now n) (first_same past cs logs grown g n w h there r1) (world1.each n) in
      let same0 : replica g0 n ≡ r0 = first_same past cs logs grown g n w h there r0 in
      let ground0 : IsGrounded past grown now n r0 = record {
        prefix = ground1.prefix;
        term = ground1.term;
        reached = ground1.reached;
        own = λ e. let o : HasOwn grown r1 = ground1.own e in record { whole = o.whole; begun = o.begun };
        ahead = ground1.ahead;
        acts = λ e. absurd (false≢true (sym follows ∙ e));
        down = λ _. refl;
      } in
      let world0 : IsWorld past grown g0 = record {
        are = world1.are;
        each = at_set_there (λ m x. IsGrounded past grown now m x) g.replicas nobody n r0 there (λ m apart. subst (IsGrounded past grown now m) (get_or-set_other g.replicas n m r1 nobody apart) (world1.each m)) ground0;
        primary = world1.primary;
        there = omega (arith, w.there, length-set g.replicas n r0);
        count = length-set g.replicas n r0 ∙ w.count;
      } in
      let f : Fit g.config.pages r = fit_of past n g.config.pages r (h.states n) in
      let new0 : NewReplica past grown g n r0 = record {
        knowing = knowing_longer past logs grown gr.longer n (records r) r.term (h.knowing n);
        state = record { disk = f.disk; low = f.low; saved = f.saved; follows = λ _. refl; whole = λ e t q. absurd (false≢true q) };
        leader = λ e. absurd (false≢true (sym follows ∙ e));
        term = omega arith;
        reached = (w.each n).reached;
        normal = λ i. (h.members n i).normal;
      } in
      let h0 : Holds past cs grown g0 =
      moved past cs logs grown g n r0 w h there gr.longer
      (fresh_of past logs grown g after n r1 w w2 gr there (replicas_posted n out (with_replica g n r1)) refl (omega arith) (λ _. prefix_refl (records r))) new0
      (messages_longer past logs grown gr.longer (replica g) (replica g0) (link g) (at_set (λ m x. Waits (replica g m) x) g.replicas nobody n r0 (λ m. waits_refl (replica g m)) (λ t q. absurd (false≢true q))) h.messages) in
      let none0 : (replica g0 n).following.ticket ≡ None = ap (λ (x : Replica). x.following.ticket) same0 in
      let past1 : Past = ask past n now in
      let h1 : Holds past1 cs grown g0 = asked_holds past cs grown g0 n now world0 h0 none0 (h.asked n) (omega arith) in
      let past2 : Past = tell past1 n now (records r) in
      let h2 : Holds past2 cs grown g0 =
      subst (λ (x : Replica). Holds (tell past1 n now (records x)) cs grown g0) same0
      (told_holds past1 cs grown g0 n now (world_past past past1 grown g0 (λ t. refl) world0) h1 none0 (omega (arith, ap (λ (x : Replica). x.term) same0, (w.each n).reached)) (omega arith) (omega (arith, ask_same past n now))) in
      let there0 : n < length g0.replicas = omega (arith, there, length-set g.replicas n r0) in
      let new1 : NewReplica past2 grown g0 n r1 = record {
        knowing = subst (λ (x : Replica). Knowing past2 grown n (records x) x.term) same0 (h2.knowing n);
        state = record {
          disk = f.disk;
          low = joined_state (λ x. is_reverting x ≡ false → x ≤ 1) r (λ _ _. omega arith) (λ _ e. f.low e);
          saved = f.saved ∙ joined_state (λ x. is_reverting r.state ≡ is_reverting x) r (λ e. ap is_reverting e) (λ _. refl);
          follows = joined_state (λ x. x ≡ 1 → r1.following.ticket ≡ None) r (λ _ e. absurd (omega (arith, e))) (λ apart e. absurd (apart e));
          whole = λ _ t q. ap (past2.told n) (ask_same past n now) ∙ told_same past1 n now (records r);
        };
        leader = λ e. absurd (false≢true (sym follows ∙ e));
        term = omega (arith, ap (λ (x : Replica). x.term) same0);
        reached = (w.each n).reached;
        normal = λ i. joined_state (λ x. is_reverting x ≡ false) r (λ _. refl) (λ _. (h.members n i).normal);
      } in
      let waits : (m : ℕ) (t : Ticket) → IsGiven t (replica g m) → waits_for (replica (with_replica g0 n r1) m).following.ticket t ≡ true → waits_for (replica g0 m).following.ticket t ≡ true =
      at_set_there (λ m x. (t : Ticket) → IsGiven t (replica g m) → waits_for x.following.ticket t ≡ true → waits_for (replica g0 m).following.ticket t ≡ true) g0.replicas nobody n r1 there0 (λ m _ t _ q. q) (λ t given q. absurd (fresh_ticket t given q)) in
      let h3 : Holds past2 cs grown (with_replica g0 n r1) =
      moved past2 cs grown grown g0 n r1 (world_past past past2 grown g0 (λ t. refl) world0) h2 there0 (λ t. prefix_refl (grown t)) (λ t low none some. absurd (omega (arith, none, some))) new1
      (λ a b. all_map2 (MessageFits s logs (replica g a) b (replica g b)) (MessageTells past2 grown a (replica g0 a) b (replica g0 b)) (MessageTells past2 grown a (replica (with_replica g0 n r1) a) b (replica (with_replica g0 n r1) b))
      (λ m p q. body_given past2 s logs grown a (replica g a) (replica g0 a) (replica (with_replica g0 n r1) a) b (replica g b) (replica g0 b) (replica (with_replica g0 n r1) b) m.term m.body (waits a) (waits b) p q) (link g a b) (fits a b) (h2.messages a b)) in
      let h4 : Holds past2 cs grown (with_replica g n r1) = subst (λ (rs : List Replica). Holds past2 cs grown (record g { replicas = rs })) (set-set g.replicas n r0 r1) h3 in
      record {
        now = past2;
        holds = holds_posted past2 cs grown n out (with_replica g n r1) h4 (
          record {
            log = records r;
            long = refl;
            lists = refl;
            traced = traced_prefix grown (records r) (grown r.term) ground1.prefix (w2.are.traced r.term);
            low = omega (arith, (w.each n).reached, (w.each n).term);
            covers = subst (λ (l : List Record). Covers (records r) l (grown now)) (sym (told_same past1 n now (records r))) (covers_refl (records r) (grown now));
            waits = λ _. (told_same past1 n now (records r), sym (ask_same past n now));
          },
          tt,
        );
        target = λ t. refl;
        safe = λ t. refl;
      }
    where
      fresh_ticket : (t : Ticket) → IsGiven t (replica g n) → waits_for (joining (replica g n)).following.ticket t ≡ true → ⊥
      fresh_ticket t given q =
          let r : Replica = replica g n in
          let b : ((r.kept.master.incarnation == t.incarnation) ≡ true) × ((r.following.joins + 1 == t.joins) ≡ true) = and_parts _ _ q in
          let same : t.incarnation ≡ r.kept.master.incarnation = sym (eqb-true r.kept.master.incarnation t.incarnation b.0) in
          let joins : t.joins ≡ r.following.joins + 1 = sym (eqb-true (r.following.joins + 1) t.joins b.1) in
          let small : t.joins ≤ r.following.joins = given.joins up same in
          absurd (omega (arith, joins, small))

  pub join_holds : (full : Bool) (suffix : Suffix) → (let after = (cut suffix (at_node g n (join_part (here g n) (replica g n) full))).after in IsWorld past grown after → AreGrown past logs grown after → Outcome past cs grown after)
  unfolding join_part
  join_holds full suffix =
      let r : Replica = replica g n in
      unless_has (λ part. IsWorld past grown (cut suffix (at_node g n part)).after → AreGrown past logs grown (cut suffix (at_node g n part)).after → Outcome past cs grown (cut suffix (at_node g n part)).after)
      (checks_of_join (here g n) r full) r _
      (λ why. cut_calm past cs logs grown g n _ suffix w h there (same_calm g.config.pages r _ (fit_of past n g.config.pages r (h.states n))))
      (λ p.
      let follows : r.leads ≡ false = by_bool r.leads (λ v. r.leads ≡ v → r.leads ≡ false)
      (λ _ e.
      let l : IsLeader past logs g.register n r = h.leaders n e in
      let a : Acts past n r = (w.each n).acts e in
      let primary : g.register.primary ≡ n = sym w.primary ∙ ap past.target (sym (l.stale p.1.0)) ∙ a.target in
      absurd (eqb-false g.register.primary n p.1.1.1.0 primary))
      (λ _ e. e) refl in
      subst (λ (q : Plan). IsWorld past grown q.after → AreGrown past logs grown q.after → Outcome past cs grown q.after) (sym (cut_quiet suffix (at_node g n (sending (Joined g.register.term g.register.primary) (record { to = g.register.primary; message = hello_message (here g n) r } ∷ []) (joining r))) refl)) (joins_holds (not-false _ p.0) follows))
