-- What an event owes at its replica, beside the invariant of the logs, and what follows of the group: once for all events.
use Rattle.std.proofs.Common.{◌≡◌, ◌≢◌, ℕ, ◌+◌, ◌<◌, ◌≤◌, List, [], ◌∷◌, ◌++◌, length, take, get_or, true, false, inl, inr, ◌⊎◌, refl, sym, ap, ◌∙◌, subst, arith, get_or-set_same}
use Rattle.std.specs.Prelude.{None, ◌==◌, ◌&&◌}
use Rattle.std.specs.List.{AllByRecursion}
use Rattle.std.proofs.lemmas.Bool.{false≢true, eqb-true, eqb-false}
use Rattle.ag_model.specs.declared.record.Record.{Record}
use Rattle.ag_model.specs.declared.record.Log.{Log}
use Rattle.ag_model.specs.declared.config.Register.{Register}
use Rattle.ag_model.specs.declared.config.Ticket.{Ticket}
use Rattle.ag_model.specs.declared.event.Suffix.{Suffix}
use Rattle.ag_model.specs.declared.message.Message.{Message}
use Rattle.ag_model.specs.declared.message.Body.{Body}
use Rattle.ag_model.specs.declared.message.Body.TheVariants.{Hello, Resume, Block as OfBlock, Ack, PageAsk, PageGive, PageNo}
use Rattle.ag_rules.specs.Replica.{Replica, Kept, Master, records, end, peer, is_reverting, fallen}
use Rattle.ag_rules.specs.Group.{Group, replica, with_replica, link, with_link, has, nobody}
use Rattle.ag_rules.specs.Plan.{Part, Posting, posted, all_written, at_node}
use Rattle.ag_rules.specs.Cut.{cut}
use Rattle.ag_rules.specs.ResumeMessage.{waits_for}
use Rattle.ag_rules.specs.KeptLaw.{Confirmed}
use Rattle.ag_lists.proofs.Tests.{by_bool, if_has}
use Rattle.ag_lists.proofs.Places.{at_set}
use Rattle.ag_lists.proofs.Each.{all_map}
use Rattle.ag_laws.specs.Prefix.{IsPrefixOf}
use Rattle.ag_laws.specs.Logs.{Logs}
use Rattle.ag_laws.proofs.Prefix.{prefix_trans, prefix_length}
use Rattle.ag_laws.proofs.Groups.{replicas_posted, config_posted}
use Rattle.ag_laws.proofs.Disks.{SameCore}
use Rattle.ag_laws.proofs.Steps.{IsBatch}
use Rattle.ag_laws.proofs.Cuts.{cut_has, stop_has, fail_has}
use Rattle.ag_law_kept.specs.Known.{IsKnown, AtMost}
use Rattle.ag_law_kept.specs.Past.{Past, tell}
use Rattle.ag_law_kept.specs.Tells.{BodyTells, MessageTells}
use Rattle.ag_law_kept.specs.Holds.{Knowing, IsSaved, IsState, IsLeader, Holds}
use Rattle.ag_law_kept.proofs.Known.{known_self, known_longer, most_longer, most_more, most_length}
use Rattle.ag_law_kept.proofs.World.{IsWorld, AreGrown, term_rises}
use Rattle.ag_law_kept.proofs.Longer.{Waits, messages_longer}
use Rattle.ag_law_kept.proofs.Moved.{NewReplica, moved, world_like, fresh_of}
use Rattle.ag_law_kept.proofs.Posts.{holds_posted, Sendable}
use Rattle.ag_law_kept.proofs.Told.{told_holds}

-- a disk that an event may leave: its log and its saved term go on, and it doesn't begin to revert
pub record DiskGoes (pages : ℕ) (old k : Kept) : Type 0 where
  pub prefix : IsPrefixOf old.log.records k.log.records
  pub term : old.master.term ≤ k.master.term
  pub saved : IsSaved pages k.master
  pub normal : is_reverting old.master.state ≡ false → is_reverting k.master.state ≡ false

pub disk_core : (pages : ℕ) (old k j : Kept) → SameCore k j → DiskGoes pages old k → DiskGoes pages old j
disk_core pages old k j c d = record {
  prefix = subst (λ (l : Log). IsPrefixOf old.log.records l.records) c.log d.prefix;
  term = subst (λ (m : Master). old.master.term ≤ m.term) c.master d.term;
  saved = subst (λ (m : Master). IsSaved pages m) c.master d.saved;
  normal = λ e. subst (λ (m : Master). is_reverting m.state ≡ false) c.master (d.normal e);
}

-- a replica that an event may leave
pub record ReplicaGoes (pages : ℕ) (r r2 : Replica) : Type 0 where
  pub disk : DiskGoes pages r.kept r2.kept
  pub low : is_reverting r2.state ≡ false → r2.state ≤ 1
  pub saved : is_reverting r2.kept.master.state ≡ is_reverting r2.state
  pub normal : is_reverting r.state ≡ false → is_reverting r2.state ≡ false
  pub waits : Waits r r2
  pub follows : r2.state ≡ 1 → r2.following.ticket ≡ None
  pub whole : r2.state ≡ 0 → (ticket : Ticket) → waits_for r2.following.ticket ticket ≡ true → (r.state ≡ 0) × (records r2 ≡ records r)

-- a replica that reverts where its disk says so
pub record Fit (pages : ℕ) (r : Replica) : Type 0 where
  pub disk : IsSaved pages r.kept.master
  pub low : is_reverting r.state ≡ false → r.state ≤ 1
  pub saved : is_reverting r.kept.master.state ≡ is_reverting r.state
  pub follows : r.state ≡ 1 → r.following.ticket ≡ None

pub fit_of : (past : Past) (n pages : ℕ) (r : Replica) → IsState past n pages r → Fit pages r
fit_of past n pages r s = record { disk = s.disk; low = s.low; saved = s.saved; follows = s.follows }

-- a replica that goes down
pub fallen_goes : (pages : ℕ) (r : Replica) (k : Kept) → Fit pages r → DiskGoes pages r.kept k → ReplicaGoes pages r (fallen r k)
fallen_goes pages r k f d = record {
  disk = d;
  low = λ e. omega (arith, (d.saved.none e).1);
  saved = refl;
  normal = λ e. d.normal (f.saved ∙ e);
  waits = λ ticket q. absurd (false≢true q);
  follows = λ e. refl;
  whole = λ e ticket q. absurd (false≢true q);
}

-- a primary that goes on
pub record LeadsOn (r r2 : Replica) : Type 0 where
  pub leads : r.leads ≡ true
  pub term : r2.term ≡ r.term
  pub cut : r2.cut_off ≡ false → r.cut_off ≡ false
  pub synced : r2.leading.synced ≡ r.leading.synced
  pub known : (m : ℕ) → (peer r2 m).hardened ≡ (peer r m).hardened
  pub free : r.following.ticket ≡ None → r2.following.ticket ≡ None
  pub normal : is_reverting r.state ≡ false → is_reverting r2.state ≡ false

pub register_posted : (n : ℕ) (ps : List Posting) (g : Group) → (posted n ps g).register ≡ g.register
register_posted n [] g = refl
register_posted n (p ∷ ps) g = register_posted n ps (with_link g n p.to (link g n p.to ++ p.message ∷ []))

-- a message that tells nothing of a log
abbrev pub IsQuietBody : Body → Type 0
IsQuietBody (Hello ticket its_end starts) = ⊥
IsQuietBody (Resume ticket fork its_end) = ⊥
IsQuietBody (OfBlock block) = Unit {0}
IsQuietBody (Ack hardened low) = ⊥
IsQuietBody (PageAsk p lsn primary) = Unit {0}
IsQuietBody (PageGive lsn v) = Unit {0}
IsQuietBody (PageNo p) = Unit {0}

abbrev pub IsQuiet : Posting → Type 0
IsQuiet p = IsQuietBody p.message.body

-- an Ack of the whole log
abbrev pub IsAckOf : Replica → Posting → Type 0
IsAckOf r p = (low : ℕ) × (p.message ≡ record { term = r.term; body = Ack (end r) low })

-- what an event sends: quiet messages, or Acks of a replica that waits for no ticket
abbrev pub IsOut : Replica → List Posting → Type 0
IsOut r out = AllByRecursion IsQuiet out ⊎ (AllByRecursion (IsAckOf r) out × (r.following.ticket ≡ None))

-- what an event owes
pub record PartGoes (pages : ℕ) (r : Replica) (part : Part) : Type 0 where
  pub batches : AllByRecursion IsBatch part.writes
  pub writes : (j : ℕ) → DiskGoes pages r.kept (all_written r.kept (take j part.writes))
  pub after : ReplicaGoes pages r part.after
  pub out : IsOut part.after part.out

-- what comes of an event: what was remembered, but for what was told
pub record Outcome (past : Past) (cs : List Confirmed) (grown : Logs) (after : Group) : Type 0 where
  pub now : Past
  pub holds : Holds now cs grown after
  pub target : (t : ℕ) → past.target t ≡ now.target t
  pub safe : (t : ℕ) → past.safe t ≡ now.safe t

-- a primary that goes on
pub leader_on : (past : Past) (logs grown : Logs) (store : Register) (n : ℕ) (r r2 : Replica) → ((t : ℕ) → IsPrefixOf (logs t) (grown t)) → LeadsOn r r2 → (r.leads ≡ true → IsLeader past logs store n r) → IsLeader past grown store n r2
leader_on past logs grown store n r r2 longer on old =
    let l : IsLeader past logs store n r = old on.leads in
    record {
      stale = λ e. on.term ∙ l.stale (on.cut e);
      primary = λ e. on.term ∙ l.primary e;
      copy = λ e. on.synced ∙ l.copy (sym on.term ∙ e);
      old = λ h safe.
          let same : r2.term + 1 ≡ r.term + 1 = ap (λ t. t + 1) on.term in
          ap (λ s. has s (past.target (r2.term + 1))) on.synced ∙ ap (λ t. has r.leading.synced (past.target t)) same ∙ l.old (omega (arith, h, on.term)) (ap past.safe (sym same) ∙ safe);
      peers = λ m. subst (λ (t : ℕ). IsKnown (past.told m t) (grown t) (peer r2 m).hardened) (sym on.term)
          (subst (λ (k : ℕ). IsKnown (past.told m r.term) (grown r.term) k) (sym (on.known m)) (known_longer _ _ _ _ (longer r.term) (l.peers m)));
      free = on.free l.free;
      normal = on.normal l.normal;
    }

-- a replica whose log goes on
knowing_on : (past : Past) (logs grown : Logs) (n : ℕ) (a b : List Record) (t u : ℕ) → ((v : ℕ) → IsPrefixOf (logs v) (grown v)) → IsPrefixOf a b → t ≤ u → Knowing past logs n a t → Knowing past grown n b u
knowing_on past logs grown n a b t u longer p h k = record {
  here = by_bool (t == u) (λ v. (t == u) ≡ v → AtMost (past.told n u) (grown u) (length b))
      (λ _ e. let same : t ≡ u = eqb-true t u e in subst (λ (x : ℕ). AtMost (past.told n x) (grown x) (length b)) same (most_longer (past.told n t) (logs t) (grown t) (length b) (longer t) (most_more (past.told n t) (logs t) (length a) (length b) (prefix_length a b p) k.here)))
      (λ _ e. let apart : t ≢ u = eqb-false t u e in most_length (past.told n u) (grown u) (length b) (omega (arith, prefix_length (past.told n u) a (k.before u (omega (arith, h, apart))), prefix_length a b p)))
      refl;
  before = λ v e. prefix_trans (past.told n v) a b (k.before v (omega (arith, e, h))) p;
  asks = λ v a2 e. k.asks v a2 (omega (arith, e, h));
}

quiet_tells : (past : Past) (logs : Logs) (a : ℕ) (from : Replica) (b : ℕ) (to : Replica) (term : ℕ) (x : Body) → IsQuietBody x → BodyTells past logs a from b to term x
quiet_tells past logs a from b to term (Hello ticket its_end starts) q = absurd q
quiet_tells past logs a from b to term (Resume ticket fork its_end) q = absurd q
quiet_tells past logs a from b to term (OfBlock block) q = tt
quiet_tells past logs a from b to term (Ack hardened low) q = absurd q
quiet_tells past logs a from b to term (PageAsk p lsn primary) q = tt
quiet_tells past logs a from b to term (PageGive lsn v) q = tt
quiet_tells past logs a from b to term (PageNo p) q = tt

tells_quiet : (past : Past) (logs : Logs) (g : Group) (n : ℕ) (ps : List Posting) → AllByRecursion IsQuiet ps → Sendable past logs g n ps
tells_quiet past logs g n ps all = all_map IsQuiet (λ p. MessageTells past logs n (replica g n) p.to (replica g p.to) p.message) (λ p q. quiet_tells past logs n (replica g n) p.to (replica g p.to) p.message.term p.message.body q) ps all

pub waits_refl : (r : Replica) → Waits r r
waits_refl r = λ ticket w. w

pub told_same : (past : Past) (n t : ℕ) (log : List Record) → (tell past n t log).told n t ≡ log
told_same past n t log = if_has (λ (l : List Record). l ≡ log) ((n == n) && (t == t)) log (past.told n t) (λ _. refl) (λ e. let yes : ((n == n) && (t == t)) ≡ true = grind arith in absurd (false≢true (sym e ∙ yes)))

module _ (past : Past) (cs : List Confirmed) (logs grown : Logs) (g : Group) (n : ℕ) (w : IsWorld past logs g) (h : Holds past cs logs g) (there : n < length g.replicas) where
  -- one replica moves
  pub first_holds : (r2 : Replica) (out : List Posting) (after : Group) → posted n out (with_replica g n r2) ≡ after → IsWorld past grown after → AreGrown past logs grown after → NewReplica past grown g n r2 → Waits (replica g n) r2 → (past.target r2.term ≡ n → IsPrefixOf (records (replica g n)) (records r2)) → Holds past cs grown (with_replica g n r2)
  first_holds r2 out after is w2 gr new waits goes =
      moved past cs logs grown g n r2 w h there gr.longer
      (fresh_of past logs grown g after n r2 w w2 gr there (ap (λ (x : Group). x.replicas) (sym is) ∙ replicas_posted n out (with_replica g n r2)) (ap (λ (x : Group). x.register.term) (sym is) ∙ ap (λ (s : Register). s.term) (register_posted n out (with_replica g n r2))) new.term goes) new
      (messages_longer past logs grown gr.longer (replica g) (replica (with_replica g n r2)) (link g) (at_set (λ m x. Waits (replica g m) x) g.replicas nobody n r2 (λ m. waits_refl (replica g m)) waits) h.messages)

  pub first_world : (r2 : Replica) (out : List Posting) (after : Group) → posted n out (with_replica g n r2) ≡ after → IsWorld past grown after → IsWorld past grown (with_replica g n r2)
  first_world r2 out after is w2 = world_like past grown (posted n out (with_replica g n r2)) (with_replica g n r2) (replicas_posted n out (with_replica g n r2)) (ap (λ (s : Register). s.term) (register_posted n out (with_replica g n r2))) (ap (λ (s : Register). s.primary) (register_posted n out (with_replica g n r2))) (config_posted n out (with_replica g n r2)) (subst (IsWorld past grown) (sym is) w2)

  pub first_same : (r2 : Replica) → replica (with_replica g n r2) n ≡ r2
  first_same r2 = get_or-set_same g.replicas n r2 nobody there

  -- one replica moves, and sends what tells of logs as it should
  pub tells_holds : (r2 : Replica) (out : List Posting) (after : Group) → posted n out (with_replica g n r2) ≡ after → IsWorld past grown after → AreGrown past logs grown after → NewReplica past grown g n r2 → Waits (replica g n) r2 → (past.target r2.term ≡ n → IsPrefixOf (records (replica g n)) (records r2)) → Sendable past grown (with_replica g n r2) n out → Outcome past cs grown after
  tells_holds r2 out after is w2 gr new waits goes sends = subst (λ (x : Group). Outcome past cs grown x) is (record {
    now = past;
    holds = holds_posted past cs grown n out (with_replica g n r2) (first_holds r2 out after is w2 gr new waits goes) sends;
    target = λ t. refl;
    safe = λ t. refl;
  })

  -- one replica moves, and sends
  pub sent_holds : (r2 : Replica) (out : List Posting) (after : Group) → posted n out (with_replica g n r2) ≡ after → IsWorld past grown after → AreGrown past logs grown after → NewReplica past grown g n r2 → Waits (replica g n) r2 → (past.target r2.term ≡ n → IsPrefixOf (records (replica g n)) (records r2)) → IsOut r2 out → Outcome past cs grown after
  sent_holds r2 out after is w2 gr new waits goes sends = elim sends [
    | inl quiet ↦ tells_holds r2 out after is w2 gr new waits goes (tells_quiet past grown (with_replica g n r2) n out quiet)
    | inr acks ↦
        let g1 : Group = with_replica g n r2 in
        let same : replica g1 n ≡ r2 = first_same r2 in
        let world1 : IsWorld past grown g1 = first_world r2 out after is w2 in
        let told : Holds (tell past n r2.term (records r2)) cs grown g1 =
        subst (λ (r : Replica). Holds (tell past n r2.term (records r)) cs grown g1) same
        (told_holds past cs grown g1 n r2.term world1 (first_holds r2 out after is w2 gr new waits goes) (ap (λ (r : Replica). r.following.ticket) same ∙ acks.1) (omega (arith, ap (λ (r : Replica). r.term) same)) new.reached (omega (arith, ap (λ (r : Replica). r.term) same))) in
        subst (λ (x : Group). Outcome past cs grown x) is (record {
          now = tell past n r2.term (records r2);
          holds = holds_posted (tell past n r2.term (records r2)) cs grown n out g1 told (all_map (IsAckOf r2) (λ p. MessageTells (tell past n r2.term (records r2)) grown n (replica g1 n) p.to (replica g1 p.to) p.message) (λ p a. ack r2 p world1 same a) out acks.0);
          target = λ t. refl;
          safe = λ t. refl;
        })
  ]
    where
      ack : (r2 : Replica) (p : Posting) → IsWorld past grown (with_replica g n r2) → replica (with_replica g n r2) n ≡ r2 → IsAckOf r2 p → MessageTells (tell past n r2.term (records r2)) grown n (replica (with_replica g n r2) n) p.to (replica (with_replica g n r2) p.to) p.message
      ack r2 p world1 same a =
          subst (λ (m : Message). MessageTells (tell past n r2.term (records r2)) grown n (replica (with_replica g n r2) n) p.to (replica (with_replica g n r2) p.to) m) (sym a.1)
          (subst (λ (l : List Record). IsKnown l (grown r2.term) (end r2)) (sym (told_same past n r2.term (records r2)))
          (known_self (records r2) (grown r2.term) (end r2) (omega arith) (subst (λ (r : Replica). IsPrefixOf (records r) (grown r.term)) same (world1.each n).prefix)))

  -- a replica that goes on
  pub new_replica : (r2 : Replica) (now2 : Group) → IsWorld past grown now2 → ((t : ℕ) → IsPrefixOf (logs t) (grown t)) → replica now2 n ≡ r2 → now2.register.term ≡ g.register.term → ReplicaGoes g.config.pages (replica g n) r2 → (r2.leads ≡ true → IsLeader past grown g.register n r2) → NewReplica past grown g n r2
  new_replica r2 now2 w2 longer is now goes leads = record {
    knowing = knowing_on past logs grown n (records (replica g n)) (records r2) (replica g n).term r2.term longer goes.disk.prefix up (h.knowing n);
    state = record {
      disk = goes.disk.saved;
      low = goes.low;
      saved = goes.saved;
      follows = goes.follows;
      whole = λ e ticket q. let old : ((replica g n).state ≡ 0) × (records r2 ≡ records (replica g n)) = goes.whole e ticket q in (h.states n).whole old.0 ticket (goes.waits ticket q) ∙ sym old.1;
    };
    leader = leads;
    term = up;
    reached = omega (arith, reached, now);
    normal = λ e. goes.normal (h.members n e).normal;
  }
    where
      reached : r2.term ≤ now2.register.term
      reached = subst (λ (r : Replica). r.term ≤ now2.register.term) is (w2.each n).reached

      up : (replica g n).term ≤ r2.term
      up = subst (λ (r : Replica). records_on r → (replica g n).term ≤ r.term) is (λ p. term_rises past past logs grown g.register.term now2.register.term n (replica g n) (replica now2 n) w2.are (w.each n) (w2.each n) p.0 p.1) (goes.disk.prefix, goes.disk.term)
        where
          records_on : Replica → Type 0
          records_on r = IsPrefixOf (records (replica g n)) (records r) × ((replica g n).kept.master.term ≤ r.kept.master.term)

  -- one replica goes on, and sends
  pub goes_holds : (r2 : Replica) (out : List Posting) (after : Group) → posted n out (with_replica g n r2) ≡ after → IsWorld past grown after → AreGrown past logs grown after → ReplicaGoes g.config.pages (replica g n) r2 → (r2.leads ≡ true → IsLeader past grown g.register n r2) → IsOut r2 out → Outcome past cs grown after
  goes_holds r2 out after is w2 gr goes leads sends =
      sent_holds r2 out after is w2 gr
      (new_replica r2 after w2 gr.longer
      (ap (λ (x : Group). replica x n) (sym is) ∙ ap (λ (rs : List Replica). get_or rs n nobody) (replicas_posted n out (with_replica g n r2)) ∙ get_or-set_same g.replicas n r2 nobody there)
      (ap (λ (x : Group). x.register.term) (sym is) ∙ ap (λ (s : Register). s.term) (register_posted n out (with_replica g n r2))) goes leads)
      goes.waits (λ _. goes.disk.prefix) sends

  -- it goes down
  pub fallen_holds : (k : Kept) → IsWorld past grown (with_replica g n (fallen (replica g n) k)) → AreGrown past logs grown (with_replica g n (fallen (replica g n) k)) → DiskGoes g.config.pages (replica g n).kept k → Outcome past cs grown (with_replica g n (fallen (replica g n) k))
  fallen_holds k w2 gr d =
      goes_holds (fallen (replica g n) k) [] (with_replica g n (fallen (replica g n) k)) refl w2 gr
      (fallen_goes g.config.pages (replica g n) k (fit_of past n g.config.pages (replica g n) (h.states n)) d)
      (λ e. absurd (false≢true e)) (inl tt)

  -- an event of one replica, cut short anywhere
  pub cut_holds : (part : Part) (suffix : Suffix) → PartGoes g.config.pages (replica g n) part → (((t : ℕ) → IsPrefixOf (logs t) (grown t)) → part.after.leads ≡ true → IsLeader past grown g.register n part.after)
      → IsWorld past grown (cut suffix (at_node g n part)).after → AreGrown past logs grown (cut suffix (at_node g n part)).after → Outcome past cs grown (cut suffix (at_node g n part)).after
  cut_holds part suffix goes leads =
      cut_has (λ q. IsWorld past grown q.after → AreGrown past logs grown q.after → Outcome past cs grown q.after) suffix (at_node g n part)
      (λ i mask w2 gr. fallen_holds _ w2 gr (stop_has (DiskGoes g.config.pages (replica g n).kept) (disk_core g.config.pages (replica g n).kept) mask i (replica g n).kept part.writes goes.batches goes.writes))
      (λ c w2 gr. fallen_holds _ w2 gr (fail_has (DiskGoes g.config.pages (replica g n).kept) c (replica g n).kept part.writes goes.writes))
      (λ w2 gr. goes_holds part.after part.out _ refl w2 gr goes.after (leads gr.longer) goes.out)
