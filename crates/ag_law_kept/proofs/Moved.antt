-- One replica moves, and the logs may go on.
use Rattle.std.proofs.Common.{◌≡◌, ◌≢◌, ℕ, ◌+◌, ◌<◌, ◌≤◌, List, [], length, true, false, refl, sym, ap, ◌∙◌, subst, arith, length-set, get_or-set_same}
use Rattle.std.specs.Prelude.{get_or, ◌==◌}
use Rattle.std.specs.List.{AllByRecursion}
use Rattle.std.proofs.lemmas.Bool.{eqb-true, eqb-false}
use Rattle.std.proofs.lemmas.List.{get_or-set_other, nil_from_length}
use Rattle.ag_model.specs.declared.record.Record.{Record}
use Rattle.ag_model.specs.declared.config.Config.{Config}
use Rattle.ag_model.specs.Starts.{last_term}
use Rattle.ag_rules.specs.Replica.{Replica, records, is_reverting}
use Rattle.ag_rules.specs.Group.{Group, replica, with_replica, link, has, nobody}
use Rattle.ag_rules.specs.KeptLaw.{Confirmed}
use Rattle.ag_lists.proofs.Tests.{by_bool}
use Rattle.ag_lists.proofs.Places.{at_set_there}
use Rattle.ag_lists.proofs.Each.{all_map}
use Rattle.ag_laws.specs.Prefix.{IsPrefixOf}
use Rattle.ag_laws.specs.Logs.{Logs}
use Rattle.ag_law_kept.specs.Past.{Past}
use Rattle.ag_law_kept.specs.Tells.{MessageTells}
use Rattle.ag_law_kept.specs.Holds.{Knowing, IsState, IsLeader, IsMember, IsTaken, IsConfirmed, Holds}
use Rattle.ag_law_kept.proofs.World.{AreTraced, IsGrounded, HasOwn, IsWorld, AreGrown}
use Rattle.ag_law_kept.proofs.Longer.{knowing_longer, leader_longer, member_longer, commit_longer, taken_longer}

-- a replica that takes the place of replica n
pub record NewReplica (past : Past) (grown : Logs) (g : Group) (n : ℕ) (r2 : Replica) : Type 0 where
  pub knowing : Knowing past grown n (records r2) r2.term
  pub state : IsState past n g.config.pages r2
  pub leader : r2.leads ≡ true → IsLeader past grown g.register n r2
  pub term : (replica g n).term ≤ r2.term
  pub reached : r2.term ≤ g.register.term
  pub normal : has g.register.synced n ≡ true → is_reverting r2.state ≡ false

-- the log of a term begins now: with the log of its target, which was in a term before
abbrev pub BeginsFresh : Past → Logs → Logs → Group → Type 0
BeginsFresh past logs grown g = (t : ℕ) → t < g.register.term → length (logs (t + 1)) ≡ 0 → 0 < length (grown (t + 1))
    → ((replica g (past.target (t + 1))).term ≤ t) × IsPrefixOf (records (replica g (past.target (t + 1)))) (grown (t + 1))

pub moved : (past : Past) (cs : List Confirmed) (logs grown : Logs) (g : Group) (n : ℕ) (r2 : Replica) → IsWorld past logs g → Holds past cs logs g → n < length g.replicas → ((t : ℕ) → IsPrefixOf (logs t) (grown t)) → BeginsFresh past logs grown g → NewReplica past grown g n r2
    → ((a b : ℕ) → AllByRecursion (MessageTells past grown a (replica (with_replica g n r2) a) b (replica (with_replica g n r2) b)) (link g a b)) → Holds past cs grown (with_replica g n r2)
moved past cs logs grown g n r2 w h there longer fresh new messages = record {
  asked = h.asked;
  knowing = at_set_there (λ m r. Knowing past grown m (records r) r.term) g.replicas nobody n r2 there (λ m _. knowing_longer past logs grown longer m (records (replica g m)) (replica g m).term (h.knowing m)) new.knowing;
  states = at_set_there (λ m r. IsState past m g.config.pages r) g.replicas nobody n r2 there (λ m _. h.states m) new.state;
  leaders = at_set_there (λ m r. r.leads ≡ true → IsLeader past grown g.register m r) g.replicas nobody n r2 there (λ m _ e. leader_longer past logs grown longer g.register m (replica g m) (h.leaders m e)) new.leader;
  messages = messages;
  members = subst (λ (count : ℕ). (m : ℕ) → has g.register.synced m ≡ true → IsMember past grown g.register count m (replica (with_replica g n r2) m)) (sym (length-set g.replicas n r2))
      (at_set_there (λ m r. has g.register.synced m ≡ true → IsMember past grown g.register (length g.replicas) m r) g.replicas nobody n r2 there
      (λ m _ e. member_longer past logs grown longer g.register (length g.replicas) m (replica g m) (replica g m) (h.members m e) (omega arith) (w.each m).reached (h.members m e).normal)
      (λ e. member_longer past logs grown longer g.register (length g.replicas) n (replica g n) r2 (h.members n e) new.term new.reached (new.normal e)));
  takens = λ t low safe.
      at_set_there (λ m r. m ≡ past.target (t + 1) → IsTaken past grown t r) g.replicas nobody n r2 there
      (λ m _ e. taken m (replica g m) t low safe e (omega arith))
      (λ e. taken n r2 t low safe e new.term)
      (past.target (t + 1)) refl;
  targets = h.targets;
  commits = all_map (IsConfirmed past logs g.register) (IsConfirmed past grown g.register) (λ c i. commit_longer past logs grown longer g.register c i) cs h.commits;
}
  where
    taken : (m : ℕ) (r3 : Replica) (t : ℕ) → t < g.register.term → past.safe (t + 1) ≡ true → m ≡ past.target (t + 1) → (replica g m).term ≤ r3.term → IsTaken past grown t r3
    taken m r3 t low safe e up =
        taken_longer past logs grown longer g.register.term m t (replica g m) r3 w.are (w.each m) (h.knowing m) e (subst (λ (k : ℕ). IsTaken past logs t (replica g k)) (sym e) (h.takens t low safe)) up
        (λ none some. subst (λ (k : ℕ). ((replica g k).term ≤ t) × IsPrefixOf (records (replica g k)) (grown (t + 1))) (sym e) (fresh t low none some))

-- a world reads replicas, store and configuration alone
pub world_like : (past : Past) (logs : Logs) (a b : Group) → a.replicas ≡ b.replicas → a.register.term ≡ b.register.term → a.register.primary ≡ b.register.primary → a.config ≡ b.config → IsWorld past logs a → IsWorld past logs b
world_like past logs a b replicas term primary config w = record {
  are = subst (AreTraced logs) term w.are;
  each = subst (λ (rs : List Replica). (m : ℕ) → IsGrounded past logs b.register.term m (get_or rs m nobody)) replicas (subst (λ (t : ℕ). (m : ℕ) → IsGrounded past logs t m (replica a m)) term w.each);
  primary = ap past.target (sym term) ∙ w.primary ∙ primary;
  there = subst (λ (rs : List Replica). b.register.primary < length rs) replicas (omega (arith, w.there, primary));
  count = ap length (sym replicas) ∙ w.count ∙ ap (λ (c : Config). length c.modes) config;
}

-- no log of a term is empty that its primary is in
unbegun : (past : Past) (logs : Logs) (now n t : ℕ) (r : Replica) → IsGrounded past logs now n r → past.target t ≡ n → r.term ≡ t → 0 < t → length (logs t) ≡ 0 → ⊥
unbegun past logs now n t r a mine at some none =
    let o : HasOwn logs r = a.own (ap past.target at ∙ mine) in
    let empty : records r ≡ [] = nil_from_length (records r) (ap length o.whole ∙ ap (λ u. length (logs u)) at ∙ none) in
    let zero_is : last_term (records r) ≡ 0 = ap (λ (l : List Record). last_term l) empty in
    omega (arith, o.begun, zero_is, at, some)

-- where one replica has moved on, a log that begins now begins with its target's log
pub fresh_of : (past : Past) (logs grown : Logs) (g after : Group) (n : ℕ) (r2 : Replica) → IsWorld past logs g → IsWorld past grown after → AreGrown past logs grown after → n < length g.replicas → after.replicas ≡ (with_replica g n r2).replicas → after.register.term ≡ g.register.term
    → (replica g n).term ≤ r2.term → (past.target r2.term ≡ n → IsPrefixOf (records (replica g n)) (records r2)) → BeginsFresh past logs grown g
fresh_of past logs grown g after n r2 w w2 gr there replicas term up goes t low none some =
    let n0 : ℕ = past.target (t + 1) in
    let at : (replica after n0).term ≡ t + 1 =
    by_bool ((replica after n0).term == t + 1) (λ v. ((replica after n0).term == t + 1) ≡ v → (replica after n0).term ≡ t + 1)
    (λ _ e. eqb-true (replica after n0).term (t + 1) e)
    (λ _ e. absurd (omega (arith, none, some, ap length (gr.others (t + 1) (omega (arith, low, term)) (eqb-false (replica after n0).term (t + 1) e)))))
    refl in
    let o : HasOwn grown (replica after n0) = (w2.each n0).own (ap past.target at) in
    let whole : records (replica after n0) ≡ grown (t + 1) = o.whole ∙ ap grown at in
    by_bool (n0 == n) (λ v. (n0 == n) ≡ v → ((replica g n0).term ≤ t) × IsPrefixOf (records (replica g n0)) (grown (t + 1)))
    (λ _ e.
    let same : n0 ≡ n = eqb-true n0 n e in
    let is : replica after n0 ≡ r2 = ap (λ (rs : List Replica). get_or rs n0 nobody) replicas ∙ ap (λ m. get_or (with_replica g n r2).replicas m nobody) same ∙ get_or-set_same g.replicas n r2 nobody there in
    let at2 : r2.term ≡ t + 1 = ap (λ (r : Replica). r.term) (sym is) ∙ at in
    let prefix : IsPrefixOf (records (replica g n)) (grown (t + 1)) = subst (λ (l : List Record). IsPrefixOf (records (replica g n)) l) (ap (λ (r : Replica). records r) (sym is) ∙ whole) (goes (ap past.target at2 ∙ same)) in
    let apart : (replica g n).term ≢ t + 1 = λ q. unbegun past logs g.register.term n (t + 1) (replica g n) (w.each n) same q (omega arith) none in
    subst (λ (m : ℕ). ((replica g m).term ≤ t) × IsPrefixOf (records (replica g m)) (grown (t + 1))) (sym same) (omega (arith, up, at2, apart), prefix))
    (λ _ e.
    let is : replica after n0 ≡ replica g n0 = ap (λ (rs : List Replica). get_or rs n0 nobody) replicas ∙ get_or-set_other g.replicas n n0 r2 nobody (eqb-false n0 n e) in
    absurd (unbegun past logs g.register.term n0 (t + 1) (replica g n0) (w.each n0) refl (ap (λ (r : Replica). r.term) (sym is) ∙ at) (omega arith) none))
    refl
