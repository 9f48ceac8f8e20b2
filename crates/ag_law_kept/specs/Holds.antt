-- What holds at any moment of a run, beside the logs of the terms: what is known of replicas, and what was confirmed.
use Rattle.std.specs.Prelude.{◌≡◌, ℕ, ◌+◌, ◌-◌, ◌<◌, ◌≤◌, List, [], length, take, true, false, Some, None, slice_get}
use Rattle.std.specs.List.{AllByRecursion, filter}
use Rattle.ag_model.specs.declared.record.Record.{Record}
use Rattle.ag_model.specs.declared.record.Record.TheVariants.{Term}
use Rattle.ag_model.specs.declared.config.Register.{Register}
use Rattle.ag_model.specs.declared.config.Ticket.{Ticket}
use Rattle.ag_model.specs.Rows.{contains, page_numbers}
use Rattle.ag_rules.specs.Replica.{Replica, Master, records, peer, is_reverting}
use Rattle.ag_rules.specs.Group.{Group, replica, link, has}
use Rattle.ag_rules.specs.ResumeMessage.{waits_for}
use Rattle.ag_rules.specs.KeptLaw.{Confirmed}
use Rattle.ag_laws.specs.Prefix.{IsPrefixOf}
use Rattle.ag_laws.specs.Logs.{Logs}
use Rattle.ag_law_kept.specs.Known.{IsKnown, AtMost}
use Rattle.ag_law_kept.specs.Past.{Past}
use Rattle.ag_law_kept.specs.Tells.{MessageTells}

-- replica n with this log and term: it has all that may be known of it in its term, and all that it told in terms to come
pub record Knowing (past : Past) (logs : Logs) (n : ℕ) (log : List Record) (term : ℕ) : Type 0 where
  pub here : AtMost (past.told n term) (logs term) (length log)
  pub before : (t : ℕ) → term < t → IsPrefixOf (past.told n t) log
  pub asks : (t : ℕ) → past.asked n < t → term < t → past.told n t ≡ []

-- a master: a replica that doesn't revert has no foreign page, and one that does has some
pub record IsSaved (pages : ℕ) (m : Master) : Type 0 where
  pub none : is_reverting m.state ≡ false → (m.foreign ≡ []) × (m.state ≡ 0)
  pub some : is_reverting m.state ≡ true → 0 < length (filter (λ p. contains p m.foreign) (page_numbers pages))

-- the state of replica n
pub record IsState (past : Past) (n pages : ℕ) (r : Replica) : Type 0 where
  pub disk : IsSaved pages r.kept.master
  pub low : is_reverting r.state ≡ false → r.state ≤ 1
  pub saved : is_reverting r.kept.master.state ≡ is_reverting r.state
  pub follows : r.state ≡ 1 → r.following.ticket ≡ None
  pub whole : r.state ≡ 0 → (ticket : Ticket) → waits_for r.following.ticket ticket ≡ true → past.told n (past.asked n) ≡ records r

-- a replica that acts as primary, beside the store
pub record IsLeader (past : Past) (logs : Logs) (store : Register) (n : ℕ) (r : Replica) : Type 0 where
  pub stale : r.cut_off ≡ false → r.term ≡ store.term
  pub primary : store.primary ≡ n → r.term ≡ store.term
  pub copy : r.term ≡ store.term → r.leading.synced ≡ store.synced
  pub old : r.term < store.term → past.safe (r.term + 1) ≡ true → has r.leading.synced (past.target (r.term + 1)) ≡ true
  pub peers : (m : ℕ) → IsKnown (past.told m r.term) (logs r.term) (peer r m).hardened
  pub free : r.following.ticket ≡ None
  pub normal : is_reverting r.state ≡ false

-- it is known in term t that replica m has the term's own record
pub record HasBegun (past : Past) (logs : Logs) (t m : ℕ) : Type 0 where
  pub place : ℕ
  pub is : slice_get (logs t) place ≡ Some (Term t)
  pub known : IsKnown (past.told m t) (logs t) (place + 1)

-- a member of the store's set
pub record IsMember (past : Past) (logs : Logs) (store : Register) (count m : ℕ) (r : Replica) : Type 0 where
  pub there : m < count
  pub term : r.term ≡ store.term
  pub normal : is_reverting r.state ≡ false
  pub begun : HasBegun past logs store.term m

-- a safe failover into the term after t; once that term has begun, its log has all that may be known of the target, before the
-- term's own record
pub record IsTaken (past : Past) (logs : Logs) (t : ℕ) (r : Replica) : Type 0 where
  pub reached : t ≤ r.term
  pub begun : HasBegun past logs t (past.target (t + 1))
  pub kept : 0 < length (logs (t + 1)) → (grown : List Record) → IsPrefixOf (logs t) grown → (f : ℕ) → IsKnown (past.told (past.target (t + 1)) t) grown f
      → IsPrefixOf (take f (past.told (past.target (t + 1)) t)) (logs (t + 1)) × ((i : ℕ) → slice_get (logs (t + 1)) i ≡ Some (Term (t + 1)) → f ≤ i)

-- a Commit that was confirmed: it is known of each member, or of the target of a safe failover
pub record IsConfirmed (past : Past) (logs : Logs) (store : Register) (c : Confirmed) : Type 0 where
  pub some : 0 < c.lsn
  pub term : 0 < c.term
  pub reached : c.term ≤ store.term
  pub within : c.lsn ≤ length (logs c.term)
  pub commit : slice_get (logs c.term) (c.lsn - 1) ≡ c.commit
  pub held : c.term ≡ store.term → (m : ℕ) → has store.synced m ≡ true → IsKnown (past.told m c.term) (logs c.term) c.lsn
  pub took : c.term < store.term → past.safe (c.term + 1) ≡ true → IsKnown (past.told (past.target (c.term + 1)) c.term) (logs c.term) c.lsn

-- the group, and what was confirmed so far
pub record Holds (past : Past) (confirmed : List Confirmed) (logs : Logs) (g : Group) : Type 0 where
  pub asked : (n : ℕ) → past.asked n ≤ g.register.term
  pub knowing : (n : ℕ) → Knowing past logs n (records (replica g n)) (replica g n).term
  pub states : (n : ℕ) → IsState past n g.config.pages (replica g n)
  pub leaders : (n : ℕ) → (replica g n).leads ≡ true → IsLeader past logs g.register n (replica g n)
  pub messages : (a b : ℕ) → AllByRecursion (MessageTells past logs a (replica g a) b (replica g b)) (link g a b)
  pub members : (m : ℕ) → has g.register.synced m ≡ true → IsMember past logs g.register (length g.replicas) m (replica g m)
  pub takens : (t : ℕ) → t < g.register.term → past.safe (t + 1) ≡ true → IsTaken past logs t (replica g (past.target (t + 1)))
  pub targets : (t : ℕ) → t < g.register.term → past.safe (t + 1) ≡ true → past.target (t + 1) < length g.config.modes
  pub commits : AllByRecursion (IsConfirmed past logs g.register) confirmed
