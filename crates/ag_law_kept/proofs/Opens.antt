-- What holds at the opening.
use Rattle.std.specs.Prelude.{if◌then◌else◌, ◌==◌, None, nat_lt}
use Rattle.std.proofs.Common.{◌≡◌, ℕ, zero, suc, ◌+◌, ◌/◌, ◌%◌, ◌^◌, ◌<◌, ◌≤◌, List, [], ◌∷◌, length, replicate, map, get_or, Bool, true, false, refl, sym, ap, ◌∙◌, subst, arith, pow_mono}
use Rattle.std.specs.List.{AllByRecursion}
use Rattle.std.proofs.lemmas.Bool.{false≢true, eqb-true, ltb-true, ltb-false}
use Rattle.ag_model.specs.declared.record.Record.{Record}
use Rattle.ag_model.specs.declared.record.Record.TheVariants.{Term}
use Rattle.ag_model.specs.declared.message.Message.{Message}
use Rattle.ag_model.specs.declared.config.Config.{Config}
use Rattle.ag_model.specs.declared.config.Mode.{Mode}
use Rattle.ag_rules.specs.Replica.{Replica, records, no_peer, is_reverting}
use Rattle.ag_rules.specs.Group.{replica, has, opening, opening_replica, opening_replicas, opening_peers, synced_at_opening, waited_for, is_waited_for, nobody}
use Rattle.ag_lists.proofs.Tests.{by_bool, if_has}
use Rattle.ag_lists.proofs.Places.{at_replicate}
use Rattle.ag_laws.specs.First.{first_logs, first_setting}
use Rattle.ag_laws.proofs.Prefix.{prefix_refl}
use Rattle.ag_laws.specs.Prefix.{IsPrefixOf}
use Rattle.ag_laws.proofs.Opening.{count_all}
use Rattle.ag_law_kept.specs.Known.{IsKnown, AtMost}
use Rattle.ag_law_kept.specs.Past.{Past}
use Rattle.ag_law_kept.specs.Tells.{MessageTells}
use Rattle.ag_law_kept.specs.Holds.{IsLeader, IsMember, Holds}
use Rattle.ag_law_kept.proofs.Known.{most_length, nil_prefix, known_none, known_self}
use Rattle.ag_law_kept.proofs.Sets.{none_member, bit, bit_more, bit_zero, pow_more}
use Rattle.ag_law_kept.proofs.Told.{no_wait}
use Rattle.ag_law_kept.proofs.Nexts.{Remembers}

-- what is remembered at the opening: each replica has told its log of one record
abbrev pub first_past : Config → Past
first_past c = record { told = λ n t. if t == 1 then records (replica (opening c) n) else []; asked = λ n. 1; target = λ t. 0; safe = λ t. false }

-- a replica at the opening, or one that isn't there
record AtFirst (n : ℕ) (r : Replica) : Type 0 where
  state : r.state ≤ 1
  saved : r.kept.master.state ≡ 0
  foreign : r.kept.master.foreign ≡ []
  ticket : r.following.ticket ≡ None
  normal : is_reverting r.state ≡ false
  leads : r.leads ≡ true → n ≡ 0

-- one that is there
pub record IsThere (r : Replica) : Type 0 where
  pub term : r.term ≡ 1
  pub log : records r ≡ Term 1 ∷ []

first_nobody : (n : ℕ) → AtFirst n nobody
first_nobody n = record { state = omega arith; saved = refl; foreign = refl; ticket = refl; normal = refl; leads = λ e. absurd (false≢true e) }

first_primary : (c : Config) → AtFirst 0 (opening_replica c true)
unfolding opening_replica
first_primary c = record { state = omega arith; saved = refl; foreign = refl; ticket = refl; normal = refl; leads = λ _. refl }

first_other : (c : Config) (n : ℕ) → AtFirst n (opening_replica c false)
unfolding opening_replica
first_other c n = record { state = omega arith; saved = refl; foreign = refl; ticket = refl; normal = refl; leads = λ e. absurd (false≢true e) }

first_others : (c : Config) (ms : List Mode) (i n : ℕ) → AtFirst n (get_or (map (λ m. opening_replica c false) ms) i nobody)
first_others c [] i n = first_nobody n
first_others c (m ∷ ms) zero n = first_other c n
first_others c (m ∷ ms) (suc i) n = first_others c ms i n

first_all : (c : Config) (ms : List Mode) (n : ℕ) → AtFirst n (get_or (opening_replicas c ms) n nobody)
first_all c [] n = first_nobody n
first_all c (m ∷ ms) zero = first_primary c
first_all c (m ∷ ms) (suc n) = first_others c ms n (suc n)

there_one : (c : Config) (b : Bool) → IsThere (opening_replica c b)
unfolding opening_replica
there_one c b = record { term = refl; log = refl }

there_others : (c : Config) (ms : List Mode) (i : ℕ) → i < length ms → IsThere (get_or (map (λ m. opening_replica c false) ms) i nobody)
there_others c [] i h = absurd (omega arith)
there_others c (m ∷ ms) zero h = there_one c false
there_others c (m ∷ ms) (suc i) h = there_others c ms i (omega arith)

pub there_all : (c : Config) (ms : List Mode) (n : ℕ) → n < length ms → IsThere (get_or (opening_replicas c ms) n nobody)
there_all c [] n h = absurd (omega arith)
there_all c (m ∷ ms) zero h = there_one c true
there_all c (m ∷ ms) (suc n) h = there_others c ms n (omega arith)

pub there_first : (c : Config) → 0 < length c.modes → IsThere (replica (opening c) 0)
unfolding opening
there_first c h = there_all c c.modes 0 h

-- the first set has none past the replicas
low_bits : (k x : ℕ) → x < 2 ^ k → bit x k ≡ 0
low_bits zero x h = let none : x ≡ 0 = omega (arith, h) in bit_zero x ∙ ap (λ y. y % 2) none
low_bits (suc k) x h = let half : x / 2 < 2 ^ k = omega (arith, h, pow_more k) in bit_more x k ∙ low_bits k (x / 2) half

waited_low : (j : ℕ) (ms : List Mode) → waited_for (2 ^ j) ms + 2 ^ j ≤ 2 ^ (j + length ms)
waited_low j [] = let same : j + 0 ≡ j = omega arith in omega (arith, ap (λ k. 2 ^ k) same)
waited_low j (m ∷ ms) =
    let twice : 2 ^ j + 2 ^ j ≡ 2 ^ suc j = omega (arith, pow_more j) in
    let rest : waited_for (2 ^ suc j) ms + 2 ^ suc j ≤ 2 ^ (suc j + length ms) = waited_low (suc j) ms in
    let more : j + suc (length ms) ≡ suc j + length ms = omega arith in
    if_has (λ (x : ℕ). x + waited_for (2 ^ j + 2 ^ j) ms + 2 ^ j ≤ 2 ^ (j + suc (length ms))) (is_waited_for m) (2 ^ j) 0
    (λ _. omega (arith, rest, twice, ap (λ b. waited_for b ms) twice, ap (λ k. 2 ^ k) more))
    (λ _. omega (arith, rest, twice, ap (λ b. waited_for b ms) twice, ap (λ k. 2 ^ k) more))

synced_low : (ms : List Mode) (m : ℕ) → has (synced_at_opening ms) m ≡ true → m < length ms
synced_low [] m e = absurd (none_member m e)
synced_low (p ∷ ms) m e =
    by_bool (nat_lt m (length (p ∷ ms))) (λ v. nat_lt m (length (p ∷ ms)) ≡ v → m < length (p ∷ ms))
    (λ _ y. ltb-true m (length (p ∷ ms)) y)
    (λ _ y.
    let high : 2 ^ (1 + length ms) ≤ 2 ^ m = pow_mono {i = 1 + length ms} {j = m} (omega (arith, ltb-false m (length (p ∷ ms)) y)) in
    let small : waited_for 2 ms < 2 ^ m = omega (arith, waited_low 1 ms, high) in
    absurd (omega (arith, low_bits m (waited_for 2 ms) small, eqb-true (bit (waited_for 2 ms) m) 1 e)))
    refl

-- what the primary knows at the opening
peers_others : (c : Config) (ms : List Mode) (i : ℕ) → IsKnown (records (get_or (map (λ m. opening_replica c false) ms) i nobody)) (first_logs 1) (get_or (map (λ (m : Mode). record { connected = true; next = 2; hardened = 1; low = 1 }) ms) i no_peer).hardened
peers_others c [] i = known_none [] (first_logs 1)
peers_others c (m ∷ ms) zero = subst (λ (l : List Record). IsKnown l (first_logs 1) 1) (sym (there_one c false).log) (known_self (Term 1 ∷ []) (first_logs 1) 1 (omega arith) (prefix_refl (first_logs 1)))
peers_others c (m ∷ ms) (suc i) = peers_others c ms i

peers_all : (c : Config) (ms : List Mode) (m : ℕ) → IsKnown (records (get_or (opening_replicas c ms) m nobody)) (first_logs 1) (get_or (opening_peers ms) m no_peer).hardened
peers_all c [] m = known_none [] (first_logs 1)
peers_all c (p ∷ ms) zero = known_none (records (opening_replica c true)) (first_logs 1)
peers_all c (p ∷ ms) (suc m) = peers_others c ms m

-- the replica that leads at the opening
lead_is : (c : Config) (ms : List Mode) (n : ℕ) → (get_or (opening_replicas c ms) n nobody).leads ≡ true → get_or (opening_replicas c ms) n nobody ≡ opening_replica c true
lead_is c [] n e = absurd (false≢true e)
lead_is c (m ∷ ms) zero e = refl
lead_is c (m ∷ ms) (suc n) e = absurd (omega (arith, (first_others c ms n (suc n)).leads e))

first_leader : (c : Config) (n : ℕ) → IsLeader (first_past c) first_logs (opening c).register n (opening_replica c true)
unfolding opening opening_replica
first_leader c n = record {
  stale = λ _. refl;
  primary = λ _. refl;
  copy = λ _. refl;
  old = λ low safe. absurd (false≢true safe);
  peers = λ m. peers_all c c.modes m;
  free = refl;
  normal = refl;
}

first_member : (c : Config) (m : ℕ) → m < length c.modes → IsMember (first_past c) first_logs (opening c).register (length (opening c).replicas) m (replica (opening c) m)
unfolding opening
first_member c m low =
    let t : IsThere (replica (opening c) m) = there_all c c.modes m low in
    record {
      there = omega (arith, low, count_all c c.modes);
      term = t.term;
      normal = (first_all c c.modes m).normal;
      begun = record {
        place = 0;
        is = refl;
        known = subst (λ (l : List Record). IsKnown l (first_logs 1) (0 + 1)) (sym t.log) (known_self (Term 1 ∷ []) (first_logs 1) (0 + 1) (omega arith) (prefix_refl (first_logs 1)));
      };
    }

pub opening_remembers : (c : Config) → Remembers (first_past c) (first_setting c) (opening c)
opening_remembers c = record { meets = λ t h. refl; ahead = λ t h. refl }

pub opening_holds : (c : Config) → 0 < length c.modes → Holds (first_past c) [] first_logs (opening c)
unfolding opening
opening_holds c some = record {
  asked = λ n. omega arith;
  knowing = λ n. record {
    here = if_has (λ (l : List Record). AtMost l (first_logs (replica (opening c) n).term) (length (records (replica (opening c) n)))) ((replica (opening c) n).term == 1) (records (replica (opening c) n)) [] (λ _. most_length (records (replica (opening c) n)) (first_logs (replica (opening c) n).term) (length (records (replica (opening c) n))) (omega arith)) (λ _. most_length [] (first_logs (replica (opening c) n).term) (length (records (replica (opening c) n))) (omega arith));
    before = λ t h. if_has (λ (l : List Record). IsPrefixOf l (records (replica (opening c) n))) (t == 1) (records (replica (opening c) n)) [] (λ _. prefix_refl (records (replica (opening c) n))) (λ _. nil_prefix (records (replica (opening c) n)));
    asks = λ t h _. if_has (λ (l : List Record). l ≡ []) (t == 1) (records (replica (opening c) n)) [] (λ e. absurd (omega (arith, eqb-true t 1 e, h))) (λ _. refl);
  };
  states = λ n.
      let a : AtFirst n (replica (opening c) n) = first_all c c.modes n in
      record {
        disk = record { none = λ _. (a.foreign, a.saved); some = λ e. absurd (false≢true (sym (ap is_reverting a.saved) ∙ e)) };
        low = λ _. a.state;
        saved = ap is_reverting a.saved ∙ sym a.normal;
        follows = λ _. a.ticket;
        whole = λ _ t q. absurd (no_wait (replica (opening c) n).following.ticket t a.ticket q);
      };
  leaders = λ n e. subst (IsLeader (first_past c) first_logs (opening c).register n) (sym (lead_is c c.modes n e)) (first_leader c n);
  messages = λ a b.
      at_replicate (λ (row : List (List Message)). AllByRecursion (MessageTells (first_past c) first_logs a (replica (opening c) a) b (replica (opening c) b)) (get_or row b [])) (length c.modes) (replicate (length c.modes) []) [] a tt
      (at_replicate (λ (l : List Message). AllByRecursion (MessageTells (first_past c) first_logs a (replica (opening c) a) b (replica (opening c) b)) l) (length c.modes) [] [] b tt tt);
  members = λ m e. first_member c m (synced_low c.modes m e);
  takens = λ t h e. absurd (false≢true e);
  targets = λ t h e. absurd (false≢true e);
  commits = tt;
}
