-- `ack`: what is confirmed is known of each member of the set, or of the target of a safe failover.
use Rattle.std.specs.Prelude.{if◌then◌else◌, nat_lt, ◌&&◌, slice_get}
use Rattle.std.proofs.Common.{◌≡◌, ℕ, ◌+◌, ◌-◌, ◌<◌, ◌≤◌, List, [], ◌∷◌, ◌++◌, length, true, false, refl, sym, ap, ◌∙◌, arith}
use Rattle.std.specs.List.{AllByRecursion}
use Rattle.std.proofs.lemmas.Bool.{not-false, and_parts, ltb-true, ltb-false}
use Rattle.ag_model.specs.declared.answer.Answer.{Answer}
use Rattle.ag_model.specs.declared.answer.Answer.TheVariants.{SyncAt, LocalAt}
use Rattle.ag_rules.specs.Replica.{Replica, records, end, peer}
use Rattle.ag_rules.specs.Group.{Group, replica, has}
use Rattle.ag_rules.specs.Plan.{here, at_once}
use Rattle.ag_rules.specs.AckEvent.{ack_part, checks_of_ack, late, late_members, is_late, is_local, confirmed}
use Rattle.ag_rules.specs.KeptLaw.{Confirmed}
use Rattle.ag_lists.proofs.Tests.{by_bool, if_has}
use Rattle.ag_lists.proofs.Each.{all_append}
use Rattle.ag_laws.specs.Logs.{Logs}
use Rattle.ag_laws.proofs.Plans.{unless_has}
use Rattle.ag_law_kept.specs.Local.{all_confirmed_by}
use Rattle.ag_law_kept.specs.Known.{IsKnown}
use Rattle.ag_law_kept.specs.Past.{Past}
use Rattle.ag_law_kept.specs.Holds.{IsLeader, IsConfirmed, Holds}
use Rattle.ag_law_kept.proofs.Known.{known_less}
use Rattle.ag_law_kept.proofs.World.{HasOwn, Acts, IsWorld}
use Rattle.ag_law_kept.proofs.Events.{none_passes}

module _ (past : Past) (cs : List Confirmed) (logs : Logs) (g : Group) (n lsn : ℕ) (w : IsWorld past logs g) (h : Holds past cs logs g) where
  -- a Commit of a primary that nobody of its copy is late with
  confirms : (replica g n).leads ≡ true → 0 < lsn → length (late (here g n) (replica g n) lsn) ≡ 0 → IsConfirmed past logs g.register (record { term = (replica g n).term; lsn = lsn; commit = slice_get (records (replica g n)) (lsn - 1) })
  confirms leads some none =
      by_bool (nat_lt (end r) lsn) (λ v. nat_lt (end r) lsn ≡ v → length (if v then n ∷ [] else late_members (length g.config.modes) r.leading.peers lsn r.leading.synced) ≡ 0 → IsConfirmed past logs g.register (record { term = r.term; lsn = lsn; commit = slice_get (records r) (lsn - 1) }))
      (λ _ _ z. absurd (omega (arith, z)))
      (λ _ e z.
      let l : IsLeader past logs g.register n r = h.leaders n leads in
      let acts : Acts past n r = (w.each n).acts leads in
      let own : HasOwn logs r = (w.each n).own acts.target in
      let long : lsn ≤ end r = ltb-false (end r) lsn e in
      let known : (m : ℕ) → m < length g.config.modes → has r.leading.synced m ≡ true → IsKnown (past.told m r.term) (logs r.term) lsn =
      λ m low member. known_less (past.told m r.term) (logs r.term) lsn (peer r m).hardened (not_late m (none_passes (is_late r.leading.peers lsn r.leading.synced) 0 (length g.config.modes) m z (omega arith) (omega (arith, low))) member) (l.peers m) in
      record {
        some = some;
        term = acts.some;
        reached = (w.each n).reached;
        within = omega (arith, long, ap length own.whole);
        commit = ap (λ x. slice_get x (lsn - 1)) (sym own.whole);
        held = λ at m member. known m (omega (arith, (h.members m member).there, w.count)) (ap (λ s. has s m) (l.copy at) ∙ member);
        took = λ low safe. known (past.target (r.term + 1)) (h.targets r.term low safe) (l.old low safe);
      })
      refl none
    where
      r : Replica
      r = replica g n

      not_late : (m : ℕ) → is_late (replica g n).leading.peers lsn (replica g n).leading.synced m ≡ false → has (replica g n).leading.synced m ≡ true → lsn ≤ (peer (replica g n) m).hardened
      not_late m e member = ltb-false (peer (replica g n) m).hardened lsn (sym (ap (λ b. b && nat_lt (peer (replica g n) m).hardened lsn) member) ∙ e)

  -- what `ack` confirms
  pub ack_confirms : AllByRecursion (IsConfirmed past logs g.register) (all_confirmed_by (replica g n) (ack_part (here g n) (replica g n) lsn).answer)
  unfolding ack_part
  ack_confirms =
      unless_has (λ part. AllByRecursion (IsConfirmed past logs g.register) (all_confirmed_by (replica g n) part.answer)) (checks_of_ack (here g n) (replica g n) lsn (late (here g n) (replica g n) lsn)) (replica g n) (at_once (confirmed (replica g n) lsn) (replica g n))
      (λ why. tt)
      (λ p. if_has (λ (a : Answer). AllByRecursion (IsConfirmed past logs g.register) (all_confirmed_by (replica g n) a)) (is_local (replica g n).leading.synced) (LocalAt lsn) (SyncAt lsn)
      (λ _. (confirms (not-false _ p.1.0) (ltb-true 0 lsn (and_parts _ _ (not-false _ p.1.1.0)).0) (omega (arith, ltb-false 0 (length (late (here g n) (replica g n) lsn)) p.1.1.1.0)), tt))
      (λ _. (confirms (not-false _ p.1.0) (ltb-true 0 lsn (and_parts _ _ (not-false _ p.1.1.0)).0) (omega (arith, ltb-false 0 (length (late (here g n) (replica g n) lsn)) p.1.1.1.0)), tt)))

  pub ack_holds : Holds past (cs ++ all_confirmed_by (replica g n) (ack_part (here g n) (replica g n) lsn).answer) logs g
  ack_holds = record {
    asked = h.asked;
    knowing = h.knowing;
    states = h.states;
    leaders = h.leaders;
    messages = h.messages;
    members = h.members;
    takens = h.takens;
    targets = h.targets;
    commits = all_append (IsConfirmed past logs g.register) cs (all_confirmed_by (replica g n) (ack_part (here g n) (replica g n) lsn).answer) h.commits ack_confirms;
  }
