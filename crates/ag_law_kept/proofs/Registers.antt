-- Events that change a set of the store leave its term.
use Rattle.std.specs.Prelude.{◌≡◌, ℕ}
use Rattle.std.proofs.Common.{[], refl, ap}
use Rattle.ag_model.specs.declared.config.Register.{Register}
use Rattle.ag_model.specs.declared.event.Suffix.{Suffix}
use Rattle.ag_model.specs.declared.answer.Answer.TheVariants.{Resumed, Synchronised, TimedOut}
use Rattle.ag_rules.specs.Replica.{Replica}
use Rattle.ag_rules.specs.Group.{Group, replica, with_member, without_member}
use Rattle.ag_rules.specs.Plan.{Here, here, at_node_after, at_once, refused}
use Rattle.ag_rules.specs.Cut.{cut}
use Rattle.ag_rules.specs.CutEvent.{told}
use Rattle.ag_rules.specs.AckEvent.{ack_part, checks_of_ack, late}
use Rattle.ag_rules.specs.ResumeEvent.{plan_of_resume, checks_of_resume, with_resumed}
use Rattle.ag_rules.specs.SyncEvent.{plan_of_sync, checks_of_sync, with_synced, plan_of_timeout, checks_of_timeout, without_synced, disconnected}
use Rattle.ag_laws.proofs.Plans.{unless_has}
use Rattle.ag_law_kept.proofs.Nexts.{cut_register}

pub same_resume : (g : Group) (n : ℕ) (suffix : Suffix) → (cut suffix (plan_of_resume g n)).after.register.term ≡ g.register.term
unfolding plan_of_resume
same_resume g n suffix =
    unless_has (λ part. (cut suffix (at_node_after g (record g { register = with_resumed g.register n }) n part)).after.register.term ≡ g.register.term) (checks_of_resume (here g n) (replica g n)) (replica g n) (at_once Resumed (replica g n))
    (λ why. ap (λ (x : Register). x.term) (cut_register g n (refused why (replica g n)) suffix))
    (λ _. ap (λ (x : Register). x.term) (cut_register (record g { register = with_resumed g.register n }) n (at_once Resumed (replica g n)) suffix))

pub same_sync : (g : Group) (n m : ℕ) (suffix : Suffix) → (cut suffix (plan_of_sync g n m)).after.register.term ≡ g.register.term
unfolding plan_of_sync
same_sync g n m suffix =
    let then_ : Replica = told (with_member g.register.synced m) (replica g n) in
    unless_has (λ part. (cut suffix (at_node_after g (record g { register = with_synced g.register m }) n part)).after.register.term ≡ g.register.term) (checks_of_sync (here g n) (replica g n) m (replica g m)) (replica g n) (at_once Synchronised then_)
    (λ why. ap (λ (x : Register). x.term) (cut_register g n (refused why (replica g n)) suffix))
    (λ _. ap (λ (x : Register). x.term) (cut_register (record g { register = with_synced g.register m }) n (at_once Synchronised then_) suffix))

pub same_timeout : (g : Group) (n m : ℕ) (suffix : Suffix) → (cut suffix (plan_of_timeout g n m)).after.register.term ≡ g.register.term
unfolding plan_of_timeout
same_timeout g n m suffix =
    let then_ : Replica = told (without_member g.register.synced m) (disconnected (replica g n) m) in
    unless_has (λ part. (cut suffix (at_node_after g (record g { register = without_synced g.register m }) n part)).after.register.term ≡ g.register.term) (checks_of_timeout (here g n) (replica g n) m) (replica g n) (at_once TimedOut then_)
    (λ why. ap (λ (x : Register). x.term) (cut_register g n (refused why (replica g n)) suffix))
    (λ _. ap (λ (x : Register). x.term) (cut_register (record g { register = without_synced g.register m }) n (at_once TimedOut then_) suffix))

-- an `ack` writes nothing
pub ack_quiet : (h : Here) (r : Replica) (lsn : ℕ) → (ack_part h r lsn).writes ≡ []
unfolding ack_part
ack_quiet h r lsn = unless_has (λ part. part.writes ≡ []) (checks_of_ack h r lsn (late h r lsn)) r _ (λ why. refl) (λ _. refl)
