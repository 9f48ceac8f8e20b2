-- When a replica can start, and what a start leaves.
use Rattle.std.specs.Prelude.{◌≡◌, ℕ, ◌+◌, [], map, true, false, if◌then◌else◌}
use Rattle.ag_model.specs.declared.answer.Answer.{Answer}
use Rattle.ag_model.specs.declared.answer.Answer.TheVariants.{Started}
use Rattle.ag_model.specs.declared.answer.Role.TheVariants.{Primary, Secondary}
use Rattle.ag_rules.specs.Replica.{Replica, end, is_reverting, no_peer, records}
use Rattle.ag_rules.specs.Plan.{Here}
use Rattle.ag_rules.specs.Promotion.{is_spent}
use Rattle.ag_rules.specs.Redo.{touched_up_to}
use Rattle.ag_rules.specs.StartEvent.{is_named, starts_second}
use Rattle.ag_model.specs.Txns.{last_txn}
use Rattle.ag_kept.specs.declared.reach.Reach.{Reach}
use Rattle.ag_kept.specs.declared.reach.Reach.TheVariants.{End, Stop, Fault}

-- the replica is down, isn't cut off, may raise its incarnation, and doesn't revert
pub record CanStart (r : Replica) : Type 0 where
  pub down : r.up ≡ false
  pub told : r.cut_off ≡ false
  pub unspent : is_spent r.kept.master.incarnation ≡ false
  pub steady : is_reverting r.state ≡ false

-- a replica with the next incarnation
abbrev pub raised_one : Replica → Replica
raised_one r = record r { kept = record r.kept { master = record r.kept.master { incarnation = r.kept.master.incarnation + 1 } } }

-- a replica that is down, once its start came so far: at its end it is a secondary whose log is redone
abbrev pub woken_up : ℕ → Replica → Reach → Replica
woken_up pages r End = (starts_second r (touched_up_to pages (end r) r)).after
woken_up pages r (Stop whole) = if whole then raised_one r else r
woken_up pages r Fault = r

-- such a replica once it leads
abbrev pub leads_up : Here → Replica → Replica
leads_up h r = record r { leads = true; leading = record { buffer = []; open_txns = []; last_txn = last_txn (records r); synced = h.store.synced; peers = map (λ m. no_peer) h.modes } }

-- what such a replica answers: it leads exactly where the store names it
abbrev pub started_answer : Here → Replica → Answer
started_answer h r = Started (if is_named h then Primary else Secondary) 1 (end r) (end r)

-- what it is then
abbrev pub started_after : Here → Replica → Replica
started_after h r = if is_named h then leads_up h r else r
