-- Worked examples of what is known of peers, of members, and of what was confirmed, by computation alone.
use Rattle.std.proofs.Common.{◌≡◌, List, [], ◌∷◌, replicate, true, refl}
use Rattle.std.specs.Prelude.{Some}
use Rattle.std.specs.List.{flat_map}
use Rattle.ag_model.specs.declared.record.Record.TheVariants as D
use Rattle.ag_model.specs.declared.value.Value.{Value}
use Rattle.ag_model.specs.declared.config.Config.{Config}
use Rattle.ag_model.specs.declared.config.Mode.TheVariants as M
use Rattle.ag_model.specs.declared.event.Event.{Event}
use Rattle.ag_model.specs.declared.event.Event.TheVariants as E
use Rattle.ag_model.specs.declared.event.Who.TheVariants as W
use Rattle.ag_model.specs.declared.event.Suffix.TheVariants as S
use Rattle.ag_rules.specs.Replica.{end, peer}
use Rattle.ag_rules.specs.Group.{replica, has, opening_replica, opening}
use Rattle.ag_rules.specs.Run.{run}
use Rattle.ag_rules.specs.Access.{access}
use Rattle.ag_rules.specs.AckEvent.{ack_part}
use Rattle.ag_rules.specs.AckMessage.{ack_message_part}
use Rattle.ag_rules.specs.BlockMessage.{block_part}
use Rattle.ag_rules.specs.DeliverEvent.{plan_of_deliver}
use Rattle.ag_rules.specs.HardenEvent.{harden_part}
use Rattle.ag_rules.specs.JoinEvent.{join_part}
use Rattle.ag_rules.specs.Next.{done}
use Rattle.ag_rules.specs.SendEvent.{send_part}
use Rattle.ag_rules.specs.SetEvent.{set_part}
use Rattle.ag_rules.specs.SyncEvent.{plan_of_timeout}
use Rattle.ag_rules.specs.KeptLaw.{confirmed_in}
use Rattle.ag_law_kept.specs.Local.{all_confirmed_in}
use Rattle.ag_model.specs.Page.{value}

abbrev config : Config
config = record { pages = 16; modes = M.Sync ∷ M.Sync ∷ []; workers = 4; readers = 2 }

abbrev nothing : Value
nothing = record { len = 0; bytes = replicate 64 0 }

-- a transaction of A goes to B; B joins before its Ack comes
abbrev events : List Event
events =
    E.Set (W.Letter 0) (record { key = 5; value = nothing } ∷ []) S.Whole
    ∷ E.Harden (W.Letter 0) S.Whole
    ∷ E.Send (W.Letter 0) (W.Letter 1) S.Whole
    ∷ E.Deliver (W.Letter 0) (W.Letter 1) 1 S.Whole
    ∷ E.Join (W.Letter 1) S.Whole
    ∷ E.Deliver (W.Letter 1) (W.Letter 0) 1 S.Whole
    ∷ []

-- what A knows of B after each event, and what B has
known_and_had : flat_map (λ m. (peer (replica m.after 0) 1).hardened ∷ end (replica m.after 1) ∷ []) (run config events) ≡ 1 ∷ 1 ∷ 1 ∷ 1 ∷ 1 ∷ 1 ∷ 1 ∷ 3 ∷ 1 ∷ 3 ∷ 3 ∷ 3 ∷ []
unfolding access ack_message_part block_part plan_of_deliver harden_part join_part done send_part set_part opening_replica opening value
known_and_had = refl

-- whether B is a member after each event
members : flat_map (λ m. has m.after.register.synced 1 ∷ []) (run config events) ≡ true ∷ true ∷ true ∷ true ∷ true ∷ true ∷ []
unfolding access ack_message_part block_part plan_of_deliver harden_part join_part done send_part set_part opening_replica opening value
members = refl

-- and B's state
states : flat_map (λ m. (replica m.after 1).state ∷ []) (run config events) ≡ 1 ∷ 1 ∷ 1 ∷ 1 ∷ 0 ∷ 0 ∷ []
unfolding access ack_message_part block_part plan_of_deliver harden_part join_part done send_part set_part opening_replica opening value
states = refl

-- nobody is waited for; a transaction of A is acknowledged once it is hardened, and not before
abbrev alone : List Event
alone =
    E.Timeout (W.Letter 0) (W.Letter 1) S.Whole
    ∷ E.Set (W.Letter 0) (record { key = 5; value = nothing } ∷ []) S.Whole
    ∷ E.Ack (W.Letter 0) 3 S.Whole
    ∷ E.Harden (W.Letter 0) S.Whole
    ∷ E.Ack (W.Letter 0) 3 S.Whole
    ∷ []

-- it was confirmed, and not as synchronous
confirmed_alone : (all_confirmed_in (run config alone) ≡ record { term = 1; lsn = 3; commit = Some (D.Commit 1 (21 ∷ [])) } ∷ []) × (confirmed_in (run config alone) ≡ [])
unfolding access ack_part harden_part done set_part plan_of_timeout opening_replica opening value
confirmed_alone = (refl, refl)
