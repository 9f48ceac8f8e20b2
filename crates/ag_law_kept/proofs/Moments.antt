-- What holds at each moment: no member reverts, and what is known of peers is so.
use Rattle.std.specs.Prelude.{ℕ, ◌<◌, List, [], length}
use Rattle.std.proofs.Common.{subst}
use Rattle.ag_model.specs.declared.config.Config.{Config}
use Rattle.ag_model.specs.declared.event.Event.{Event}
use Rattle.ag_rules.specs.Replica.{end, peer}
use Rattle.ag_rules.specs.Group.{Group, replica, opening}
use Rattle.ag_rules.specs.Run.{Moment, run}
use Rattle.ag_rules.specs.Script.{IsScript}
use Rattle.ag_laws.proofs.Prefix.{prefix_refl}
use Rattle.ag_law_kept.specs.Known.{AtMost}
use Rattle.ag_law_kept.specs.Holds.{IsLeader}
use Rattle.ag_law_kept.specs.Laws.{NoMemberReverts, PeersAreKnown, MembersLaw, PeersLaw}
use Rattle.ag_law_kept.proofs.Runs.{Reached, opened, at_each}

none_reverts : (c : Config) (ms : List Moment) (g : Group) → Reached c ms g → NoMemberReverts g
none_reverts c ms g r = λ n e. (r.holds.members n e).normal

peers_known : (c : Config) (ms : List Moment) (g : Group) → Reached c ms g → PeersAreKnown g
peers_known c ms g r = λ n m leads same.
    let l : IsLeader r.past r.logs g.register n (replica g n) = r.holds.leaders n leads in
    let most : AtMost (r.past.told m (replica g n).term) (r.logs (replica g n).term) (end (replica g m)) = subst (λ (t : ℕ). AtMost (r.past.told m t) (r.logs t) (end (replica g m))) same (r.holds.knowing m).here in
    most (r.logs (replica g n).term) (prefix_refl (r.logs (replica g n).term)) (peer (replica g n) m).hardened (l.peers m)

pub members_in_runs : (c : Config) (es : List Event) → 0 < length c.modes → IsScript c es → MembersLaw (run c es)
members_in_runs c es h is = at_each c NoMemberReverts (none_reverts c) [] (opening c) es is (opened c h)

pub peers_in_runs : (c : Config) (es : List Event) → 0 < length c.modes → IsScript c es → PeersLaw (run c es)
peers_in_runs c es h is = at_each c PeersAreKnown (peers_known c) [] (opening c) es is (opened c h)
