use Rattle.std.proofs.Common.{◌≡◌, ◌==◌, ◌∙◌, [], ◌∷◌, false, ap, sym, subst}
use Rattle.std.specs.Prelude.{Option, IfNone}
use Rattle.ag_model.specs.declared.answer.Refusal.{Refusal}
use Rattle.ag_rules.specs.Plan.{Part, Master_write}
use Rattle.ag_rules.specs.Replica.{Replica, all_at, end, fallen}
use Rattle.ag_rules.specs.StartEvent.{start_part, started_master}
use Rattle.ag_kept.specs.declared.reach.Reach.TheVariants.{End, Stop}
use Rattle.ag_node.specs.Sites.{here_among}
use Rattle.ag_node.specs.Nodes.{leading_of}
use Rattle.ag_node.specs.Starting.{CanStart, started_after, started_answer, woken_up}
use Rattle.ag_node.proofs.Cutting.{cut_at_master}
use Rattle.ag_node.proofs.StartSteps.{node_raised, start_told, stopped_start, woken_stripes}
use Rattle.ag_node.proofs.Views.{replica_is}
use Rattle.ag_node.proofs.node.Node.start.Goals as goal

pub start_whole-requires-clause-stripes : goal.start_whole-requires-clause-stripes
start_whole-requires-clause-stripes g c =
    let n = c.self.inside in
    let r = c.args.self.now.replica in
    let site = c.args.site.now in
    let h = here_among site c.args.modes.now in
    let leading = leading_of n.buffer n.last_txn n.synced n.peers.items in
    let woken : c.start_home.new.self.replica ≡ woken_up site.pages r End = c.in_ok-start_home.ensures.after ∙ (λ i. woken_up site.pages (c.in_ok-why.ensures.left i) (c.in-End.is i)) in
    ap (λ (x : Replica). x.stripes) woken ∙ woken_stripes n.home _ leading r site.pages (replica_is c.self.view_is) c.requires.pages c.self.invariant.home ∙ ap (λ (x : Replica). all_at (end x)) (sym woken)

pub returns-in_ok-answer-in-End-clause-answer : goal.returns-in_ok-answer-in-End-clause-answer
returns-in_ok-answer-in-End-clause-answer g c =
    let n = c.self.inside in
    let r = c.args.self.now.replica in
    let site = c.args.site.now in
    let h = here_among site c.args.modes.now in
    let leading = leading_of n.buffer n.last_txn n.synced n.peers.items in
    let can : CanStart r = subst (λ (o : Option Refusal). IfNone o (CanStart r)) c.in_default.is c.in_ok-why.ensures.can in
    let writes : (start_part h r).writes ≡ [] ∷ (Master_write (started_master r) (end r) ∷ []) ∷ [] = subst (λ (o : Option Refusal). IfNone o ((start_part h r).writes ≡ [] ∷ (Master_write (started_master r) (end r) ∷ []) ∷ [])) c.in_default.is c.in_ok-why.ensures.writes in
    let woken : c.start_home.new.self.replica ≡ woken_up site.pages r End = c.in_ok-start_home.ensures.after ∙ (λ i. woken_up site.pages (c.in_ok-why.ensures.left i) (c.in-End.is i)) in
    let cut = cut_at_master site.pages site.number c.args.suffix.now r (start_part h r) (started_master r) (end r) c.in_ok-start_home.field-0 _ writes c.in_ok-start_home.ensures.reach c.in-End.is in
    let told = start_told n.home _ leading r h (replica_is c.self.view_is) c.requires.pages c.requires.term c.self.invariant.home can in
    c.in_ok-answer-in-End.ensures.answer ∙ ap (started_answer h) woken ∙ told.answered ∙ ap (λ (x : Part). x.answer) (sym cut)

pub returns-in_ok-answer-in-End-clause-after : goal.returns-in_ok-answer-in-End-clause-after
returns-in_ok-answer-in-End-clause-after g c =
    let n = c.self.inside in
    let r = c.args.self.now.replica in
    let site = c.args.site.now in
    let h = here_among site c.args.modes.now in
    let leading = leading_of n.buffer n.last_txn n.synced n.peers.items in
    let can : CanStart r = subst (λ (o : Option Refusal). IfNone o (CanStart r)) c.in_default.is c.in_ok-why.ensures.can in
    let writes : (start_part h r).writes ≡ [] ∷ (Master_write (started_master r) (end r) ∷ []) ∷ [] = subst (λ (o : Option Refusal). IfNone o ((start_part h r).writes ≡ [] ∷ (Master_write (started_master r) (end r) ∷ []) ∷ [])) c.in_default.is c.in_ok-why.ensures.writes in
    let woken : c.start_home.new.self.replica ≡ woken_up site.pages r End = c.in_ok-start_home.ensures.after ∙ (λ i. woken_up site.pages (c.in_ok-why.ensures.left i) (c.in-End.is i)) in
    let cut = cut_at_master site.pages site.number c.args.suffix.now r (start_part h r) (started_master r) (end r) c.in_ok-start_home.field-0 _ writes c.in_ok-start_home.ensures.reach c.in-End.is in
    let told = start_told n.home _ leading r h (replica_is c.self.view_is) c.requires.pages c.requires.term c.self.invariant.home can in
    c.in_ok-answer-in-End.ensures.after ∙ ap (started_after h) woken ∙ told.left ∙ ap (λ (x : Part). x.after) (sym cut)

pub returns-in-Stop-clause-answer : goal.returns-in-Stop-clause-answer
returns-in-Stop-clause-answer g c =
    let n = c.self.inside in
    let r = c.args.self.now.replica in
    let site = c.args.site.now in
    let h = here_among site c.args.modes.now in
    let leading = leading_of n.buffer n.last_txn n.synced n.peers.items in
    let writes : (start_part h r).writes ≡ [] ∷ (Master_write (started_master r) (end r) ∷ []) ∷ [] = subst (λ (o : Option Refusal). IfNone o ((start_part h r).writes ≡ [] ∷ (Master_write (started_master r) (end r) ∷ []) ∷ [])) c.in_default.is c.in_ok-why.ensures.writes in
    let cut = cut_at_master site.pages site.number c.args.suffix.now r (start_part h r) (started_master r) (end r) c.in_ok-start_home.field-0 _ writes c.in_ok-start_home.ensures.reach c.in-Stop.is in
    c.stopped.ensures ∙ ap (λ (x : Part). x.answer) (sym cut)

pub returns-in-Stop-clause-after : goal.returns-in-Stop-clause-after
returns-in-Stop-clause-after g c =
    let n = c.self.inside in
    let r = c.args.self.now.replica in
    let site = c.args.site.now in
    let h = here_among site c.args.modes.now in
    let leading = leading_of n.buffer n.last_txn n.synced n.peers.items in
    let writes : (start_part h r).writes ≡ [] ∷ (Master_write (started_master r) (end r) ∷ []) ∷ [] = subst (λ (o : Option Refusal). IfNone o ((start_part h r).writes ≡ [] ∷ (Master_write (started_master r) (end r) ∷ []) ∷ [])) c.in_default.is c.in_ok-why.ensures.writes in
    let woken : c.start_home.new.self.replica ≡ woken_up site.pages r (Stop c.in-Stop.whole) = c.in_ok-start_home.ensures.after ∙ (λ i. woken_up site.pages (c.in_ok-why.ensures.left i) (c.in-Stop.is i)) in
    let cut = cut_at_master site.pages site.number c.args.suffix.now r (start_part h r) (started_master r) (end r) c.in_ok-start_home.field-0 _ writes c.in_ok-start_home.ensures.reach c.in-Stop.is in
    c.fall.ensures.after ∙ (λ i. fallen (woken i) (woken i).kept) ∙ stopped_start site.pages r c.in-Stop.whole (node_raised n.home _ leading r (replica_is c.self.view_is) c.self.invariant.home) ∙ ap (λ (x : Part). x.after) (sym cut)
