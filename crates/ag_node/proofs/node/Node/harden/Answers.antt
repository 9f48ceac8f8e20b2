use Rattle.std.proofs.Common.{◌≡◌, ◌∙◌, refl, ap, sym, subst, arith}
use Rattle.std.specs.Prelude.{Option, MatchOption}
use Rattle.ag_model.specs.declared.answer.Refusal.{Refusal}
use Rattle.ag_model.specs.declared.answer.Answer.TheVariants.{Hardened}
use Rattle.ag_rules.specs.Replica.{full_end}
use Rattle.ag_rules.specs.Plan.{Part, Block_write, refused}
use Rattle.ag_rules.specs.Redo.{due_pages}
use Rattle.ag_rules.specs.HardenEvent.{harden_part, hardens, hardened_one}
use Rattle.ag_kept.specs.declared.reach.Reach.{Reach}
use Rattle.ag_model.specs.Proper.{IsProper}
use Rattle.ag_node.specs.Nodes.{leading_of}
use Rattle.ag_node.specs.Reaching.{part_reached}
use Rattle.ag_node.specs.Sites.{here_at}
use Rattle.ag_node.proofs.Cutting.{cut_at_block}
use Rattle.ag_node.proofs.NodeSteps.{hardens_block_of, hardens_log}
use Rattle.ag_node.proofs.Views.{replica_is}
use Rattle.ag_node.proofs.node.Node.harden.Goals as goal

pub returns-in-End-clause-answer : goal.returns-in-End-clause-answer
returns-in-End-clause-answer g c =
    let n = c.self.inside in
    let r = c.args.self.now.replica in
    let site = c.args.site.now in
    let part : harden_part (here_at site) r ≡ hardens site.pages r (due_pages site.pages (hardened_one site.pages r))
    = subst (λ (o : Option Refusal). MatchOption o (harden_part (here_at site) r ≡ hardens site.pages r (due_pages site.pages (hardened_one site.pages r))) (λ why. harden_part (here_at site) r ≡ refused why r)) c.in_default.is c.in_ok-why.ensures.part in
    let writes = ap (λ (x : Part). x.writes) part ∙ hardens_block_of n.home _ (leading_of n.buffer n.last_txn n.synced n.peers.items) r site.pages (replica_is c.self.view_is) c.requires.pages c.self.invariant.home in
    let cut = cut_at_block site.pages site.number c.args.suffix.now r (harden_part (here_at site) r) r.leading.buffer _ c.in_ok-harden_buffer.field-0 _ writes refl c.in_ok-harden_buffer.ensures.reach c.in-End.is in
    let lsn : c.in_ok-lsn.lsn ≡ full_end r = omega (arith, c.in_ok-lsn.ensures) in
    ap Hardened lsn ∙ ap (λ (x : Part). x.answer) (sym part) ∙ ap (λ (x : Part). x.answer) (sym cut)

pub returns-in-End-clause-after : goal.returns-in-End-clause-after
returns-in-End-clause-after g c =
    let n = c.self.inside in
    let r = c.args.self.now.replica in
    let site = c.args.site.now in
    let part : harden_part (here_at site) r ≡ hardens site.pages r (due_pages site.pages (hardened_one site.pages r))
    = subst (λ (o : Option Refusal). MatchOption o (harden_part (here_at site) r ≡ hardens site.pages r (due_pages site.pages (hardened_one site.pages r))) (λ why. harden_part (here_at site) r ≡ refused why r)) c.in_default.is c.in_ok-why.ensures.part in
    let writes = ap (λ (x : Part). x.writes) part ∙ hardens_block_of n.home _ (leading_of n.buffer n.last_txn n.synced n.peers.items) r site.pages (replica_is c.self.view_is) c.requires.pages c.self.invariant.home in
    let cut = cut_at_block site.pages site.number c.args.suffix.now r (harden_part (here_at site) r) r.leading.buffer _ c.in_ok-harden_buffer.field-0 _ writes refl c.in_ok-harden_buffer.ensures.reach c.in-End.is in
    c.in_ok-harden_buffer.ensures.after ∙ ap (λ (x : Reach). (part_reached 0 r (hardens site.pages r (due_pages site.pages (hardened_one site.pages r))) (Block_write r.leading.buffer) x).after) c.in-End.is
    ∙ ap (λ (x : Part). x.after) (sym part) ∙ ap (λ (x : Part). x.after) (sym cut)

pub returns-in-Stop-clause-answer : goal.returns-in-Stop-clause-answer
returns-in-Stop-clause-answer g c =
    let n = c.self.inside in
    let r = c.args.self.now.replica in
    let site = c.args.site.now in
    let part : harden_part (here_at site) r ≡ hardens site.pages r (due_pages site.pages (hardened_one site.pages r))
    = subst (λ (o : Option Refusal). MatchOption o (harden_part (here_at site) r ≡ hardens site.pages r (due_pages site.pages (hardened_one site.pages r))) (λ why. harden_part (here_at site) r ≡ refused why r)) c.in_default.is c.in_ok-why.ensures.part in
    let writes = ap (λ (x : Part). x.writes) part ∙ hardens_block_of n.home _ (leading_of n.buffer n.last_txn n.synced n.peers.items) r site.pages (replica_is c.self.view_is) c.requires.pages c.self.invariant.home in
    let cut = cut_at_block site.pages site.number c.args.suffix.now r (harden_part (here_at site) r) r.leading.buffer _ c.in_ok-harden_buffer.field-0 _ writes refl c.in_ok-harden_buffer.ensures.reach c.in-Stop.is in
    c.stopped.ensures ∙ ap (λ (x : Part). x.answer) (sym cut)

pub returns-in-Stop-clause-after : goal.returns-in-Stop-clause-after
returns-in-Stop-clause-after g c =
    let n = c.self.inside in
    let r = c.args.self.now.replica in
    let site = c.args.site.now in
    let part : harden_part (here_at site) r ≡ hardens site.pages r (due_pages site.pages (hardened_one site.pages r))
    = subst (λ (o : Option Refusal). MatchOption o (harden_part (here_at site) r ≡ hardens site.pages r (due_pages site.pages (hardened_one site.pages r))) (λ why. harden_part (here_at site) r ≡ refused why r)) c.in_default.is c.in_ok-why.ensures.part in
    let writes = ap (λ (x : Part). x.writes) part ∙ hardens_block_of n.home _ (leading_of n.buffer n.last_txn n.synced n.peers.items) r site.pages (replica_is c.self.view_is) c.requires.pages c.self.invariant.home in
    let cut = cut_at_block site.pages site.number c.args.suffix.now r (harden_part (here_at site) r) r.leading.buffer _ c.in_ok-harden_buffer.field-0 _ writes refl c.in_ok-harden_buffer.ensures.reach c.in-Stop.is in
    c.in_ok-harden_buffer.ensures.after ∙ ap (λ (x : Reach). (part_reached 0 r (hardens site.pages r (due_pages site.pages (hardened_one site.pages r))) (Block_write r.leading.buffer) x).after) c.in-Stop.is
    ∙ ap (λ (x : Part). x.after) (sym cut)

pub returns-in-Fault-clause-answer : goal.returns-in-Fault-clause-answer
returns-in-Fault-clause-answer g c =
    let n = c.self.inside in
    let r = c.args.self.now.replica in
    let site = c.args.site.now in
    let part : harden_part (here_at site) r ≡ hardens site.pages r (due_pages site.pages (hardened_one site.pages r))
    = subst (λ (o : Option Refusal). MatchOption o (harden_part (here_at site) r ≡ hardens site.pages r (due_pages site.pages (hardened_one site.pages r))) (λ why. harden_part (here_at site) r ≡ refused why r)) c.in_default.is c.in_ok-why.ensures.part in
    let writes = ap (λ (x : Part). x.writes) part ∙ hardens_block_of n.home _ (leading_of n.buffer n.last_txn n.synced n.peers.items) r site.pages (replica_is c.self.view_is) c.requires.pages c.self.invariant.home in
    let cut = cut_at_block site.pages site.number c.args.suffix.now r (harden_part (here_at site) r) r.leading.buffer _ c.in_ok-harden_buffer.field-0 _ writes refl c.in_ok-harden_buffer.ensures.reach c.in-Fault.is in
    c.device_failed.ensures ∙ ap (λ (x : Part). x.answer) (sym cut)

pub returns-in-Fault-clause-after : goal.returns-in-Fault-clause-after
returns-in-Fault-clause-after g c =
    let n = c.self.inside in
    let r = c.args.self.now.replica in
    let site = c.args.site.now in
    let part : harden_part (here_at site) r ≡ hardens site.pages r (due_pages site.pages (hardened_one site.pages r))
    = subst (λ (o : Option Refusal). MatchOption o (harden_part (here_at site) r ≡ hardens site.pages r (due_pages site.pages (hardened_one site.pages r))) (λ why. harden_part (here_at site) r ≡ refused why r)) c.in_default.is c.in_ok-why.ensures.part in
    let writes = ap (λ (x : Part). x.writes) part ∙ hardens_block_of n.home _ (leading_of n.buffer n.last_txn n.synced n.peers.items) r site.pages (replica_is c.self.view_is) c.requires.pages c.self.invariant.home in
    let cut = cut_at_block site.pages site.number c.args.suffix.now r (harden_part (here_at site) r) r.leading.buffer _ c.in_ok-harden_buffer.field-0 _ writes refl c.in_ok-harden_buffer.ensures.reach c.in-Fault.is in
    c.in_ok-harden_buffer.ensures.after ∙ ap (λ (x : Reach). (part_reached 0 r (hardens site.pages r (due_pages site.pages (hardened_one site.pages r))) (Block_write r.leading.buffer) x).after) c.in-Fault.is
    ∙ ap (λ (x : Part). x.after) (sym cut)

pub harden_buffer-requires-clause-proper : goal.harden_buffer-requires-clause-proper
harden_buffer-requires-clause-proper g c =
    let n = c.self.inside in
    let r = c.args.self.now.replica in
    let site = c.args.site.now in
    let part : harden_part (here_at site) r ≡ hardens site.pages r (due_pages site.pages (hardened_one site.pages r))
    = subst (λ (o : Option Refusal). MatchOption o (harden_part (here_at site) r ≡ hardens site.pages r (due_pages site.pages (hardened_one site.pages r))) (λ why. harden_part (here_at site) r ≡ refused why r)) c.in_default.is c.in_ok-why.ensures.part in
    subst (λ x. IsProper site.pages x) (ap (λ (x : Part). x.after.kept.log) part ∙ hardens_log n.home _ (leading_of n.buffer n.last_txn n.synced n.peers.items) r site.pages (replica_is c.self.view_is) c.requires.pages c.self.invariant.home) c.requires.proper
