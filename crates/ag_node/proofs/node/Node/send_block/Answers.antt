use Rattle.std.proofs.Common.{◌≡◌, ◌-◌, ◌≤◌, ◌∙◌, ap, sym, subst, arith}
use Rattle.ag_model.specs.Blocks.{after_to}
use Rattle.ag_model.specs.Sizes.{records_size}
use Rattle.ag_rules.specs.Replica.{Replica, records, end}
use Rattle.ag_built.specs.Whole.{IsWhole}
use Rattle.ag_logstore.proofs.Fitting.{payload_copy}
use Rattle.ag_node.proofs.Views.{replica_is}
use Rattle.ag_node.proofs.node.Node.send_block.Goals as goal

pub returns-clause-built : goal.returns-clause-built
returns-clause-built g c =
    let n = c.self.inside in
    let small = subst (λ (x : Replica). records_size (after_to (c.args.first - 1) c.args.last (records x)) ≤ 15488) (sym (replica_is c.self.view_is)) c.requires.small in
    let within = subst (λ (x : Replica). c.args.last ≤ end x) (sym (replica_is c.self.view_is)) c.requires.bounds.2 in
    let copy : c.in_ok-copy_block.field-0 ≡ after_to (c.args.first - 1) c.args.last (records c.args.self.now.replica) = c.in_ok-copy_block.ensures.is ∙ ap (λ (x : Replica). after_to (c.args.first - 1) c.args.last (records x)) (replica_is c.self.view_is) in
    (subst IsWhole (sym copy) c.requires.whole, (omega arith, (omega arith, omega arith, payload_copy (c.args.first - 1) c.args.last n.home.log.records c.in_ok-copy_block.field-0 c.in_ok-copy_block.ensures.fits c.in_ok-copy_block.ensures.is (omega arith) within small)))
