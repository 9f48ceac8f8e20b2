use Rattle.std.proofs.Common.{rules, ◌≡◌, ◌<◌, ◌^◌, [], subst, arith}
use Rattle.std.specs.List.{AllByRecursion}
use Rattle.std.proofs.lemmas.Grind.{common_steps}
use Rattle.std.proofs.lemmas.List.{take_all}
use Rattle.ag_model.specs.declared.event.Pair.{Pair}
use Rattle.ag_rules.specs.SetEvent.{records_of_set}
use Rattle.ag_node.proofs.SetFits.{keys_more, puts_more, set_fits}
use Rattle.ag_node.proofs.listed.records_of_set.Goals as goal

pub loop-pair-preserved : goal.loop-pair-preserved
loop-pair-preserved c =
    let none : Pair = record { key = 0; value = record { len = 0; bytes = [] } } in
    let i = c.loop-pair.pair-index in (
      puts_more c.args.txn c.args.pairs.now i none c.loop-pair.records c.push.new.self c.put.result c.loop-pair-test.true c.loop-pair.invariant.0 c.put.ensures.is c.in_ok-push.ensures.ok,
      keys_more c.args.pairs.now i none c.loop-pair-test.true c.loop-pair.invariant.1 c.put.ensures.key,
    )

pub returns-clause-fits : goal.returns-clause-fits
returns-clause-fits c has values =
    let is : c.push-2.new.self ≡ records_of_set c.args.pages c.args.txn c.args.pairs.now = first_of (search rules, grind (arith, common_steps)) in
    let keys = subst (AllByRecursion (λ (pair : Pair). pair.key < 2 ^ 32)) (take_all c.loop-pair.pair-index c.args.pairs.now (omega arith)) c.loop-pair.invariant.1 in
    rw is (set_fits c.args.pages c.args.txn c.args.pairs.now c.requires.some c.requires.few (omega arith) has values keys)
