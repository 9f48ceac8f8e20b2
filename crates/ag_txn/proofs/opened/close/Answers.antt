use Rattle.std.proofs.Common.{not, eqb, rules, tests}
use Rattle.std.proofs.lemmas.Fn.{filter_same}
use Rattle.ag_txn.specs.declared.opened.OpenTxn.{OpenTxn}
use Rattle.ag_txn.proofs.opened.close.Goals as goal

pub returns : goal.returns
returns c = filter_same _ (λ (o : OpenTxn). not (eqb o.txn c.args.txn)) _ (λ x b q k. search (rules, tests)) _ _ c.retain.ensures.filtered
