use Rattle.std.proofs.Common.{eqb, sym, ap, ◌∙◌}
use Rattle.std.specs.List.{list_any}
use Rattle.ag_rules.specs.Replica.{OpenTxn as RulesTxn}
use Rattle.ag_txn.specs.View.{TxnsView, plain, open_txns}
use Rattle.ag_txn.specs.declared.opened.OpenTxn.{OpenTxn}
use Rattle.ag_txn.proofs.Lists.{list_any_map}
use Rattle.ag_txn.proofs.txns.Txns.is_open.Goals as goal

pub returns : goal.returns
returns c =
    c.is_among.ensures
    ∙ ap (list_any (λ (o : OpenTxn). eqb o.txn c.args.txn)) c.deref.ensures.value
    ∙ sym (list_any_map (λ (t : RulesTxn). eqb t.txn c.args.txn) plain c.self.inside.txns.items)
    ∙ ap (λ (v : TxnsView). list_any (λ (t : RulesTxn). eqb t.txn c.args.txn) (open_txns v)) c.self.view_is
