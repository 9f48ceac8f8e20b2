use Rattle.std.proofs.Common.{◌∙◌, ap, not, eqb, rules, tests}
use Rattle.std.proofs.lemmas.Fn.{filter_same}
use Rattle.ag_model.specs.declared.value.Version.{Version}
use Rattle.ag_version.specs.Edits.{without_txn}
use Rattle.ag_version.proofs.edits.without_txn.Goals as goal

pub returns : goal.returns
returns c = c.from_vec.ensures ∙ filter_same _ (λ (w : Version). not (eqb w.txn c.args.txn)) _ (λ x b q k. search (rules, tests)) _ _ c.retain.ensures.filtered ∙ ap (without_txn c.args.txn) c.into_vec-items.ensures
