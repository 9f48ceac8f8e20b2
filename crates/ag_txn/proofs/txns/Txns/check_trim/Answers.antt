use Rattle.std.proofs.Common.{◌≡◌, true, not, sym, ap, ◌∙◌, [], ◌∷◌, arith}
use Rattle.std.proofs.lemmas.Bool.{le-ltb}
use Rattle.ag_model.specs.declared.value.PageValue.{PageValue}
use Rattle.ag_model.specs.declared.record.Record.TheVariants.{Trim}
use Rattle.ag_model.specs.declared.answer.Refusal.TheVariants.{Held, Nothing}
use Rattle.ag_rules.specs.TrimEvent.{trims_some}
use Rattle.ag_txn.specs.Checks.{buffer_is_full}
use Rattle.ag_txn.specs.View.{TxnsView, seen}
use Rattle.ag_txn.proofs.Refused.{third_check}
use Rattle.ag_txn.proofs.txns.Txns.check_trim.Goals as goal

pub returns-in-Err-clause-refused : goal.returns-in-Err-clause-refused
returns-in-Err-clause-refused c =
    let t : TxnsView = c.args.self.now in
    let v : PageValue = seen t c.args.page.now in
    let horizon = c.args.horizon in
    let some : trims_some v horizon ≡ true = sym (ap (λ (w : PageValue). trims_some w horizon) c.seen.ensures) ∙ sym c.trims_some.ensures ∙ c.if-not-trims_some.false in
    third_check (record { when = _; refusal = Held horizon c.args.limit }) (record { when = not (trims_some v horizon); refusal = Nothing }) (buffer_is_full t.buffer (Trim v.page horizon ∷ []))
    c.in-Err.fault (le-ltb c.args.limit horizon (omega arith)) (ap not some) (c.in-Err.ensures.checked (Trim v.page horizon ∷ []) (omega arith))
