use Rattle.std.proofs.Common.{◌&&◌, eqb, List, sym, ap, length, ◌∙◌, ◌<◌, arith}
use Rattle.std.specs.Prelude.{not, Some}
use Rattle.std.proofs.lemmas.Bool.{lt-ltb}
use Rattle.ag_model.specs.declared.value.Version.{Version}
use Rattle.ag_model.specs.declared.answer.Refusal.TheVariants.{Locked}
use Rattle.ag_rules.specs.PutEvent.{holders, first_txn}
use Rattle.ag_txn.proofs.Lists.{filter_first}
use Rattle.ag_txn.proofs.versions.check_lock.Goals as goal

pub returns-then-is_held : goal.returns-then-is_held
returns-then-is_held c =
    let first = filter_first (λ (v : Version). eqb v.key c.args.key && (eqb v.commit 0 && not (eqb v.txn c.args.txn))) c.args.versions.now c.loop-version.version-index _
    c.loop-version-test.true c.loop-version.invariant (sym c.is_held.ensures ∙ c.if-is_held.true) in
    let some : 0 < length (holders c.args.txn c.args.key c.args.versions.now) = omega (arith, ap length first) in
    (lt-ltb 0 (length (holders c.args.txn c.args.key c.args.versions.now)) some, ap (λ (vs : List Version). Some (Locked (first_txn vs))) (sym first))
