use Rattle.std.proofs.Common.{◌∙◌, sym}
use Rattle.std.proofs.lemmas.Result.{on_ok_weaker}
use Rattle.ag_stripe.proofs.Redone.{redone-below, redone-above}
use Rattle.ag_pool.proofs.redoing.redo_value.Goals as goal

pub returns-then-v-lsn-clause-ok : goal.returns-then-v-lsn-clause-ok
returns-then-v-lsn-clause-ok c = on_ok_weaker c.edit.result (λ e. e ∙ sym (redone-below c.args.lsn c.args.entry.now c.args.v.now c.if-v-lsn.true)) c.edit.ensures.ok

pub returns-else-v-lsn-clause-ok : goal.returns-else-v-lsn-clause-ok
returns-else-v-lsn-clause-ok c = sym (redone-above c.args.lsn c.args.entry.now c.args.v.now c.if-v-lsn.false)
