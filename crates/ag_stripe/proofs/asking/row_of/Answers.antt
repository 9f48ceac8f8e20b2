use Rattle.ag_stripe.proofs.Rows.{read-ok}
use Rattle.ag_stripe.proofs.asking.row_of.Goals as goal

pub returns-in-Ok : goal.returns-in-Ok
returns-in-Ok c = read-ok c.args.v.now c.args.key c.args.snapshot c.row_at.result c.in-Ok.row c.in-Ok.is c.row_at.ensures.row c.row_at.ensures.too_old
