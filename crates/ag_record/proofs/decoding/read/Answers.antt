use Rattle.std.proofs.Common.{arith}
use Rattle.ag_record.proofs.Records.{left_is_less}
use Rattle.ag_record.proofs.decoding.read.Goals as goal

pub overflow_sub-result : goal.overflow_sub-result
overflow_sub-result c = left_is_less c.args.b.now (c.in_ok-record.record, c.in_ok-record.rest.now) (λ i. omega (arith, c.type_inv.b i)) c.in_ok-record.ensures
