use Rattle.std.proofs.Common.{◌≤◌, length, subst}
use Rattle.ag_model.specs.declared.record.Log.{Log}
use Rattle.ag_logstore.proofs.LogEnds.{rises_from, next_least, next_within}
use Rattle.ag_logstore.proofs.hardened.HardenedLog.end_after.Goals as goal

pub end_after-requires : goal.end_after-requires
end_after-requires c = rw c.as_slice.ensures.value (rises_from 0 _ _ c.self.invariant.rises)

pub returns-clause-least : goal.returns-clause-least
returns-clause-least c = rw c.end_after.ensures (next_least c.args.lsn c.as_slice.result.now)

pub returns-clause-within : goal.returns-clause-within
returns-clause-within c =
    subst (λ (log : Log). c.args.lsn ≤ length log.records → c.end_after.result ≤ length log.records) c.self.view_is
    (λ h. rw c.end_after.ensures (rw c.as_slice.ensures.value (next_within 0 _ c.args.lsn _ c.self.invariant.rises h)))
