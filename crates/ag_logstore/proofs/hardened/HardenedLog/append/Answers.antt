use Rattle.std.proofs.Common.{◌≡◌, ◌+◌, length, subst, arith}
use Rattle.ag_model.specs.declared.record.Log.{Log}
use Rattle.ag_logstore.specs.LogKept.{RisesTo}
use Rattle.ag_model.specs.Sizes.{block_sectors}
use Rattle.ag_logstore.proofs.LogMore.{kept_more}
use Rattle.ag_logstore.proofs.hardened.HardenedLog.append.Goals as goal

pub invariant_of-self-2 : goal.invariant_of-self-2
invariant_of-self-2 c =
    let sectors : c.in_ok-sectors.sectors ≡ c.self.inside.sectors + block_sectors c.args.block.now = grind arith in
    rw (c.in_ok-grow.ensures.records, c.in_ok-grow.ensures.ends, c.in_ok-grow.ensures.starts, sectors)
    (kept_more (record { records = c.self.inside.records; ends = c.self.inside.ends.items }) _ _ _ c.self.invariant c.requires)

pub returns-in_err-bytes-clause-rose : goal.returns-in_err-bytes-clause-rose
returns-in_err-bytes-clause-rose c = subst (λ (log : Log). RisesTo 0 (length log.records) log.ends) c.self.view_is c.self.invariant.rises

pub returns-in_err-sectors-clause-rose : goal.returns-in_err-sectors-clause-rose
returns-in_err-sectors-clause-rose c = subst (λ (log : Log). RisesTo 0 (length log.records) log.ends) c.self.view_is c.self.invariant.rises

pub returns-in_err-grow-clause-rose : goal.returns-in_err-grow-clause-rose
returns-in_err-grow-clause-rose c = subst (λ (log : Log). RisesTo 0 (length log.records) log.ends) c.self.view_is c.self.invariant.rises

pub returns-clause-rose : goal.returns-clause-rose
returns-clause-rose c = subst (λ (log : Log). RisesTo 0 (length log.records) log.ends) c.self.view_is c.self.invariant.rises
