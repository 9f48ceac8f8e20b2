use Rattle.std.proofs.Common.{◌-◌, ◌≤◌, length, ap, ◌∙◌, subst}
use Rattle.std.specs.Prelude.{IfSome}
use Rattle.ag_model.specs.declared.record.Log.{Log}
use Rattle.ag_model.specs.Blocks.{end_of_block, after_to}
use Rattle.ag_model.specs.Sizes.{records_size}
use Rattle.ag_logstore.proofs.LogEnds.{rises_from, bounded}
use Rattle.ag_logstore.proofs.Fitting.{small_found}
use Rattle.ag_logstore.proofs.hardened.HardenedLog.block_from.Goals as goal

pub block_end-requires : goal.block_end-requires
block_end-requires c = rw c.as_slice.ensures.value (rises_from 0 _ _ c.self.invariant.rises)

pub returns-clause-bounds : goal.returns-clause-bounds
returns-clause-bounds c =
    subst (λ (log : Log). IfSome c.block_end.result (λ last. (1 ≤ c.args.first) × (c.args.first ≤ last) × (last ≤ length log.records))) c.self.view_is
    (bounded c.block_end.result 0 _ c.args.first _ c.self.invariant.rises (c.block_end.ensures ∙ ap (end_of_block 0 c.args.first) c.as_slice.ensures.value))

pub returns-clause-small : goal.returns-clause-small
returns-clause-small c =
    subst (λ (log : Log). IfSome c.block_end.result (λ last. records_size (after_to (c.args.first - 1) last log.records) ≤ 15488)) c.self.view_is
    (small_found c.block_end.result _ c.args.first _ _ c.self.invariant.rises c.self.invariant.blocks (c.block_end.ensures ∙ ap (end_of_block 0 c.args.first) c.as_slice.ensures.value))
