-- A log in memory, after one more block.
use Rattle.std.proofs.Common.{ℕ, ◌+◌, List, ◌++◌, length, ap, sym, ◌∙◌, arith, length-append}
use Rattle.ag_model.specs.declared.config.TermStart.{TermStart}
use Rattle.ag_model.specs.declared.record.Record.{Record}
use Rattle.ag_model.specs.declared.record.Log.{Log}
use Rattle.ag_model.specs.Blocks.{with_block}
use Rattle.ag_model.specs.Sizes.{block_sectors}
use Rattle.ag_ends.specs.Starts.{starts_after}
use Rattle.ag_ends.proofs.Starts.{starts_whole}
use Rattle.ag_record.specs.Spelling.{ArePayload}
use Rattle.ag_logstore.specs.LogKept.{IsKept}
use Rattle.ag_logstore.proofs.LogEnds.{rises_push, sectors_push}
use Rattle.ag_logstore.proofs.Fitting.{fit_append, payload_some, payload_small, small_push}

pub kept_more : (log : Log) (kept : List TermStart) (used : ℕ) (new : List Record) → IsKept log kept used → ArePayload new
    → IsKept (with_block log new) (kept ++ starts_after (length log.records) new) (used + block_sectors new)
kept_more log kept used new p h = record {
  rises = rw length-append (rises_push 0 (length log.records) (length log.records + length new) log.ends p.rises (omega (arith, payload_some new h)));
  starts = ap (λ ss. ss ++ starts_after (length log.records) new) p.starts ∙ sym (starts_whole log.records new);
  fits = fit_append log.records new p.fits h.fit;
  blocks = small_push 0 (length log.records) log.ends log.records new p.rises (omega arith) p.blocks (payload_small new h);
  sectors = ap (λ n. n + block_sectors new) p.sectors ∙ sym (sectors_push 0 (length log.records) log.ends log.records new p.rises (omega arith));
}
