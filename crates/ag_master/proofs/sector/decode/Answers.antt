use Rattle.std.proofs.Common.{◌≡◌, List, replicate, sym, ◌∙◌}
use Rattle.ag_master.proofs.Fields.{none, differ}
use Rattle.ag_master.proofs.sector.decode.Goals as goal
use Rattle.ag_master.proofs.sector.decode.Goals.{else-is_kept-via-then-is_kept+else-eq-2, else-is_kept-via-else-is_kept}

pub returns-else-is_kept : goal.returns-else-is_kept
returns-else-is_kept c = (
  λ zero_. differ c.args.sector.now (replicate 512 0) c.eq.result c.eq.ensures c.if-eq.false zero_,
  none c.args.sector.now c.fields-m.result c.fields-m.ensures (elim c.else-is_kept.branch [
    | else-is_kept-via-then-is_kept+else-eq-2 w ↦ λ k spelled. differ w.encode.result c.args.sector.now w.eq-then-is_kept.result w.eq-then-is_kept.ensures w.if-eq-2.false (w.encode.ensures ∙ spelled)
    | else-is_kept-via-else-is_kept w ↦ λ k spelled. absurd (cc (sym (c.is_kept.ensures.1 k) ∙ w.if-is_kept.false))
  ]),
)
