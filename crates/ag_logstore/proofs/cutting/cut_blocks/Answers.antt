use Rattle.std.proofs.Common.{◌≡◌, ◌≤◌, length, take, drop, sym, ap, refl, ◌∙◌, arith}
use Rattle.ag_logstore.proofs.LogEnds.{rises_from}
use Rattle.ag_logstore.proofs.Cuts.{parts, to_end, others_need}
use Rattle.ag_logstore.proofs.cutting.cut_blocks.Goals as goal

pub ends_to-count-requires : goal.ends_to-count-requires
ends_to-count-requires c = rw c.as_slice.ensures.value (rises_from 0 _ _ c.requires.rises)

pub split_at-requires : goal.split_at-requires
split_at-requires c = (parts (length c.args.records.now) c.args.end c.args.ends.now.items c.args.records.now c.requires.rises c.requires.small c.requires.block).to

pub sectors_before-left-requires : goal.sectors_before-left-requires
sectors_before-left-requires c =
    let es = c.args.ends.now.items in
    let p = parts (length c.args.records.now) c.args.end es c.args.records.now c.requires.rises c.requires.small c.requires.block in
    let kept : take c.ends_to-count.result es ≡ to_end c.args.end es = ap (take c.ends_to-count.result) (sym c.as_slice.ensures.value) ∙ c.ends_to-count.ensures.kept ∙ ap (to_end c.args.end) c.as_slice.ensures.value in
    let within : c.ends_to-count.result ≤ length es = omega (arith, c.ends_to-count.ensures.bound, ap length c.as_slice.ensures.value) in
    let gone_ends = c.split_at-2.ensures.back ∙ ap (drop c.ends_to-count.result) c.as_slice-2.ensures.value in
    let n = others_need (length c.args.records.now) c.args.end c.ends_to-count.result es c.split_at-2.result.1.now c.args.records.now c.split_at.result.1.now p refl kept within gone_ends c.split_at.ensures.back in
    record { rises = n.0; small = n.1; within = omega (arith, n.2, c.requires.sectors) }

pub returns-clause-sectors : goal.returns-clause-sectors
returns-clause-sectors c =
    let es = c.args.ends.now.items in
    let p = parts (length c.args.records.now) c.args.end es c.args.records.now c.requires.rises c.requires.small c.requires.block in
    let kept : take c.ends_to-count.result es ≡ to_end c.args.end es = ap (take c.ends_to-count.result) (sym c.as_slice.ensures.value) ∙ c.ends_to-count.ensures.kept ∙ ap (to_end c.args.end) c.as_slice.ensures.value in
    let within : c.ends_to-count.result ≤ length es = omega (arith, c.ends_to-count.ensures.bound, ap length c.as_slice.ensures.value) in
    let gone_ends = c.split_at-2.ensures.back ∙ ap (drop c.ends_to-count.result) c.as_slice-2.ensures.value in
    let n = others_need (length c.args.records.now) c.args.end c.ends_to-count.result es c.split_at-2.result.1.now c.args.records.now c.split_at.result.1.now p refl kept within gone_ends c.split_at.ensures.back in
    omega (arith, n.2, c.requires.sectors, c.sectors_before-left.ensures)
