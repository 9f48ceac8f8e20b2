use Rattle.std.proofs.Common.{Vec, Global, ◌++◌, ◌+◌, ◌∙◌, ap, sym, drop}
use Rattle.ag_outside.specs.declared.disk.SectorWrite.{SectorWrite}
use Rattle.ag_outside.specs.Scripts.{kept}
use Rattle.ag_outside.proofs.Puts.{kept-takes, kept-passes}
use Rattle.ag_outside.proofs.handing.keep.Goals as goal
use Rattle.ag_outside.proofs.handing.keep.Goals.{then-is_kept+in_ok-push, else-is_kept}

pub writes-preserved : goal.writes-preserved
writes-preserved c = elim c.if-is_kept.branch [
  | then-is_kept+in_ok-push w ↦ kept-takes c.args.mask c.writes.number c.args.unsynced.now c.writes.all.items c.if-is_kept.all.items c.writes-test.true (sym c.is_kept.ensures ∙ w.if-is_kept.true) (ap (λ (v : Vec SectorWrite Global). v.items) w.all-is ∙ w.in_ok-push.ensures.items) ∙ c.writes.invariant
  | else-is_kept w ↦ ap (λ (v : Vec SectorWrite Global). v.items ++ kept c.args.mask (c.writes.number + 1) (drop (c.writes.number + 1) c.args.unsynced.now)) w.all-is ∙ kept-passes c.args.mask c.writes.number c.args.unsynced.now c.writes.all.items c.writes-test.true (sym c.is_kept.ensures ∙ w.if-is_kept.false) ∙ c.writes.invariant
]
