use Rattle.std.proofs.Common.{◌≡◌, ◌+◌, ◌-◌, List, [], ◌∷◌, ◌++◌, ◌∙◌, ap, sym, refl, arith, append_assoc}
use Rattle.ag_outside.specs.declared.disk.SectorWrite.{SectorWrite}
use Rattle.ag_outside.specs.Scripts.{filler, fillers}
use Rattle.ag_outside.proofs.Losing.{fillers_more}
use Rattle.ag_outside.proofs.handing.add_fillers.Goals as goal

pub marks-preserved : goal.marks-preserved
marks-preserved c =
    let k = c.marks.k in
    let w : SectorWrite = record { at = c.args.first + k; sector = filler (18 + k) } in
    let rest = fillers (c.args.first + (k + 1)) (18 + (k + 1)) (c.args.count - (k + 1)) in
    let pushed : c.push.new.self.items ≡ c.marks.unsynced.items ++ w ∷ [] = rw (c.in_ok-push.ensures.items, c.filler.ensures) refl in
    record {
      items = ap (λ (ws : List SectorWrite). ws ++ rest) pushed ∙ append_assoc c.marks.unsynced.items (w ∷ []) rest ∙ ap (λ (ws : List SectorWrite). c.marks.unsynced.items ++ ws) (sym (fillers_more c.args.first 18 c.args.count k c.marks-test.true)) ∙ c.marks.invariant.items;
      room = omega (arith, c.in_ok-push.ensures.len, c.in_ok-push.ensures.capacity, c.marks.invariant.room, c.marks-test.true);
    }
