use Rattle.std.proofs.Common.{◌∙◌, length, sym, ap, subst, map, get_or, arith}
use Rattle.ag_outside.specs.Counts.{HasRisen}
use Rattle.ag_group.proofs.Openings.{back_count, back_fault}
use Rattle.ag_group.proofs.opening.opening_nodes.Goals as goal

pub returns-in-Err-clause-back : goal.returns-in-Err-clause-back
returns-in-Err-clause-back g c =
    omega (
      arith,
      ap length c.into_vec.ensures.items,
      ap length c.from_vec-left.ensures.items,
      c.in-Err.ensures.back,
      back_count g.D.Disk.faults c.open_each.new.nodes.items c.open_each.new.disks.items c.give_back.new.disks.items c.give_back.ensures,
    )

pub returns-in-Err-clause-fault : goal.returns-in-Err-clause-fault
returns-in-Err-clause-fault g c n names =
    let f = g.D.Disk.faults in
    let told = c.in-Err.ensures.fault n names in
    let back = ap (λ xs. get_or (map f xs) n 0) c.into_vec.ensures.items ∙ back_fault f c.open_each.new.nodes.items c.open_each.new.disks.items c.give_back.new.disks.items n told.0 c.give_back.ensures in
    subst (λ a. HasRisen a (get_or (map f c.into_vec.result.items) n 0)) (ap (λ xs. get_or (map f xs) n 0) c.from_vec-left.ensures.items)
    (subst (λ b. HasRisen (get_or (map f c.from_vec-left.result.items) n 0) b) (sym back) told.1)
