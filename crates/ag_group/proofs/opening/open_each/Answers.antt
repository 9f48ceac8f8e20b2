use Rattle.std.proofs.Common.{◌≡◌, ◌+◌, ◌<◌, ◌∙◌, length, sym, ap, subst, map, get_or, arith}
use Rattle.ag_outside.specs.Counts.{HasRisen}
use Rattle.ag_group.proofs.Openings.{some_left, one_mode_more, count_more, one_more_node, one_disk_less, next_fault}
use Rattle.ag_group.proofs.opening.open_each.Goals as goal

pub disks-preserved : goal.disks-preserved
disks-preserved g c =
    let h = c.disks.invariant in
    let some : 0 < length c.disks.disks.items = omega (arith, some_left _ c.is_empty.result c.is_empty.ensures c.disks-test.true, c.disks.disks.ok.0) in
    let next : length c.disks.nodes.items < length c.args.disks.now.items = one_mode_more c.args.disks.now.items c.disks.disks.items (length c.disks.nodes.items) h.disks some in
    let more : length c.open_next.new.nodes.items ≡ length c.disks.nodes.items + 1 = count_more c.disks.nodes.items c.open_next.new.nodes.items _ c.in-Ok.ensures.node in
    record {
      nodes = one_more_node c.args.config.now c.disks.nodes.items c.open_next.new.nodes.items (omega (arith, next, c.requires.each)) h.nodes c.in-Ok.ensures.node;
      disks = one_disk_less c.args.disks.now.items c.disks.disks.items c.open_next.new.disks.items c.disks.nodes.items c.open_next.new.nodes.items h.disks c.in-Ok.ensures.disks more;
      few = omega (arith, next, more);
      room = omega (arith, h.room, c.open_next.ensures.nodes_capacity);
      capacity = c.open_next.ensures.disks_capacity ∙ h.capacity;
    }

pub returns-in-Err-clause-fault : goal.returns-in-Err-clause-fault
returns-in-Err-clause-fault g c n names =
    let h = c.disks.invariant in
    let told = c.in-Err.ensures.fault n names in
    let same = ap length c.in-Err.ensures.same in
    let place = told.0 ∙ sym same in
    (place, subst (λ b. HasRisen b (get_or (map g.D.Disk.faults c.open_next.new.disks.items) 0 0)) (next_fault g.D.Disk.faults (length c.disks.nodes.items) c.args.disks.now.items c.disks.disks.items h.disks ∙ ap (λ k. get_or (map g.D.Disk.faults c.args.disks.now.items) k 0) (sym told.0)) told.1)
