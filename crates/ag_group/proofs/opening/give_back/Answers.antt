use Rattle.std.proofs.Common.{◌≡◌, ◌+◌, ◌<◌, ◌++◌, map, arith}
use Rattle.std.specs.Prelude.{vec_len}
use Rattle.std.specs.VecDeque.{deque_len, deque_capacity}
use Rattle.ag_group.specs.Seen.{faults_of}
use Rattle.ag_group.proofs.Openings.{given_back}
use Rattle.ag_group.proofs.opening.give_back.Goals as goal

pub nodes-preserved : goal.nodes-preserved
nodes-preserved g c =
    let h = c.nodes.invariant in
    let one : vec_len c.pop.new.self + 1 ≡ vec_len c.nodes.nodes = c.in-Some.ensures.cases in
    let more : deque_len c.push_front.new.self ≡ deque_len c.nodes.disks + 1 = c.in-Ok.ensures.len in
    let some : deque_len c.nodes.disks < deque_capacity c.nodes.disks = omega (arith, h.room, one) in
    record {
      disks = given_back g.D.Disk.faults c.nodes.nodes.items c.pop.new.self.items c.in-Some.node c.into_disk.result c.nodes.disks.items c.push_front.new.self.items (faults_of c.args.nodes.items ++ map g.D.Disk.faults c.args.disks.now.items)
          c.in-Some.ensures.items c.in-Ok.ensures.items c.into_disk.ensures.faults h.disks;
      room = omega (arith, h.room, one, more, c.in-Ok.ensures.in_place some);
    }
