use Rattle.std.proofs.Common.{◌≡◌, ◌≤◌, ◌+◌, ◌++◌, map}
use Rattle.std.specs.Prelude.{vec_len}
use Rattle.std.specs.VecDeque.{deque_len, deque_capacity}
use Rattle.ag_group.specs.Seen.{faults_of}
use Rattle.ag_group.proofs.opening.give_back.Given as goal

abbrev pub invariant-nodes : goal.invariant-nodes
invariant-nodes g l = record {
  disks : faults_of l.nodes.items ++ map g.D.Disk.faults l.disks.items ≡ faults_of l.fn.nodes.items ++ map g.D.Disk.faults l.fn.disks.items;
  room : vec_len l.nodes + deque_len l.disks ≤ deque_capacity l.disks;
}

abbrev pub decreases-nodes : goal.decreases-nodes
decreases-nodes g l = vec_len l.nodes
