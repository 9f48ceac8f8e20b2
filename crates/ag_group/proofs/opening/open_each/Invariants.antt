use Rattle.std.proofs.Common.{◌≡◌, ◌≤◌, length, take, drop}
use Rattle.std.specs.Prelude.{vec_capacity}
use Rattle.std.specs.VecDeque.{deque_len, deque_capacity}
use Rattle.ag_rules.specs.Group.{opening_replicas}
use Rattle.ag_group.specs.Seen.{replicas_of}
use Rattle.ag_group.proofs.opening.open_each.Given as goal

abbrev pub invariant-disks : goal.invariant-disks
invariant-disks g l = record {
  nodes : replicas_of l.nodes.items ≡ take (length l.nodes.items) (opening_replicas l.config l.config.modes);
  disks : l.disks.items ≡ drop (length l.nodes.items) l.fn.disks.items;
  few : length l.nodes.items ≤ length l.fn.disks.items;
  room : length l.fn.disks.items ≤ vec_capacity l.nodes;
  capacity : deque_capacity l.disks ≡ deque_capacity l.fn.disks;
}

abbrev pub decreases-disks : goal.decreases-disks
decreases-disks g l = deque_len l.disks
