use Rattle.ag_group.proofs.Blanks.{blank_count, blank_more}
use Rattle.ag_group.proofs.events.blank_disks.Goals as goal

pub loop-preserved : goal.loop-preserved
loop-preserved c = record {
  each = blank_count c.loop.disks.items c.push.new.self.items c.new-in-loop.result c.loop.counter c.loop.invariant.each c.in_ok-push.ensures.items;
  fit = blank_more c.loop.disks.items c.push.new.self.items c.new-in-loop.result c.loop.invariant.fit c.in_ok-push.ensures.items c.new-in-loop.ensures.reads;
}
