use Rattle.std.proofs.Common.{[], subst, sym}
use Rattle.ag_outside.specs.Disks.{MayAdd}
use Rattle.ag_outside.specs.Scripts.{ScriptedView, kept}
use Rattle.ag_outside.specs.Shown.{holds_of}
use Rattle.ag_outside.proofs.Flushed.{only-adds, kept-fewer}
use Rattle.ag_outside.proofs.scripted.Scripted.stop.Goals as goal

pub returns-in-Ok-clause-crash : goal.returns-in-Ok-clause-crash
returns-in-Ok-clause-crash g c =
    let old = c.args.self.now in
    let hold = holds_of g.D.Disk.keeps g.D.Disk.may_hold in
    let dropped : ScriptedView _ = record old { unsynced = kept c.args.mask 0 old.unsynced } in
    subst (λ (s : ScriptedView _). MayAdd [] (hold old) (hold s)) (sym c.stopped.ensures.after)
    (only-adds [] (hold old) (hold dropped) (hold c.sync_below.new.self) (kept-fewer c.args.mask (g.D.Disk.keeps old.disk) (g.D.Disk.may_hold old.disk) old.lost old.unsynced)
    (subst (λ (s : ScriptedView _). MayAdd [] (hold s) (hold c.sync_below.new.self)) c.in_ok-count.ensures.ok c.sync_below.ensures.crash))

pub returns-in-Err-clause-crash : goal.returns-in-Err-clause-crash
returns-in-Err-clause-crash g c =
    let old = c.args.self.now in
    let hold = holds_of g.D.Disk.keeps g.D.Disk.may_hold in
    let dropped : ScriptedView _ = record old { unsynced = kept c.args.mask 0 old.unsynced } in
    only-adds [] (hold old) (hold dropped) (hold c.sync_below.new.self) (kept-fewer c.args.mask (g.D.Disk.keeps old.disk) (g.D.Disk.may_hold old.disk) old.lost old.unsynced)
    (subst (λ (s : ScriptedView _). MayAdd [] (hold s) (hold c.sync_below.new.self)) c.in_ok-count.ensures.ok c.sync_below.ensures.crash)
