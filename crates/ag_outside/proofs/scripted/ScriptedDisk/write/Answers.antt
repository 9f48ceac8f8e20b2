use Rattle.std.proofs.Common.{[], ◌++◌, ◌∙◌, subst, sym, ap}
use Rattle.ag_outside.specs.Disks.{writes, MayAdd}
use Rattle.ag_outside.specs.Scripts.{ScriptedView}
use Rattle.ag_outside.specs.Shown.{reads_of, holds_of, synced_of}
use Rattle.ag_outside.proofs.Flushed.{only-adds, kept-adds}
use Rattle.ag_outside.proofs.Puts.{put_all-append}
use Rattle.ag_outside.proofs.scripted.ScriptedDisk.write.Goals as goal

pub returns-in-Some-clause-crash : goal.returns-in-Some-clause-crash
returns-in-Some-clause-crash g c =
    let s = c.args.self.now in
    let ws = writes c.args.first c.args.from.now in
    let hold = holds_of g.D.Disk.keeps g.D.Disk.may_hold in
    let mid : ScriptedView _ = record s { writes = c.count_write.new.self.writes; calls = c.count_write.new.self.calls; unsynced = s.unsynced ++ ws } in
    let is = c.in_ok-keep_back.ensures.ok ∙ ap (λ (t : ScriptedView _). record t { unsynced = t.unsynced ++ ws }) c.count_write.ensures in
    only-adds ws (hold s) (hold mid) (hold c.stop.new.self) (kept-adds (g.D.Disk.keeps s.disk) (g.D.Disk.may_hold s.disk) s.lost s.unsynced ws)
    (subst (λ (t : ScriptedView _). MayAdd [] (hold t) (hold c.stop.new.self)) is c.stop.ensures.crash)

pub returns-in-None-clause-written : goal.returns-in-None-clause-written
returns-in-None-clause-written g c =
    let s = c.args.self.now in
    let ws = writes c.args.first c.args.from.now in
    let is = c.in_ok-keep_back.ensures.ok ∙ ap (λ (t : ScriptedView _). record t { unsynced = t.unsynced ++ ws }) c.count_write.ensures in
    λ k. ap (reads_of g.D.Disk.reads) is ∙ put_all-append (synced_of g.D.Disk.reads s) s.unsynced ws

pub returns-in-None-clause-crash : goal.returns-in-None-clause-crash
returns-in-None-clause-crash g c =
    let s = c.args.self.now in
    let ws = writes c.args.first c.args.from.now in
    let hold = holds_of g.D.Disk.keeps g.D.Disk.may_hold in
    let is = c.in_ok-keep_back.ensures.ok ∙ ap (λ (t : ScriptedView _). record t { unsynced = t.unsynced ++ ws }) c.count_write.ensures in
    subst (λ (t : ScriptedView _). MayAdd ws (hold s) (hold t)) (sym is) (kept-adds (g.D.Disk.keeps s.disk) (g.D.Disk.may_hold s.disk) s.lost s.unsynced ws)
