use Rattle.std.proofs.Common.{◌≡◌, [], ◌∷◌, ◌++◌, IsTrue, ◌∙◌, subst}
use Rattle.ag_outside.specs.declared.disk.SectorWrite.{SectorWrite}
use Rattle.ag_outside.specs.Disks.{put, MayAdd, HasCause}
use Rattle.ag_outside.specs.Scripts.{ScriptedView}
use Rattle.ag_outside.specs.Shown.{reads_of, holds_of, synced_of}
use Rattle.ag_outside.proofs.Flushed.{only-adds, kept-adds}
use Rattle.ag_outside.proofs.Puts.{put_all-append}
use Rattle.ag_outside.proofs.Losing.{map_ok}
use Rattle.ag_outside.proofs.scripted.Scripted.poke.Goals as goal

pub returns-clause-written : goal.returns-clause-written
returns-clause-written g c =
    let old = c.args.self.now in
    let w : SectorWrite = record { at = c.args.at; sector = c.args.sector.now } in
    let reads = reads_of g.D.Disk.reads in
    let new = c.sync_below.new.self in
    map_ok c.sync_below.result (IsTrue (g.D.Disk.keeps c.keep_back.new.self.disk) → reads new ≡ reads c.keep_back.new.self) (IsTrue (g.D.Disk.keeps old.disk) → reads new ≡ put (reads old) w) c.sync_below.ensures.shown
    (λ shown k. (subst (λ (s : ScriptedView _). (IsTrue (g.D.Disk.keeps s.disk) → reads new ≡ reads s)) c.in_ok-keep_back.ensures.ok shown) k ∙ put_all-append (synced_of g.D.Disk.reads old) old.unsynced (w ∷ []))

pub returns-clause-crash : goal.returns-clause-crash
returns-clause-crash g c =
    let old = c.args.self.now in
    let w : SectorWrite = record { at = c.args.at; sector = c.args.sector.now } in
    let hold = holds_of g.D.Disk.keeps g.D.Disk.may_hold in
    let kept_back : ScriptedView _ = record old { unsynced = old.unsynced ++ w ∷ [] } in
    only-adds (w ∷ []) (hold old) (hold kept_back) (hold c.sync_below.new.self) (kept-adds (g.D.Disk.keeps old.disk) (g.D.Disk.may_hold old.disk) old.lost old.unsynced (w ∷ []))
    (subst (λ (s : ScriptedView _). MayAdd [] (hold s) (hold c.sync_below.new.self)) c.in_ok-keep_back.ensures.ok c.sync_below.ensures.crash)

pub returns-clause-cause : goal.returns-clause-cause
returns-clause-cause g c = subst (λ (s : ScriptedView _). HasCause s.faults c.sync_below.new.self.faults c.sync_below.result) c.in_ok-keep_back.ensures.ok c.sync_below.ensures.cause
