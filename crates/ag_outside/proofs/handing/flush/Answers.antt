use Rattle.std.proofs.Common.{◌≡◌, [], List, Bool, IsTrue, sym, subst}
use Rattle.ag_outside.specs.declared.disk.SectorWrite.{SectorWrite}
use Rattle.ag_outside.specs.Disks.{put_all, MayAdd}
use Rattle.ag_outside.specs.Scripts.{may_show}
use Rattle.ag_outside.proofs.Flushed.{Found, shown-stays, shown-adds, lost-stays}
use Rattle.ag_outside.proofs.handing.flush.Goals as goal

pub returns-clause-lost : goal.returns-clause-lost
returns-clause-lost g c =
    let d = c.args.disk.now in
    let e = c.hand_down.new.disk in
    let found = subst (λ (ws : List SectorWrite). Found ws c.args.lost.now.entries c.find.new.lost.entries) c.deref-2.ensures.value c.find.ensures.lost in
    let written = subst (λ (ws : List SectorWrite). IsTrue (g.D.Disk.keeps d) → g.D.Disk.reads e ≡ put_all (g.D.Disk.reads d) ws) c.deref.ensures.value c.in_ok-hand_down.ensures.written in
    λ k was. lost-stays (g.D.Disk.keeps d) (g.D.Disk.reads d) (g.D.Disk.reads e) (g.D.Disk.may_hold d) (g.D.Disk.may_hold e) c.args.unsynced.now.items c.args.lost.now.entries c.find.new.lost.entries found k written was

pub returns-clause-shown : goal.returns-clause-shown
returns-clause-shown g c =
    let d = c.args.disk.now in
    let e = c.hand_down.new.disk in
    let found = subst (λ (ws : List SectorWrite). Found ws c.args.lost.now.entries c.find.new.lost.entries) c.deref-2.ensures.value c.find.ensures.lost in
    let written = subst (λ (ws : List SectorWrite). IsTrue (g.D.Disk.keeps d) → g.D.Disk.reads e ≡ put_all (g.D.Disk.reads d) ws) c.deref.ensures.value c.in_ok-hand_down.ensures.written in
    λ k. shown-stays (g.D.Disk.keeps d) (g.D.Disk.reads d) (g.D.Disk.reads e) (g.D.Disk.may_hold d) (g.D.Disk.may_hold e) c.args.unsynced.now.items c.args.lost.now.entries c.find.new.lost.entries found written k

pub returns-clause-crash : goal.returns-clause-crash
returns-clause-crash g c =
    let d = c.args.disk.now in
    let e = c.hand_down.new.disk in
    let found = subst (λ (ws : List SectorWrite). Found ws c.args.lost.now.entries c.find.new.lost.entries) c.deref-2.ensures.value c.find.ensures.lost in
    let written = subst (λ (ws : List SectorWrite). IsTrue (g.D.Disk.keeps d) → g.D.Disk.reads e ≡ put_all (g.D.Disk.reads d) ws) c.deref.ensures.value c.in_ok-hand_down.ensures.written in
    let before = may_show (g.D.Disk.keeps d) (g.D.Disk.may_hold d) c.args.lost.now.entries c.args.unsynced.now.items in
    let adds = shown-adds (g.D.Disk.keeps d) (g.D.Disk.reads d) (g.D.Disk.reads e) (g.D.Disk.may_hold d) (g.D.Disk.may_hold e) c.args.unsynced.now.items c.args.lost.now.entries c.find.new.lost.entries found written c.in_ok-hand_down.ensures.durable (subst (λ (ws : List SectorWrite). MayAdd ws (g.D.Disk.may_hold d) (g.D.Disk.may_hold e)) c.deref.ensures.value c.hand_down.ensures.crash) in
    subst (λ (ws : List SectorWrite). MayAdd [] before (may_show (g.D.Disk.keeps e) (g.D.Disk.may_hold e) c.find.new.lost.entries ws)) (sym c.clear.ensures.items)
    (subst (λ (b : Bool). MayAdd [] before (may_show b (g.D.Disk.may_hold e) c.find.new.lost.entries [])) (sym c.hand_down.ensures.keeps) adds)

pub returns-clause-marks : goal.returns-clause-marks
returns-clause-marks g c = subst (λ (ws : List SectorWrite). Found ws c.args.lost.now.entries c.find.new.lost.entries) c.deref-2.ensures.value c.find.ensures.lost
