use Rattle.std.proofs.Common.{◌≡◌, Some, None, IsTrue, List, ◌∙◌, subst, sym, ap}
use Rattle.ag_outside.specs.declared.disk.SectorWrite.{SectorWrite}
use Rattle.ag_outside.specs.Disks.{put_all}
use Rattle.ag_outside.specs.Scripts.{ScriptedView, overlay}
use Rattle.ag_outside.specs.Shown.{reads_of}
use Rattle.ag_outside.proofs.Puts.{newest-some, reads_below, reads_lost}
use Rattle.ag_outside.proofs.scripted.ScriptedDisk.read.Goals as goal

pub returns-in-Some-clause-bytes : goal.returns-in-Some-clause-bytes
returns-in-Some-clause-bytes g c =
    let i = c.self.inside in
    let newest = ap (λ (ws : List SectorWrite). put_all (λ _. None) ws c.args.at) (sym c.deref.ensures.value) ∙ sym c.newest.ensures ∙ c.in-Some.is in
    λ _ k. subst (λ (s : ScriptedView _). reads_of g.D.Disk.reads s c.args.at ≡ Some c.in-Some.sector) c.self.view_is (newest-some (overlay i.lost.entries (g.D.Disk.reads i.disk)) i.unsynced.items c.args.at c.in-Some.sector newest)

pub returns-in-None-clause-lost : goal.returns-in-None-clause-lost
returns-in-None-clause-lost g c =
    let i = c.self.inside in
    let none = ap (λ (ws : List SectorWrite). put_all (λ _. None) ws c.args.at) (sym c.deref.ensures.value) ∙ sym c.newest.ensures ∙ c.in-None.is in
    λ _ k. subst (λ (s : ScriptedView _). reads_of g.D.Disk.reads s c.args.at ≡ None) c.self.view_is (reads_lost (g.D.Disk.reads i.disk) i.lost.entries i.unsynced.items c.args.at none (sym c.contains_key.ensures ∙ c.if-contains_key.true))

pub returns-in_default-2-clause-bytes : goal.returns-in_default-2-clause-bytes
returns-in_default-2-clause-bytes g c =
    let i = c.self.inside in
    let none = ap (λ (ws : List SectorWrite). put_all (λ _. None) ws c.args.at) (sym c.deref.ensures.value) ∙ sym c.newest.ensures ∙ c.in-None-2.is in
    λ found k. subst (λ (s : ScriptedView _). reads_of g.D.Disk.reads s c.args.at ≡ Some c.read.new.into) c.self.view_is (reads_below (g.D.Disk.reads i.disk) i.lost.entries i.unsynced.items c.args.at (Some c.read.new.into) none (sym c.contains_key.ensures ∙ c.if-contains_key.false) (c.read.ensures.bytes found (subst (λ (s : ScriptedView _). IsTrue (g.D.Disk.keeps s.disk)) (sym c.self.view_is) k)))

pub returns-in_default-2-clause-lost : goal.returns-in_default-2-clause-lost
returns-in_default-2-clause-lost g c =
    let i = c.self.inside in
    let none = ap (λ (ws : List SectorWrite). put_all (λ _. None) ws c.args.at) (sym c.deref.ensures.value) ∙ sym c.newest.ensures ∙ c.in-None-2.is in
    λ found k. subst (λ (s : ScriptedView _). reads_of g.D.Disk.reads s c.args.at ≡ None) c.self.view_is (reads_below (g.D.Disk.reads i.disk) i.lost.entries i.unsynced.items c.args.at None none (sym c.contains_key.ensures ∙ c.if-contains_key.false) (c.read.ensures.lost found (subst (λ (s : ScriptedView _). IsTrue (g.D.Disk.keeps s.disk)) (sym c.self.view_is) k)))
