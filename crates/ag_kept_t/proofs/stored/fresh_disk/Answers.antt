use Rattle.std.proofs.Common.{◌≡◌, ◌∙◌, ap, []}
use Rattle.ag_outside.specs.declared.mem_disk.MemDisk.{MemDisk}
use Rattle.ag_outside.specs.Disks.{Image}
use Rattle.ag_outside.specs.MemDisks.{mem_reads}
use Rattle.ag_outside.specs.Scripts.{ScriptedView, shown}
use Rattle.ag_logstore.specs.Stored.{incarnation_at}
use Rattle.ag_kept_t.proofs.stored.fresh_disk.Goals as goal

pub returns : goal.returns
returns c = λ at.
    let s = c.arm.new.self in
    let disk = ap (λ (x : ScriptedView MemDisk). x.disk) c.arm.ensures ∙ ap (λ (x : ScriptedView MemDisk). x.disk) c.new-disk.ensures in
    let lost = ap (λ (x : ScriptedView MemDisk). x.lost) c.arm.ensures ∙ ap (λ (x : ScriptedView MemDisk). x.lost) c.new-disk.ensures in
    let unsynced = ap (λ (x : ScriptedView MemDisk). x.unsynced) c.arm.ensures ∙ ap (λ (x : ScriptedView MemDisk). x.unsynced) c.new-disk.ensures in
    ap (λ ws. incarnation_at (shown (mem_reads s.disk) s.lost ws) at) unsynced
    ∙ ap (λ ls. incarnation_at (shown (mem_reads s.disk) ls []) at) lost
    ∙ ap (λ (x : Image). incarnation_at x at) (ap mem_reads disk ∙ c.new-below.ensures.reads)
