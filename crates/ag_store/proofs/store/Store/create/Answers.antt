use Rattle.std.proofs.Common.{ap, ◌∙◌, arith}
use Rattle.ag_outside.specs.Scripts.{ScriptedView}
use Rattle.ag_outside.specs.Shown.{reads_of}
use Rattle.ag_store.proofs.Opening.{opened_store, opened_seen}
use Rattle.ag_store.proofs.store.Store.create.Goals as goal

pub invariant_of-result : goal.invariant_of-result
invariant_of-result g c =
    let d = g.D.Disk in
    opened_store d.size d.keeps d.reads d.may_hold (reads_of d.reads c.new-disk.result) (λ at. ap (λ (v : ScriptedView _). reads_of d.reads v at) c.new-disk.ensures ∙ c.requires.zeros at) (λ page. c.images.ensures.zeros 0 page)
    c.open.new.disk c.args.pages _ c.requires.low c.requires.high (omega (arith, c.requires.room, c.open.ensures.size, ap (λ (v : ScriptedView _). d.size v.disk) c.new-disk.ensures))
    c.in-Ok.ensures.home c.in-Ok.log c.in-Ok.ensures.memory c.in-Ok.ensures.kept c.in-Ok.ensures.pages
    c.in-Ok-new.clean c.in-Ok-new.ensures.count c.in-Ok-new.ensures.applied c.in-Ok-new.ensures.empty

pub returns-in-Ok-new-clause-store : goal.returns-in-Ok-new-clause-store
returns-in-Ok-new-clause-store g c =
    let d = g.D.Disk in
    opened_seen d.size d.keeps d.reads d.may_hold (reads_of d.reads c.new-disk.result) (λ at. ap (λ (v : ScriptedView _). reads_of d.reads v at) c.new-disk.ensures ∙ c.requires.zeros at) (λ page. c.images.ensures.zeros 0 page)
    c.open.new.disk c.args.pages c.args.replica c.requires.low c.requires.high (omega (arith, c.requires.room, c.open.ensures.size, ap (λ (v : ScriptedView _). d.size v.disk) c.new-disk.ensures))
    c.in-Ok.ensures.home c.in-Ok.log c.in-Ok.ensures.memory c.in-Ok.ensures.kept c.in-Ok.ensures.pages
    c.in-Ok-new.clean c.in-Ok-new.ensures.count c.in-Ok-new.ensures.applied c.in-Ok-new.ensures.empty (d.faults c.open.new.disk.disk)
