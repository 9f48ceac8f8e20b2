use Rattle.std.proofs.Common.{Ok, ap, sym, ◌∙◌, arith}
use Rattle.ag_outside.specs.Shown.{reads_of}
use Rattle.ag_kept.specs.declared.reach.Reach.{Reach}
use Rattle.ag_kept.specs.Standing.{LeavesLog, reached_log}
use Rattle.ag_kept_t.proofs.Written.{home_after, memory_after}
use Rattle.ag_kept_t.proofs.replica.Up.harden.Goals as goal

pub invariant_of-result : goal.invariant_of-result
invariant_of-result g c =
    let d = g.D.Disk in
    let old = c.self.inside.disk in
    let s = c.self.inside.store in
    let new = c.append.new.disk in
    let log = reached_log s c.in_ok-records.records c.in-Ok-End.field-0 in
    let leaves : LeavesLog (reads_of d.reads old) s.cut s.incarnation log (reads_of d.reads new) = c.in-Ok-End.ensures.log in
    let settled = c.in-Ok-End.ensures.settled in
    let done = c.in-Ok-End.is ∙ ap (λ (r : Reach). Ok r) c.in-Ok-End.field-0-is in (
      omega (arith, c.append.ensures.size, c.self.invariant.0),
      home_after d.size d.keeps d.reads d.may_hold old s c.self.invariant.0 c.self.invariant.1 c.self.invariant.2 new log settled leaves,
      memory_after d.size d.keeps d.reads d.may_hold old s c.self.invariant.0 c.self.invariant.1 c.self.invariant.2 new log settled leaves c.append.new.store
          (c.append.ensures.store done ∙ ap (λ (r : Reach). record s { log = reached_log s c.in_ok-records.records r }) (sym c.in-Ok-End.field-0-is))
          (c.append.ensures.ready done),
    )

pub invariant_of-result-in-Ok : goal.invariant_of-result-in-Ok
invariant_of-result-in-Ok g c =
    let d = g.D.Disk in
    let old = c.self.inside.disk in
    let s = c.self.inside.store in
    let new = c.append.new.disk in
    let log = reached_log s c.in_ok-records.records c.in-Ok.reach in
    let leaves : LeavesLog (reads_of d.reads old) s.cut s.incarnation log (reads_of d.reads new) = c.in-Ok.ensures.log in (
      omega (arith, c.append.ensures.size, c.self.invariant.0),
      home_after d.size d.keeps d.reads d.may_hold old s c.self.invariant.0 c.self.invariant.1 c.self.invariant.2 new log c.in-Ok.ensures.settled leaves,
    )
