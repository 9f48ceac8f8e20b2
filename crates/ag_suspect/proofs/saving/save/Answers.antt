use Rattle.std.proofs.Common.{ap, ◌∙◌, Err, inl, subst, List, ℕ, [], ◌∷◌, ◌+◌, ◌/◌}
use Rattle.ag_lists.proofs.Results.{err_is}
use Rattle.ag_outside.specs.Disks.{MayAdd}
use Rattle.ag_outside.specs.Calls.{TakesAll, FailsOnTheWay}
use Rattle.ag_outside.proofs.Running.{started, goes_on}
use Rattle.ag_suspect.specs.Places.{sector_with}
use Rattle.ag_suspect.specs.Saving.{IsOldOrNew}
use Rattle.ag_suspect.proofs.Runs.{took, sync_failed, write_failed}
use Rattle.ag_suspect.proofs.Kept.{old_or_new, still_old_or_new}
use Rattle.ag_suspect.proofs.saving.save.Goals as goal

pub returns-in-Ok-sync-clause-any_moment : goal.returns-in-Ok-sync-clause-any_moment
returns-in-Ok-sync-clause-any_moment g c =
    let d = g.D.Disk in
    let a = c.args.disk.now in
    let w = sector_with c.args.place c.args.rows.now in
    let P = IsOldOrNew (d.may_hold a) w in
    let added = subst (λ (bytes : List ℕ). MayAdd (record { at = 1 + c.args.place / 16; sector = bytes } ∷ []) (d.may_hold a) (d.may_hold c.write.new.self)) c.sector_of-sector.ensures c.write.ensures.crash in
    let start = started d.moment d.left_since a P (λ image left at. inl (g.met.D.Disk.only_now a image left at)) in
    let written = goes_on d.moment d.left_since a a c.write.new.self P _ _ start c.write.ensures.time (old_or_new (d.may_hold a) (d.may_hold c.write.new.self) w added) in
    goes_on d.moment d.left_since a c.write.new.self c.sync.new.self P _ _ written c.sync.ensures.time (still_old_or_new (d.may_hold a) (d.may_hold c.write.new.self) w added (d.may_hold c.sync.new.self) c.sync.ensures.crash)

pub returns-in-Err-sync-clause-any_moment : goal.returns-in-Err-sync-clause-any_moment
returns-in-Err-sync-clause-any_moment g c =
    let d = g.D.Disk in
    let a = c.args.disk.now in
    let w = sector_with c.args.place c.args.rows.now in
    let P = IsOldOrNew (d.may_hold a) w in
    let added = subst (λ (bytes : List ℕ). MayAdd (record { at = 1 + c.args.place / 16; sector = bytes } ∷ []) (d.may_hold a) (d.may_hold c.write.new.self)) c.sector_of-sector.ensures c.write.ensures.crash in
    let start = started d.moment d.left_since a P (λ image left at. inl (g.met.D.Disk.only_now a image left at)) in
    let written = goes_on d.moment d.left_since a a c.write.new.self P _ _ start c.write.ensures.time (old_or_new (d.may_hold a) (d.may_hold c.write.new.self) w added) in
    goes_on d.moment d.left_since a c.write.new.self c.sync.new.self P _ _ written c.sync.ensures.time (still_old_or_new (d.may_hold a) (d.may_hold c.write.new.self) w added (d.may_hold c.sync.new.self) c.sync.ensures.crash)

pub returns-in-Err-clause-any_moment : goal.returns-in-Err-clause-any_moment
returns-in-Err-clause-any_moment g c =
    let d = g.D.Disk in
    let a = c.args.disk.now in
    let w = sector_with c.args.place c.args.rows.now in
    let P = IsOldOrNew (d.may_hold a) w in
    let added = subst (λ (bytes : List ℕ). MayAdd (record { at = 1 + c.args.place / 16; sector = bytes } ∷ []) (d.may_hold a) (d.may_hold c.write.new.self)) c.sector_of-sector.ensures c.write.ensures.crash in
    let start = started d.moment d.left_since a P (λ image left at. inl (g.met.D.Disk.only_now a image left at)) in
    goes_on d.moment d.left_since a a c.write.new.self P _ _ start c.write.ensures.time (old_or_new (d.may_hold a) (d.may_hold c.write.new.self) w added)

pub returns-in-Ok-sync-clause-calls : goal.returns-in-Ok-sync-clause-calls
returns-in-Ok-sync-clause-calls g c =
    let first = 1 + c.args.place / 16 in
    subst (λ (bytes : List ℕ). TakesAll g.D.Disk.did c.args.disk.now (record { first = first; sectors = bytes ∷ [] } ∷ []) c.sync.new.self) c.sector_of-sector.ensures
    (took g.D.Disk.did first (c.sector_of-sector.result ∷ []) c.args.disk.now c.write.new.self c.sync.new.self c.write.result c.sync.result c.write.ensures.did c.sync.ensures.did c.in-Ok.is c.in-Ok-sync.is)

pub returns-in-Err-sync-clause-broken : goal.returns-in-Err-sync-clause-broken
returns-in-Err-sync-clause-broken g c = λ failed.
    let first = 1 + c.args.place / 16 in
    subst (λ (bytes : List ℕ). FailsOnTheWay g.D.Disk.did c.args.disk.now (record { first = first; sectors = bytes ∷ [] } ∷ []) c.sync.new.self) c.sector_of-sector.ensures
    (sync_failed g.D.Disk.did first (c.sector_of-sector.result ∷ []) c.args.disk.now c.write.new.self c.sync.new.self c.write.result c.sync.result c.write.ensures.did c.sync.ensures.did c.in-Ok.is
    (c.in-Err-sync.is ∙ ap (λ e. Err e) (c.fault_of.ensures.failed (err_is failed))))

pub returns-in-Err-clause-broken : goal.returns-in-Err-clause-broken
returns-in-Err-clause-broken g c = λ failed.
    let first = 1 + c.args.place / 16 in
    subst (λ (bytes : List ℕ). FailsOnTheWay g.D.Disk.did c.args.disk.now (record { first = first; sectors = bytes ∷ [] } ∷ []) c.write.new.self) c.sector_of-sector.ensures
    (write_failed g.D.Disk.did first (c.sector_of-sector.result ∷ []) c.args.disk.now c.write.new.self c.write.result c.write.ensures.did (c.in-Err.is ∙ ap (λ e. Err e) (c.fault_of-in-Err.ensures.failed (err_is failed))))
