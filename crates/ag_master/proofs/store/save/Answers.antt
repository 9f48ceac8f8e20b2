use Rattle.std.proofs.Common.{◌≡◌, ◌⊎◌, ℕ, Some, List, [], ◌∷◌, subst, ◌∙◌, ap, refl, inl, inr, Err}
use Rattle.ag_outside.specs.declared.disk.SectorWrite.{SectorWrite}
use Rattle.ag_outside.specs.Calls.{Write_call, Sync_call}
use Rattle.ag_outside.specs.Disks.{Content, Image, WroteSo, MayAdd, IsImage}
use Rattle.ag_outside.proofs.Running.{started, goes_on}
use Rattle.ag_master.specs.Spelling.{spelling}
use Rattle.ag_master.specs.Loading.{IsOldOrNew}
use Rattle.ag_master.proofs.Saving.{old_or_new, still_old_or_new, err_is, both}
use Rattle.ag_master.proofs.store.save.Goals as goal

pub returns-in-Ok-sync-clause-any_moment : goal.returns-in-Ok-sync-clause-any_moment
returns-in-Ok-sync-clause-any_moment g c =
    let d = c.args.disk.now in
    let hold = g.D.Disk.may_hold d in
    let m = c.args.m.now in
    let P = IsOldOrNew hold m in
    let start = started g.D.Disk.moment g.D.Disk.left_since d P (λ image left at. inl (g.met.D.Disk.only_now d image left at)) in
    let added = subst (λ (bytes : List ℕ). MayAdd (record { at = 0; sector = bytes } ∷ []) hold (g.D.Disk.may_hold c.write.new.self)) c.encode.ensures c.write.ensures.crash in
    let written = goes_on g.D.Disk.moment g.D.Disk.left_since d d c.write.new.self P _ _ start c.write.ensures.time (old_or_new hold (g.D.Disk.may_hold c.write.new.self) m added) in
    goes_on g.D.Disk.moment g.D.Disk.left_since d c.write.new.self c.sync.new.self P _ _ written c.sync.ensures.time (still_old_or_new hold (g.D.Disk.may_hold c.write.new.self) (g.D.Disk.may_hold c.sync.new.self) m added c.sync.ensures.crash)

pub returns-in-Err-sync-clause-any_moment : goal.returns-in-Err-sync-clause-any_moment
returns-in-Err-sync-clause-any_moment g c =
    let d = c.args.disk.now in
    let hold = g.D.Disk.may_hold d in
    let m = c.args.m.now in
    let P = IsOldOrNew hold m in
    let start = started g.D.Disk.moment g.D.Disk.left_since d P (λ image left at. inl (g.met.D.Disk.only_now d image left at)) in
    let added = subst (λ (bytes : List ℕ). MayAdd (record { at = 0; sector = bytes } ∷ []) hold (g.D.Disk.may_hold c.write.new.self)) c.encode.ensures c.write.ensures.crash in
    let written = goes_on g.D.Disk.moment g.D.Disk.left_since d d c.write.new.self P _ _ start c.write.ensures.time (old_or_new hold (g.D.Disk.may_hold c.write.new.self) m added) in
    goes_on g.D.Disk.moment g.D.Disk.left_since d c.write.new.self c.sync.new.self P _ _ written c.sync.ensures.time (still_old_or_new hold (g.D.Disk.may_hold c.write.new.self) (g.D.Disk.may_hold c.sync.new.self) m added c.sync.ensures.crash)

pub returns-in-Ok-sync-clause-calls : goal.returns-in-Ok-sync-clause-calls
returns-in-Ok-sync-clause-calls g c = record {
  calls = Write_call 0 (c.encode.result ∷ []) c.write.result ∷ Sync_call c.sync.result ∷ [];
  leads = (c.write.new.self, c.write.ensures.did, (c.sync.new.self, c.sync.ensures.did, refl));
  all = ap (λ bytes. Write_call 0 (bytes ∷ []) c.write.result ∷ Sync_call c.sync.result ∷ []) c.encode.ensures ∙ both (spelling c.args.m.now) c.in-Ok.is c.in-Ok-sync.is;
}

pub returns-in-Err-sync-clause-broken : goal.returns-in-Err-sync-clause-broken
returns-in-Err-sync-clause-broken g c = λ failed. record {
  calls = Write_call 0 (c.encode.result ∷ []) c.write.result ∷ Sync_call c.sync.result ∷ [];
  leads = (c.write.new.self, c.write.ensures.did, (c.sync.new.self, c.sync.ensures.did, refl));
  last = inl (inr (
    Sync_call c.sync.result ∷ [],
    ap (λ bytes. Write_call 0 (bytes ∷ []) c.write.result ∷ Sync_call c.sync.result ∷ []) c.encode.ensures ∙ ap (λ r. Write_call 0 (spelling c.args.m.now ∷ []) r ∷ Sync_call c.sync.result ∷ []) c.in-Ok.is,
    ap (λ r. Sync_call r ∷ []) (c.in-Err-sync.is ∙ ap (λ e. Err e) (c.fault.ensures.failed (err_is failed))),
  ));
}

pub returns-in-Err-clause-broken : goal.returns-in-Err-clause-broken
returns-in-Err-clause-broken g c = λ failed. record {
  calls = Write_call 0 (c.encode.result ∷ []) c.write.result ∷ [];
  leads = (c.write.new.self, c.write.ensures.did, refl);
  last = inl (inl (ap (λ bytes. Write_call 0 (bytes ∷ []) c.write.result ∷ []) c.encode.ensures ∙ ap (λ r. Write_call 0 (spelling c.args.m.now ∷ []) r ∷ []) (c.in-Err.is ∙ ap (λ e. Err e) (c.fault-in-Err.ensures.failed (err_is failed)))));
}
