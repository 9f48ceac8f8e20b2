use Rattle.std.proofs.Common.{◌≡◌, [], ◌∷◌, ap, ◌∙◌, subst, refl, inl, inr, Ok, Err, Result}
use Rattle.ag_outside.specs.declared.disk.DiskError.TheVariants.{Failed}
use Rattle.ag_outside.specs.declared.disk.Found.TheVariants.{Bytes, Lost}
use Rattle.ag_outside.specs.Calls.{Call, Read_call}
use Rattle.ag_master.proofs.Saving.{err_is}
use Rattle.ag_master.proofs.store.load.Goals as goal

pub returns-in-Ok-Bytes-clause-calls : goal.returns-in-Ok-Bytes-clause-calls
returns-in-Ok-Bytes-clause-calls g c = record { calls = Read_call 0 c.read.result ∷ []; leads = (c.read.new.self, c.read.ensures.did, refl); reads = refl }

pub returns-in-Ok-Lost-clause-calls : goal.returns-in-Ok-Lost-clause-calls
returns-in-Ok-Lost-clause-calls g c = record { calls = Read_call 0 c.read.result ∷ []; leads = (c.read.new.self, c.read.ensures.did, refl); reads = refl }

pub returns-in-Err-clause-broken : goal.returns-in-Err-clause-broken
returns-in-Err-clause-broken g c = λ failed.
    let is = c.in-Err.is ∙ ap (λ e. Err e) (c.fault.ensures.failed (err_is failed)) in
    record { calls = Read_call 0 c.read.result ∷ []; leads = (c.read.new.self, c.read.ensures.did, refl); last = inr ([], 0, ap (λ r. Read_call 0 r ∷ []) is) }
