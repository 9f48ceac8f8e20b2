-- The disk below counts no fewer faults after any calls than before them.
use Rattle.std.proofs.Common.{◌≡◌, ℕ, ◌≤◌, List, [], ◌∷◌, Bool, Ok, Err, refl, sym, ap, subst, arith}
use Rattle.std.specs.Prelude.{Result, OnOk, OnErr, IsErr, IsErrOf}
use Rattle.ag_outside.specs.declared.order.Arm.{Arm}
use Rattle.ag_outside.specs.Calls.{Call, Write_call, Read_call, Sync_call, Leads, Piece, TakesAll, FailsOnTheWay, IsReadOnly}
use Rattle.ag_outside.specs.Disks.{Content, Image}
use Rattle.ag_outside.specs.Scripts.{ScriptedView}
use Rattle.ag_outside.specs.Shown.{did_of}
use Rattle.ag_kept.proofs.Calls.{ordered}
use Rattle.ag_durable.specs.declared.fault.DurableFault.{DurableFault}
use Rattle.ag_durable.specs.declared.fault.DurableFault.TheVariants.{DiskFault, NoMemory}

module _ {D : Type 0} (keeps : D → Bool) (reads : D → Image) (may_hold : D → ℕ → Content → Type 0) (faults : D → ℕ) where
  pub calls_later : (calls : List Call) (old new : ScriptedView D) → Leads (did_of keeps reads may_hold faults) old calls new → faults old.disk ≤ faults new.disk
  calls_later [] old new l = subst (λ (v : ScriptedView D). faults old.disk ≤ faults v.disk) (sym l) (omega arith)
  calls_later (Write_call first sectors result ∷ calls) old new l = let one = l.1.later in let rest = calls_later calls l.0 new l.2 in omega (arith, one, rest)
  calls_later (Read_call at result ∷ calls) old new l = let one = l.1.later in let rest = calls_later calls l.0 new l.2 in omega (arith, one, rest)
  calls_later (Sync_call result ∷ calls) old new l = let one = l.1.later in let rest = calls_later calls l.0 new l.2 in omega (arith, one, rest)

  -- a disk that got a new order, and was read
  pub ordered_later : (old armed new : ScriptedView D) (order : Arm) → armed ≡ ordered old order → IsReadOnly (did_of keeps reads may_hold faults) armed new → faults old.disk ≤ faults new.disk
  ordered_later old armed new order is r = subst (λ (n : ℕ). n ≤ faults new.disk) (ap (λ (v : ScriptedView D). faults v.disk) is) (calls_later r.calls armed new r.leads)

  -- a batch that went through, or in which the order was reached
  module _ {A E : Type 0} (fault : E) (old new : ScriptedView D) (pieces : List Piece) where
    pub batch_later : (r : Result A E) (went done : Result (Unit {0}) DurableFault) → OnErr r (IsErr went) → (IsErrOf went DiskFault → IsErrOf r fault) → OnOk done (went ≡ Err NoMemory → ⊥)
        → OnOk r (TakesAll (did_of keeps reads may_hold faults) old pieces new) → (IsErrOf r fault → FailsOnTheWay (did_of keeps reads may_hold faults) old pieces new) → OnOk done (faults old.disk ≤ faults new.disk)
    batch_later (Ok a) went (Ok v) refused failed known calls broken = calls_later calls.calls old new calls.leads
    batch_later (Err e) (Ok u) (Ok v) refused failed known calls broken = absurd (cc refused)
    batch_later (Err e) (Err DiskFault) (Ok v) refused failed known calls broken = let f = broken (failed refl) in calls_later f.calls old new f.leads
    batch_later (Err e) (Err NoMemory) (Ok v) refused failed known calls broken = absurd (known refl)
    batch_later r went (Err f) refused failed known calls broken = tt
