-- A replica once a block was written, so far or to its end.
use Rattle.std.proofs.Common.{◌≡◌, ℕ, ◌≤◌, Bool, true, Some, refl}
use Rattle.ag_model.specs.declared.record.Log.{Log}
use Rattle.ag_outside.specs.Disks.{Content, Image}
use Rattle.ag_outside.specs.Scripts.{ScriptedView}
use Rattle.ag_outside.specs.Shown.{reads_of, holds_of}
use Rattle.ag_logstore.specs.Stored.{log_end}
use Rattle.ag_logstore.specs.Stores.{StoreView, IsReady}
use Rattle.ag_kept.specs.Ending.{IsSettled}
use Rattle.ag_kept.specs.Standing.{IsMemory, IsAtHome, IsStore, LeavesLog}
use Rattle.ag_kept.proofs.Stores.{after_home, after_memory}

module _ {D : Type 0} (size : D → ℕ) (keeps : D → Bool) (reads : D → Image) (may_hold : D → ℕ → Content → Type 0) (disk : ScriptedView D) (s : StoreView) (room : log_end ≤ size disk.disk) (home : IsAtHome keeps reads disk) (memory : IsMemory keeps reads may_hold disk s)
    (new : ScriptedView D) (log : Log) (settled : IsSettled keeps disk new) (leaves : LeavesLog (reads_of reads disk) s.cut s.incarnation log (reads_of reads new)) where
  store : IsStore size keeps reads may_hold disk (Some s) true
  store = record { room = room; stands = λ e. home; loaded = λ e. memory }

  pub home_after : IsAtHome keeps reads new
  home_after = after_home size keeps reads may_hold disk (Some s) true s store refl refl new log settled leaves

  pub memory_after : (t : StoreView) → t ≡ record s { log = log } → IsReady (keeps new.disk) (reads_of reads new) (holds_of keeps may_hold new) t → IsMemory keeps reads may_hold new t
  memory_after = after_memory size keeps reads may_hold disk (Some s) true s store refl refl new log settled leaves
