-- An error that is handed on.
use Rattle.std.proofs.Common.{◌≡◌, Result, Err, sym, ◌∙◌}
use Rattle.std.specs.Result.{IsErrOf}
use Rattle.ag_outside.specs.declared.disk.DiskError.{DiskError}
use Rattle.ag_outside.specs.declared.disk.DiskError.TheVariants.{Failed}

-- what was handed on is the disk's own fault
pub failed_is : {T : Type 0} (r : Result T DiskError) (e : DiskError) → (y : DiskError) × (r ≡ Err y) × (y ≡ e) → IsErrOf r Failed → e ≡ Failed
failed_is r e (y, is, same) failed = sym same ∙ (let own : y ≡ Failed = cc (sym is ∙ failed) in own)
