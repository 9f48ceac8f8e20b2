-- The log of an image on which no sector names an incarnation.
use Rattle.std.proofs.Common.{◌≡◌, ℕ, ◌≤◌, [], arith}
use Rattle.ag_outside.specs.Disks.{Image}
use Rattle.ag_logstore.specs.Stored.{log_start, IsLogSector, Stored, incarnation_at, Place, first_place, IsNext, no_log}
use Rattle.ag_logstore.specs.LogOf.{IsLogOf}
use Rattle.ag_logstore.specs.Stores.{StoreView, IsCurrent}
use Rattle.ag_logstore.proofs.Standing.{some_sectors, writable, incarnation_is}
use Rattle.ag_logstore.proofs.Chains.{log_from}

-- no block stands where a sector names no incarnation
none_here : (image : Image) (cut incarnation : ℕ) (p : Place) (b : Stored) → IsNext image cut incarnation p b → incarnation_at image p.sector ≡ 0 → ⊥
none_here image cut incarnation p b next zero_ =
    let some = some_sectors b (writable image p.sector b next.stored) in
    let is = incarnation_is image p.sector p.sector b next.stored (omega arith) (omega (arith, some)) in
    let least = next.stored.head.incarnation in
    absurd (omega (arith, is, zero_, least))

pub no_blocks : (image : Image) (cut incarnation : ℕ) → ((at : ℕ) → IsLogSector at → incarnation_at image at ≡ 0) → IsLogOf image cut incarnation no_log
no_blocks image cut incarnation zeros = log_from image cut incarnation [] tt (λ b next. none_here image cut incarnation first_place b next (zeros log_start (omega arith, omega arith)))

pub begins : (image : Image) (s : StoreView) → ((at : ℕ) → IsLogSector at → incarnation_at image at ≡ 0) → IsLogOf image s.cut s.incarnation s.log → 1 ≤ s.incarnation → IsCurrent image s
begins image s zeros log some = record {
  log = log;
  greatest = λ at is. omega (arith, zeros at is);
  unused = λ at low high is. omega (arith, zeros at (omega (arith, low), high), is, some);
}
