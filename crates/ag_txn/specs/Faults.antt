-- Why a call is refused, as the rules have it.
use Rattle.std.specs.Prelude.{◌≡◌, ◌≢◌, List, [], ◌∷◌, true, false, if◌then◌else◌, Option, Some, None, Result, Ok, Err, MatchResult}
use Rattle.ag_model.specs.declared.answer.Refusal.{Refusal}
use Rattle.ag_model.specs.declared.answer.Refusal.TheVariants.{Locked as LockedHere, Conflict as ConflictHere, PageFull as PageFullHere, BufferFull as BufferFullHere, Held as HeldHere, Spent as SpentHere, Nothing as NothingHere}
use Rattle.ag_rules.specs.Plan.{Check}
use Rattle.ag_txn.specs.declared.fault.TxnFault.{TxnFault}
use Rattle.ag_txn.specs.declared.fault.TxnFault.TheVariants.{Locked, Conflict, PageFull, BufferFull, Held, Spent, Nothing, NoMemory}

-- the refusal that a fault is; want of memory is none
abbrev pub refusal_of : TxnFault → Option Refusal
refusal_of (Locked txn) = Some (LockedHere txn)
refusal_of (Conflict commit snapshot) = Some (ConflictHere commit snapshot)
refusal_of (PageFull need free) = Some (PageFullHere need free)
refusal_of (BufferFull need free) = Some (BufferFullHere need free)
refusal_of (Held horizon limit) = Some (HeldHere horizon limit)
refusal_of Spent = Some SpentHere
refusal_of Nothing = Some NothingHere
refusal_of NoMemory = None

-- the refusal in an answer, if it is one
abbrev pub refusal_in : {T : Type 0} → Result T TxnFault → Option Refusal
refusal_in (Ok x) = None
refusal_in (Err e) = refusal_of e

-- the refusal of the first check that holds, if one does
abbrev pub first_refusal : List Check → Option Refusal
first_refusal [] = None
first_refusal (c ∷ cs) = if c.when then Some c.refusal else first_refusal cs

-- an answer where these checks are made in order: none holds, or it is the refusal of the first that does, or want of memory
abbrev pub IsAllowed : List Check → {T : Type 0} → Result T TxnFault → Type 0
IsAllowed checks r = MatchResult r (λ x. first_refusal checks ≡ None) (λ e. e ≢ NoMemory → refusal_of e ≡ first_refusal checks)

-- a call tells whether a check holds, and is refused so where it does
abbrev pub IsChecked : Check → {T : Type 0} → Result T TxnFault → Type 0
IsChecked c r = MatchResult r (λ x. c.when ≡ false) (λ e. (c.when ≡ true) × (refusal_of e ≡ Some c.refusal))
