-- A call of a disk with what came of it, and calls one after the other.
use Rattle.std.specs.Prelude.{◌≡◌, ◌⊎◌, ℕ, List, [], ◌∷◌, ◌++◌, Result, Ok, Err}
use Rattle.ag_outside.specs.declared.disk.Found.{Found}
use Rattle.ag_outside.specs.declared.disk.DiskError.{DiskError}
use Rattle.ag_outside.specs.declared.disk.DiskError.TheVariants.{Failed}

-- a call, and its answer
pub data Call : Type 0 where
  Write_call : (first : ℕ) (sectors : List (List ℕ)) (result : Result (Unit {0}) DiskError) → Call
  Read_call : (at : ℕ) (result : Result Found DiskError) → Call
  Sync_call : (result : Result (Unit {0}) DiskError) → Call

-- these calls, in turn, lead from the one disk to the other
abbrev pub Leads : {D : Type 0} → (D → Call → D → Type 0) → D → List Call → D → Type 0
Leads did old [] new = new ≡ old
Leads {D = D} did old (call ∷ calls) new = (mid : D) × did old call mid × Leads did mid calls new

-- the calls but for reads
abbrev pub changing : List Call → List Call
changing [] = []
changing (Write_call first sectors result ∷ calls) = Write_call first sectors result ∷ changing calls
changing (Read_call at result ∷ calls) = changing calls
changing (Sync_call result ∷ calls) = Sync_call result ∷ changing calls

-- sectors that are written in one call, one after the other from a place on
pub record Piece : Type 0 where
  pub first : ℕ
  pub sectors : List (List ℕ)

-- each piece written, and then a sync
abbrev pub all_went : List Piece → List Call
all_went [] = Sync_call (Ok (record {})) ∷ []
all_went (piece ∷ pieces) = Write_call piece.first piece.sectors (Ok (record {})) ∷ all_went pieces

-- the same up to the first call that failed
abbrev pub BreaksOff : List Piece → List Call → Type 0
BreaksOff [] calls = calls ≡ Sync_call (Err Failed) ∷ []
BreaksOff (piece ∷ pieces) calls =
    (calls ≡ Write_call piece.first piece.sectors (Err Failed) ∷ []) ⊎ ((others : List Call) × (calls ≡ Write_call piece.first piece.sectors (Ok (record {})) ∷ others) × BreaksOff pieces others)

-- a read failed, and no call came after it
abbrev pub FailsAtRead : List Call → Type 0
FailsAtRead calls = (before : List Call) × (at : ℕ) × (calls ≡ before ++ Read_call at (Err Failed) ∷ [])

-- the disk took each piece and synced them; there may have been reads too
pub record TakesAll {D : Type 0} (did : D → Call → D → Type 0) (old : D) (pieces : List Piece) (new : D) : Type 0 where
  pub calls : List Call
  pub leads : Leads did old calls new
  pub all : changing calls ≡ all_went pieces

-- the disk failed on the way
pub record FailsOnTheWay {D : Type 0} (did : D → Call → D → Type 0) (old : D) (pieces : List Piece) (new : D) : Type 0 where
  pub calls : List Call
  pub leads : Leads did old calls new
  pub last : BreaksOff pieces (changing calls) ⊎ FailsAtRead calls

-- the disk was read, and nothing else
pub record IsReadOnly {D : Type 0} (did : D → Call → D → Type 0) (old new : D) : Type 0 where
  pub calls : List Call
  pub leads : Leads did old calls new
  pub reads : changing calls ≡ []
