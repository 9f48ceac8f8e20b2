-- What a sector is.
use Rattle.std.specs.Prelude.{◌≡◌, ◌⊎◌, ℕ, List, replicate, Option, Some, None}
use Rattle.ag_outside.specs.Disks.{Content, Image}
use Rattle.ag_master.specs.declared.master.Master.{Master}
use Rattle.ag_master.specs.declared.sector.Loaded.{Loaded}
use Rattle.ag_master.specs.declared.sector.Loaded.TheVariants.{Fresh, Is, Other}
use Rattle.ag_master.specs.Spelling.{spelling, HasSpelling}

-- all zero, or a master, or neither
abbrev pub IsLoaded : List ℕ → Loaded → Type 0
IsLoaded bytes Fresh = bytes ≡ replicate 512 0
IsLoaded bytes (Is m) = HasSpelling m × (bytes ≡ spelling m)
IsLoaded bytes Other = (bytes ≡ replicate 512 0 → ⊥) × ((m : Master) → HasSpelling m → bytes ≡ spelling m → ⊥)

-- an image that has in sector 0 this master or what might have been there, and in each other sector what might have been there
abbrev pub IsOldOrNew : (ℕ → Content → Type 0) → Master → Image → Type 0
IsOldOrNew may_hold m image = (at : ℕ) → may_hold at (image at) ⊎ (at ≡ 0) × (image at ≡ Some (spelling m))
