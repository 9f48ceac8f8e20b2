-- How a master is saved.
use Rattle.std.specs.Prelude.{ℕ, Bool, [], ◌∷◌}
use Rattle.ag_outside.specs.declared.order.Arm.TheVariants.{Free}
use Rattle.ag_outside.specs.declared.order.Why.TheVariants.{Nothing}
use Rattle.ag_outside.specs.Calls.{Piece, TakesAll, IsReadOnly}
use Rattle.ag_outside.specs.Disks.{Content, Image}
use Rattle.ag_outside.specs.Scripts.{ScriptedView}
use Rattle.ag_outside.specs.Shown.{did_of}
use Rattle.ag_master.specs.declared.master.Master.{Master}
use Rattle.ag_master.specs.Spelling.{spelling}

-- a disk whose order was taken back, and whose counts begin anew
abbrev pub freed : {D : Type 0} → ScriptedView D → ScriptedView D
freed v = record v { order = Free; writes = 0; calls = 0; why = Nothing }

-- the sector that a master is
abbrev pub master_piece : Master → Piece
master_piece m = record { first = 0; sectors = spelling m ∷ [] }

-- outside of any order the disk was read, and then it took this master and synced it
pub record SavesMaster {D : Type 0} (keeps : D → Bool) (reads : D → Image) (may_hold : D → ℕ → Content → Type 0) (faults : D → ℕ)
    (old : ScriptedView D) (m : Master) (new : ScriptedView D) : Type 0 where
  pub between : ScriptedView D
  pub read : IsReadOnly (did_of keeps reads may_hold faults) (freed old) between
  pub took : TakesAll (did_of keeps reads may_hold faults) (freed between) (master_piece m ∷ []) new
