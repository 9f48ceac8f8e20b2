-- What reading the sectors of a page finds.
use Rattle.std.specs.Prelude.{◌≡◌, ℕ, ◌⊎◌, List, false, Some, None, Result, Ok, Err}
use Rattle.ag_model.specs.declared.answer.Cell.{Cell}
use Rattle.ag_outside.specs.Calls.{Call, Leads, FailsAtRead}
use Rattle.ag_outside.specs.Disks.{Content}
use Rattle.ag_model.specs.Cells.{has_lost}
use Rattle.ag_page.specs.declared.home.Got.TheVariants.{Sound, Torn as TornImage, Lost}
use Rattle.ag_page.specs.Home.{cell_of, cells_of, readable, found}
use Rattle.ag_pagestore.specs.declared.fault.PageReadFault.{PageReadFault}
use Rattle.ag_pagestore.specs.declared.fault.PageReadFault.TheVariants.{Unreadable, Torn, DiskFault, NoMemory}

-- the cell of a sector, and its bytes unless it is lost
pub record IsSector (content : Content) (cell : Cell) (bytes : List ℕ) : Type 0 where
  pub told : cell_of content ≡ cell
  pub either : (content ≡ None) ⊎ (content ≡ Some bytes)

-- the cells of these sectors, and their bytes where none is lost
pub record IsFound (sectors : List Content) (cells : List Cell) (image : List (List ℕ)) : Type 0 where
  pub same : cells_of sectors ≡ cells
  pub bytes : has_lost cells ≡ false → sectors ≡ readable image

-- the disk was read, and nothing else, until a read failed
pub record ReadsUntilFault {D : Type 0} (did : D → Call → D → Type 0) (old new : D) : Type 0 where
  pub calls : List Call
  pub leads : Leads did old calls new
  pub last : FailsAtRead calls

-- the answer of a read: by what is found of the image, unless the disk failed or memory was refused
abbrev pub IsReadAs : List Content → Result (Unit {0}) PageReadFault → Type 0
IsReadAs sectors (Ok _) = found sectors ≡ Sound
IsReadAs sectors (Err Unreadable) = found sectors ≡ Lost
IsReadAs sectors (Err Torn) = found sectors ≡ TornImage
IsReadAs sectors (Err DiskFault) = Unit {0}
IsReadAs sectors (Err NoMemory) = Unit {0}
