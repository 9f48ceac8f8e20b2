-- Why a group gives up.
use Rattle.std.specs.Prelude.{◌≡◌, ℕ, List, get_or}
use Rattle.ag_outside.specs.Counts.{HasRisen}
use Rattle.ag_node.specs.declared.fault.NodeFault.{NodeFault}
use Rattle.ag_node.specs.declared.fault.NodeFault.TheVariants as Node
use Rattle.ag_group.specs.declared.fault.StepFault.{StepFault}
use Rattle.ag_group.specs.declared.fault.StepFault.TheVariants.{NoMemory, DiskFault, Unlawful}

-- a fault of node n as one of its group
abbrev pub fault_of : ℕ → NodeFault → StepFault
fault_of n Node.DiskFault = DiskFault n
fault_of n Node.NoMemory = NoMemory

-- where the fault is that of a disk, the count of that disk has risen; these are the counts of the disks before and now
abbrev pub IsCounted : StepFault → List ℕ → List ℕ → Type 0
IsCounted fault before now = (n : ℕ) → fault ≡ DiskFault n → HasRisen (get_or before n 0) (get_or now n 0)

-- each disk tells its sectors
abbrev pub IsLawful : StepFault → Type 0
IsLawful fault = (n : ℕ) → fault ≡ Unlawful n → ⊥
