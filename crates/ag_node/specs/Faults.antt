-- Why a node gives up, by why its store did.
use Rattle.ag_kept.specs.declared.fault.KeptFault.{KeptFault}
use Rattle.ag_kept.specs.declared.fault.KeptFault.TheVariants.{DiskFault as DiskFailed, NoMemory as MemoryRefused}
use Rattle.ag_node.specs.declared.fault.NodeFault.{NodeFault}
use Rattle.ag_node.specs.declared.fault.NodeFault.TheVariants.{DiskFault, NoMemory}

-- the fault of a node whose store has this one
abbrev pub node_fault : KeptFault → NodeFault
node_fault DiskFailed = DiskFault
node_fault MemoryRefused = NoMemory
