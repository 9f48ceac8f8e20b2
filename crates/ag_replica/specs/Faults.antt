-- Why a replica gives up, by why its data did.
use Rattle.ag_durable.specs.declared.fault.DurableFault.{DurableFault}
use Rattle.ag_durable.specs.declared.fault.DurableFault.TheVariants.{DiskFault as DataFailed, NoMemory as DataRefused}
use Rattle.ag_replica.specs.declared.fault.ReplicaFault.{ReplicaFault}
use Rattle.ag_replica.specs.declared.fault.ReplicaFault.TheVariants.{DiskFault, NoMemory}

-- the fault of a replica whose data has this one
abbrev pub replica_fault : DurableFault → ReplicaFault
replica_fault DataFailed = DiskFault
replica_fault DataRefused = NoMemory
