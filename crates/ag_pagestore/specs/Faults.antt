-- Which fault stands for an error of the disk.
use Rattle.std.specs.Prelude.{◌≡◌}
use Rattle.ag_outside.specs.declared.disk.DiskError.{DiskError}
use Rattle.ag_outside.specs.declared.disk.DiskError.TheVariants.{Failed, NoMemory}
use Rattle.ag_pagestore.specs.declared.fault.PageReadFault.{PageReadFault}
use Rattle.ag_pagestore.specs.declared.fault.PageReadFault.TheVariants.{DiskFault as ReadDiskFault, NoMemory as ReadNoMemory}
use Rattle.ag_pagestore.specs.declared.fault.PageWriteFault.{PageWriteFault}
use Rattle.ag_pagestore.specs.declared.fault.PageWriteFault.TheVariants.{DiskFault as WriteDiskFault, NoMemory as WriteNoMemory}

-- the fault of a read
abbrev pub IsReadFaultOf : DiskError → PageReadFault → Type 0
IsReadFaultOf Failed fault = fault ≡ ReadDiskFault
IsReadFaultOf NoMemory fault = fault ≡ ReadNoMemory

-- the fault of a batch
abbrev pub IsWriteFaultOf : DiskError → PageWriteFault → Type 0
IsWriteFaultOf Failed fault = fault ≡ WriteDiskFault
IsWriteFaultOf NoMemory fault = fault ≡ WriteNoMemory
