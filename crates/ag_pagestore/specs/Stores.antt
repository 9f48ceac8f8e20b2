-- What is seen of a page store.
use Rattle.std.specs.Prelude.{◌≡◌}
use Rattle.std.specs.Borrow.{MutBor}
use Rattle.ag_pagestore.specs.declared.store.PageStore.{PageStore}
use Rattle.ag_pagestore.specs.Homes.{Held}

-- the disk, as it is now
abbrev pub disk_of : {D : Type 0} → PageStore D → D
disk_of s = s.disk.now

-- the disk, and how often memory was refused
abbrev pub held : {D : Type 0} → PageStore D → Held D
held s = record { disk = s.disk.now; refusals = s.refusals }

-- the store is over the disk behind this reference
abbrev pub IsOver : {D : Type 0} → PageStore D → MutBor D → Type 0
IsOver s r = s.disk.ghost_name ≡ r.ghost_name

-- both are over the same disk
abbrev pub AreOverOne : {D : Type 0} → PageStore D → PageStore D → Type 0
AreOverOne a b = b.disk.ghost_name ≡ a.disk.ghost_name
