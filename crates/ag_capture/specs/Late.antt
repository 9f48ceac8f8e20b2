-- Who is waited for before a commit may be confirmed.
use Rattle.std.specs.Prelude.{ℕ, List}
use Rattle.ag_rules.specs.AckEvent.{late_members, late_of}
use Rattle.ag_capture.specs.Captured.{Captured}

-- the late members of a set of the 16 replicas
unfoldable pub late_among : Captured → ℕ → ℕ → List ℕ
late_among c lsn synced = late_members 16 c.peers lsn synced

-- the primary itself, if it is late, and else the late members
abbrev pub waited_for : Captured → ℕ → ℕ → ℕ → List ℕ
waited_for c lsn own synced = late_of c.primary own lsn (late_among c lsn synced)
