-- What is remembered of a run so far, beside its group.
use Rattle.std.specs.Prelude.{◌≡◌, ℕ, ◌≤◌, List, Bool, ◌==◌, ◌&&◌, if◌then◌else◌}
use Rattle.ag_model.specs.declared.record.Record.{Record}
use Rattle.ag_laws.specs.Logs.{Setting}

-- told n t: the log that replica n last told the primary of term t, by a Hello or an Ack; asked: the term of a replica's last
-- join; target: the primary of a term; safe: whether the failover into a term was safe
pub record Past : Type 0 where
  pub told : ℕ → ℕ → List Record
  pub asked : ℕ → ℕ
  pub target : ℕ → ℕ
  pub safe : ℕ → Bool

-- replica n has told the primary of term t this log
abbrev pub tell : Past → ℕ → ℕ → List Record → Past
tell past n t log = record past { told = λ m u. if (m == n) && (u == t) then log else past.told m u }

-- replica n has joined in term t
abbrev pub ask : Past → ℕ → ℕ → Past
ask past n t = record past { asked = λ m. if m == n then t else past.asked m }

-- the store has made replica n primary of term t, safely or not
abbrev pub move : Past → ℕ → ℕ → Bool → Past
move past t n is_safe = record past { target = λ u. if u == t then n else past.target u; safe = λ u. if u == t then is_safe else past.safe u }

-- the targets are the replicas that the store made primary
abbrev pub Meets : Past → Setting → Type 0
Meets past s = (t : ℕ) → t ≤ s.now → past.target t ≡ s.leader t
