-- What holds of each replica.
use Rattle.std.specs.Prelude.{◌≡◌, ℕ, ◌<◌, ◌≤◌, List, Bool, true, false, None}
use Rattle.std.specs.List.{AllByRecursion}
use Rattle.ag_model.specs.declared.record.Record.{Record}
use Rattle.ag_model.specs.declared.record.Record.TheVariants.{Term}
use Rattle.ag_rules.specs.Replica.{Replica, end, term_of_disk}
use Rattle.ag_laws.specs.Ends.{AreStripes}
use Rattle.ag_laws.specs.Logs.{Logs, Setting}
use Rattle.ag_laws.specs.Disk.{KeptAt}

-- whether a record starts a term
abbrev pub is_term : Record → Bool
is_term (Term t) = true
is_term _ = false

-- no record of these starts a term
abbrev pub NoTerm : List Record → Type 0
NoTerm xs = AllByRecursion (λ x. is_term x ≡ false) xs

-- a replica that acts as primary: the store made it primary of its term, and its buffer starts no term
pub record Leads (s : Setting) (n : ℕ) (r : Replica) : Type 0 where
  pub up : r.up ≡ true
  pub leader : s.leader r.term ≡ n
  pub some : 0 < r.term
  pub buffer : NoTerm r.leading.buffer

-- replica n
pub record At (s : Setting) (logs : Logs) (n : ℕ) (r : Replica) : Type 0 where
  pub kept : KeptAt s logs n r.kept
  pub term : r.term ≡ term_of_disk r.kept
  pub stripes : AreStripes (end r) r.stripes
  pub snapshots : AllByRecursion (λ x. x.lsn ≤ end r) r.following.snapshots
  pub leads : r.leads ≡ true → Leads s n r
  pub down : r.up ≡ false → r.following.ticket ≡ None
