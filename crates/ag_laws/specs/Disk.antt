-- What holds of the disk of each replica, up or down.
use Rattle.std.specs.Prelude.{◌≡◌, ◌≢◌, ℕ, ◌<◌, ◌≤◌, List, [], length}
use Rattle.ag_model.specs.declared.record.Record.{Record}
use Rattle.ag_model.specs.Starts.{last_term}
use Rattle.ag_rules.specs.Replica.{Kept, term_of_disk}
use Rattle.ag_laws.specs.Prefix.{IsPrefixOf}
use Rattle.ag_laws.specs.Ends.{EndsIn}
use Rattle.ag_laws.specs.Logs.{Logs, Setting}

-- the disk of the replica that leads, or led, the term that it has: the whole log of the term, which has begun
pub record IsOwn (log : List Record) (term : ℕ) (k : Kept) : Type 0 where
  pub whole : k.log.records ≡ log
  pub begun : last_term k.log.records ≡ term

-- the disk of replica n
pub record KeptAt (s : Setting) (logs : Logs) (n : ℕ) (k : Kept) : Type 0 where
  pub prefix : IsPrefixOf k.log.records (logs (term_of_disk k))
  pub ends : EndsIn 0 k.log.ends (length k.log.records)
  pub redo : k.master.redo_start ≤ length k.log.records
  pub past : term_of_disk k ≤ s.now
  pub own : s.leader (term_of_disk k) ≡ n → IsOwn (logs (term_of_disk k)) (term_of_disk k) k
  pub second : s.leader (term_of_disk k) ≢ n → k.master.term ≡ term_of_disk k
  -- a term that it led but whose Term record it never wrote has no log
  pub ahead : (t : ℕ) → s.leader t ≡ n → term_of_disk k < t → logs t ≡ []
