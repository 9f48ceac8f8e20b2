-- What memory has once a master was written.
use Rattle.std.specs.Prelude.{◌≡◌, ℕ, Bool, ◌||◌, nat_lt, if◌then◌else◌}
use Rattle.ag_model.specs.Blocks.{cut_at}
use Rattle.ag_master.specs.declared.master.Master.{Master}
use Rattle.ag_logstore.specs.Stores.{StoreView}

-- the log, which a master with a higher incarnation cuts at an LSN
abbrev pub log_after : Master → StoreView → Master → ℕ → StoreView
log_after old s next end = if nat_lt old.incarnation next.incarnation then record { log = cut_at end s.log; cut = end; incarnation = next.incarnation; is_closed = s.is_closed } else s

-- whether a block can follow it
abbrev pub appends_after : Master → Bool → Master → Bool
appends_after old appends next = appends || nat_lt old.incarnation next.incarnation

-- memory follows the disk
pub record Follows (old : Master) (s : StoreView) (appends : Bool) (next : Master) (end : ℕ) (master : Master) (log : StoreView) (can_append : Bool) : Type 0 where
  pub master_is : master ≡ next
  pub log_is : log ≡ log_after old s next end
  pub appends_is : can_append ≡ appends_after old appends next
