-- What the access to a page finds.
use Rattle.std.specs.Prelude.{◌≡◌, ℕ, Some, None}
use Rattle.ag_model.specs.declared.value.PageValue.{PageValue}
use Rattle.ag_model.specs.declared.answer.Answer.TheVariants.{No}
use Rattle.ag_model.specs.declared.answer.Refusal.{Refusal}
use Rattle.ag_outside.specs.Disks.{Image}
use Rattle.ag_rules.specs.Replica.{page_value}
use Rattle.ag_rules.specs.Access.{access}
use Rattle.ag_rules.specs.Plan.{Part}
use Rattle.ag_pool.specs.View.{frame}
use Rattle.ag_replica.specs.declared.up.Up.{Up}
use Rattle.ag_replica.specs.Ups.{replica_of}
use Rattle.ag_replica.specs.Reading.{OnlyReads}
use Rattle.ag_replica.specs.Doing.{Does}

-- the page can be accessed: it was read into memory, which has its value
pub record Opens {D : Type 0} (reads : D → Image) (old : Up D) (page : ℕ) (new : Up D) : Type 0 where
  pub only : OnlyReads reads old new
  pub value : (frame new.pool page).value ≡ Some (page_value old.durable.master.pages (replica_of reads old) page)
  pub part : (part : Part) → access (replica_of reads old) page part ≡ part

-- the access is refused, whatever the act would do with the page
abbrev pub Refuses : {D : Type 0} → (D → Image) → Up D → ℕ → Up D → Refusal → Type 0
Refuses reads old page new why = (part : Part) → Does reads old (access (replica_of reads old) page part) new (record { answer = No why; out = None })
