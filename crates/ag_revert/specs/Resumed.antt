-- That a plan is what the event does.
use Rattle.std.specs.Prelude.{◌≡◌, ℕ, ◌+◌, ◌≤◌, ◌<◌, List, length, true, false, ◌==◌}
use Rattle.ag_model.specs.Rows.{contains}
use Rattle.ag_master.specs.declared.master.Master.{Master}
use Rattle.ag_rules.specs.Replica.{Replica}
use Rattle.ag_rules.specs.ResumeMessage.{foreign_from, goes_on, resumes, stays, follows_from, reverts_from, reverting_master}
use Rattle.ag_revert.specs.declared.plans.Plan.{Plan}
use Rattle.ag_revert.specs.declared.plans.Plan.TheVariants.{Follow, Revert, Continue}
use Rattle.ag_revert.specs.Planned.{rule_master}

-- a master that says of a replica what the replica keeps, and whether it is initialising, and then in which term
pub record IsMasterOf (r : Replica) (m : Master) : Type 0 where
  pub initialising : (m.state == 4) ≡ (r.state == 4)
  pub term : (r.state == 4) ≡ true → m.term ≡ r.term
  pub incarnation : m.incarnation ≡ r.kept.master.incarnation
  pub redo : m.redo ≡ r.kept.master.redo_start
  pub foreign : m.foreign ≡ r.kept.master.foreign

-- all are pages of a database that has so many
abbrev pub AreBelow : ℕ → List ℕ → Type 0
AreBelow pages ps = (p : ℕ) → 16 + pages ≤ p → contains p ps ≡ false

-- an accepted Resume of replica n does this
abbrev pub IsDone : ℕ → ℕ → Replica → ℕ → ℕ → ℕ → Plan → Type 0
IsDone pages n r term fork undo Continue =
    (goes_on r term fork ≡ true) × (resumes n r term fork undo (foreign_from pages r fork) ≡ stays n r term fork)
IsDone pages n r term fork undo Follow =
    (goes_on r term fork ≡ false) × (length (foreign_from pages r fork) ≡ 0) × (resumes n r term fork undo (foreign_from pages r fork) ≡ follows_from n r term fork)
IsDone pages n r term fork undo (Revert m) =
    (goes_on r term fork ≡ false) × (0 < length (foreign_from pages r fork)) × (resumes n r term fork undo (foreign_from pages r fork) ≡ reverts_from n r term fork undo (foreign_from pages r fork))
    × (rule_master m ≡ reverting_master r term fork undo (foreign_from pages r fork)) × (m.cut ≡ fork)
