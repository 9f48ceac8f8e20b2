-- What a replica does once a primary has found the fork of their logs.
use Rattle.std.specs.Prelude.{ℕ, List, ◌||◌}
use Rattle.ag_model.specs.Rows.{contains}
use Rattle.ag_model.specs.PageSets.{pages_where}
use Rattle.ag_master.specs.declared.master.Master.{Master}
use Rattle.ag_rules.specs.Replica.{Master as RuleMaster}
use Rattle.ag_rules.specs.ResumeMessage.{reverting_after, by_fork}
use Rattle.ag_revert.specs.declared.plans.Plan.{Plan}
use Rattle.ag_revert.specs.declared.plans.Plan.TheVariants.{Follow, Revert, Continue}

-- the pages of two sets, rising
abbrev pub union : List ℕ → List ℕ → List ℕ
union one other = pages_where (λ p. contains p one || contains p other)

-- what the rules say of a master
abbrev pub rule_master : Master → RuleMaster
rule_master m = record { term = m.term; state = m.state; incarnation = m.incarnation; redo_start = m.redo; undo = m.undo; foreign = m.foreign }

-- the foreign pages once a replica reverts: those so far and the touched ones
abbrev pub foreign_then : Master → List ℕ → List ℕ
foreign_then m touched = union m.foreign touched

-- a master of which the rules say this, with a log that was cut at an LSN
abbrev pub with_rule_master : Master → RuleMaster → ℕ → Master
with_rule_master m said cut = record m {
  state = said.state;
  incarnation = said.incarnation;
  term = said.term;
  cut = cut;
  undo = said.undo;
  redo = said.redo_start;
  foreign = said.foreign;
}

-- the master of a replica that reverts to a primary with this end, cut at the fork
abbrev pub reverting : Master → ℕ → ℕ → ℕ → ℕ → List ℕ → Master
reverting m log_end term fork end foreign = with_rule_master m (reverting_after (rule_master m) log_end term fork end foreign) fork

-- what it does, where these pages would be foreign
abbrev pub planned_with : Master → ℕ → ℕ → ℕ → ℕ → List ℕ → Plan
planned_with m log_end term fork end foreign = by_fork Continue Follow (Revert (reverting m log_end term fork end foreign)) m.state m.term log_end term fork foreign

-- what it does, where its own records after the fork touch these pages
abbrev pub planned : Master → ℕ → ℕ → ℕ → ℕ → List ℕ → Plan
planned m log_end term fork end touched = planned_with m log_end term fork end (foreign_then m touched)
