-- What an event does by these answers.
use Rattle.std.specs.Prelude.{ℕ, Bool, if◌then◌else◌}
use Rattle.ag_model.specs.declared.answer.Answer.TheVariants.{Gave, Refused}
use Rattle.ag_model.specs.declared.answer.Refusal.TheVariants.{Nothing as NothingRefusal, Wait as WaitRefusal}
use Rattle.ag_rules.specs.Replica.{Replica, takes_foreign, applied_of}
use Rattle.ag_rules.specs.Plan.{Here, Part, refused}
use Rattle.ag_rules.specs.PageAskMessage.{no_page, given_page, answers}
use Rattle.ag_rules.specs.PageGiveMessage.{comes, installs, holds}
use Rattle.ag_repair.specs.declared.repair.Giving.{Giving}
use Rattle.ag_repair.specs.declared.repair.Giving.TheVariants.{Give, Refuse, Nothing, Wait}
use Rattle.ag_repair.specs.declared.repair.Arrival.{Arrival}
use Rattle.ag_repair.specs.declared.repair.Arrival.TheVariants.{Install, Hold, NotWanted}

-- what a PageAsk of n does
abbrev pub part_of_giving : Giving → Here → ℕ → Replica → Bool → ℕ → Part
part_of_giving Give h n r full p = answers h n r full (Gave p (applied_of r p)) (given_page h.pages r p)
part_of_giving Refuse h n r full p = answers h n r full (Refused p) (no_page r p)
part_of_giving Nothing h n r full p = refused NothingRefusal r
part_of_giving (Wait stands asked) h n r full p = refused (WaitRefusal stands asked) r

-- what a PageGive does
abbrev pub part_of_arrival : Arrival → Replica → ℕ → ℕ → Part
part_of_arrival Install r p lsn = if takes_foreign r.state then comes r p lsn else installs r p lsn
part_of_arrival Hold r p lsn = holds r p lsn
part_of_arrival NotWanted r p lsn = refused NothingRefusal r
