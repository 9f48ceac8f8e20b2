-- What is done with a question for a page, and with a page that comes.
use Rattle.std.specs.Prelude.{ℕ, Bool}
use Rattle.ag_rules.specs.PageAskMessage.{by_question}
use Rattle.ag_rules.specs.PageGiveMessage.{by_arrival}
use Rattle.ag_repair.specs.declared.repair.Giving.{Giving}
use Rattle.ag_repair.specs.declared.repair.Giving.TheVariants.{Give, Refuse, Nothing, Wait}
use Rattle.ag_repair.specs.declared.repair.Arrival.{Arrival}
use Rattle.ag_repair.specs.declared.repair.Arrival.TheVariants.{Install, Hold, NotWanted}

-- what a replica does that is asked for a page
abbrev pub giving_of : Bool → ℕ → Bool → Bool → ℕ → ℕ → Giving
giving_of bad state secondary asker_primary stands asked = by_question Nothing Refuse (Wait stands asked) Give bad state secondary asker_primary stands asked

-- what a replica does with a page that comes
abbrev pub arrival_of : Bool → ℕ → ℕ → ℕ → Arrival
arrival_of wanted state applied at = by_arrival NotWanted Install Install Hold wanted state applied at
