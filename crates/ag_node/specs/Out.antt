-- What a node sends in an event: one message or none.
use Rattle.std.specs.Prelude.{ℕ, List, [], ◌∷◌, Option, Some, None}
use Rattle.ag_model.specs.declared.message.Message.{Message}
use Rattle.ag_rules.specs.Plan.{Posting}

-- a message to one replica, if there is one, as the rules see it
abbrev pub posting_of : ℕ → Option Message → List Posting
posting_of to None = []
posting_of to (Some message) = record { to = to; message = message } ∷ []
