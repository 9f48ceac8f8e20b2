-- What a session is answered that asks replica after replica.
use Rattle.std.specs.Prelude.{ℕ, List, [], ◌∷◌, ◌++◌, Option, Some, Result, Ok, Err}
use Rattle.ag_model.specs.declared.config.Token.{Token}
use Rattle.ag_rules.specs.Seen.{SeenLsn}
use Rattle.ag_session.specs.declared.session.SessionFault.{SessionFault}
use Rattle.ag_session.specs.Checked.{checked}

-- the token that a check gives, if it gives one
abbrev pub given : Result Token SessionFault → List Token
given (Ok token) = token ∷ []
given (Err fault) = []

-- the session's token after a check
abbrev pub token_left : Option Token → Result Token SessionFault → Option Token
token_left t (Ok token) = Some token
token_left t (Err fault) = t

-- the terms and LSNs at which a session is answered that asks at each of these in turn
abbrev pub answered : Option Token → List Token → List Token
answered t [] = []
answered t (a ∷ asked) = given (checked t a.term a.lsn) ++ answered (token_left t (checked t a.term a.lsn)) asked

-- what a session saw, as in a run
abbrev pub seen_by : ℕ → Token → SeenLsn
seen_by session token = record { session = session; term = token.term; lsn = token.lsn }
