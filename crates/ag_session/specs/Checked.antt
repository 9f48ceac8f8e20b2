-- What a session's check answers.
use Rattle.std.specs.Prelude.{ℕ, List, [], ◌∷◌, Bool, Option, Some, None, Result, Ok, Err, if◌then◌else◌}
use Rattle.ag_model.specs.declared.config.Token.{Token}
use Rattle.ag_model.specs.declared.answer.Refusal.TheVariants.{OldTerm as OldTermRefusal, Behind as BehindRefusal}
use Rattle.ag_rules.specs.Checks.{session_reasons}
use Rattle.ag_rules.specs.Replica.{Replica}
use Rattle.ag_rules.specs.Plan.{Part, refused}
use Rattle.ag_session.specs.declared.session.SessionFault.{SessionFault}
use Rattle.ag_session.specs.declared.session.SessionFault.TheVariants.{Behind, OldTerm}

-- a fault with its condition
pub record Reason : Type 0 where
  pub when : Bool
  pub fault : SessionFault

-- the first fault that holds, and else the token
abbrev pub unless_any : List Reason → Token → Result Token SessionFault
unless_any [] token = Ok token
unless_any (x ∷ xs) token = if x.when then Err x.fault else unless_any xs token

-- what a session that has seen this is told
abbrev pub checked_seen : Token → ℕ → ℕ → Result Token SessionFault
checked_seen seen term lsn =
    unless_any (session_reasons (λ b. record { when = b; fault = OldTerm term seen.term }) (λ b. record { when = b; fault = Behind lsn seen.lsn }) seen term lsn)
    (record { term = term; lsn = lsn })

-- the token of a session that a replica of this term answers at this LSN, or why it may not
abbrev pub checked : Option Token → ℕ → ℕ → Result Token SessionFault
checked None term lsn = Ok (record { term = term; lsn = lsn })
checked (Some seen) term lsn = checked_seen seen term lsn

-- what an event does after this check: it goes on, or is refused
abbrev pub after_check : Result Token SessionFault → Replica → Part → Part
after_check (Ok token) r part = part
after_check (Err (OldTerm node session)) r part = refused (OldTermRefusal node session) r
after_check (Err (Behind front seen)) r part = refused (BehindRefusal front seen) r
