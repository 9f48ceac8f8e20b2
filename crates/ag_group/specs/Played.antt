-- What a call of `play` did to its source and its sink.
use Rattle.std.specs.Prelude.{ℕ, List, take, Option, IfSome}
use Rattle.std.specs.Io.KnownBytes.{Appends}
use Rattle.ag_outside.specs.Streams.{AppendsFront}
use Rattle.ag_model.specs.declared.config.Config.{Config}
use Rattle.ag_model.specs.declared.event.Event.{Event}
use Rattle.ag_model.specs.declared.answer.Answer.{Answer}
use Rattle.ag_rules.specs.Script.{IsConfig, IsScript}
use Rattle.ag_rules.specs.Run.{Lawful, run}
use Rattle.ag_rules.specs.ReadsRight.{ReadsRight}
use Rattle.ag_rules.specs.SessionLaw.{SessionLaw}
use Rattle.ag_rules.specs.KeptLaw.{KeptLaw}
use Rattle.ag_rules.specs.RevertedLaw.{RevertedLaw}
use Rattle.ag_transcript.specs.Transcript.{transcript}
use Rattle.ag_group.specs.Scenario.{IsScenario}

-- the bytes of the source are a scenario, and those taken are the header and the answers of its run
pub record IsPlayed (told before now : Option (List ℕ)) : Type 0 where
  pub config : Config
  pub events : List Event
  pub answers : List Answer
  pub scenario : IfSome told (λ text. IsScenario text config events)
  pub settings : IsConfig config
  pub in_range : IsScript config events
  pub lawful : Lawful config events answers
  -- its reads are rows after prefixes of the log, no session goes back, a safe failover keeps what was confirmed, and what
  -- reverted is as restored
  pub reads : ReadsRight (run config events)
  pub sessions : SessionLaw (run config events)
  pub kept : KeptLaw (run config events)
  pub reverted : RevertedLaw config.pages (run config events)
  pub written : Appends before now (transcript config answers)

-- the same of a run of the first events, of whose transcript a front was taken
pub record IsPlayedInPart (told before now : Option (List ℕ)) : Type 0 where
  pub config : Config
  pub events : List Event
  pub count : ℕ
  pub answers : List Answer
  pub scenario : IfSome told (λ text. IsScenario text config events)
  pub settings : IsConfig config
  pub in_range : IsScript config events
  pub lawful : Lawful config (take count events) answers
  pub written : AppendsFront before now (transcript config answers)
