-- What a run of events writes.
use Rattle.std.specs.Prelude.{ℕ, List, take, Option}
use Rattle.std.specs.Io.KnownBytes.{Appends}
use Rattle.ag_outside.specs.Streams.{AppendsFront}
use Rattle.ag_model.specs.declared.config.Config.{Config}
use Rattle.ag_model.specs.declared.event.Event.{Event}
use Rattle.ag_model.specs.declared.answer.Answer.{Answer}
use Rattle.ag_rules.specs.Run.{Lawful}
use Rattle.ag_transcript.specs.Transcript.{transcript}

-- the whole transcript of a lawful run
pub record HasRun (c : Config) (es : List Event) (before now : Option (List ℕ)) : Type 0 where
  pub answers : List Answer
  pub lawful : Lawful c es answers
  pub written : Appends before now (transcript c answers)

-- a front of the transcript of a lawful run of the first events
pub record HasRunInPart (c : Config) (es : List Event) (before now : Option (List ℕ)) : Type 0 where
  pub count : ℕ
  pub answers : List Answer
  pub lawful : Lawful c (take count es) answers
  pub written : AppendsFront before now (transcript c answers)
