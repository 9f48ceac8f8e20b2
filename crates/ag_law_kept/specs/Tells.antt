-- What a message tells of the log of its sender, or of the one that it comes to.
use Rattle.std.specs.Prelude.{◌≡◌, ℕ, ◌≤◌, List, length, true}
use Rattle.ag_model.specs.declared.record.Record.{Record}
use Rattle.ag_model.specs.declared.config.Ticket.{Ticket}
use Rattle.ag_model.specs.declared.config.TermStart.{TermStart}
use Rattle.ag_model.specs.declared.message.Message.{Message}
use Rattle.ag_model.specs.declared.message.Body.{Body}
use Rattle.ag_model.specs.declared.message.Body.TheVariants.{Hello, Resume, Block as OfBlock, Ack, PageAsk, PageGive, PageNo}
use Rattle.ag_model.specs.Starts.{term_starts, last_term}
use Rattle.ag_rules.specs.Replica.{Replica}
use Rattle.ag_rules.specs.ResumeMessage.{waits_for}
use Rattle.ag_laws.specs.Logs.{Logs, IsTraced}
use Rattle.ag_law_kept.specs.Known.{IsKnown, AtMost, Covers}
use Rattle.ag_law_kept.specs.Past.{Past}

-- a Hello of replica n, which is r: it told this log
pub record HelloTells (past : Past) (logs : Logs) (n : ℕ) (r : Replica) (term : ℕ) (ticket : Ticket) (its_end : ℕ) (starts : List TermStart) : Type 0 where
  pub log : List Record
  pub long : its_end ≡ length log
  pub lists : starts ≡ term_starts log
  pub traced : IsTraced logs log
  pub low : last_term log ≤ term
  pub covers : Covers log (past.told n term) (logs term)
  pub waits : waits_for r.following.ticket ticket ≡ true → (past.told n term ≡ log) × (term ≡ past.asked n)

-- a Resume to replica n, which is r: where r waits for it, it cuts nothing that may be known
abbrev pub ResumeTells : Past → Logs → ℕ → Replica → ℕ → Ticket → ℕ → Type 0
ResumeTells past logs n r term ticket fork = waits_for r.following.ticket ticket ≡ true → AtMost (past.told n term) (logs term) fork × (term ≡ past.asked n)

-- the body of a message of this term, from one replica to another
abbrev pub BodyTells : Past → Logs → ℕ → Replica → ℕ → Replica → ℕ → Body → Type 0
BodyTells past logs a from b to term (Hello ticket its_end starts) = HelloTells past logs a from term ticket its_end starts
BodyTells past logs a from b to term (Resume ticket fork its_end) = ResumeTells past logs b to term ticket fork
BodyTells past logs a from b to term (OfBlock block) = Unit {0}
BodyTells past logs a from b to term (Ack hardened low) = IsKnown (past.told a term) (logs term) hardened
BodyTells past logs a from b to term (PageAsk p lsn primary) = Unit {0}
BodyTells past logs a from b to term (PageGive lsn v) = Unit {0}
BodyTells past logs a from b to term (PageNo p) = Unit {0}

-- a message from one replica to another
abbrev pub MessageTells : Past → Logs → ℕ → Replica → ℕ → Replica → Message → Type 0
MessageTells past logs a from b to m = BodyTells past logs a from b to m.term m.body
