-- What holds of each message in flight.
use Rattle.std.specs.Prelude.{◌≡◌, ◌≢◌, ℕ, ◌+◌, ◌≤◌, List, ◌++◌, length, take, true}
use Rattle.ag_model.specs.declared.record.Record.{Record}
use Rattle.ag_model.specs.declared.value.PageValue.{PageValue}
use Rattle.ag_model.specs.declared.config.Ticket.{Ticket}
use Rattle.ag_model.specs.declared.config.TermStart.{TermStart}
use Rattle.ag_model.specs.declared.message.Message.{Message}
use Rattle.ag_model.specs.declared.message.Block.{Block}
use Rattle.ag_model.specs.declared.message.Body.{Body}
use Rattle.ag_model.specs.declared.message.Body.TheVariants.{Hello, Resume, Block as OfBlock, Ack, PageAsk, PageGive, PageNo}
use Rattle.ag_model.specs.Starts.{term_starts}
use Rattle.ag_model.specs.Page.{value}
use Rattle.ag_rules.specs.Replica.{Replica, records, end}
use Rattle.ag_rules.specs.ResumeMessage.{waits_for}
use Rattle.ag_laws.specs.Prefix.{IsPrefixOf}
use Rattle.ag_laws.specs.Logs.{Logs, Setting, IsTraced}

-- a block is a part of the log
pub record IsPart (log : List Record) (b : Block) : Type 0 where
  pub front : List Record
  pub rest : List Record
  pub is : front ++ (b.records ++ rest) ≡ log
  pub first : b.first ≡ length front + 1

-- a block of this term, to replica n
pub record BlockFits (s : Setting) (logs : Logs) (n term : ℕ) (b : Block) : Type 0 where
  pub part : IsPart (logs term) b
  pub other : s.leader term ≢ n
  pub past : term ≤ s.now

-- a ticket that the replica gave out, and won't give out again
pub record IsGiven (ticket : Ticket) (r : Replica) : Type 0 where
  pub incarnation : ticket.incarnation ≤ r.kept.master.incarnation
  pub joins : r.up ≡ true → ticket.incarnation ≡ r.kept.master.incarnation → ticket.joins ≤ r.following.joins

-- what a replica that waits for the ticket is, beside the log that its Hello told
pub record SaidHello (log : List Record) (term : ℕ) (r : Replica) : Type 0 where
  pub prefix : IsPrefixOf log (records r)
  pub not_past : r.term ≤ term

-- a Hello of r
pub record HelloFits (logs : Logs) (r : Replica) (term : ℕ) (ticket : Ticket) (its_end : ℕ) (starts : List TermStart) : Type 0 where
  pub log : List Record
  pub long : its_end ≡ length log
  pub lists : starts ≡ term_starts log
  pub traced : IsTraced logs log
  pub given : IsGiven ticket r
  pub waits : waits_for r.following.ticket ticket ≡ true → SaidHello log term r

-- what a replica that waits for the ticket is, beside the fork of the Resume
pub record IsAnswered (logs : Logs) (term fork : ℕ) (r : Replica) : Type 0 where
  pub within : fork ≤ end r
  pub prefix : IsPrefixOf (take fork (records r)) (logs term)
  pub not_past : r.term ≤ term

-- a Resume to r, which is replica n
pub record ResumeFits (s : Setting) (logs : Logs) (n : ℕ) (r : Replica) (term : ℕ) (ticket : Ticket) (fork : ℕ) : Type 0 where
  pub given : IsGiven ticket r
  pub other : s.leader term ≢ n
  pub past : term ≤ s.now
  pub waits : waits_for r.following.ticket ticket ≡ true → IsAnswered logs term fork r

-- a page that was given at this LSN of the log
pub record GiveFits (pages : ℕ) (log : List Record) (lsn : ℕ) (v : PageValue) : Type 0 where
  pub within : lsn ≤ length log
  pub value : v ≡ value pages log lsn v.page

-- the body of a message of this term, from one replica to number n
abbrev pub BodyFits : Setting → Logs → Replica → ℕ → Replica → ℕ → Body → Type 0
BodyFits s logs from n to term (Hello ticket its_end starts) = HelloFits logs from term ticket its_end starts
BodyFits s logs from n to term (Resume ticket fork its_end) = ResumeFits s logs n to term ticket fork
BodyFits s logs from n to term (OfBlock b) = BlockFits s logs n term b
BodyFits s logs from n to term (Ack hardened low) = Unit {0}
BodyFits s logs from n to term (PageAsk p lsn primary) = Unit {0}
BodyFits s logs from n to term (PageGive lsn v) = GiveFits s.config.pages (logs term) lsn v
BodyFits s logs from n to term (PageNo p) = Unit {0}

-- a message from one replica to number n
abbrev pub MessageFits : Setting → Logs → Replica → ℕ → Replica → Message → Type 0
MessageFits s logs from n to m = BodyFits s logs from n to m.term m.body
