-- Reading a message from left to right, with the first fault that is met.
use Rattle.std.specs.Prelude.{◌≡◌, ℕ, zero, suc, List, [], ◌∷◌, length, take, drop, Bool, true, Option, None, Some, Result, Ok, Err, nat_lt, nat_le, ◌==◌, ◌&&◌, if◌then◌else◌}
use Rattle.std.specs.Int.{w16, w32, w64}
use Rattle.ag_model.specs.declared.config.Ticket.{Ticket}
use Rattle.ag_model.specs.declared.config.TermStart.{TermStart}
use Rattle.ag_model.specs.declared.message.Body.TheVariants.{Hello, Resume, Block, Ack}
use Rattle.ag_model.specs.declared.message.Message.{Message}
use Rattle.ag_model.specs.declared.record.Record.{Record}
use Rattle.ag_record.specs.declared.fault.RecordFault.{RecordFault}
use Rattle.ag_record.specs.declared.fault.RecordFault.TheVariants.{NoMemory as NoRecordMemory}
use Rattle.ag_record.specs.Steps.{◌>>=◌, number_at}
use Rattle.ag_record.specs.Reading.{record_at}
use Rattle.ag_wire.specs.declared.fault.WireFault.{WireFault}
use Rattle.ag_wire.specs.declared.fault.WireFault.TheVariants.{Short, BadKind, BadLength, BadOrder, BadRecord, Extra, NoMemory}

-- memory ran out, or reading meets this fault
abbrev pub Fails : {B : Type 0} → WireFault → Result B WireFault → Type 0
Fails NoMemory reading = Unit {0}
Fails fault reading = reading ≡ Err fault

-- memory ran out, or what was answered, seen by `view`, is what reading gives
abbrev pub Gives : {A B : Type 0} → (A → B) → Result A WireFault → Result B WireFault → Type 0
Gives view (Ok x) reading = reading ≡ Ok (view x)
Gives view (Err e) reading = Fails e reading

-- memory ran out, or the answer is what reading gives
abbrev pub Answers : {A : Type 0} → Result A WireFault → Result A WireFault → Type 0
Answers answer reading = Gives (λ x. x) answer reading

-- a ticket in front
unfoldable pub ticket_at : List ℕ → Result (Ticket × List ℕ) WireFault
ticket_at bytes = do
  incarnation ← number_at Short w64 bytes
  joins ← number_at Short w32 incarnation.1
  Ok (record { incarnation = incarnation.0; joins = joins.0 }, joins.1)

-- whether a number is above another one, where there is one
abbrev pub is_above : Option ℕ → ℕ → Bool
is_above None n = true
is_above (Some low) n = nat_lt low n

-- a number in front that is above another one
unfoldable pub above_at : Option ℕ → List ℕ → Result (ℕ × List ℕ) WireFault
above_at low bytes = do
  n ← number_at Short w64 bytes
  if is_above low n.0 then Ok n else Err BadOrder

-- the term of a start, where there is one
abbrev pub term_of : Option TermStart → Option ℕ
term_of None = None
term_of (Some s) = Some s.term

-- the LSN of a start, where there is one
abbrev pub lsn_of : Option TermStart → Option ℕ
lsn_of None = None
lsn_of (Some s) = Some s.lsn

-- a start in front that is after another one
unfoldable pub start_at : Option TermStart → List ℕ → Result (TermStart × List ℕ) WireFault
start_at last bytes = do
  term ← above_at (term_of last) bytes
  lsn ← above_at (lsn_of last) term.1
  Ok (record { term = term.0; lsn = lsn.0 }, lsn.1)

-- so many starts, each after the one before, of which the first is after `last`
unfoldable pub starts_at : Option TermStart → ℕ → List ℕ → Result (List TermStart × List ℕ) WireFault
starts_at last zero bytes = Ok ([], bytes)
starts_at last (suc n) bytes = do
  start ← start_at last bytes
  others ← starts_at (Some start.0) n start.1
  Ok (start.0 ∷ others.0, others.1)

-- bytes that are no record make a bad record
abbrev pub as_record : Result (Record × List ℕ) RecordFault → Result (Record × List ℕ) WireFault
as_record (Ok x) = Ok x
as_record (Err e) = Err BadRecord

-- the fault of a message whose records have this one
abbrev pub wire_fault : RecordFault → WireFault
wire_fault NoRecordMemory = NoMemory
wire_fault _ = BadRecord

-- the records that all of the bytes are, of which there are at most so many
unfoldable pub records_of : ℕ → List ℕ → Result (List Record) WireFault
records_of zero [] = Ok []
records_of zero (b ∷ bytes) = Err BadRecord
records_of (suc n) [] = Ok []
records_of (suc n) (b ∷ bytes) = do
  first ← as_record (record_at (b ∷ bytes))
  others ← records_of n first.1
  Ok (first.0 ∷ others)

-- the records that all of the bytes are
abbrev pub records_in : List ℕ → Result (List Record) WireFault
records_in bytes = records_of (length bytes) bytes

-- how many bytes the records take, and the records
unfoldable pub payload_at : List ℕ → Result (List Record × List ℕ) WireFault
payload_at bytes = do
  n ← number_at Short w16 bytes
  if nat_le 1 n.0 && nat_le n.0 15488 then (if nat_lt (length n.1) n.0 then Err Short else (records_in (take n.0 n.1) >>= λ records. Ok (records, drop n.0 n.1))) else Err BadLength

-- the fields of each kind of message, behind the kind
unfoldable pub hello_at : List ℕ → Result (Message × List ℕ) WireFault
hello_at bytes = do
  term ← number_at Short w64 bytes
  ticket ← ticket_at term.1
  end ← number_at Short w64 ticket.1
  count ← number_at Short w32 end.1
  starts ← starts_at None count.0 count.1
  Ok (record { term = term.0; body = Hello ticket.0 end.0 starts.0 }, starts.1)

unfoldable pub resume_at : List ℕ → Result (Message × List ℕ) WireFault
resume_at bytes = do
  term ← number_at Short w64 bytes
  ticket ← ticket_at term.1
  fork ← number_at Short w64 ticket.1
  end ← number_at Short w64 fork.1
  Ok (record { term = term.0; body = Resume ticket.0 fork.0 end.0 }, end.1)

unfoldable pub block_at : List ℕ → Result (Message × List ℕ) WireFault
block_at bytes = do
  term ← number_at Short w64 bytes
  block_term ← number_at Short w64 term.1
  first ← number_at Short w64 block_term.1
  records ← payload_at first.1
  Ok (record { term = term.0; body = Block (record { first = first.0; term = block_term.0; records = records.0 }) }, records.1)

unfoldable pub ack_at : List ℕ → Result (Message × List ℕ) WireFault
ack_at bytes = do
  term ← number_at Short w64 bytes
  hardened ← number_at Short w64 term.1
  low ← number_at Short w64 hardened.1
  Ok (record { term = term.0; body = Ack hardened.0 low.0 }, low.1)

-- the fields of a message of this kind
unfoldable pub fields_at : ℕ → List ℕ → Result (Message × List ℕ) WireFault
fields_at kind bytes =
    if kind == 1 then hello_at bytes else
    if kind == 2 then resume_at bytes else
    if kind == 3 then block_at bytes else
    if kind == 4 then ack_at bytes else Err BadKind

-- a message in front, and the bytes after it
unfoldable pub message_at : List ℕ → Result (Message × List ℕ) WireFault
message_at [] = Err Short
message_at (kind ∷ bytes) = fields_at kind bytes

-- nothing may follow
abbrev pub whole : Message × List ℕ → Result Message WireFault
whole x = if length x.1 == 0 then Ok x.0 else Err Extra

-- the message that all of the bytes are
abbrev pub reading : List ℕ → Result Message WireFault
reading bytes = message_at bytes >>= whole
