-- The one spelling of a message.
use Rattle.std.specs.Prelude.{ℕ, ◌^◌, ◌<◌, ◌≤◌, List, [], ◌∷◌, ◌++◌, length, Option, None, Some}
use Rattle.std.specs.List.{flat_map, AllByRecursion}
use Rattle.std.specs.Int.{w16, w32, w64, to_be_bytes}
use Rattle.ag_model.specs.declared.config.Ticket.{Ticket}
use Rattle.ag_model.specs.declared.config.TermStart.{TermStart}
use Rattle.ag_model.specs.declared.message.Block.{Block as BlockOf}
use Rattle.ag_model.specs.declared.message.Body.{Body}
use Rattle.ag_model.specs.declared.message.Body.TheVariants.{Hello, Resume, Block, Ack, PageAsk, PageGive, PageNo}
use Rattle.ag_model.specs.declared.message.Message.{Message}
use Rattle.ag_record.specs.Spelling.{records_spelling, ArePayload}

-- two numbers of 8 bytes
abbrev pub pair_spelling : ℕ → ℕ → List ℕ
pair_spelling a b = to_be_bytes w64 a ++ to_be_bytes w64 b

-- the incarnation and the joins
abbrev pub ticket_spelling : Ticket → List ℕ
ticket_spelling t = to_be_bytes w64 t.incarnation ++ to_be_bytes w32 t.joins

-- a term and the LSN where it starts
abbrev pub start_spelling : TermStart → List ℕ
start_spelling s = pair_spelling s.term s.lsn

-- how many starts, and each of them
abbrev pub starts_spelling : List TermStart → List ℕ
starts_spelling starts = to_be_bytes w32 (length starts) ++ flat_map start_spelling starts

-- a block's term, the LSN of its first record, how many bytes its records take, and these bytes
abbrev pub block_spelling : BlockOf → List ℕ
block_spelling b = pair_spelling b.term b.first ++ (to_be_bytes w16 (length (records_spelling b.records)) ++ records_spelling b.records)

-- the kind of a message
abbrev pub kind_of : Body → ℕ
kind_of (Hello ticket end starts) = 1
kind_of (Resume ticket fork end) = 2
kind_of (Block b) = 3
kind_of (Ack hardened low) = 4
kind_of (PageAsk page lsn primary) = 5
kind_of (PageGive lsn value) = 6
kind_of (PageNo page) = 7

-- what a message says, behind its kind and its term
abbrev pub fields_spelling : Body → List ℕ
fields_spelling (Hello ticket end starts) = ticket_spelling ticket ++ (to_be_bytes w64 end ++ starts_spelling starts)
fields_spelling (Resume ticket fork end) = ticket_spelling ticket ++ pair_spelling fork end
fields_spelling (Block b) = block_spelling b
fields_spelling (Ack hardened low) = pair_spelling hardened low
fields_spelling _ = []

-- the kind, and the term that the sender follows
abbrev pub head_spelling : ℕ → ℕ → List ℕ
head_spelling kind term = kind ∷ to_be_bytes w64 term

-- the bytes of a message
abbrev pub spelling : Message → List ℕ
spelling m = head_spelling (kind_of m.body) m.term ++ fields_spelling m.body

-- a start of a later term at a later LSN
abbrev pub IsAfter : Option TermStart → TermStart → Type 0
IsAfter None s = Unit {0}
IsAfter (Some last) s = (last.term < s.term) × (last.lsn < s.lsn)

-- each start is after the one before; `last` is before the first one
abbrev pub RiseAfter : Option TermStart → List TermStart → Type 0
RiseAfter last [] = Unit {0}
RiseAfter last (s ∷ starts) = IsAfter last s × RiseAfter (Some s) starts

-- a start that can be written
abbrev pub IsStart : TermStart → Type 0
IsStart s = (s.term < 2 ^ 64) × (s.lsn < 2 ^ 64)

-- starts that can be written
pub record AreStarts (starts : List TermStart) : Type 0 where
  pub most : length starts < 2 ^ 32
  pub each : AllByRecursion IsStart starts
  pub rising : RiseAfter None starts

-- a ticket that can be written
abbrev pub IsTicket : Ticket → Type 0
IsTicket t = (t.incarnation < 2 ^ 64) × (t.joins < 2 ^ 32)

-- a block that can be written
abbrev pub IsBlock : BlockOf → Type 0
IsBlock b = (b.term < 2 ^ 64) × (b.first < 2 ^ 64) × ArePayload b.records

-- what a message can say; pages are not sent yet
abbrev pub IsBody : Body → Type 0
IsBody (Hello ticket end starts) = IsTicket ticket × (end < 2 ^ 64) × AreStarts starts
IsBody (Resume ticket fork end) = IsTicket ticket × (fork < 2 ^ 64) × (end < 2 ^ 64)
IsBody (Block b) = IsBlock b
IsBody (Ack hardened low) = (hardened < 2 ^ 64) × (low < 2 ^ 64)
IsBody _ = ⊥

-- a message that can be written
abbrev pub HasSpelling : Message → Type 0
HasSpelling m = (m.term < 2 ^ 64) × IsBody m.body
