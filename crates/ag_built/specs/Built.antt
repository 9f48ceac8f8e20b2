-- Which event lines are built so far, what they send, and how many a scenario may have.
use Rattle.std.specs.Prelude.{◌≡◌, ℕ, List}
use Rattle.std.specs.List.{AllByRecursion}
use Rattle.ag_model.specs.declared.event.Who.{Who}
use Rattle.ag_model.specs.declared.event.Who.TheVariants.{Letter, Primary}
use Rattle.ag_model.specs.declared.event.Pair.{Pair}
use Rattle.ag_model.specs.declared.event.Event.{Event}
use Rattle.ag_model.specs.declared.event.Event.TheVariants.{Set, Harden, Send, Deliver, Repeat, Lose, Apply, Raise, Redo, Read, Flush, Crash, Start, Page, Sectors, Status}
use Rattle.ag_model.specs.declared.event.Suffix.TheVariants.{Whole}
use Rattle.ag_model.specs.declared.message.Message.{Message}
use Rattle.ag_model.specs.declared.message.Body.{Body}
use Rattle.ag_model.specs.declared.message.Body.TheVariants.{Block, Ack}
use Rattle.ag_record.specs.Spelling.{IsValue}
use Rattle.ag_wire.specs.Spelling.{HasSpelling}
use Rattle.ag_built.specs.Whole.{IsWhole}

-- a word that is the letter of a replica
abbrev pub IsLetter : Who → Type 0
IsLetter (Letter n) = Unit {0}
IsLetter Primary = ⊥

-- the events of whole transactions, of links, of redo, of pages, and of crash and start, for replicas by their letters, with any
-- suffix but for `flush`, which has none as yet
abbrev pub IsBuilt : Event → Type 0
IsBuilt (Set w pairs suffix) = IsLetter w
IsBuilt (Harden w suffix) = IsLetter w
IsBuilt (Send w v suffix) = IsLetter w × IsLetter v
IsBuilt (Deliver w v i suffix) = IsLetter w × IsLetter v
IsBuilt (Repeat w v i suffix) = IsLetter w × IsLetter v
IsBuilt (Lose w v i suffix) = IsLetter w × IsLetter v
IsBuilt (Apply w x suffix) = IsLetter w
IsBuilt (Raise w x suffix) = IsLetter w
IsBuilt (Redo w suffix) = IsLetter w
IsBuilt (Read w session key suffix) = IsLetter w
IsBuilt (Flush w suffix) = IsLetter w × (suffix ≡ Whole)
IsBuilt (Crash w suffix) = IsLetter w
IsBuilt (Start w suffix) = IsLetter w
IsBuilt (Page w p suffix) = IsLetter w
IsBuilt (Sectors w p suffix) = IsLetter w
IsBuilt (Status w suffix) = IsLetter w
IsBuilt _ = ⊥

-- all of these events are built
abbrev pub AreBuilt : List Event → Type 0
AreBuilt es = AllByRecursion IsBuilt es

-- a pair whose value has zeros after its bytes
abbrev pub IsPair : Pair → Type 0
IsPair pair = IsValue pair.value

-- the values of the event are such as a line spells them
abbrev pub HasValues : Event → Type 0
HasValues (Set w pairs suffix) = AllByRecursion IsPair pairs
HasValues _ = Unit {0}

-- the same of each of these events
abbrev pub HaveValues : List Event → Type 0
HaveValues es = AllByRecursion HasValues es

-- what a message of these events says: a block of whole transactions, or an Ack
abbrev pub IsBuiltBody : Body → Type 0
IsBuiltBody (Block b) = IsWhole b.records
IsBuiltBody (Ack hardened low) = Unit {0}
IsBuiltBody _ = ⊥

-- a message of these events, which has its bytes
abbrev pub IsBuiltMessage : Message → Type 0
IsBuiltMessage message = IsBuiltBody message.body × HasSpelling message

-- the most event lines that a scenario may have
abbrev pub most_events : ℕ
most_events = 200000
