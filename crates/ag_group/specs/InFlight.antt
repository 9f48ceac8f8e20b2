-- Messages in flight, as the bytes that a link holds.
use Rattle.std.specs.Prelude.{◌≡◌, ℕ, List, map, Result, Ok, Err}
use Rattle.ag_model.specs.declared.message.Message.{Message}
use Rattle.ag_model.specs.declared.message.Body.TheVariants.{Ack}
use Rattle.ag_wire.specs.declared.fault.WireFault.{WireFault}
use Rattle.ag_wire.specs.Spelling.{spelling}
use Rattle.ag_wire.specs.Reading.{reading}
use Rattle.ag_built.specs.Built.{IsBuiltMessage}

-- stands for bytes that are no message
abbrev pub no_message : Message
no_message = record { term = 0; body = Ack 0 0 }

-- the message that was read, if there is one
abbrev pub read_or_none : Result Message WireFault → Message
read_or_none (Ok message) = message
read_or_none (Err fault) = no_message

-- the message that these bytes are
abbrev pub message_of : List ℕ → Message
message_of bytes = read_or_none (reading bytes)

-- the messages of a link
abbrev pub messages_of : List (List ℕ) → List Message
messages_of link = map message_of link

-- these are the bytes of a message that the built events send
abbrev pub IsInFlight : List ℕ → Type 0
IsInFlight bytes = (bytes ≡ spelling (message_of bytes)) × IsBuiltMessage (message_of bytes)
