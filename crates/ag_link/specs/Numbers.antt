-- The numbers of the messages in flight.
use Rattle.std.specs.Prelude.{ℕ, ◌≤◌, List, length}

-- a message has this number, counted from 1
abbrev pub HasMessage : List (List ℕ) → ℕ → Type 0
HasMessage messages number = (1 ≤ number) × (number ≤ length messages)
