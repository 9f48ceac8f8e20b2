-- How many bytes a list of term starts takes.
use Rattle.std.proofs.Common.{◌≡◌, ℕ, ◌+◌, ◌*◌, List, [], ◌∷◌, ◌++◌, length, refl, ap, arith}
use Rattle.std.specs.Int.{w32, w64, to_be_bytes}
use Rattle.std.specs.List.{flat_map}
use Rattle.std.proofs.lemmas.List.{length-append}
use Rattle.std.proofs.lemmas.List.Concat.{flat_map-cons}
use Rattle.ag_model.proofs.Numbers.{length-to_be_bytes}
use Rattle.ag_model.specs.declared.config.Ticket.{Ticket}
use Rattle.ag_model.specs.declared.config.TermStart.{TermStart}
use Rattle.ag_model.specs.declared.message.Body.TheVariants.{Hello}
use Rattle.ag_wire.specs.Spelling.{pair_spelling, ticket_spelling, start_spelling, starts_spelling, fields_spelling}

pair_size : (a b : ℕ) → length (pair_spelling a b) ≡ 16
pair_size a b = omega (arith, length-append (to_be_bytes w64 a) (to_be_bytes w64 b), length-to_be_bytes w64 a, length-to_be_bytes w64 b)

each_size : (ss : List TermStart) → length (flat_map start_spelling ss) ≡ 16 * length ss
each_size [] = refl
each_size (s ∷ ss) = omega (arith, ap length (flat_map-cons start_spelling s ss), length-append (start_spelling s) (flat_map start_spelling ss), pair_size s.term s.lsn, each_size ss)

starts_size : (ss : List TermStart) → length (starts_spelling ss) ≡ 4 + 16 * length ss
starts_size ss = omega (arith, length-append (to_be_bytes w32 (length ss)) (flat_map start_spelling ss), length-to_be_bytes w32 (length ss), each_size ss)

ticket_size : (t : Ticket) → length (ticket_spelling t) ≡ 12
ticket_size t = omega (arith, length-append (to_be_bytes w64 t.incarnation) (to_be_bytes w32 t.joins), length-to_be_bytes w64 t.incarnation, length-to_be_bytes w32 t.joins)

pub hello_size : (t : Ticket) (end : ℕ) (ss : List TermStart) → length (fields_spelling (Hello t end ss)) ≡ 24 + 16 * length ss
hello_size t end ss = omega (arith, length-append (ticket_spelling t) (to_be_bytes w64 end ++ starts_spelling ss), length-append (to_be_bytes w64 end) (starts_spelling ss), ticket_size t, length-to_be_bytes w64 end, starts_size ss)
