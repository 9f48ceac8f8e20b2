use Rattle.std.proofs.Common.{None, ◌≡◌, ◌-◌}
use Rattle.ag_wire.specs.Reading.{starts_at}
use Rattle.ag_wire.proofs.Loop.{with_front}
use Rattle.ag_wire.proofs.fields.starts_of.Given as goal

abbrev pub invariant-loop : goal.invariant-loop
invariant-loop l = with_front l.starts.items (starts_at l.last (l.count - l.counter) l.rest) ≡ starts_at None l.count l.b
