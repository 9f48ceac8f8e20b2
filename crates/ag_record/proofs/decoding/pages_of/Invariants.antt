use Rattle.std.proofs.Common.{◌≡◌, ◌-◌}
use Rattle.ag_record.specs.Reading.{pages_at}
use Rattle.ag_record.proofs.Loop.{with_front}
use Rattle.ag_record.proofs.decoding.pages_of.Given as goal

abbrev pub invariant-loop : goal.invariant-loop
invariant-loop l = with_front l.pages.items (pages_at l.low (l.count - l.counter) l.rest) ≡ pages_at 0 l.count l.b
