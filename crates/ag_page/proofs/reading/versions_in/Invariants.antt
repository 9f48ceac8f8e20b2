use Rattle.std.proofs.Common.{◌≡◌, ◌-◌}
use Rattle.ag_page.specs.Reading.{versions_at}
use Rattle.ag_page.proofs.Loops.{with_front}
use Rattle.ag_page.proofs.reading.versions_in.Given as goal

abbrev pub invariant-loop : goal.invariant-loop
invariant-loop l = with_front l.versions.items (versions_at (l.count - l.counter) l.rest) ≡ versions_at l.count l.b
