use Rattle.std.proofs.Common.{◌≡◌, drop}
use Rattle.ag_page.specs.Spelling.{rise_from}
use Rattle.ag_page.proofs.fitting.rise.Given as goal

abbrev pub invariant-loop-version : goal.invariant-loop-version
invariant-loop-version l = rise_from l.low (drop l.version-index l.rest) ≡ rise_from l.initial.low l.rest
