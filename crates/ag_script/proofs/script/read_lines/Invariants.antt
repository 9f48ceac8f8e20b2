use Rattle.std.proofs.Common.{◌+◌, ◌-◌, ◌≤◌, length}
use Rattle.ag_script.proofs.ScriptLemmas.{SoFar}
use Rattle.ag_script.proofs.script.read_lines.Given as goal

abbrev pub invariant-lines : goal.invariant-lines
invariant-lines l = record {
  so_far : SoFar l.c l.text l.rest (l.line - l.first_line) l.events;
  from : l.first_line ≤ l.line;
  room : l.line + length l.rest ≤ l.first_line + length l.text;
}

abbrev pub decreases-lines : goal.decreases-lines
decreases-lines l = length l.rest
