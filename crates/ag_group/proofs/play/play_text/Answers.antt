use Rattle.std.proofs.Common.{◌≡◌, sym, ◌∙◌, inl}
use Rattle.ag_script.specs.declared.fault.ScriptFault.TheVariants.{BadLine, Events, NoMemory}
use Rattle.ag_group.proofs.Scenarios.{its_script, its_bad_line, as_bad_line, not_events, played, played_in_part}
use Rattle.ag_group.proofs.play.play_text.Goals as goal

pub returns-in-Err-BadLine-clause-tells_bad_line : goal.returns-in-Err-BadLine-clause-tells_bad_line
returns-in-Err-BadLine-clause-tells_bad_line g c line h =
    let first = its_bad_line c.args.text.now c.in-Some.script.now c.in-Ok.c line h c.in-Some.ensures.found c.in-Ok.ensures.value in
    rw (c.in-Err-BadLine.line-is) (as_bad_line c.in-Err-BadLine.field-0 c.in-Err-BadLine.line line h.before c.in-Err-BadLine.field-0-is h.place (c.in-Err-BadLine.ensures.tells_bad_line h.before first))

pub returns-in-Err-BadLine-clause-complete : goal.returns-in-Err-BadLine-clause-complete
returns-in-Err-BadLine-clause-complete g c d events h calm =
    let only = c.in-Err-BadLine.ensures.tells_script events (its_script c.args.text.now c.in-Some.script.now c.in-Ok.c d events h c.in-Some.ensures.found c.in-Ok.ensures.value) in
    absurd (let f : BadLine c.in-Err-BadLine.line ≡ NoMemory = sym c.in-Err-BadLine.field-0-is ∙ only in cc)

pub returns-in-Err-Events-clause-tells_bad_line : goal.returns-in-Err-Events-clause-tells_bad_line
returns-in-Err-Events-clause-tells_bad_line g c line h =
    let first = its_bad_line c.args.text.now c.in-Some.script.now c.in-Ok.c line h c.in-Some.ensures.found c.in-Ok.ensures.value in
    absurd (not_events c.in-Err-Events.field-0 _ c.in-Err-Events.field-0-is (c.in-Err-Events.ensures.tells_bad_line h.before first))

pub returns-in-Err-Events-clause-complete : goal.returns-in-Err-Events-clause-complete
returns-in-Err-Events-clause-complete g c d events h calm =
    let only = c.in-Err-Events.ensures.tells_script events (its_script c.args.text.now c.in-Some.script.now c.in-Ok.c d events h c.in-Some.ensures.found c.in-Ok.ensures.value) in
    absurd (let f : Events ≡ NoMemory = sym c.in-Err-Events.field-0-is ∙ only in cc)

pub returns-in-Ok-run_events-clause-done : goal.returns-in-Ok-run_events-clause-done
returns-in-Ok-run_events-clause-done g c e =
    played c.args.text.now c.in-Some.script.now c.in-Ok.c c.in-Ok-read_events.events _ _ c.requires c.in-Some.ensures.found c.in-Ok.ensures.value c.in-Ok.ensures.config c.in-Ok-read_events.ensures.script c.in-Ok-read_events.ensures.in_range c.reads_right.ensures.reads c.sessions_never_fall.ensures.sessions c.failovers_keep_commits.ensures.kept c.reverted_as_restored.ensures.reverted (rw c.as_slice.ensures at c.in-Ok-run_events.ensures.ok)

pub returns-in-Ok-run_events-clause-part : goal.returns-in-Ok-run_events-clause-part
returns-in-Ok-run_events-clause-part g c =
    inl (played_in_part c.args.text.now c.in-Some.script.now c.in-Ok.c c.in-Ok-read_events.events _ _ c.requires c.in-Some.ensures.found c.in-Ok.ensures.value c.in-Ok.ensures.config c.in-Ok-read_events.ensures.script c.in-Ok-read_events.ensures.in_range (rw c.as_slice.ensures at c.run_events.ensures.part))

pub returns-in-Ok-run_events-clause-tells_bad_line : goal.returns-in-Ok-run_events-clause-tells_bad_line
returns-in-Ok-run_events-clause-tells_bad_line g c line h =
    absurd (c.in-Ok-read_events.ensures.tells_bad_line h.before (its_bad_line c.args.text.now c.in-Some.script.now c.in-Ok.c line h c.in-Some.ensures.found c.in-Ok.ensures.value))

pub returns-in-Err-WriteFault-clause-part : goal.returns-in-Err-WriteFault-clause-part
returns-in-Err-WriteFault-clause-part g c =
    inl (played_in_part c.args.text.now c.in-Some.script.now c.in-Ok.c c.in-Ok-read_events.events _ _ c.requires c.in-Some.ensures.found c.in-Ok.ensures.value c.in-Ok.ensures.config c.in-Ok-read_events.ensures.script c.in-Ok-read_events.ensures.in_range (rw c.as_slice.ensures at c.run_events.ensures.part))

pub returns-in-Err-WriteFault-clause-tells_bad_line : goal.returns-in-Err-WriteFault-clause-tells_bad_line
returns-in-Err-WriteFault-clause-tells_bad_line g c line h =
    absurd (c.in-Ok-read_events.ensures.tells_bad_line h.before (its_bad_line c.args.text.now c.in-Some.script.now c.in-Ok.c line h c.in-Some.ensures.found c.in-Ok.ensures.value))

pub returns-clause-part : goal.returns-clause-part
returns-clause-part g c =
    inl (played_in_part c.args.text.now c.in-Some.script.now c.in-Ok.c c.in-Ok-read_events.events _ _ c.requires c.in-Some.ensures.found c.in-Ok.ensures.value c.in-Ok.ensures.config c.in-Ok-read_events.ensures.script c.in-Ok-read_events.ensures.in_range (rw c.as_slice.ensures at c.run_events.ensures.part))
