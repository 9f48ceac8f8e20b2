use Rattle.std.proofs.Common.{◌∙◌, sym, refl}
use Rattle.ag_script.proofs.ScriptLemmas.{says, bad_none, bad_unbuilt}
use Rattle.ag_script.proofs.script.read_line.Goals as goal

pub returns-in_default : goal.returns-in_default
returns-in_default c = bad_none c.args.c.now c.args.line.now c.if-is_skipped.ensures.1 (sym c.in_ok-event.ensures ∙ c.in_default.is)

pub returns-then-is_built : goal.returns-then-is_built
returns-then-is_built c = says c.args.c.now c.args.line.now c.in-Some.event (sym c.in_ok-event.ensures ∙ c.in-Some.is) (c.if-is_built.ensures.0 refl)

pub returns-else-is_built : goal.returns-else-is_built
returns-else-is_built c = bad_unbuilt c.args.c.now c.args.line.now c.in-Some.event c.if-is_skipped.ensures.1 (sym c.in_ok-event.ensures ∙ c.in-Some.is) c.if-is_built.ensures.1
