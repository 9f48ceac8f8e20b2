use Rattle.std.proofs.Common.{◌≡◌, ◌≢◌, ◌+◌, ◌-◌, ◌≤◌, ◌<◌, [], length, take, drop, sym, ap, ◌∙◌, arith, eqb, Some}
use Rattle.std.specs.Prelude.{position}
use Rattle.std.proofs.lemmas.List.{take_all, length-drop}
use Rattle.ag_script.proofs.Cuts.{cut_some}
use Rattle.ag_built.specs.Built.{most_events}
use Rattle.ag_script.specs.declared.script.Line.TheVariants.{Skipped, Says, Bad}
use Rattle.ag_script.proofs.ScriptLemmas.{kind_is, SoFar-skipped, SoFar-event, bad_line, bad_end, too_many, not_empty}
use Rattle.ag_script.proofs.script.read_lines.Goals as goal
use Rattle.ag_script.proofs.script.read_lines.Goals.{in-Skipped, in-Says+else-len-ge-MAX_EVENTS+in_ok-push-in-Says}

pub returns-in_default-clause-bad_line : goal.returns-in_default-clause-bad_line
returns-in_default-clause-bad_line c line e =
    let i = c.lines.invariant in
    let same : c.lines.line ≡ line = cc in
    let some : c.lines.rest.now ≢ [] = not_empty c.lines.rest.now (sym c.is_empty.ensures ∙ c.lines-test.true) in
    (c.lines.line - c.args.first_line, omega (arith, same, i.from), bad_end c.args.c.now c.args.text.now c.lines.rest.now (c.lines.line - c.args.first_line) c.lines.events i.so_far (sym c.in_default.ensures) some)

pub returns-then-len-ge-MAX_EVENTS-clause-events : goal.returns-then-len-ge-MAX_EVENTS-clause-events
returns-then-len-ge-MAX_EVENTS-clause-events c e =
    let i = c.lines.invariant in
    let full : most_events ≤ length c.lines.events = omega (arith, c.len.ensures, c.if-len-ge-MAX_EVENTS.true) in
    too_many c.args.c.now c.args.text.now c.lines.rest.now (c.lines.line - c.args.first_line) c.lines.events c.in-Some.end c.in-Says.event i.so_far (sym c.in-Some.ensures) (kind_is c.args.c.now (take c.in-Some.end c.lines.rest.now) c.in_ok-read_line.field-0 (Says c.in-Says.event) c.in_ok-read_line.ensures c.in-Says.is) full

pub returns-in-Bad-clause-bad_line : goal.returns-in-Bad-clause-bad_line
returns-in-Bad-clause-bad_line c line e =
    let i = c.lines.invariant in
    let same : c.lines.line ≡ line = cc in
    (c.lines.line - c.args.first_line, omega (arith, same, i.from), bad_line c.args.c.now c.args.text.now c.lines.rest.now (c.lines.line - c.args.first_line) c.lines.events c.in-Some.end i.so_far (sym c.in-Some.ensures) (kind_is c.args.c.now (take c.in-Some.end c.lines.rest.now) c.in_ok-read_line.field-0 Bad c.in_ok-read_line.ensures c.in-Bad.is))

pub lines-preserved : goal.lines-preserved
lines-preserved c =
    let i = c.lines.invariant in
    let rest = c.lines.rest.now in
    let end = c.in-Some.end in
    let at : position (λ b. eqb b 10) rest ≡ Some end = sym c.in-Some.ensures in
    let within : end < length rest = (cut_some (λ b. eqb b 10) rest end at).0 in
    let after : take (length rest - (end + 1)) (drop (end + 1) rest) ≡ drop (end + 1) rest = take_all _ (drop (end + 1) rest) (omega (arith, length-drop (end + 1) rest)) in
    let n : c.lines.line + 1 - c.args.first_line ≡ c.lines.line - c.args.first_line + 1 = omega (arith, i.from) in
    record {
      so_far = elim c.match-branch-2.branch [
        | in-Skipped w ↦ rw (n, w.events-is) (SoFar-skipped c.args.c.now c.args.text.now rest (take (length rest - (end + 1)) (drop (end + 1) rest)) (c.lines.line - c.args.first_line) c.lines.events end i.so_far at (kind_is c.args.c.now (take end rest) c.in_ok-read_line.field-0 Skipped c.in_ok-read_line.ensures w.in-Skipped.is) after)
        | in-Says+else-len-ge-MAX_EVENTS+in_ok-push-in-Says w ↦ (
            let few : length c.lines.events < most_events = omega (arith, w.len.ensures, w.if-len-ge-MAX_EVENTS.false) in
            rw (n, w.events-is, w.in_ok-push-in-Says.ensures.ok) (SoFar-event c.args.c.now c.args.text.now rest (take (length rest - (end + 1)) (drop (end + 1) rest)) (c.lines.line - c.args.first_line) c.lines.events end w.in-Says.event i.so_far at (kind_is c.args.c.now (take end rest) c.in_ok-read_line.field-0 (Says w.in-Says.event) c.in_ok-read_line.ensures w.in-Says.is) few after))
      ];
      from = omega (arith, i.from);
      room = omega (arith, i.room, within, length-drop (end + 1) rest, ap length after);
    }
