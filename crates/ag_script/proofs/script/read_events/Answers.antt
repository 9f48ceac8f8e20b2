use Rattle.ag_script.proofs.InRange.{result_in_range}
use Rattle.ag_script.proofs.Outcomes.{IsTrueOf, tells_script, tells_bad, tells_many}
use Rattle.ag_script.proofs.script.read_events.Goals as goal

pub returns : goal.returns
returns c =
    let r = c.read_lines.ensures in
    let told : IsTrueOf c.args.c.now c.args.text.now c.args.first_line c.read_lines.result = record { script = r.script; bad_line = r.bad_line; events = r.events } in
    let range = result_in_range c.args.c.now c.args.text.now c.read_lines.result r.script in
    record {
      script = r.script;
      in_range = range.0;
      built = range.1;
      values = range.2;
      bad_line = r.bad_line;
      events = r.events;
      tells_script = λ events h. tells_script c.args.c.now c.args.text.now c.args.first_line events c.read_lines.result told h;
      tells_bad_line = λ before h. tells_bad c.args.c.now c.args.text.now c.args.first_line before c.read_lines.result told h;
      tells_events = λ h. tells_many c.args.c.now c.args.text.now c.args.first_line c.read_lines.result told h;
    }
