use Rattle.ag_script.proofs.Outcomes.{one_script, one_bad, script_bad, script_many, bad_many}
use Rattle.ag_script.proofs.laws.one_outcome.Goals as goal

pub returns : goal.returns
returns c = record { one_script = one_script; one_bad = one_bad; script_bad = script_bad; script_many = script_many; bad_many = bad_many }
