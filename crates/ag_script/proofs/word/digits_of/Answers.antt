use Rattle.std.proofs.Common.{Ok, Err}
use Rattle.ag_script.proofs.Numbers.{digits_are_text, parsed}
use Rattle.ag_script.proofs.word.digits_of.Goals as goal

pub returns-in-Err : goal.returns-in-Err
returns-in-Err c = λ h. c.in-Err.ensures.cases.0 (digits_are_text c.args.word.now h)

pub returns-in-Err-parse : goal.returns-in-Err-parse
returns-in-Err-parse c =
    let given = rw c.in-Ok.ensures.cases.0 at c.in-Err-parse.ensures.value.0 in
    parsed c.args.word.now (Err c.in-Err-parse.field-0) given c.requires

pub returns-in-Ok-parse : goal.returns-in-Ok-parse
returns-in-Ok-parse c =
    let given = rw c.in-Ok.ensures.cases.0 at c.in-Ok-parse.ensures.value.0 in
    parsed {E = Rattle.std.specs.declared.num.ParseIntError.ParseIntError} c.args.word.now (Ok c.in-Ok-parse.n) given c.requires
