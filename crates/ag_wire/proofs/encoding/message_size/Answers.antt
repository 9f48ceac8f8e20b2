use Rattle.std.proofs.Common.{length, ap, arith}
use Rattle.ag_model.specs.declared.message.Body.{Body}
use Rattle.ag_wire.specs.Spelling.{fields_spelling}
use Rattle.ag_wire.proofs.Sizes.{hello_size}
use Rattle.ag_wire.proofs.encoding.message_size.Goals as goal

pub returns-in-Hello : goal.returns-in-Hello
returns-in-Hello c = omega (arith, c.len.ensures, ap (λ (b : Body). length (fields_spelling b)) c.in-Hello.is, hello_size c.in-Hello.ticket c.in-Hello.end c.in-Hello.starts)
