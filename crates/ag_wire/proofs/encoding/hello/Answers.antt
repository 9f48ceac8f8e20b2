use Rattle.std.specs.Int.{w64, to_be_bytes}
use Rattle.ag_wire.specs.Spelling.{ticket_spelling, starts_spelling}
use Rattle.ag_wire.proofs.Appended.{appended3}
use Rattle.ag_wire.proofs.encoding.hello.Goals as goal

pub returns-clause-ok : goal.returns-clause-ok
returns-clause-ok c = appended3 c.args.out.now.items (ticket_spelling c.args.from.now) (to_be_bytes w64 c.args.end) (starts_spelling c.args.starts.now) c.ticket.new.out.items c.put_u64.new.out.items c.starts_of.new.out.items c.in_ok-ticket.ensures.ok c.in_ok-put_u64.ensures.ok c.in_ok-starts_of.ensures.ok
