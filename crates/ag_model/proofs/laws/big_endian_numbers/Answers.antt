use Rattle.ag_model.proofs.Numbers.{to_be_bytes-from_be_bytes, from_be_bytes-to_be_bytes}
use Rattle.ag_model.proofs.laws.big_endian_numbers.Goals as goal

pub returns-clause-read_written : goal.returns-clause-read_written
returns-clause-read_written c = to_be_bytes-from_be_bytes

pub returns-clause-written_read : goal.returns-clause-written_read
returns-clause-written_read c = from_be_bytes-to_be_bytes
