use Rattle.std.proofs.Common.{◌≡◌, ◌≤◌, ◌+◌, ◌*◌, ◌-◌, ◌++◌, take, length, vec_len, vec_capacity}
use Rattle.ag_logblock.specs.Fitting.{payload_of}
use Rattle.ag_logblock.proofs.joining.append.Given as goal

abbrev pub invariant-loop-sector : goal.invariant-loop-sector
invariant-loop-sector l = record {
  items : l.out.items ≡ l.fn.out.items ++ payload_of (take l.sector-index l.s);
  room : vec_len l.out + 484 * (length l.s - l.sector-index) ≤ vec_capacity l.out;
}
