use Rattle.std.proofs.Common.{◌≡◌, ◌++◌, ◌-◌, ◌+◌, ◌≤◌, vec_len, vec_capacity}
use Rattle.ag_logblock.specs.Block.{sectors_from, block}
use Rattle.ag_logblock.proofs.cutting.cut_up.Given as goal

abbrev pub invariant-loop-index : goal.invariant-loop-index
invariant-loop-index l = record {
  items : l.out.items ++ sectors_from l.head l.count l.index (l.count - l.index) l.rest ≡ l.fn.out.items ++ block l.head l.payload;
  room : vec_len l.out + (l.count - l.index) ≤ vec_capacity l.out;
}
