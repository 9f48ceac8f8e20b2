use Rattle.std.proofs.Common.{◌≡◌, ◌≤◌, ◌+◌, ◌*◌, ◌-◌, ◌++◌, length, take, vec_len, vec_capacity}
use Rattle.std.specs.Int.{w16, to_be_bytes}
use Rattle.std.specs.List.{flat_map}
use Rattle.ag_record.proofs.encoding.pages_of.Given as goal

abbrev pub invariant-loop-page : goal.invariant-loop-page
invariant-loop-page l = record {
  items : l.out.items ≡ l.fn.out.items ++ flat_map (to_be_bytes w16) (take l.page-index l.pages);
  room : vec_len l.out + 2 * (length l.pages - l.page-index) ≤ vec_capacity l.out;
}
