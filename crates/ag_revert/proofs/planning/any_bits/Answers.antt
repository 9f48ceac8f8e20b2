use Rattle.std.proofs.Common.{◌∙◌, get_or, bit_or, refl, arith}
use Rattle.std.proofs.lemmas.List.{length-set}
use Rattle.ag_revert.proofs.Unions.{byte_done, bytes_left}
use Rattle.ag_revert.proofs.planning.any_bits.Goals as goal

pub loop-i-preserved : goal.loop-i-preserved
loop-i-preserved c =
    let bits = c.loop-i.bits in
    let i = c.loop-i.i in
    let v = bit_or (get_or bits i 0) (get_or c.args.other.now i 0) in
    record {
      len = length-set bits i v ∙ c.loop-i.invariant.len;
      done = byte_done bits c.args.one.now c.args.other.now i v (omega (arith, c.loop-i.invariant.len, c.loop-i-test.true)) refl c.loop-i.invariant.rest c.loop-i.invariant.done;
      rest = bytes_left bits c.args.one.now c.args.other.now i v (omega (arith, c.loop-i.invariant.len, c.loop-i-test.true)) refl c.loop-i.invariant.rest;
    }
