use Rattle.std.proofs.Common.{◌<◌, ◌^◌, arith}
use Rattle.ag_script.proofs.HexLemmas.{room}
use Rattle.ag_script.proofs.word.mask_of.Goals as goal

pub overflow_mul-mask : goal.overflow_mul-mask
overflow_mul-mask c = let h : c.digits.mask < 2 ^ 60 = room c.digits.mask c.digits.b-index c.digits.invariant.small (omega arith) in omega (arith, h)

pub overflow_add-mask : goal.overflow_add-mask
overflow_add-mask c = let h : c.digits.mask < 2 ^ 60 = room c.digits.mask c.digits.b-index c.digits.invariant.small (omega arith) in omega (arith, h, c.in_ok-hex_digit.ensures.small, c.from.ensures)
