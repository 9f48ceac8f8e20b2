use Rattle.std.proofs.Common.{◌∙◌, ◌+◌, ◌-◌, ◌%◌, ◌/◌, ◌≡◌, [], ap, arith, ℕ, take, drop, get_or}
use Rattle.ag_inplace.proofs.Sectors.{part-is}
use Rattle.ag_inplace.proofs.parts.bytes_in.Goals as goal

pub returns-then-place-le-PART : goal.returns-then-place-le-PART
returns-then-place-le-PART g c =
    let r = c.args.at % 511 in
    let some = c.requires.some in
    let room = c.requires.room in
    let k : r + g.row.N - r ≡ g.row.N = omega arith in
    c.copy_from_slice.ensures.after ∙ ap (λ (n : ℕ). take n (drop r (get_or c.args.i.now (c.args.at / 511) []))) k
    ∙ part-is c.args.i.now c.args.at g.row.N c.told-i c.requires.whole (omega arith) c.if-place-le-PART.true
