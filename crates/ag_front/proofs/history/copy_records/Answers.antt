use Rattle.std.proofs.Common.{◌≡◌, ◌+◌, ◌-◌, sym, arith}
use Rattle.std.proofs.lemmas.List.{drop-take}
use Rattle.ag_ends.proofs.Records.{clone_same}
use Rattle.ag_front.proofs.history.copy_records.Goals as goal

pub returns : goal.returns
returns c =
    let e = c.in_ok-copy.ensures.items_if_clones_equal clone_same in
    let n : c.args.low + (c.args.high - c.args.low) ≡ c.args.high = omega (arith, c.requires.order) in
    let d = drop-take c.args.low (c.args.high - c.args.low) c.args.records.now in
    let d2 = rw n at d in
    rw (c.from_vec.ensures, e) (sym d2)
