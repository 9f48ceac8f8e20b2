use Rattle.std.proofs.Common.{◌≡◌, ◌+◌, ◌-◌, sym, arith}
use Rattle.std.proofs.lemmas.List.{drop-take}
use Rattle.ag_ends.proofs.Records.{clone_same}
use Rattle.ag_logstore.proofs.Fitting.{fit_between}
use Rattle.ag_logstore.proofs.hardened.HardenedLog.copy_block.Goals as goal

pub returns-clause-is : goal.returns-clause-is
returns-clause-is c =
    let e = c.in_ok-copy.ensures.items_if_clones_equal clone_same in
    let n : (c.args.first - 1) + (c.args.last - (c.args.first - 1)) ≡ c.args.last = omega arith in
    let d = drop-take (c.args.first - 1) (c.args.last - (c.args.first - 1)) c.self.inside.records in
    let same : c.as_slice-records.result.now ≡ c.self.inside.records = c.as_slice-records.ensures in
    let d2 = rw n at d in
    rw (c.from_vec.ensures, e, same, ← c.self.view_is) (sym d2)

pub returns-clause-fits : goal.returns-clause-fits
returns-clause-fits c =
    let e = c.in_ok-copy.ensures.items_if_clones_equal clone_same in
    let n : (c.args.first - 1) + (c.args.last - (c.args.first - 1)) ≡ c.args.last = omega arith in
    let d = drop-take (c.args.first - 1) (c.args.last - (c.args.first - 1)) c.self.inside.records in
    let same : c.as_slice-records.result.now ≡ c.self.inside.records = c.as_slice-records.ensures in
    let d2 = rw n at d in
    rw (c.from_vec.ensures, e, same, ← d2) (fit_between (c.args.first - 1) c.args.last c.self.inside.records c.self.invariant.fits)
