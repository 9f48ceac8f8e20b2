use Rattle.std.proofs.Common.{◌≡◌, ◌+◌, ◌-◌, ◌<◌, ◌≤◌, suc, refl, length, take, drop, get_or, ℕ, List, ◌∷◌, subst, arith, drop-cons}
use Rattle.ag_model.specs.declared.record.Record.{Record}
use Rattle.ag_model.specs.Sizes.{block_sectors, sectors_to}
use Rattle.ag_logstore.specs.LogKept.{RisesTo, AreSmall}
use Rattle.ag_logstore.proofs.LogEnds.{rises_le}
use Rattle.ag_logstore.proofs.cutting.sectors_before.Goals as goal

-- the block at an index of the ends
record Next (before high : ℕ) (ends : List ℕ) (i : ℕ) (rest : List Record) : Type 0 where
  here : RisesTo before high (get_or ends i 0 ∷ drop (suc i) ends)
  small : AreSmall before (get_or ends i 0 ∷ drop (suc i) ends) rest
  most : get_or ends i 0 ≤ high
  sectors : sectors_to before (drop i ends) rest ≡ block_sectors (take (get_or ends i 0 - before) rest) + sectors_to (get_or ends i 0) (drop (suc i) ends) (drop (get_or ends i 0 - before) rest)

next : (before high : ℕ) (ends : List ℕ) (i : ℕ) (rest : List Record) → i < length ends → RisesTo before high (drop i ends) → AreSmall before (drop i ends) rest → Next before high ends i rest
next before high ends i rest lt p a =
    let here : drop i ends ≡ get_or ends i 0 ∷ drop (suc i) ends = drop-cons ends i 0 lt in
    let rises = subst (RisesTo before high) here p in
    record { here = rises; small = subst (λ es. AreSmall before es rest) here a; most = rises_le _ high _ rises.1; sectors = rw here refl }

pub split_at-requires : goal.split_at-requires
split_at-requires c =
    let l = c.loop-end in
    let n = next l.before (c.args.start + length c.args.records.now) c.args.ends.now l.end-index l.rest.now c.loop-end-test.true l.invariant.rises l.invariant.small in
    omega (arith, n.here.0, n.most, l.invariant.long)
