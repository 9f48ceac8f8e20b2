use Rattle.std.proofs.Common.{◌≡◌, ◌<◌, ◌≤◌, length, get_or, ◌∙◌, sym, arith}
use Rattle.std.proofs.lemmas.List.{get_or_default}
use Rattle.ag_txn.proofs.Rising.{insert_rising_same, insert_rising_new}
use Rattle.ag_txn.proofs.listed.insert_rising.Goals as goal
use Rattle.ag_txn.proofs.listed.insert_rising.Goals.{then-place-len-via-then-place-len, then-place-len-via-else-place-len+then-index-number}

pub returns-in_ok-insert : goal.returns-in_ok-insert
returns-in_ok-insert c =
    let ys = c.args.numbers.now.items in
    let k = c.place_of-place.result in
    let before = rw c.as_slice.ensures.value at c.place_of-place.ensures.before in
    let there = rw c.as_slice.ensures.value at c.place_of-place.ensures.there in
    c.in_ok-insert.ensures.items
    ∙ sym (insert_rising_new ys k c.args.number (omega arith) before
    (λ l. elim c.then-place-len.branch [
      | then-place-len-via-then-place-len w ↦ omega arith
      | then-place-len-via-else-place-len+then-index-number w ↦
          let e : w.index.result.now ≡ get_or ys k 0 = w.index.ensures ∙ get_or_default ys k w.index.result.now 0 l in
          let t : c.args.number ≤ get_or ys k 0 = there l in
          omega arith
    ]))

pub returns-else-index-number : goal.returns-else-index-number
returns-else-index-number c =
    let ys = c.args.numbers.now.items in
    let k = c.place_of-place.result in
    let before = rw c.as_slice.ensures.value at c.place_of-place.ensures.before in
    let l : k < length ys = omega arith in
    let e : get_or ys k 0 ≡ c.args.number = get_or_default ys k 0 c.index.result.now l ∙ sym c.index.ensures ∙ c.if-index-number.false in
    sym (insert_rising_same ys k c.args.number l before e)
