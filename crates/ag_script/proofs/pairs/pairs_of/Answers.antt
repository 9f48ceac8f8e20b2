use Rattle.std.proofs.Common.{◌≡◌, length, arith, inl, inr, Some, refl}
use Rattle.ag_script.specs.ReadWords.{some_pairs}
use Rattle.ag_script.proofs.PairLemmas.{pairs_start, pairs_next, pairs_none, pairs_end, pairs_empty, pairs_some, not_none}
use Rattle.ag_script.proofs.pairs.pairs_of.Goals as goal
use Rattle.ag_script.proofs.pairs.pairs_of.Goals.{else-pairs-test, then-pairs-test+in_default}

pub pairs-init : goal.pairs-init
pairs-init c = rw c.new-pairs.ensures (pairs_start c.args.words.now)

pub pairs-preserved : goal.pairs-preserved
pairs-preserved c =
    rw c.in_ok-push.ensures.ok (pairs_next c.args.words.now c.pairs.words c.next_key.new.self c.value.new.self c.pairs.pairs (record { key = c.in-Some.key; value = c.in-Some-value.value }) c.pairs.invariant (omega (arith, c.len.ensures, c.pairs-test.true)) c.in-Some.ensures.none c.in-Some-value.ensures)

pub returns-in_default-value : goal.returns-in_default-value
returns-in_default-value c = pairs_none c.args.words.now c.pairs.words c.next_key.new.self c.pairs.pairs c.in-Some.key c.pairs.invariant (omega (arith, c.len.ensures, c.pairs-test.true)) c.in-Some.ensures.none c.in_default-value.ensures

pub returns-then-is_empty : goal.returns-then-is_empty
returns-then-is_empty c =
    let read : some_pairs 8 c.args.words.now ≡ Some (c.pairs.pairs, c.pairs-test.words) = elim c.pairs-test.branch [
      | else-pairs-test w ↦ rw w.words-is (pairs_end c.args.words.now c.pairs.words c.pairs.pairs c.pairs.invariant (inl (omega (arith, c.len.ensures, w.pairs-test.false))))
      | then-pairs-test+in_default w ↦ rw (w.words-is, w.in_default.ensures.same) (pairs_end c.args.words.now c.pairs.words c.pairs.pairs c.pairs.invariant (inr w.in_default.ensures.none))
    ] in
    pairs_empty c.args.words.now c.pairs-test.words c.pairs.pairs read (c.if-is_empty.ensures.0 refl)

pub returns : goal.returns
returns c =
    let read : some_pairs 8 c.args.words.now ≡ Some (c.pairs.pairs, c.pairs-test.words) = elim c.pairs-test.branch [
      | else-pairs-test w ↦ rw w.words-is (pairs_end c.args.words.now c.pairs.words c.pairs.pairs c.pairs.invariant (inl (omega (arith, c.len.ensures, w.pairs-test.false))))
      | then-pairs-test+in_default w ↦ rw (w.words-is, w.in_default.ensures.same) (pairs_end c.args.words.now c.pairs.words c.pairs.pairs c.pairs.invariant (inr w.in_default.ensures.none))
    ] in
    pairs_some c.args.words.now c.pairs-test.words c.pairs.pairs read (not_none (length c.pairs.pairs) c.if-is_empty.ensures.1)
