use Rattle.std.proofs.Common.{Some, ◌-◌, ◌≡◌, ◌<◌, arith, length, get_or, take, drop, sym, inl, inr, false, ◌∙◌, eqb-true}
use Rattle.std.specs.Prelude.{codes}
use Rattle.std.specs.Str.{bytes_eq}
use Rattle.std.proofs.lemmas.List.{take_all, length-drop}
use Rattle.ag_script.specs.Hex.{hex_at}
use Rattle.ag_script.proofs.HexLemmas.{Filled-start, Filled-next, value_wrong_len, value_empty}
use Rattle.ag_script.proofs.word.value_of.Goals as goal
use Rattle.ag_script.proofs.word.value_of.Goals.{then-is_empty-via-then-is_empty, then-is_empty-via-else-is_empty+then-word-gt128, then-is_empty-via-else-is_empty+else-word-gt128+then-word-eq1}

pub returns-then-is_empty : goal.returns-then-is_empty
returns-then-is_empty c =
    let differs : bytes_eq c.args.word.now (codes "-") ≡ false = rw (← c.as_slice.ensures) (sym c.eq.ensures ∙ c.if-eq.false) in
    elim c.then-is_empty.branch [
      | then-is_empty-via-then-is_empty w ↦ sym (value_empty c.args.word.now (eqb-true _ _ (sym c.is_empty.ensures ∙ w.if-is_empty.true)))
      | then-is_empty-via-else-is_empty+then-word-gt128 w ↦ sym (value_wrong_len c.args.word.now differs (inl w.if-word-gt128.true))
      | then-is_empty-via-else-is_empty+else-word-gt128+then-word-eq1 w ↦ sym (value_wrong_len c.args.word.now differs (inr w.if-word-eq1.true))
    ]

pub pairs-init : goal.pairs-init
pairs-init c = Filled-start c.args.word.now

pub pairs-preserved : goal.pairs-preserved
pairs-preserved c =
    let i = c.pairs.invariant in
    let rest = c.pairs.rest.now in
    let after : take (length rest - 2) (drop 2 rest) ≡ drop 2 rest = take_all _ (drop 2 rest) (omega (arith, length-drop 2 rest)) in
    let few : c.pairs.value.len < 64 = omega (arith, i.left, c.in-len2-up.len_at_least) in
    let first : hex_at (get_or rest 0 0) ≡ Some c.in_ok-hex_digit.field-0 = sym c.in_ok-hex_digit.ensures.is in
    let second : hex_at (get_or rest 1 0) ≡ Some c.in_ok-value.field-0 = sym c.in_ok-value.ensures.is in
    rw c.from.ensures (Filled-next c.args.word.now rest (take (length rest - 2) (drop 2 rest)) c.pairs.value.bytes c.pairs.value.len c.in_ok-hex_digit.field-0 c.in_ok-value.field-0 i c.in-len2-up.len_at_least after first second few)
