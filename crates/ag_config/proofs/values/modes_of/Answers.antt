use Rattle.std.proofs.Common.{vec_len, arith, inl, inr, sym, ◌∙◌}
use Rattle.std.proofs.lemmas.Bool.{eqb-true, eqb-false}
use Rattle.toml.specs.View.{array_view}
use Rattle.ag_config.specs.Head.{values_of}
use Rattle.ag_config.proofs.Modes.{count_seen, not_few, few}
use Rattle.ag_config.proofs.values.modes_of.Goals as goal
use Rattle.ag_config.proofs.values.modes_of.Goals.{then-is_empty-via-then-is_empty, then-is_empty-via-else-is_empty+then-len-gt-MAX_REPLICAS}

pub returns-then-is_empty : goal.returns-then-is_empty
returns-then-is_empty c =
    let seen = count_seen c.args.values.now.items in
    not_few (values_of (array_view c.args.values.now))
    (elim c.then-is_empty.branch [
      | then-is_empty-via-then-is_empty w ↦ let none = eqb-true (vec_len c.args.values.now) 0 (sym c.is_empty.ensures ∙ w.if-is_empty.true) in inl (omega (arith, seen, none))
      | then-is_empty-via-else-is_empty+then-len-gt-MAX_REPLICAS w ↦ inr (omega (arith, seen))
    ])

pub returns : goal.returns
returns c =
    let seen = count_seen c.args.values.now.items in
    let some = eqb-false (vec_len c.args.values.now) 0 (sym c.is_empty.ensures ∙ c.if-is_empty.false) in
    rw (few (values_of (array_view c.args.values.now)) (omega (arith, seen, some)) (omega (arith, seen))) c.each_mode.ensures
