use Rattle.std.proofs.Common.{◌≡◌, ◌≤◌, ◌++◌, ℕ, List, length, ap, ◌∙◌, arith}
use Rattle.std.proofs.lemmas.Result.{err_from_is_err_and}
use Rattle.std.proofs.lemmas.List.{append-nil, nil_from_length}
use Rattle.std.proofs.lemmas.Bool.Decides.{nat_tests}
use Rattle.ag_record.specs.Spelling.{records_spelling}
use Rattle.ag_record.proofs.Many.{only_memory, stops_here, only_these}
use Rattle.ag_record.proofs.lists.decode_all.Goals as goal

pub returns-in_err-record-clause-only : goal.returns-in_err-record-clause-only
returns-in_err-record-clause-only c =
    let p = err_from_is_err_and c.from_residual-in_err-record.result c.from_residual-in_err-record.ensures.1 in
    let f = c.in_err-record.field-0.0 in
    let some : 1 ≤ length c.loop-rest.rest.now = grind (arith, nat_tests) in
    λ rs h e. rw (p.1, p.2) (only_memory c.args.b.now rs f h e (stops_here c.args.b.now c.loop-rest.records.items c.loop-rest.rest.now f c.loop-rest.invariant.fits c.loop-rest.invariant.parts some c.in_err-record.ensures.exact))

pub returns-clause-only : goal.returns-clause-only
returns-clause-only c =
    let none : length c.loop-rest.rest.now ≡ 0 = grind (arith, nat_tests) in
    let parts : c.args.b.now ≡ records_spelling c.loop-rest.records.items = c.loop-rest.invariant.parts ∙ ap (λ (z : List ℕ). records_spelling c.loop-rest.records.items ++ z) (nil_from_length c.loop-rest.rest.now none) ∙ append-nil (records_spelling c.loop-rest.records.items) in
    λ rs h e. rw c.from_vec.ensures (only_these c.args.b.now c.loop-rest.records.items rs c.loop-rest.invariant.fits parts h e)
