use Rattle.ag_lists.proofs.Results.{not_ok}
use Rattle.std.proofs.Common.{arith, ◌≡◌, sym, subst, ◌∙◌, refl, ap}
use Rattle.ag_outside.specs.Shown.{reads_of}
use Rattle.ag_rules.specs.Plan.{can_note}
use Rattle.ag_rules.specs.Access.{kind_of, refusal_of}
use Rattle.ag_replica.proofs.Cells.{kept-cells}
use Rattle.ag_replica.proofs.Accesses.{full-refuses, bad-refuses}
use Rattle.ag_replica.proofs.accessing.find_bad.Goals as goal

pub returns-then-not-can_note : goal.returns-then-not-can_note
returns-then-not-can_note g c = record {
  refuses =
      full-refuses g.D.Disk.reads c.args.up.now c.args.page c.requires.up c.requires.page c.pend.new.self c.pend.ensures c.requires.waits c.requires.bad
      (ap (can_note c.args.page) (c.suspects.ensures.kept c.requires.up.underway) ∙ sym c.can_note.ensures ∙ c.if-not-can_note.true);
  later = omega arith;
  fault = λ e. absurd (not_ok _ _ (sym e));
}

pub returns : goal.returns
returns g c =
    let reads = g.D.Disk.reads in
    let cells = c.in_ok-cells.ensures.cells ∙ sym (kept-cells c.args.up.now.durable.master.pages c.args.page (reads_of reads c.args.up.now.durable.disk) c.requires.page) in
    record {
      refuses = bad-refuses reads c.args.up.now c.args.page c.requires.up c.requires.page c.cells.new.self c.note.new.up c.pend-2.new.self c.kind_of-kind.result.0 c.kind_of-kind.result.1
          c.in_ok-cells.ensures.only c.pend-2.ensures c.requires.waits c.requires.bad
          (ap (can_note c.args.page) (c.suspects.ensures.kept c.requires.up.underway) ∙ sym c.can_note.ensures ∙ c.if-not-can_note.false)
          (c.kind_of-kind.ensures.kind ∙ ap kind_of cells) (c.kind_of-kind.ensures.refusal ∙ ap (λ x. refusal_of x c.args.page) cells) c.in_ok-note.ensures.wrote;
      later = omega (arith, c.in_ok-cells.ensures.later, c.in_ok-note.ensures.later);
      fault = λ e. absurd (not_ok _ _ (sym e));
    }
