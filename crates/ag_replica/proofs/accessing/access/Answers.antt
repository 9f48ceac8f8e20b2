use Rattle.std.proofs.Common.{◌≡◌, Ok, false, sym, subst, ◌∙◌, refl, ap}
use Rattle.ag_model.specs.declared.answer.Answer.TheVariants.{No}
use Rattle.std.specs.Prelude.{None}
use Rattle.ag_rules.specs.Replica.{Replica}
use Rattle.ag_rules.specs.Access.{access}
use Rattle.ag_rules.specs.Plan.{Part}
use Rattle.ag_replica.specs.Doing.{Does}
use Rattle.ag_replica.proofs.Quiet.{read-mark, read-replica, does-after}
use Rattle.ag_replica.proofs.Accesses.{waits-refuses, opens-page}
use Rattle.ag_replica.proofs.accessing.access.Goals as goal

pub returns-then-frame-clause-refuses : goal.returns-then-frame-clause-refuses
returns-then-frame-clause-refuses g c =
    waits-refuses g.D.Disk.reads c.args.up.now c.args.page c.requires.up c.requires.page (ap (λ f. f.pending) (sym c.frame.ensures) ∙ c.if-frame.true)

pub returns-then-branch-clause-opens : goal.returns-then-branch-clause-opens
returns-then-branch-clause-opens g c = λ _.
    opens-page g.D.Disk.reads c.args.up.now c.args.page c.requires.up c.requires.page c.read_in.new.up c.requires.steady (ap (λ f. f.pending) (sym c.frame.ensures) ∙ c.if-frame.false)
    c.in_ok-read_in.ensures.only (c.in_ok-read_in.ensures.there (ap Ok c.if-branch.true)) (sym c.in_ok-read_in.ensures.sound ∙ c.if-branch.true)

pub find_bad-requires-clause-up : goal.find_bad-requires-clause-up
find_bad-requires-clause-up g c = c.in_ok-read_in.ensures.only.up false c.requires.up

pub find_bad-requires-clause-waits : goal.find_bad-requires-clause-waits
find_bad-requires-clause-waits g c =
    ap (λ m. m.pending) (read-mark g.D.Disk.reads c.args.up.now c.read_in.new.up c.args.page c.in_ok-read_in.ensures.only c.requires.up c.requires.page)
    ∙ ap (λ f. f.pending) (sym c.frame.ensures) ∙ c.if-frame.false

pub returns-clause-refuses : goal.returns-clause-refuses
returns-clause-refuses g c = λ part.
    let reads = g.D.Disk.reads in
    subst (λ (r : Replica). Does reads c.args.up.now (access r c.args.page part) c.find_bad.new.up (record { answer = No c.in_ok-refusal.refusal; out = None }))
    (read-replica reads c.args.up.now c.read_in.new.up c.in_ok-read_in.ensures.only)
    (does-after reads c.args.up.now c.read_in.new.up c.find_bad.new.up _ _ c.in_ok-read_in.ensures.only (c.in_ok-refusal.ensures.refuses part))
