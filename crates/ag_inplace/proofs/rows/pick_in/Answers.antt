use Rattle.std.proofs.Common.{◌∙◌, sym, ap, Option, option_to_list}
use Rattle.ag_model.specs.declared.value.Version.{Version}
use Rattle.ag_model.specs.Page.{row_of_first}
use Rattle.ag_inplace.proofs.Picked.{picked}
use Rattle.ag_inplace.proofs.rows.pick_in.Goals as goal

pub returns-in-Some : goal.returns-in-Some
returns-in-Some c = λ v h.
    c.row_of.ensures ∙ sym (ap (λ (o : Option Version). row_of_first (option_to_list o)) c.in-Some.is) ∙ picked c.last_committed.result v c.args.key c.args.snapshot (c.last_committed.ensures v.versions h)

pub returns-in-None : goal.returns-in-None
returns-in-None c = λ v h.
    sym (ap (λ (o : Option Version). row_of_first (option_to_list o)) c.in-None.is) ∙ picked c.last_committed.result v c.args.key c.args.snapshot (c.last_committed.ensures v.versions h)
