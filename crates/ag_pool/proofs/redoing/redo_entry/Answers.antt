use Rattle.std.proofs.Common.{◌≡◌, sym, subst}
use Rattle.ag_model.specs.declared.record.Record.{Record}
use Rattle.ag_model.specs.Rows.{touches}
use Rattle.ag_pool.specs.Passes.{redone_where}
use Rattle.ag_pool.specs.Redo.{each_with_page}
use Rattle.ag_pool.proofs.Passes.{redone-none}
use Rattle.ag_pool.proofs.redoing.redo_entry.Goals as goal

pub returns-in-Term-clause-redone : goal.returns-in-Term-clause-redone
returns-in-Term-clause-redone c =
    subst (λ (r : Record). c.args.frames.now.items ≡ each_with_page (redone_where c.args.x c.args.lsn r (λ q. touches c.args.pages q r)) c.args.frames.now.items) (sym c.in-Term.is)
    (redone-none c.args.x c.args.lsn _ c.args.frames.now.items)
