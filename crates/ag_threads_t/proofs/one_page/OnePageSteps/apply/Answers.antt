use Rattle.ag_threads_t.proofs.Pages.{stands_then}
use Rattle.ag_threads_t.proofs.one_page.OnePageSteps.apply.Goals as goal

pub returns-clause-stands : goal.returns-clause-stands
returns-clause-stands g c = let e = c.redo_all-lsn.ensures in let s = c.args.self.now in
    stands_then s.number s.opening s.applied c.redo_all-lsn.result s.value c.redo_all-lsn.new.v c.args.block.now c.as_slice.result.now s.small s.own c.as_slice.ensures e.redone e.end
