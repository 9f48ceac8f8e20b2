use Rattle.ag_threads_t.proofs.Pages.{read_so}
use Rattle.ag_threads_t.proofs.one_page.OnePageSteps.row_at.Goals as goal

pub returns-clause-row : goal.returns-clause-row
returns-clause-row g c = read_so c.args.self.now.value c.args.key c.args.snapshot c.row_at.result c.row_at.ensures.row c.row_at.ensures.too_old
