use Rattle.ag_pages.proofs.Seats.{read-some}
use Rattle.ag_pages.proofs.pages.Pages.applied.Goals as goal

pub unreachable-requires : goal.unreachable-requires
unreachable-requires c = read-some c.self.inside.count c.args.stripe c.from.result c.self.inside.places.items c.index.result.now c.self.invariant c.requires c.from.ensures c.index.ensures c.in-None.is
