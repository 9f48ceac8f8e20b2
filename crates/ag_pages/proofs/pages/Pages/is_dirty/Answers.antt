use Rattle.std.proofs.Common.{◌%◌, lit<, sym, ap, ◌∙◌}
use Rattle.std.proofs.Math.Nat.{mod-lt}
use Rattle.ag_pages.specs.Views.{PagesView, is_page}
use Rattle.ag_pages.proofs.Seats.{read-at, read-some}
use Rattle.ag_pages.proofs.Swaps.{own-page}
use Rattle.ag_pages.proofs.pages.Pages.is_dirty.Goals as goal

pub is_dirty-requires : goal.is_dirty-requires
is_dirty-requires c =
    let places = c.self.inside.places.items in
    let read = c.index.result.now in
    let at = read-at c.self.inside.count (c.args.page % 16) c.from.result places read c.self.invariant (mod-lt c.args.page {m = 16} (lit< tt)) c.from.ensures c.index.ensures in
    own-page c.self.inside.count places c.in-Some.stripe c.args.page c.self.invariant (ap (λ (v : PagesView). is_page v c.args.page) c.self.view_is ∙ c.requires) (sym at ∙ c.in-Some.is)

pub unreachable-requires : goal.unreachable-requires
unreachable-requires c =
    read-some c.self.inside.count (c.args.page % 16) c.from.result c.self.inside.places.items c.index.result.now c.self.invariant (mod-lt c.args.page {m = 16} (lit< tt)) c.from.ensures c.index.ensures c.in-None.is
