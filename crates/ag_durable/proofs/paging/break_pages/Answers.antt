use Rattle.std.proofs.Common.{◌≡◌, ◌+◌, ◌++◌, ℕ, List, take, sym, ap, ◌∙◌}
use Rattle.ag_lists.proofs.Results.{ok_is}
use Rattle.ag_writes.specs.declared.order.Order.{Order}
use Rattle.ag_durable.specs.declared.progress.Came.TheVariants.{Stopped}
use Rattle.ag_durable.specs.Coming.{pages_broken}
use Rattle.ag_durable.proofs.Pagings.{pages_of, first_pages}
use Rattle.ag_durable.proofs.paging.break_pages.Goals as goal

pub returns-in_ok-name_pages-in-StopAt : goal.returns-in_ok-name_pages-in-StopAt
returns-in_ok-name_pages-in-StopAt c =
    let p = c.args.progress.now in
    let w = c.in-StopAt.writes in
    let ws = c.args.pages.now in
    let count : c.in_ok-count-in-StopAt.count ≡ w + 1 = ok_is c.in_ok-count-in-StopAt.count (w + 1) c.in_ok-count-in-StopAt.ensures in
    let writes : c.in_ok-progress-in-StopAt.field-0 ≡ p.writes + (w + 1) = ok_is c.in_ok-progress-in-StopAt.field-0 (p.writes + c.in_ok-count-in-StopAt.count) c.in_ok-progress-in-StopAt.ensures ∙ ap (λ (n : ℕ). p.writes + n) count in
    let named : c.name_pages.new.named ≡ p.named ++ take (w + 1) (pages_of ws) = c.in_ok-name_pages-in-StopAt.ensures ∙ ap (λ vs. p.named ++ pages_of vs) c.first_writes.ensures ∙ ap (λ (n : ℕ). p.named ++ pages_of (take n ws)) count ∙ ap (λ (ps : List ℕ). p.named ++ ps) (first_pages (w + 1) ws) in
    ap (λ (n : ℕ). record p { writes = n; named = c.name_pages.new.named; came = Stopped }) writes
    ∙ ap (λ (ps : List ℕ). record p { writes = p.writes + (w + 1); named = ps; came = Stopped }) named
    ∙ sym (ap (λ (o : Order). pages_broken o p (pages_of ws)) c.in-StopAt.is)
