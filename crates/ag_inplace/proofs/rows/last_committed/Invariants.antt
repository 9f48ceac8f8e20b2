use Rattle.std.proofs.Common.{◌≡◌, ◌&&◌, eqb, List, take, option_to_list}
use Rattle.std.specs.List.{filter}
use Rattle.ag_model.specs.declared.value.Version.{Version}
use Rattle.ag_model.specs.Page.{greatest, is_committed_at}
use Rattle.ag_page.specs.Image.{image_bytes}
use Rattle.ag_inplace.specs.Listing.{Lists}
use Rattle.ag_inplace.proofs.rows.last_committed.Given as goal

abbrev pub invariant-loop-k : goal.invariant-loop-k
invariant-loop-k l = (ws : List Version) → Lists (image_bytes l.i) l.d ws → option_to_list l.best ≡ greatest (filter (λ w. eqb w.key l.key && is_committed_at l.snapshot w) (take l.k ws))
