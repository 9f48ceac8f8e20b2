use Rattle.std.proofs.Common.{◌++◌, ap, List, ℕ, length}
use Rattle.std.proofs.lemmas.List.{drop-replicate}
use Rattle.ag_model.specs.declared.value.Value.{Value}
use Rattle.ag_page.proofs.reading.padded.Goals as goal

pub returns : goal.returns
returns c = rw c.copy_from_slice.ensures.after (ap (λ (z : List ℕ). let v : Value = record { len = length c.args.text.now; bytes = c.args.text.now ++ z } in v) (drop-replicate (length c.args.text.now) 64 0))
