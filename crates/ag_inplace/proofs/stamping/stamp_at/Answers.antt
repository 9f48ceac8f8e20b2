use Rattle.std.proofs.Common.{◌∙◌, ◌+◌, sym, ap, List, ℕ}
use Rattle.ag_page.specs.Image.{image_bytes}
use Rattle.ag_inplace.proofs.Splices.{spliced}
use Rattle.ag_inplace.proofs.Stamps.{stamps-own}
use Rattle.ag_inplace.proofs.stamping.stamp_at.Goals as goal

pub returns-then-txn_in-txn-clause-bytes : goal.returns-then-txn_in-txn-clause-bytes
returns-then-txn_in-txn-clause-bytes c = λ w h.
    stamps-own (image_bytes c.args.i.now) (image_bytes c.write_part.new.i) c.args.at c.args.lsn c.args.txn w h (sym (c.txn_in.ensures w h) ∙ c.if-txn_in-txn.true)
    (c.write_part.ensures.bytes ∙ ap (λ (z : List ℕ). spliced (c.args.at + 16) z (image_bytes c.args.i.now)) c.to_be_bytes.ensures)
