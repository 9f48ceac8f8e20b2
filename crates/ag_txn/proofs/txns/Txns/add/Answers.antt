use Rattle.std.proofs.Common.{◌≡◌, ◌++◌, ◌+◌, ap, sym, ◌∙◌, length, length-append, arith}
use Rattle.std.proofs.lemmas.List.Sums.{sum_by-append}
use Rattle.ag_model.specs.Sizes.{record_size}
use Rattle.ag_model.specs.Sizes.{records_size}
use Rattle.ag_txn.specs.View.{TxnsView, full_end}
use Rattle.ag_txn.proofs.Copied.{kept_length}
use Rattle.ag_txn.proofs.txns.Txns.add.Goals as goal

pub invariant_of-self-2 : goal.invariant_of-self-2
invariant_of-self-2 c =
    let old = c.self.invariant in
    let buffer : records_size c.self.inside.buffer ≡ records_size c.args.self.now.buffer = ap (λ (v : TxnsView). records_size v.buffer) c.self.view_is in
    let ends : full_end (c.args.self.now) ≡ c.self.inside.end + length c.self.inside.buffer = sym (ap full_end c.self.view_is) in
    let joined : c.append.new.self ≡ c.self.inside.buffer ++ c.args.new = c.in_ok-append.ensures.ok in
    record {
      low = old.low;
      high = old.high;
      slots = ap length c.keep_all.ensures ∙ kept_length c.args.fresh.items c.self.inside.copies ∙ old.slots;
      bytes = omega (arith, ap records_size joined ∙ sum_by-append record_size c.self.inside.buffer c.args.new, old.bytes, c.requires.size);
      few = omega (arith, old.bytes, old.few, buffer, c.requires.room);
      lsns = omega (arith, ap length joined ∙ length-append c.self.inside.buffer c.args.new, ends, c.requires.lsns);
    }
