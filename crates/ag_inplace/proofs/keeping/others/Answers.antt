use Rattle.std.proofs.Common.{◌≡◌, ◌∙◌, ◌<◌, ap, not, eqb, ℕ, length, get_or, arith}
use Rattle.std.proofs.lemmas.List.{length-set, get_or_default}
use Rattle.ag_model.specs.declared.value.Version.{Version}
use Rattle.ag_page.specs.Image.{image_bytes}
use Rattle.ag_inplace.proofs.Listed.{lists-few, listed-at, no_version}
use Rattle.ag_inplace.proofs.Compacting.{flags-more}
use Rattle.ag_inplace.proofs.keeping.others.Goals as goal

pub txn_in-requires : goal.txn_in-requires
txn_in-requires c =
    let ws = c.requires.0 in
    let h = c.requires.1 in
    let count : c.args.d.now.count ≡ length ws = h.count in
    (get_or ws c.loop-k.k no_version, listed-at (image_bytes c.args.i.now) c.args.d.now ws c.loop-k.k c.from.result h (omega (arith, c.from-k-end.ensures, c.loop-k-test.true)) c.from.ensures)

pub loop-k-preserved : goal.loop-k-preserved
loop-k-preserved c = record {
  flags = λ ws h.
      let k = c.loop-k.k in
      let count : c.args.d.now.count ≡ length ws = h.count in
      let lt : k < length ws = omega (arith, c.from-k-end.ensures, c.loop-k-test.true) in
      let few = lists-few (image_bytes c.args.i.now) c.args.d.now ws h in
      let here = c.txn_in.ensures (get_or ws k no_version) (listed-at (image_bytes c.args.i.now) c.args.d.now ws k c.from.result h lt c.from.ensures) in
      flags-more (λ (w : Version). not (eqb w.txn c.args.txn)) ws c.loop-k.keep k _ (omega (arith, c.loop-k.invariant.whole)) (c.loop-k.invariant.flags ws h) (ap (λ (t : ℕ). not (eqb t c.args.txn)) here);
  whole = length-set c.loop-k.keep c.loop-k.k _ ∙ c.loop-k.invariant.whole;
}

pub returns : goal.returns
returns c = λ ws h k x lt.
    let count : c.args.d.now.count ≡ length ws = h.count in
    c.loop-k.invariant.flags ws h k (omega (arith, c.from-k-end.ensures, c.loop-k-test.false)) ∙ ap (λ (w : Version). not (eqb w.txn c.args.txn)) (get_or_default ws k no_version x lt)
