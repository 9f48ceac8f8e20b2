use Rattle.std.proofs.Common.{◌∙◌, ap, not, get_or, arith}
use Rattle.std.proofs.lemmas.List.{length-set, get_or_default}
use Rattle.ag_model.specs.declared.value.Version.{Version}
use Rattle.ag_model.specs.Page.{is_trimmed_at}
use Rattle.ag_inplace.proofs.Listed.{no_version}
use Rattle.ag_inplace.proofs.Compacting.{flags-more}
use Rattle.ag_inplace.proofs.Trims.{head-at, many-heads}
use Rattle.ag_inplace.proofs.trimming.untrimmed.Goals as goal

pub loop-k-preserved : goal.loop-k-preserved
loop-k-preserved c = record {
  flags = λ ws is.
      let k = c.loop-k.k in
      let few = c.requires in
      let here = c.is_trimmed.ensures (get_or ws k no_version) ws (head-at c.args.heads.now ws k _ is c.loop-k-test.true) is in
      flags-more (λ (w : Version). not (is_trimmed_at ws w c.args.horizon)) ws c.loop-k.keep k _ (omega (arith, c.loop-k.invariant.whole, c.loop-k-test.true)) (c.loop-k.invariant.flags ws is) (ap not here);
  whole = length-set c.loop-k.keep c.loop-k.k _ ∙ c.loop-k.invariant.whole;
}

pub returns : goal.returns
returns c = λ ws is k x lt.
    let many = many-heads c.args.heads.now ws is in
    c.loop-k.invariant.flags ws is k (omega (arith, c.loop-k-test.false)) ∙ ap (λ (w : Version). not (is_trimmed_at ws w c.args.horizon)) (get_or_default ws k no_version x lt)
