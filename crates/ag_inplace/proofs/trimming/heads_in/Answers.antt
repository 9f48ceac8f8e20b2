use Rattle.std.proofs.Common.{◌≡◌, ◌∙◌, ◌<◌, ◌++◌, ◌∷◌, [], sym, ap, List, length, get_or, map, take, arith, ℕ}
use Rattle.std.proofs.lemmas.List.{length-set, take_more_set, map_more, take_all}
use Rattle.ag_page.specs.Image.{image_bytes}
use Rattle.ag_inplace.specs.declared.trimming.Head.{Head}
use Rattle.ag_inplace.specs.Heads.{head_of}
use Rattle.ag_inplace.proofs.Listed.{lists-few, listed-at, no_version}
use Rattle.ag_inplace.proofs.trimming.heads_in.Goals as goal

pub head_in-requires : goal.head_in-requires
head_in-requires c =
    let ws = c.requires.0 in
    let h = c.requires.1 in
    let count : c.args.d.now.count ≡ length ws = h.count in
    (get_or ws c.loop-k.k no_version, listed-at (image_bytes c.args.i.now) c.args.d.now ws c.loop-k.k c.from.result h (omega (arith, c.from-k-end.ensures, c.loop-k-test.true)) c.from.ensures)

pub loop-k-preserved : goal.loop-k-preserved
loop-k-preserved c = record {
  heads = λ ws h.
      let k = c.loop-k.k in
      let count : c.args.d.now.count ≡ length ws = h.count in
      let lt : k < length ws = omega (arith, c.from-k-end.ensures, c.loop-k-test.true) in
      let few = lists-few (image_bytes c.args.i.now) c.args.d.now ws h in
      let here = c.head_in.ensures (get_or ws k no_version) (listed-at (image_bytes c.args.i.now) c.args.d.now ws k c.from.result h lt c.from.ensures) in
      take_more_set c.loop-k.heads k c.head_in.result (omega (arith, c.loop-k.invariant.whole)) ∙ ap (λ (z : List Head). z ++ c.head_in.result ∷ []) (c.loop-k.invariant.heads ws h)
      ∙ ap (λ (z : Head). map head_of (take k ws) ++ z ∷ []) here ∙ sym (map_more head_of ws k no_version lt);
  whole = length-set c.loop-k.heads c.loop-k.k _ ∙ c.loop-k.invariant.whole;
}

pub returns : goal.returns
returns c = λ ws h.
    let count : c.args.d.now.count ≡ length ws = h.count in
    let k : c.loop-k.k ≡ length ws = omega (arith, c.from-k-end.ensures, c.loop-k-test.false, c.loop-k.auto.k-end) in
    ap (λ (n : ℕ). take n c.loop-k.heads) (sym k) ∙ c.loop-k.invariant.heads ws h ∙ ap (map head_of) (take_all c.loop-k.k ws (omega arith))
