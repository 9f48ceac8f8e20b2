use Rattle.std.proofs.Common.{◌≡◌, [], ◌∷◌, ◌++◌, List, ℕ, take, length, sym, ◌∙◌, arith}
use Rattle.std.proofs.lemmas.List.{ext_get_or, get_or-map, length-map}
use Rattle.ag_lists.proofs.Each.{all_from}
use Rattle.ag_page.specs.Home.{with_mark}
use Rattle.ag_pagestore.proofs.marks.with_mark.Goals as goal

pub returns-clause-bytes : goal.returns-clause-bytes
returns-clause-bytes c = all_from (λ (s : List ℕ). length s ≡ 512) [] c.args.image.now (λ k lt. c.loop-place.invariant.long k (omega (arith, c.told-image)))

pub returns-clause-marked : goal.returns-clause-marked
returns-clause-marked c =
    let image = c.args.image.now in
    let f = λ (s : List ℕ). take 511 s ++ c.args.mark ∷ [] in
    let whole = c.loop-place.invariant.whole in
    let long = c.told-image in
    ext_get_or [] c.loop-place.marked (with_mark c.args.mark image) (whole ∙ sym long ∙ sym (length-map image f)) (λ k lt. c.loop-place.invariant.each k (omega arith) ∙ sym (get_or-map f image k [] [] (omega (arith, whole, long))))
