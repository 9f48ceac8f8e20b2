use Rattle.std.proofs.Common.{◌≡◌, ◌++◌, ℕ, ◌-◌, ◌≤◌, List, [], ◌∷◌, length, get_or, take, drop, codes, ap, ◌∙◌, arith, append_assoc}
use Rattle.std.proofs.lemmas.List.{take_all}
use Rattle.std.specs.List.{flat_map}
use Rattle.ag_transcript.specs.Words.{list_text}
use Rattle.ag_transcript.proofs.words.put_list.Goals as goal

-- the first item, and then the others with a `,` before each
list_text-of : {A : Type 0} (text : A → List ℕ) (items : List A) (first : A) (n m : ℕ) → 1 ≤ length items → first ≡ get_or items 0 first → m ≡ length items - 1 → length (take m (drop 1 items)) ≤ n → text first ++ flat_map (λ item. codes "," ++ text item) (take n (take m (drop 1 items))) ≡ list_text text items
list_text-of text [] first n m some first_is m_is end = absurd (omega arith)
list_text-of text (x ∷ xs) first n m some first_is m_is end =
    let whole : take m xs ≡ xs = take_all m xs (omega arith) in
    let all : take n (take m xs) ≡ xs = take_all n (take m xs) end ∙ whole in
    ap (λ ys. text first ++ flat_map (λ item. codes "," ++ text item) ys) all ∙ ap (λ y. text y ++ flat_map (λ item. codes "," ++ text item) xs) first_is

pub returns-after-loop-item : goal.returns-after-loop-item
returns-after-loop-item g c =
    rw (c.loop-item.invariant, c.in_ok-print-in-len1-up.ensures, append_assoc)
    (ap (λ text. c.args.out.now.items ++ text) (list_text-of g.T.Print.text c.args.items.now _ _ _ c.in-len1-up.len_at_least c.first-item.is (omega arith) c.loop-item-test.false))
