-- A part that is written over the bytes of a list.
use Rattle.std.proofs.Common.{◌≡◌, ℕ, ◌+◌, ◌-◌, ◌≤◌, List, ◌++◌, length, take, drop, sym, ap, ◌∙◌, append_assoc, arith}
use Rattle.std.proofs.lemmas.List.{take_at, drop_at, drop-drop, take-append-drop, length-append, length-take, length-drop, take-take, drop-take, take_rest}

-- the list with a part written at a place
abbrev pub spliced : ℕ → List ℕ → List ℕ → List ℕ
spliced at part old = take at old ++ (part ++ drop (at + length part) old)

-- a part in place of another one
pub replaced-mid : (at n : ℕ) (a b c part old : List ℕ) → old ≡ a ++ (b ++ c) → length a ≡ at → length b ≡ n → take at old ++ (part ++ drop (at + n) old) ≡ a ++ (part ++ c)
replaced-mid at n a b c part old is la lb =
    let front : take at old ≡ a = ap (take at) is ∙ take_at a (b ++ c) at la in
    let back : drop (at + n) old ≡ c = ap (drop (at + n)) is ∙ sym (drop-drop n at (a ++ (b ++ c))) ∙ ap (drop n) (drop_at a (b ++ c) at la) ∙ drop_at b c n lb in
    ap (λ (z : List ℕ). z ++ (part ++ drop (at + n) old)) front ∙ ap (λ (z : List ℕ). a ++ (part ++ z)) back

-- a part is written over one that is as long
pub splice_mid : (at : ℕ) (a b c part old : List ℕ) → old ≡ a ++ (b ++ c) → length a ≡ at → length b ≡ length part → spliced at part old ≡ a ++ (part ++ c)
splice_mid at a b c part old is la lb = replaced-mid at (length part) a b c part old is la lb

pub length-spliced : (at : ℕ) (part old : List ℕ) → at + length part ≤ length old → length (spliced at part old) ≡ length old
length-spliced at part old le = omega (arith, length-append (take at old) (part ++ drop (at + length part) old), length-append part (drop (at + length part) old), length-take at old, length-drop (at + length part) old)

-- a part of parts, the second right behind the first
pub splice_both : (at mid : ℕ) (first second old one two : List ℕ) → at ≤ length old → mid ≡ at + length first → one ≡ spliced at first old → two ≡ spliced mid second one → two ≡ spliced at (first ++ second) old
splice_both at mid first second old one two le is p q =
    let front = take at old ++ first in
    let len : length front ≡ mid = omega (arith, length-append (take at old) first, length-take at old) in
    let whole : one ≡ front ++ drop (at + length first) old = p ∙ sym (append_assoc (take at old) first (drop (at + length first) old)) in
    let taken : take mid one ≡ front = ap (take mid) whole ∙ take_at front (drop (at + length first) old) mid len in
    let left : drop (mid + length second) one ≡ drop (at + length (first ++ second)) old =
    sym (drop-drop (length second) mid one) ∙ ap (λ (z : List ℕ). drop (length second) (drop mid z)) whole ∙ ap (drop (length second)) (drop_at front (drop (at + length first) old) mid len) ∙ drop-drop (length second) (at + length first) old
    ∙ (let k : at + length first + length second ≡ at + length (first ++ second) = omega (arith, length-append first second) in ap (λ (n : ℕ). drop n old) k) in
    q ∙ ap (λ (z : List ℕ). z ++ (second ++ drop (mid + length second) one)) taken ∙ ap (λ (z : List ℕ). front ++ (second ++ z)) left
    ∙ append_assoc (take at old) first (second ++ drop (at + length (first ++ second)) old) ∙ ap (λ (z : List ℕ). take at old ++ z) (sym (append_assoc first second (drop (at + length (first ++ second)) old)))

-- two takes, the second right behind the first
pub take-add : (m n : ℕ) (xs : List ℕ) → take m xs ++ take n (drop m xs) ≡ take (m + n) xs
take-add m n xs =
    sym (ap (λ (z : List ℕ). z ++ take n (drop m xs)) (take-take m (m + n) xs (omega arith))) ∙ sym (ap (λ (z : List ℕ). take m (take (m + n) xs) ++ z) (drop-take m n xs)) ∙ take-append-drop m (take (m + n) xs)

-- two parts that were read, the second right behind the first
pub read_both : (n k m l at : ℕ) (bytes one two : List ℕ) → n ≤ k → m ≤ l → one ≡ take n (take k (drop at bytes)) → two ≡ take m (take l (drop (at + n) bytes)) → one ++ two ≡ take (n + m) (drop at bytes)
read_both n k m l at bytes one two le below p q =
    let first : one ≡ take n (drop at bytes) = p ∙ take-take n k (drop at bytes) le in
    let second : two ≡ take m (drop n (drop at bytes)) = q ∙ take-take m l (drop (at + n) bytes) below ∙ ap (take m) (sym (drop-drop n at bytes)) in
    ap (λ (z : List ℕ). z ++ two) first ∙ ap (λ (z : List ℕ). take n (drop at bytes) ++ z) second ∙ take-add n m (drop at bytes)

-- the two pieces of a part
pub both-pieces : (n : ℕ) (part : List ℕ) → take n part ++ take (length part - n) (drop n part) ≡ part
both-pieces n part = ap (λ (z : List ℕ). take n part ++ z) (take_rest part n) ∙ take-append-drop n part

-- a part that was moved to another place
pub length-moved : (from size to : ℕ) (old new : List ℕ) → length old ≡ 8176 → from + size ≤ 8176 → to + size ≤ 8176 → new ≡ take to old ++ (take size (drop from old) ++ drop (to + size) old) → length new ≡ 8176
length-moved from size to old new whole source room is =
    let part = take size (drop from old) in
    ap length is ∙ omega (arith, length-append (take to old) (part ++ drop (to + size) old), length-append part (drop (to + size) old), length-take to old, length-take size (drop from old), length-drop from old, length-drop (to + size) old)
