-- What is written in a sector is read again.
use Rattle.std.proofs.Common.{◌≡◌, ℕ, Bool, true, false, eqb, ◌+◌, ◌-◌, ◌/◌, ◌<◌, ◌^◌, List, [], ◌∷◌, ◌++◌, length, take, drop, replicate, refl, sym, ap, subst, ◌∙◌, arith}
use lib.Pointwise.{pointwise}
use Rattle.std.proofs.lemmas.Bool.{eq-eqb}
use borrow.Rule.Slice.PartMut.{put_mid}
use Rattle.std.proofs.lemmas.List.{take_at, drop_at, drop-replicate}
use Rattle.std.proofs.lemmas.List.FromFn.{length-map-range_with_len}
use Rattle.std.specs.Int.{w16, w64, to_be_bytes}
use Rattle.ag_model.proofs.Numbers.{front_number-written}
use Rattle.ag_model.specs.PageBits.{most_pages-is}
use Rattle.ag_model.specs.PageSets.{most_pages, pages_where, has_bit, byte_of, bytes_of}
use Rattle.ag_master.specs.declared.master.Master.{Master}
use Rattle.ag_master.specs.Spelling.{letters, spelling, fields, number, IsKept, HasSpelling}

pub length-bytes_of : (pages : List ℕ) → length (bytes_of pages) ≡ 256
length-bytes_of pages =
    let is : most_pages ≡ 2048 = most_pages-is in
    let eighth : most_pages / 8 ≡ 256 = omega arith in
    length-map-range_with_len (byte_of pages) 0 (most_pages / 8) ∙ eighth

-- the fields and the bits, written over zeros
pub written : (h bits : List ℕ) (k : ℕ) → length h ≡ 56 → length bits ≡ 256 → k ≡ 256 → put_mid 56 k (h ++ drop 56 (replicate 512 0)) bits ≡ h ++ (bits ++ replicate 200 0)
written h bits k len full is =
    let front = take_at h (drop 56 (replicate 512 0)) 56 len in
    let back : drop k (drop 56 (h ++ drop 56 (replicate 512 0))) ≡ replicate 200 0 =
    ap (drop k) (drop_at h (drop 56 (replicate 512 0)) 56 len ∙ drop-replicate 56 512 0) ∙ drop-replicate k 456 0 ∙ ap (λ (n : ℕ). replicate (456 - n) 0) is in
    ap (λ (z : List ℕ). z ++ (bits ++ drop k (drop 56 (h ++ drop 56 (replicate 512 0))))) front ∙ ap (λ (z : List ℕ). h ++ (bits ++ z)) back

pub fields-spelling : (m : Master) → HasSpelling m → fields (spelling m) ≡ m
unfolding spelling fields
fields-spelling m h =
    let s = spelling m in
    let format : number w16 (drop 8 s) ≡ m.format = front_number-written w16 m.format (drop 10 s) (omega (arith, h.kept.format)) in
    let incarnation : number w64 (drop 12 s) ≡ m.incarnation = front_number-written w64 m.incarnation (drop 20 s) h.incarnation in
    let term : number w64 (drop 20 s) ≡ m.term = front_number-written w64 m.term (drop 28 s) h.term in
    let cut : number w64 (drop 28 s) ≡ m.cut = front_number-written w64 m.cut (drop 36 s) h.cut in
    let undo : number w64 (drop 36 s) ≡ m.undo = front_number-written w64 m.undo (drop 44 s) h.undo in
    let redo : number w64 (drop 44 s) ≡ m.redo = front_number-written w64 m.redo (drop 52 s) h.redo in
    let pages : number w16 (drop 52 s) ≡ m.pages = front_number-written w16 m.pages (drop 54 s) h.pages in
    let bits : take 256 (drop 56 s) ≡ bytes_of m.foreign = take_at (bytes_of m.foreign) (replicate 200 0) 256 (length-bytes_of m.foreign) in
    let foreign : pages_where (has_bit (take 256 (drop 56 s))) ≡ m.foreign = ap (λ (bytes : List ℕ). pages_where (has_bit bytes)) bits ∙ h.foreign in
    λ i. record { format = format i; state = m.state; incarnation = incarnation i; term = term i; cut = cut i; undo = undo i; redo = redo i; pages = pages i; replica = m.replica; foreign = foreign i }

-- what was no master is none
pub none : (s : List ℕ) (read : Master) → read ≡ fields s → (IsKept read → spelling read ≡ s → ⊥) → (m : Master) → HasSpelling m → s ≡ spelling m → ⊥
none s read is not_ m h spelled =
    let same : read ≡ m = is ∙ ap fields spelled ∙ fields-spelling m h in
    not_ (subst IsKept (sym same) h.kept) (ap spelling same ∙ sym spelled)

pointwise-same : (xs : List ℕ) → pointwise eqb xs xs ≡ true
pointwise-same [] = refl
pointwise-same (x ∷ xs) = rw (eq-eqb x x refl, pointwise-same xs) refl

-- bytes that the test tells apart
pub differ : (xs ys : List ℕ) (r : Bool) → r ≡ pointwise eqb xs ys → r ≡ false → xs ≡ ys → ⊥
differ xs ys r is apart same =
    let yes_ : pointwise eqb xs ys ≡ true = subst (λ (zs : List ℕ). pointwise eqb xs zs ≡ true) same (pointwise-same xs) in
    let wrong : true ≡ false = sym yes_ ∙ sym is ∙ apart in
    absurd (cc wrong)
