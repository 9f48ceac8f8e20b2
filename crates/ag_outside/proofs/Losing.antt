-- Sectors that are lost, written over below.
use Rattle.std.proofs.Common.{◌≡◌, ℕ, zero, suc, ◌+◌, ◌-◌, ◌<◌, ◌⊎◌, List, [], ◌∷◌, ◌++◌, Option, Some, None, is_some, nat_eq, cond, if◌then◌else◌, ◌==◌, refl, sym, ap, ◌∙◌, arith, inl, inr}
use Rattle.std.proofs.lemmas.Bool.{cases_eq}
use Rattle.std.proofs.lemmas.Bool.Decides.{nat_tests}
use Rattle.std.specs.Prelude.{Result, Ok, Err, IsOk, OnOk, OnErr}
use Rattle.std.specs.Map.{lookup}
use Rattle.ag_outside.specs.declared.disk.SectorWrite.{SectorWrite}
use Rattle.ag_outside.specs.Disks.{Content, Image, put, put_all}
use Rattle.ag_outside.specs.Scripts.{overlay, shown, LostAsWritten, unless_written, filler, fillers, marked, with_lost}
use Rattle.ag_outside.proofs.Past.{put-at, put-apart}
use Rattle.ag_outside.proofs.Puts.{put_all-append}

pub fillers_more : (at mark n k : ℕ) → k < n → fillers (at + k) (mark + k) (n - k) ≡ record { at = at + k; sector = filler (mark + k) } ∷ fillers (at + (k + 1)) (mark + (k + 1)) (n - (k + 1))
fillers_more at mark n k lt =
    let left : n - k ≡ suc (n - (k + 1)) = omega arith in
    let place : suc (at + k) ≡ at + (k + 1) = omega arith in
    let next : suc (mark + k) ≡ mark + (k + 1) = omega arith in
    ap (fillers (at + k) (mark + k)) left ∙ ap (λ (p : ℕ). record { at = at + k; sector = filler (mark + k) } ∷ fillers p (suc (mark + k)) (n - (k + 1))) place ∙ ap (λ (m : ℕ). record { at = at + k; sector = filler (mark + k) } ∷ fillers (at + (k + 1)) m (n - (k + 1))) next

pub marked_more : (first mark n k at : ℕ) (was : Option ℕ) → k < n → marked (first + k) (mark + k) (n - k) at was ≡ marked (first + (k + 1)) (mark + (k + 1)) (n - (k + 1)) at (if at == first + k then Some (mark + k) else was)
marked_more first mark n k at was lt =
    let left : n - k ≡ suc (n - (k + 1)) = omega arith in
    let place : suc (first + k) ≡ first + (k + 1) = omega arith in
    let next : suc (mark + k) ≡ mark + (k + 1) = omega arith in
    ap (λ (l : ℕ). marked (first + k) (mark + k) l at was) left ∙ ap (λ (p : ℕ). marked p (suc (mark + k)) (n - (k + 1)) at (if at == first + k then Some (mark + k) else was)) place
    ∙ ap (λ (m : ℕ). marked (first + (k + 1)) m (n - (k + 1)) at (if at == first + k then Some (mark + k) else was)) next

-- a sector that isn't among them
pub record Out (first mark n at : ℕ) : Type 0 where
  pub finds : (was : Option ℕ) → unless_written (fillers first mark n) at was ≡ was
  pub marks : (was : Option ℕ) → marked first mark n at was ≡ was
  pub reads : (image : Image) → put_all image (fillers first mark n) at ≡ image at
  pub stays : (image : Image) → with_lost first n image at ≡ image at

-- a sector that is
pub record In (first mark n at : ℕ) : Type 0 where
  pub own : ℕ
  pub marks : (was : Option ℕ) → marked first mark n at was ≡ Some own
  pub reads : (image : Image) → put_all image (fillers first mark n) at ≡ Some (filler own)
  pub stays : (image : Image) → with_lost first n image at ≡ None

mark-at : (at first : ℕ) (some other : Option ℕ) → at ≡ first → (if at == first then some else other) ≡ some
mark-at at first some other is = grind (arith, nat_tests)

mark-apart : (at first : ℕ) (some other : Option ℕ) → (at ≡ first → ⊥) → (if at == first then some else other) ≡ other
mark-apart at first some other apart = grind (arith, nat_tests)

image-at : (at first : ℕ) (some other : Content) → at ≡ first → (if at == first then some else other) ≡ some
image-at at first some other is = grind (arith, nat_tests)

image-apart : (at first : ℕ) (some other : Content) → (at ≡ first → ⊥) → (if at == first then some else other) ≡ other
image-apart at first some other apart = grind (arith, nat_tests)

pub in_or_out : (first mark n at : ℕ) → Out first mark n at ⊎ In first mark n at
in_or_out first mark zero at = inl (record { finds = λ was. refl; marks = λ was. refl; reads = λ image. refl; stays = λ image. refl })
in_or_out first mark (suc n) at = elim (in_or_out (suc first) (suc mark) n at) [
  | inr rest ↦ inr (record {
    own = rest.own;
    marks = λ was. rest.marks (if at == first then Some mark else was);
    reads = λ image. rest.reads (put image (record { at = first; sector = filler mark }));
    stays = λ image. rest.stays (λ x. if x == first then None else image x);
  })
  | inl rest ↦ elim (cases_eq at first) [
    | inl is ↦ inr (record {
      own = mark;
      marks = λ was. rest.marks (if at == first then Some mark else was) ∙ mark-at at first (Some mark) was is;
      reads = λ image. rest.reads (put image (record { at = first; sector = filler mark })) ∙ put-at image (record { at = first; sector = filler mark }) at is;
      stays = λ image. rest.stays (λ x. if x == first then None else image x) ∙ image-at at first None (image at) is;
    })
    | inr apart ↦ inl (record {
      finds = λ was. rest.finds (if at == first then None else was) ∙ mark-apart at first None was apart;
      marks = λ was. rest.marks (if at == first then Some mark else was) ∙ mark-apart at first (Some mark) was apart;
      reads = λ image. rest.reads (put image (record { at = first; sector = filler mark })) ∙ put-apart image (record { at = first; sector = filler mark }) at apart;
      stays = λ image. rest.stays (λ x. if x == first then None else image x) ∙ image-apart at first None (image at) apart;
    })
  ]
]

pub unless_written-append : (xs ys : List SectorWrite) (at : ℕ) (mark : Option ℕ) → unless_written (xs ++ ys) at mark ≡ unless_written ys at (unless_written xs at mark)
unless_written-append [] ys at mark = refl
unless_written-append (x ∷ xs) ys at mark = unless_written-append xs ys at (if at == x.at then None else mark)

-- that they were found on the way doesn't matter, as they are lost at the end
pub marked-over : (first n : ℕ) (kept : List SectorWrite) (at : ℕ) (mark : Option ℕ) → marked first 18 n at (unless_written (kept ++ fillers first 18 n) at mark) ≡ marked first 18 n at (unless_written kept at mark)
marked-over first n kept at mark = elim (in_or_out first 18 n at) [
  | inl out ↦ ap (marked first 18 n at) (unless_written-append kept (fillers first 18 n) at mark ∙ out.finds (unless_written kept at mark))
  | inr among ↦ among.marks (unless_written (kept ++ fillers first 18 n) at mark) ∙ sym (among.marks (unless_written kept at mark))
]

-- sectors are lost: `kept` is what was kept back before, with which the fillers were handed down
module _ (first n : ℕ) (old new : Image) (lost found next : List (ℕ × ℕ)) (kept : List SectorWrite) (marks : (at : ℕ) → lookup (nat_eq at) next ≡ marked first 18 n at (lookup (nat_eq at) found)) where
  pub lose-shown : shown new found [] ≡ shown old lost (kept ++ fillers first 18 n) → shown new next [] ≡ with_lost first n (shown old lost kept)
  lose-shown stays =
      let before : shown new found [] ≡ put_all (shown old lost kept) (fillers first 18 n) = stays ∙ put_all-append (overlay lost old) kept (fillers first 18 n) in
      let same : (at : ℕ) → shown new next [] at ≡ with_lost first n (shown old lost kept) at = λ at. elim (in_or_out first 18 n at) [
        | inl out ↦ ap (λ (m : Option ℕ). if is_some m then None else new at) (marks at ∙ out.marks (lookup (nat_eq at) found)) ∙ ap (λ (im : Image). im at) before ∙ out.reads (shown old lost kept) ∙ sym (out.stays (shown old lost kept))
        | inr among ↦ ap (λ (m : Option ℕ). if is_some m then None else new at) (marks at ∙ among.marks (lookup (nat_eq at) found)) ∙ sym (among.stays (shown old lost kept))
      ] in
      λ i at. same at i

  pub lose-as_written : new ≡ put_all old (kept ++ fillers first 18 n) → LostAsWritten new found → LostAsWritten new next
  lose-as_written below was at mark is = elim (in_or_out first 18 n at) [
    | inl out ↦ was at mark (sym (out.marks (lookup (nat_eq at) found)) ∙ sym (marks at) ∙ is)
    | inr among ↦
        let own : Some among.own ≡ Some mark = sym (among.marks (lookup (nat_eq at) found)) ∙ sym (marks at) ∙ is in
        ap (λ (im : Image). im at) (below ∙ put_all-append old kept (fillers first 18 n)) ∙ among.reads (put_all old kept) ∙ (let same : among.own ≡ mark = cc own in ap (λ (m : ℕ). Some (filler m)) same)
  ]

pub mark-turned : (at first : ℕ) (some other : Option ℕ) → cond (first == at) some other ≡ (if at == first then some else other)
mark-turned at first some other = elim (cases_eq at first) [
  | inl is ↦ (let turned : cond (first == at) some other ≡ some = grind (arith, nat_tests) in turned) ∙ sym (mark-at at first some other is)
  | inr apart ↦ (let turned : cond (first == at) some other ≡ other = grind (arith, nat_tests) in turned) ∙ sym (mark-apart at first some other apart)
]

pub at_ok : {T E : Type 0} (r : Result T E) (P : Type 0) → IsOk r → OnOk r P → P
at_ok (Ok x) P ok p = p
at_ok (Err e) P ok p = absurd (cc ok)

pub on_err : {T E : Type 0} (r : Result T E) (P : Type 0) → P → OnErr r P
on_err (Ok x) P p = tt
on_err (Err e) P p = p

pub map_ok : {T E : Type 0} (r : Result T E) (P Q : Type 0) → OnOk r P → (P → Q) → OnOk r Q
map_ok (Ok x) P Q p f = f p
map_ok (Err e) P Q p f = tt
