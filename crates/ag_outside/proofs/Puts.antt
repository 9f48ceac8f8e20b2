-- Writes one after the other.
use Rattle.std.proofs.Common.{◌≡◌, ℕ, suc, ◌+◌, ◌<◌, ◌⊎◌, Bool, true, false, append_assoc, List, [], ◌∷◌, ◌++◌, length, drop, get_or, Option, Some, None, if◌then◌else◌, ◌==◌, refl, sym, ap, ◌∙◌, arith, inl, inr}
use Rattle.std.proofs.lemmas.Bool.{cases_eq}
use Rattle.std.proofs.lemmas.Bool.Decides.{nat_tests}
use Rattle.std.proofs.lemmas.List.{drop_more}
use Rattle.ag_outside.specs.declared.disk.SectorWrite.{SectorWrite}
use Rattle.ag_outside.specs.Disks.{Content, Image, put, put_all, WroteSo, MayAdd}
use Rattle.ag_outside.specs.Scripts.{is_lost, overlay, shown, is_kept, kept, unless_written}
use Rattle.ag_outside.proofs.Past.{put-at, put-apart}

pub put_all-append : (image : Image) (xs ys : List SectorWrite) → put_all image (xs ++ ys) ≡ put_all (put_all image xs) ys
put_all-append image [] ys = refl
put_all-append image (x ∷ xs) ys = put_all-append (put image x) xs ys

-- what a sector reads depends on what it read alone
pub put_all-same : (ws : List SectorWrite) (a b : Image) (at : ℕ) → a at ≡ b at → put_all a ws at ≡ put_all b ws at
put_all-same [] a b at is = is
put_all-same (w ∷ ws) a b at is = put_all-same ws (put a w) (put b w) at (elim (cases_eq at w.at) [
  | inl here ↦ put-at a w at here ∙ sym (put-at b w at here)
  | inr apart ↦ put-apart a w at apart ∙ is ∙ sym (put-apart b w at apart)
])

-- a sector that isn't written
pub record Unwritten (ws : List SectorWrite) (at : ℕ) : Type 0 where
  pub mark : (m : Option ℕ) → unless_written ws at m ≡ m
  pub reads : (image : Image) → put_all image ws at ≡ image at

-- a sector that is
pub record Written (ws : List SectorWrite) (at : ℕ) : Type 0 where
  pub mark : (m : Option ℕ) → unless_written ws at m ≡ None
  pub wrote : (image : Image) → WroteSo ws at (put_all image ws at)
  pub same : (a b : Image) → put_all a ws at ≡ put_all b ws at

mark-at : (w : SectorWrite) (at : ℕ) (m : Option ℕ) → at ≡ w.at → (if at == w.at then None else m) ≡ None
mark-at w at m is = grind (arith, nat_tests)

mark-apart : (w : SectorWrite) (at : ℕ) (m : Option ℕ) → (at ≡ w.at → ⊥) → (if at == w.at then None else m) ≡ m
mark-apart w at m apart = grind (arith, nat_tests)

pub either : (ws : List SectorWrite) (at : ℕ) → Unwritten ws at ⊎ Written ws at
either [] at = inl (record { mark = λ m. refl; reads = λ image. refl })
either (w ∷ ws) at = elim (cases_eq at w.at) [
  | inl is ↦ elim (either ws at) [
    | inl rest ↦ inr (record {
      mark = λ m. rest.mark (if at == w.at then None else m) ∙ mark-at w at m is;
      wrote = λ image. inl (is, rest.reads (put image w) ∙ put-at image w at is);
      same = λ a b. rest.reads (put a w) ∙ put-at a w at is ∙ sym (rest.reads (put b w) ∙ put-at b w at is);
    })
    | inr rest ↦ inr (record {
      mark = λ m. rest.mark (if at == w.at then None else m);
      wrote = λ image. inr (rest.wrote (put image w));
      same = λ a b. rest.same (put a w) (put b w);
    })
  ]
  | inr apart ↦ elim (either ws at) [
    | inl rest ↦ inl (record {
      mark = λ m. rest.mark (if at == w.at then None else m) ∙ mark-apart w at m apart;
      reads = λ image. rest.reads (put image w) ∙ put-apart image w at apart;
    })
    | inr rest ↦ inr (record {
      mark = λ m. rest.mark (if at == w.at then None else m);
      wrote = λ image. inr (rest.wrote (put image w));
      same = λ a b. rest.same (put a w) (put b w);
    })
  ]
]

pub wrote-left : (xs ys : List SectorWrite) (at : ℕ) (content : Content) → WroteSo xs at content → WroteSo (xs ++ ys) at content
wrote-left [] ys at content none = absurd none
wrote-left (x ∷ xs) ys at content (inl here) = inl here
wrote-left (x ∷ xs) ys at content (inr there) = inr (wrote-left xs ys at content there)

pub wrote-right : (xs ys : List SectorWrite) (at : ℕ) (content : Content) → WroteSo ys at content → WroteSo (xs ++ ys) at content
wrote-right [] ys at content wrote = wrote
wrote-right (x ∷ xs) ys at content wrote = inr (wrote-right xs ys at content wrote)

pub wrote-split : (xs ys : List SectorWrite) (at : ℕ) (content : Content) → WroteSo (xs ++ ys) at content → WroteSo xs at content ⊎ WroteSo ys at content
wrote-split [] ys at content wrote = inr wrote
wrote-split (x ∷ xs) ys at content (inl here) = inl (inl here)
wrote-split (x ∷ xs) ys at content (inr there) = elim (wrote-split xs ys at content there) [ inl l ↦ inl (inr l) | inr r ↦ inr r ]

pub then_adds : (ws : List SectorWrite) (a b c : ℕ → Content → Type 0) → MayAdd ws a b → MayAdd ws b c → MayAdd ws a c
then_adds ws a b c first next at content is = elim (next at content is) [ inl mid ↦ first at content mid | inr wrote ↦ inr wrote ]

abbrev none_written : SectorWrite
none_written = record { at = 0; sector = [] }

pub newest_more : (found next : Option (List ℕ)) (ws : List SectorWrite) (i at : ℕ) → i < length ws → next ≡ put (λ _. found) (get_or ws i none_written) at → put_all (λ _. next) (drop (i + 1) ws) at ≡ put_all (λ _. found) (drop i ws) at
newest_more found next ws i at lt is =
    put_all-same (drop (i + 1) ws) (λ _. next) (put (λ _. found) (get_or ws i none_written)) at is ∙ ap (λ (vs : List SectorWrite). put_all (λ _. found) vs at) (sym (drop_more ws i none_written lt))

kept-here : (mask i : ℕ) (w : SectorWrite) (ws : List SectorWrite) → is_kept mask i ≡ true → kept mask i (w ∷ ws) ≡ w ∷ kept mask (i + 1) ws
kept-here mask i w ws keeps =
    ap (λ (b : Bool). if b then w ∷ kept mask (suc i) ws else kept mask (suc i) ws) keeps ∙ (let same : suc i ≡ i + 1 = omega arith in ap (λ (k : ℕ). w ∷ kept mask k ws) same)

kept-not : (mask i : ℕ) (w : SectorWrite) (ws : List SectorWrite) → is_kept mask i ≡ false → kept mask i (w ∷ ws) ≡ kept mask (i + 1) ws
kept-not mask i w ws not_ =
    ap (λ (b : Bool). if b then w ∷ kept mask (suc i) ws else kept mask (suc i) ws) not_ ∙ (let same : suc i ≡ i + 1 = omega arith in ap (λ (k : ℕ). kept mask k ws) same)

pub kept-takes : (mask i : ℕ) (ws all all_next : List SectorWrite) → i < length ws → is_kept mask i ≡ true → all_next ≡ all ++ get_or ws i none_written ∷ [] → all_next ++ kept mask (i + 1) (drop (i + 1) ws) ≡ all ++ kept mask i (drop i ws)
kept-takes mask i ws all all_next lt keeps is =
    ap (λ (xs : List SectorWrite). xs ++ kept mask (i + 1) (drop (i + 1) ws)) is
    ∙ append_assoc all (get_or ws i none_written ∷ []) (kept mask (i + 1) (drop (i + 1) ws))
    ∙ ap (λ (xs : List SectorWrite). all ++ xs) (sym (kept-here mask i (get_or ws i none_written) (drop (i + 1) ws) keeps) ∙ ap (kept mask i) (sym (drop_more ws i none_written lt)))

pub kept-passes : (mask i : ℕ) (ws all : List SectorWrite) → i < length ws → is_kept mask i ≡ false → all ++ kept mask (i + 1) (drop (i + 1) ws) ≡ all ++ kept mask i (drop i ws)
kept-passes mask i ws all lt not_ =
    ap (λ (xs : List SectorWrite). all ++ xs) (sym (kept-not mask i (get_or ws i none_written) (drop (i + 1) ws) not_) ∙ ap (kept mask i) (sym (drop_more ws i none_written lt)))

-- the newest bytes are read whatever is below
pub newest-some : (image : Image) (ws : List SectorWrite) (at : ℕ) (bytes : List ℕ) → put_all (λ _. None) ws at ≡ Some bytes → put_all image ws at ≡ Some bytes
newest-some image ws at bytes is = elim (either ws at) [
  | inl un ↦ absurd (cc (sym (un.reads (λ _. None)) ∙ is))
  | inr written ↦ written.same image (λ _. None) ∙ is
]

no_none : (ws : List SectorWrite) (at : ℕ) (content : Content) → content ≡ None → WroteSo ws at content → ⊥
no_none [] at content none wrote = wrote
no_none (w ∷ ws) at content none (inl here) = absurd (cc (sym here.1 ∙ none))
no_none (w ∷ ws) at content none (inr later) = no_none ws at content none later

pub newest-none : (image : Image) (ws : List SectorWrite) (at : ℕ) → put_all (λ _. None) ws at ≡ None → put_all image ws at ≡ image at
newest-none image ws at is = elim (either ws at) [
  | inl un ↦ un.reads image
  | inr written ↦ absurd (no_none ws at (put_all (λ _. None) ws at) is (written.wrote (λ _. None)))
]

pub reads_below : (image : Image) (lost : List (ℕ × ℕ)) (ws : List SectorWrite) (at : ℕ) (content : Content) → put_all (λ _. None) ws at ≡ None → is_lost lost at ≡ false → image at ≡ content → shown image lost ws at ≡ content
reads_below image lost ws at content none found is = newest-none (overlay lost image) ws at none ∙ ap (λ (b : Bool). if b then None else image at) found ∙ is

pub reads_lost : (image : Image) (lost : List (ℕ × ℕ)) (ws : List SectorWrite) (at : ℕ) → put_all (λ _. None) ws at ≡ None → is_lost lost at ≡ true → shown image lost ws at ≡ None
reads_lost image lost ws at none lost_ = newest-none (overlay lost image) ws at none ∙ ap (λ (b : Bool). if b then None else image at) lost_
