-- How the images of a disk in memory grow with its record.
use Rattle.std.proofs.Common.{◌≡◌, ℕ, ◌+◌, ◌≤◌, List, [], ◌∷◌, ◌++◌, length, take, drop, Some, Bool, true, false, refl, sym, ap, subst, ◌∙◌, arith, inl, inr}
use Rattle.std.proofs.lemmas.List.{length-append, take-append-le, drop-append-le, take_all, drop_all}
use Rattle.std.proofs.lemmas.Bool.{cases_eq}
use Rattle.std.proofs.lemmas.Bool.Decides.{nat_tests}
use Rattle.std.proofs.Math.Nat.{eq-or-lt_of_le}
use Rattle.ag_outside.specs.declared.disk.SectorWrite.{SectorWrite}
use Rattle.ag_outside.specs.declared.mem_disk.Change.{Change}
use Rattle.ag_outside.specs.declared.mem_disk.Change.TheVariants.{Wrote, Synced}
use Rattle.ag_outside.specs.Disks.{Content, Image, put, WroteSo, IsImage, Elapses}
use Rattle.ag_outside.specs.MemDisks.{changes, undo, overwritten, held, left_by}

pub overwritten-wrote : (so_far : List SectorWrite) (past : List Change) (b : SectorWrite) → overwritten so_far (past ++ Wrote b ∷ []) ≡ b ∷ overwritten so_far past
overwritten-wrote so_far [] b = refl
overwritten-wrote so_far (Wrote c ∷ past) b = overwritten-wrote (c ∷ so_far) past b
overwritten-wrote so_far (Synced ∷ past) b = overwritten-wrote [] past b

pub overwritten-synced : (so_far : List SectorWrite) (past : List Change) → overwritten so_far (past ++ Synced ∷ []) ≡ []
overwritten-synced so_far [] = refl
overwritten-synced so_far (Wrote c ∷ past) = overwritten-synced (c ∷ so_far) past
overwritten-synced so_far (Synced ∷ past) = overwritten-synced [] past

undo-push : (past : List Change) (c : Change) (image : Image) → undo (past ++ c ∷ []) image ≡ undo past (undo (c ∷ []) image)
undo-push [] c image = refl
undo-push (Wrote b ∷ past) c image = ap (λ (im : Image). put im b) (undo-push past c image)
undo-push (Synced ∷ past) c image = undo-push past c image

-- a sector at its place, and at another
pub put-at : (image : Image) (w : SectorWrite) (at : ℕ) → at ≡ w.at → put image w at ≡ Some w.sector
put-at image w at is = grind (arith, nat_tests)

pub put-apart : (image : Image) (w : SectorWrite) (at : ℕ) → (at ≡ w.at → ⊥) → put image w at ≡ image at
put-apart image w at apart = grind (arith, nat_tests)

-- what was there put back
pub put-back : (image : Image) (w : SectorWrite) (bytes : List ℕ) → image w.at ≡ Some bytes → put (put image w) (record { at = w.at; sector = bytes }) ≡ image
put-back image w bytes was =
    let before : SectorWrite = record { at = w.at; sector = bytes } in
    let same : (at : ℕ) → put (put image w) before at ≡ image at = λ at. elim (cases_eq at w.at) [
      | inl is ↦ put-at (put image w) before at is ∙ sym was ∙ ap image (sym is)
      | inr apart ↦ put-apart (put image w) before at apart ∙ put-apart image w at apart
    ] in
    λ i at. same at i

-- one change more
module _ (old now : Image) (past : List Change) (c : Change) (back : undo (c ∷ []) now ≡ old) where
  there : (k : ℕ) → k ≤ length past → (left : Image) → IsImage (held (undo (drop k past) old) (take k past)) left → IsImage (held (undo (drop k (past ++ c ∷ [])) now) (take k (past ++ c ∷ []))) left
  there k le left is =
      let image : undo (drop k (past ++ c ∷ [])) now ≡ undo (drop k past) old = ap (λ (cs : List Change). undo cs now) (drop-append-le k past (c ∷ []) le) ∙ undo-push (drop k past) c now ∙ ap (undo (drop k past)) back in
      let record_ : take k (past ++ c ∷ []) ≡ take k past = take-append-le k past (c ∷ []) le in
      subst (λ (im : Image). IsImage (held im (take k (past ++ c ∷ []))) left) (sym image) (subst (λ (cs : List Change). IsImage (held (undo (drop k past) old) cs) left) (sym record_) is)

  back_there : (k : ℕ) → k ≤ length past → (left : Image) → IsImage (held (undo (drop k (past ++ c ∷ [])) now) (take k (past ++ c ∷ []))) left → IsImage (held (undo (drop k past) old) (take k past)) left
  back_there k le left is =
      let image : undo (drop k (past ++ c ∷ [])) now ≡ undo (drop k past) old = ap (λ (cs : List Change). undo cs now) (drop-append-le k past (c ∷ []) le) ∙ undo-push (drop k past) c now ∙ ap (undo (drop k past)) back in
      let record_ : take k (past ++ c ∷ []) ≡ take k past = take-append-le k past (c ∷ []) le in
      subst (λ (cs : List Change). IsImage (held (undo (drop k past) old) cs) left) record_ (subst (λ (im : Image). IsImage (held im (take k (past ++ c ∷ []))) left) image is)

  size : length (past ++ c ∷ []) ≡ length past + 1
  size = length-append past (c ∷ [])

  at_end : (left : Image) → IsImage (held (undo (drop (length (past ++ c ∷ [])) (past ++ c ∷ [])) now) (take (length (past ++ c ∷ [])) (past ++ c ∷ []))) left → IsImage (held now (past ++ c ∷ [])) left
  at_end left is =
      let all = past ++ c ∷ [] in
      let none : drop (length all) all ≡ [] = drop_all (length all) all (omega arith) in
      let whole : take (length all) all ≡ all = take_all (length all) all (omega arith) in
      subst (λ (cs : List Change). IsImage (held now cs) left) whole (subst (λ (cs : List Change). IsImage (held (undo cs now) (take (length all) all)) left) none is)

  pub elapses : (traced : Bool) → Elapses traced (length past) (length (past ++ c ∷ [])) (left_by old past) (left_by now (past ++ c ∷ [])) (held now (past ++ c ∷ []))
  elapses traced = record {
    later = omega (arith, size);
    nothing_else = λ t left le since. elim (eq-or-lt_of_le since.2) [
      | inl last ↦ inr (at_end left (subst (λ (k : ℕ). IsImage (held (undo (drop k (past ++ c ∷ [])) now) (take k (past ++ c ∷ []))) left) last since.3))
      | inr before ↦ inl (since.0, since.1, omega (arith, size, before), back_there since.0 (omega (arith, size, before)) left since.3)
    ];
    kept = λ _ t left le was. (was.0, was.1, omega (arith, size, was.2), there was.0 was.2 left was.3);
  }

-- nothing happens
pub still : (traced : Bool) (moment : ℕ) (since : ℕ → Image → Type 0) (hold : ℕ → Content → Type 0) → Elapses traced moment moment since since hold
still traced moment since hold = record { later = omega arith; nothing_else = λ t left le is. inl is; kept = λ _ t left le is. is }

pub still_to : (traced : Bool) (image : Image) (past then_past : List Change) → then_past ≡ past → Elapses traced (length (changes traced past)) (length (changes traced then_past)) (left_by image (changes traced past)) (left_by image (changes traced then_past)) (held image (changes traced then_past))
still_to traced image past then_past is =
    subst (λ (cs : List Change). Elapses traced (length (changes traced past)) (length (changes traced cs)) (left_by image (changes traced past)) (left_by image (changes traced cs)) (held image (changes traced cs))) (sym is) (still traced _ _ _)

-- a sync
pub synced-time : (traced : Bool) (image : Image) (past then_past : List Change) → traced ≡ true → then_past ≡ past ++ Synced ∷ [] → Elapses traced (length (changes traced past)) (length (changes traced then_past)) (left_by image (changes traced past)) (left_by image (changes traced then_past)) (held image (changes traced then_past))
synced-time true image past then_past _ is =
    subst (λ (cs : List Change). Elapses true (length past) (length cs) (left_by image past) (left_by image cs) (held image cs)) (sym is) (elapses image image past Synced refl true)
synced-time false image past then_past differs is = absurd (cc differs)

pub synced-only : (traced : Bool) (image : Image) (past then_past : List Change) → then_past ≡ past ++ Synced ∷ [] → (at : ℕ) (content : Content) → held image (changes traced then_past) at content → content ≡ image at
synced-only true image past then_past is at content (inl reads) = reads
synced-only true image past then_past is at content (inr wrote) = absurd (subst (λ (ws : List SectorWrite). WroteSo ws at content) (ap (overwritten []) is ∙ overwritten-synced [] past) wrote)
synced-only false image past then_past is at content (inl reads) = reads
synced-only false image past then_past is at content (inr none) = absurd none
