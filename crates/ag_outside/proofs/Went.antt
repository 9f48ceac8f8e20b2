-- What the writes of a call so far have done to a disk in memory.
use Rattle.std.proofs.Common.{◌≡◌, ℕ, suc, ◌+◌, ◌<◌, ◌⊎◌, get_or, List, [], ◌∷◌, ◌++◌, length, take, drop, Some, Bool, true, false, IsTrue, if◌then◌else◌, refl, sym, ap, subst, ◌∙◌, arith, inl, inr}
use Rattle.std.proofs.lemmas.Bool.{cases_eq}
use Rattle.std.proofs.lemmas.List.{drop_more}
use Rattle.ag_outside.specs.declared.disk.SectorWrite.{SectorWrite}
use Rattle.ag_outside.specs.declared.mem_disk.Change.{Change}
use Rattle.ag_outside.specs.declared.mem_disk.Change.TheVariants.{Wrote}
use Rattle.ag_outside.specs.Disks.{Content, Image, writes, put, WroteSo, MayAdd, IsImage, Elapses}
use Rattle.ag_outside.specs.MemDisks.{changes, undo, held, left_by}
use Rattle.ag_outside.proofs.Puts.{then_adds}
use Rattle.ag_outside.proofs.Past.{overwritten-wrote, put-at, put-apart, put-back, elapses}

-- from an image and a record to another, by some of these writes
pub record Went (traced : Bool) (old : Image) (was : List Change) (now : Image) (past : List Change) (ws : List SectorWrite) : Type 0 where
  pub crash : MayAdd ws (held old (changes traced was)) (held now (changes traced past))
  pub more : IsTrue traced → (at : ℕ) (content : Content) → held old (changes traced was) at content → held now (changes traced past) at content
  pub time : Elapses traced (length (changes traced was)) (length (changes traced past)) (left_by old (changes traced was)) (left_by now (changes traced past)) (held now (changes traced past))

-- without a record only this moment is told
pub untraced : (old now : Image) → Elapses false 0 0 (left_by old []) (left_by now []) (held now [])
untraced old now = record {
  later = omega arith;
  nothing_else = λ t left le since. inr (only since);
  kept = λ yes. absurd (cc yes);
}
  where
    only : {t : ℕ} {left : Image} → left_by now [] t left → IsImage (held now []) left
    only {left = left} since =
        let zero_ : since.0 ≡ 0 = omega (arith, since.2) in
        subst (λ (k : ℕ). IsImage (held (undo (drop k []) now) (take k [])) left) zero_ since.3

pub stays : (traced : Bool) (old : Image) (was : List Change) (ws : List SectorWrite) → Went traced old was old was ws
stays traced old was ws = record {
  crash = λ at content is. inl is;
  more = λ _ at content is. is;
  time = record { later = omega arith; nothing_else = λ t left le since. inl since; kept = λ _ t left le before. before };
}

module _ (now : Image) (past : List Change) (w : SectorWrite) (bytes : List ℕ) (was : now w.at ≡ Some bytes) where
  abbrev before : SectorWrite
  before = record { at = w.at; sector = bytes }

  pub held-grows : (at : ℕ) (content : Content) → held now past at content → held (put now w) (past ++ Wrote before ∷ []) at content
  held-grows at content (inl reads) = elim (cases_eq at w.at) [
    | inl is ↦ inr (subst (λ (ws : List SectorWrite). WroteSo ws at content) (sym (overwritten-wrote [] past before)) (inl (is, reads ∙ ap now is ∙ was)))
    | inr apart ↦ inl (reads ∙ sym (put-apart now w at apart))
  ]
  held-grows at content (inr wrote) = inr (subst (λ (ws : List SectorWrite). WroteSo ws at content) (sym (overwritten-wrote [] past before)) (inr wrote))

  pub held-adds : (ws : List SectorWrite) → WroteSo ws w.at (Some w.sector) → (at : ℕ) (content : Content) → held (put now w) (past ++ Wrote before ∷ []) at content → held now past at content ⊎ WroteSo ws at content
  held-adds ws among at content (inl reads) = elim (cases_eq at w.at) [
    | inl is ↦ inr (subst (λ (c : Content). WroteSo ws at c) (sym (reads ∙ put-at now w at is)) (subst (λ (a : ℕ). WroteSo ws a (Some w.sector)) (sym is) among))
    | inr apart ↦ inl (inl (reads ∙ put-apart now w at apart))
  ]
  held-adds ws among at content (inr wrote) = elim (subst (λ (vs : List SectorWrite). WroteSo vs at content) (overwritten-wrote [] past before) wrote) [
    | inl here ↦ inl (inl (here.1 ∙ sym was ∙ ap now (sym here.0)))
    | inr earlier ↦ inl (inr earlier)
  ]

-- without a record a sector holds what it reads
pub plain-adds : (now : Image) (w : SectorWrite) (ws : List SectorWrite) → WroteSo ws w.at (Some w.sector) → (at : ℕ) (content : Content) → held (put now w) [] at content → held now [] at content ⊎ WroteSo ws at content
plain-adds now w ws among at content (inl reads) = elim (cases_eq at w.at) [
  | inl is ↦ inr (subst (λ (c : Content). WroteSo ws at c) (sym (reads ∙ put-at now w at is)) (subst (λ (a : ℕ). WroteSo ws a (Some w.sector)) (sym is) among))
  | inr apart ↦ inl (inl (reads ∙ put-apart now w at apart))
]
plain-adds now w ws among at content (inr none) = absurd none

-- one write more
pub goes_on : (traced : Bool) (old : Image) (was : List Change) (now : Image) (past : List Change) (ws : List SectorWrite) (w : SectorWrite) (bytes : List ℕ) → Went traced old was now past ws → now w.at ≡ Some bytes → WroteSo ws w.at (Some w.sector)
    → Went traced old was (put now w) (if traced then past ++ Wrote (record { at = w.at; sector = bytes }) ∷ [] else past) ws
goes_on false old was now past ws w bytes so_far there among = record {
  crash = then_adds ws (held old []) (held now []) (held (put now w) []) so_far.crash (plain-adds now w ws among);
  more = λ yes. absurd (cc yes);
  time = untraced old (put now w);
}
goes_on true old was now past ws w bytes so_far there among =
    let b : SectorWrite = record { at = w.at; sector = bytes } in
    let next = elapses now (put now w) past (Wrote b) (put-back now w bytes there) true in
    record {
      crash = then_adds ws (held old was) (held now past) (held (put now w) (past ++ Wrote b ∷ [])) so_far.crash (held-adds now past w bytes there ws among);
      more = λ _ at content is. held-grows now past w bytes there at content (so_far.more refl at content is);
      time = record {
        later = omega (arith, so_far.time.later, next.later);
        nothing_else = λ t left le since. elim (next.nothing_else t left (omega (arith, le, so_far.time.later)) since) [
          | inl earlier ↦ elim (so_far.time.nothing_else t left le earlier) [
            | inl past_ ↦ inl past_
            | inr mid ↦ inr (λ at. held-grows now past w bytes there at (left at) (mid at))
          ]
          | inr here ↦ inr here
        ];
        kept = λ _ t left le before. next.kept refl t left (omega (arith, le, so_far.time.later)) (so_far.time.kept refl t left le before);
      };
    }

pub goes_on_to : (traced : Bool) (old : Image) (was : List Change) (now : Image) (past : List Change) (ws : List SectorWrite) (w : SectorWrite) (bytes : List ℕ) (next : Image) (then_past : List Change) → Went traced old was now past ws → now w.at ≡ Some bytes → WroteSo ws w.at (Some w.sector)
    → next ≡ put now w → then_past ≡ (if traced then past ++ Wrote (record { at = w.at; sector = bytes }) ∷ [] else past) → Went traced old was next then_past ws
goes_on_to traced old was now past ws w bytes next then_past so_far there among is is_past =
    subst (λ (cs : List Change). Went traced old was next cs ws) (sym is_past) (subst (λ (im : Image). Went traced old was im (if traced then past ++ Wrote (record { at = w.at; sector = bytes }) ∷ [] else past) ws) (sym is) (goes_on traced old was now past ws w bytes so_far there among))

pub stays_at : (traced : Bool) (old : Image) (was : List Change) (now : Image) (past : List Change) (ws : List SectorWrite) (next : Image) (then_past : List Change) → Went traced old was now past ws → next ≡ now → then_past ≡ past → Went traced old was next then_past ws
stays_at traced old was now past ws next then_past so_far is is_past =
    subst (λ (cs : List Change). Went traced old was next cs ws) (sym is_past) (subst (λ (im : Image). Went traced old was im past ws) (sym is) so_far)

-- the writes of the sectors from this one on
pub next_writes : (at i : ℕ) (from : List (List ℕ)) → i < length from → writes at (drop i from) ≡ record { at = at; sector = get_or from i [] } ∷ writes (at + 1) (drop (i + 1) from)
next_writes at i from lt =
    ap (writes at) (drop_more from i [] lt) ∙ (let same : suc at ≡ at + 1 = omega arith in ap (λ (k : ℕ). record { at = at; sector = get_or from i [] } ∷ writes k (drop (i + 1) from)) same)
