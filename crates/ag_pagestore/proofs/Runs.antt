-- Sectors that are written in a run.
use Rattle.std.proofs.Common.{◌≡◌, ◌⊎◌, ◌+◌, ◌<◌, ◌≤◌, ℕ, zero, suc, List, [], ◌∷◌, length, get_or, Some, refl, sym, ap, ◌∙◌, arith, inl, inr}
use Rattle.ag_outside.specs.Disks.{Content, Image, put, put_all, writes, WroteSo}
use Rattle.ag_outside.proofs.Past.{put-at, put-apart}

-- a sector outside the run isn't written
pub put_outside : (image : Image) (p : ℕ) (ss : List (List ℕ)) (at : ℕ) → (at < p) ⊎ (p + length ss ≤ at) → put_all image (writes p ss) at ≡ image at
put_outside image p [] at out = refl
put_outside image p (s ∷ ss) at out =
    put_outside (put image (record { at = p; sector = s })) (suc p) ss at (elim out [ inl lt ↦ inl (omega arith) | inr le ↦ inr (omega arith) ])
    ∙ put-apart image (record { at = p; sector = s }) at (λ (is : at ≡ p). elim out [ inl lt ↦ absurd (omega (arith, is)) | inr le ↦ absurd (omega (arith, is)) ])

-- one of it is
pub put_within : (image : Image) (p : ℕ) (ss : List (List ℕ)) (k : ℕ) → k < length ss → put_all image (writes p ss) (p + k) ≡ Some (get_or ss k [])
put_within image p [] k lt = absurd (omega arith)
put_within image p (s ∷ ss) zero lt =
    put_outside (put image (record { at = p; sector = s })) (suc p) ss (p + 0) (inl (omega arith)) ∙ put-at image (record { at = p; sector = s }) (p + 0) (omega arith)
put_within image p (s ∷ ss) (suc k) lt =
    let next : p + suc k ≡ suc p + k = omega arith in
    ap (put_all (put image (record { at = p; sector = s })) (writes (suc p) ss)) next ∙ put_within (put image (record { at = p; sector = s })) (suc p) ss k (omega arith)

-- what was written in a run
pub record InRun (p : ℕ) (ss : List (List ℕ)) (at : ℕ) (content : Content) : Type 0 where
  pub from : p ≤ at
  pub below : at < p + length ss
  pub is : (k : ℕ) → at ≡ p + k → content ≡ Some (get_or ss k [])

pub in_run : (p : ℕ) (ss : List (List ℕ)) (at : ℕ) (content : Content) → WroteSo (writes p ss) at content → InRun p ss at content
in_run p [] at content none = absurd none
in_run p (s ∷ ss) at content (inl here) = record {
  from = omega (arith, here.0);
  below = omega (arith, here.0);
  is = λ k place. (let first : k ≡ 0 = omega (arith, here.0, place) in here.1 ∙ ap (λ (j : ℕ). Some (get_or (s ∷ ss) j [])) (sym first));
}
in_run p (s ∷ ss) at content (inr there) =
    let rest = in_run (suc p) ss at content there in
    record {
      from = omega (arith, rest.from);
      below = omega (arith, rest.below);
      is = λ k place. later k place rest;
    }
  where
    later : (k : ℕ) → at ≡ p + k → InRun (suc p) ss at content → content ≡ Some (get_or (s ∷ ss) k [])
    later zero place rest = absurd (omega (arith, rest.from, place))
    later (suc k) place rest = rest.is k (omega (arith, place))
