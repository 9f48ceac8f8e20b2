-- The end of a block that is found.
use Rattle.std.proofs.Common.{◌≡◌, ◌⊎◌, ℕ, suc, ◌+◌, List, [], ◌∷◌, Some, Bool, true, false, cond, arith, inl, inr}
use Rattle.std.specs.Prelude.{Contains, ◌==◌}
use Rattle.std.proofs.lemmas.Option.{same_Some}
use Rattle.ag_model.specs.Blocks.{end_of_block}

chosen : {A : Type 0} (b : Bool) (x y z : A) → cond b x y ≡ z → (x ≡ z) ⊎ (y ≡ z)
chosen true x y z h = inl h
chosen false x y z h = inr h

-- it is one of the ends
pub is_end : (start first last : ℕ) (es : List ℕ) → end_of_block start first es ≡ Some last → Contains es last
is_end start first last [] h = absurd cc
is_end start first last (e ∷ es) h =
    elim (chosen (first == start + 1) (Some e) (end_of_block e first es) (Some last) h) [
      | inl q ↦ (0, omega arith, same_Some e last q)
      | inr q ↦
          let more = is_end e first last es q in
          (suc more.0, omega (arith, more.1), more.2)
    ]
