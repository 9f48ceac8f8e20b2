-- Checks in order.
use Rattle.std.proofs.Common.{◌≡◌, Bool, true, false, cond, List, [], ◌∷◌, ap, ◌∙◌, sym}
use Rattle.std.specs.Prelude.{Some}
use Rattle.ag_rules.specs.Plan.{Check}
use Rattle.ag_txn.specs.declared.fault.TxnFault.{TxnFault}
use Rattle.ag_txn.specs.Faults.{refusal_of, first_refusal}

-- a check that doesn't hold is passed over
pub next_check : (c : Check) (cs : List Check) → c.when ≡ false → first_refusal (c ∷ cs) ≡ first_refusal cs
next_check c cs off = ap (λ (b : Bool). cond b (Some c.refusal) (first_refusal cs)) off

-- a check that holds is the first
pub first_check : (c : Check) (cs : List Check) (e : TxnFault) → (c.when ≡ true) × (refusal_of e ≡ Some c.refusal) → refusal_of e ≡ first_refusal (c ∷ cs)
first_check c cs e h = h.1 ∙ sym (ap (λ (b : Bool). cond b (Some c.refusal) (first_refusal cs)) h.0)

-- the last of four checks holds
pub fourth_check : (a b c d : Check) (e : TxnFault) → a.when ≡ false → b.when ≡ false → c.when ≡ false → (d.when ≡ true) × (refusal_of e ≡ Some d.refusal)
    → refusal_of e ≡ first_refusal (a ∷ b ∷ c ∷ d ∷ [])
fourth_check a b c d e x y z h = first_check d [] e h ∙ sym (next_check a (b ∷ c ∷ d ∷ []) x ∙ next_check b (c ∷ d ∷ []) y ∙ next_check c (d ∷ []) z)

-- the last of three checks holds
pub third_check : (a b c : Check) (e : TxnFault) → a.when ≡ false → b.when ≡ false → (c.when ≡ true) × (refusal_of e ≡ Some c.refusal) → refusal_of e ≡ first_refusal (a ∷ b ∷ c ∷ [])
third_check a b c e x y h = first_check c [] e h ∙ sym (next_check a (b ∷ c ∷ []) x ∙ next_check b (c ∷ []) y)
