-- What holds of each block of a log, when one more comes and when one is found.
use Rattle.std.proofs.Common.{◌≡◌, ℕ, ◌+◌, ◌-◌, ◌<◌, ◌≤◌, List, [], ◌∷◌, ◌++◌, length, take, drop, sym, ap, ◌∙◌, subst, inl, inr, arith, eqb-true}
use Rattle.std.specs.Prelude.{Option, Some, None, IfSome, ◌==◌}
use Rattle.std.proofs.lemmas.Option.{same_Some}
use Rattle.std.proofs.lemmas.List.{take-append-le, drop-append-le, length-drop, drop-drop, drop-take}
use Rattle.std.proofs.Math.Seq.{take-length}
use Rattle.ag_model.specs.declared.record.Record.{Record}
use Rattle.ag_model.specs.Blocks.{end_of_block, after_to}
use Rattle.ag_lists.proofs.Tests.{chosen}
use Rattle.ag_logstore.specs.LogKept.{RisesTo}
use Rattle.ag_logstore.specs.Blocks.{AreBlocks}
use Rattle.ag_logstore.proofs.LogEnds.{rises_le}

-- one more block
pub blocks_push : (P : List Record → Type 0) (low high : ℕ) (es : List ℕ) (rs new : List Record) → RisesTo low high es → high ≡ low + length rs → AreBlocks P low es rs → P new
    → AreBlocks P low (es ++ (high + length new) ∷ []) (rs ++ new)
blocks_push P low high [] [] new p h a s =
    let n : (high + length new) - low ≡ length new = omega (arith, p) in
    (rw (n, take-length) s, tt)
blocks_push P low high [] (r ∷ rs) new p h a s = absurd (omega (arith, p, h))
blocks_push P low high (e ∷ es) rs new p h a s =
    let within : e - low ≤ length rs = omega (arith, h, p.0, rises_le e high es p.1) in
    let rest : high ≡ e + length (drop (e - low) rs) = omega (arith, h, p.0, rises_le e high es p.1, length-drop (e - low) rs) in
    (rw (take-append-le (e - low) rs new within) a.0, rw (drop-append-le (e - low) rs new within) (blocks_push P e high es (drop (e - low) rs) new p.1 rest a.1 s))

-- a part of the records after some of them
later_part : (a b c : ℕ) (rs : List Record) → drop (a + b) (take (a + c) rs) ≡ drop b (take c (drop a rs))
later_part a b c rs = sym (drop-drop b a (take (a + c) rs)) ∙ ap (λ (xs : List Record). drop b xs) (drop-take a c rs)

-- a block that is found is one of them
block_after : (P : List Record → Type 0) (low high first : ℕ) (es : List ℕ) (rs : List Record) (last : ℕ) → RisesTo low high es → AreBlocks P low es rs → end_of_block low first es ≡ Some last
    → (low < first) × (first ≤ last) × P (after_to ((first - 1) - low) (last - low) rs)
block_after P low high first [] rs last p a h = absurd cc
block_after P low high first (e ∷ es) rs last p a h =
    elim (chosen (first == low + 1) (Some e) (end_of_block e first es) (Some last) h) [
      | inl q ↦
          let at : first ≡ low + 1 = eqb-true first (low + 1) q.0 in
          let is : e ≡ last = same_Some e last q.1 in
          let none : (first - 1) - low ≡ 0 = omega (arith, at) in
          (omega (arith, at), omega (arith, at, is, p.0), rw (none, ← is) a.0)
      | inr q ↦
          let more = block_after P e high first es (drop (e - low) rs) last p.1 a.1 q.1 in
          let from : (first - 1) - low ≡ (e - low) + ((first - 1) - e) = omega (arith, p.0, more.0) in
          let to : last - low ≡ (e - low) + (last - e) = omega (arith, p.0, more.0, more.1) in
          (omega (arith, p.0, more.0), more.1, rw (from, to, later_part (e - low) ((first - 1) - e) (last - e) rs) more.2)
    ]

-- the same of a whole log, where a block may not be found
pub block_found : (P : List Record → Type 0) (found : Option ℕ) (high first : ℕ) (ends : List ℕ) (rs : List Record) → RisesTo 0 high ends → AreBlocks P 0 ends rs → found ≡ end_of_block 0 first ends
    → IfSome found (λ last. P (after_to (first - 1) last rs))
block_found P None high first ends rs p a h = tt
block_found P (Some last) high first ends rs p a h =
    let from : (first - 1) - 0 ≡ first - 1 = omega arith in
    let to : last - 0 ≡ last = omega arith in
    subst (λ (n : ℕ). P (after_to n last rs)) from (subst (λ (n : ℕ). P (after_to ((first - 1) - 0) n rs)) to (block_after P 0 high first ends rs last p a (sym h)).2)
