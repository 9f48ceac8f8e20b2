-- Records that have a spelling, and blocks that can be sent.
use Rattle.std.proofs.Common.{◌≡◌, ℕ, zero, suc, ◌+◌, ◌-◌, ◌<◌, ◌≤◌, List, [], ◌∷◌, ◌++◌, length, take, drop, ap, arith}
use Rattle.std.specs.Prelude.{false, Option, IfSome, ◌==◌}
use Rattle.std.proofs.lemmas.List.{length-drop, length-take-le}
use Rattle.std.proofs.lemmas.List.Sums.{sum_by-cons}
use Rattle.ag_model.specs.declared.record.Record.{Record}
use Rattle.ag_model.specs.Blocks.{end_of_block, after_to}
use Rattle.ag_model.specs.Sizes.{record_size, records_size}
use Rattle.ag_record.specs.Spelling.{HaveSpelling}
use Rattle.ag_record.proofs.Many.{length-records, size-least}
use Rattle.ag_record.specs.Spelling.{ArePayload}
use Rattle.ag_logstore.specs.LogKept.{RisesTo, AreSmall}
use Rattle.ag_logstore.proofs.Blocks.{blocks_push, block_found}

-- records one after the other, and some of them
pub fit_append : (xs ys : List Record) → HaveSpelling xs → HaveSpelling ys → HaveSpelling (xs ++ ys)
fit_append [] ys p q = q
fit_append (x ∷ xs) ys p q = (p.0, fit_append xs ys p.1 q)

pub fit_take : (n : ℕ) (xs : List Record) → HaveSpelling xs → HaveSpelling (take n xs)
fit_take zero xs p = tt
fit_take (suc n) [] p = tt
fit_take (suc n) (x ∷ xs) p = (p.0, fit_take n xs p.1)

pub fit_drop : (n : ℕ) (xs : List Record) → HaveSpelling xs → HaveSpelling (drop n xs)
fit_drop zero xs p = p
fit_drop (suc n) [] p = tt
fit_drop (suc n) (x ∷ xs) p = fit_drop n xs p.1

pub fit_between : (low high : ℕ) (xs : List Record) → HaveSpelling xs → HaveSpelling (after_to low high xs)
fit_between low high xs p = fit_drop low (take high xs) (fit_take high xs p)

-- some records of few bytes can be sent
pub payload : (rs : List Record) → HaveSpelling rs → 0 < length rs → records_size rs ≤ 15488 → ArePayload rs
payload [] h some small = absurd (omega (arith, some))
payload (r ∷ rs) h some small =
    let bytes = length-records (r ∷ rs) h in
    let sum = sum_by-cons record_size r rs in
    record { fit = h; least = omega (arith, bytes, sum, size-least r); most = omega (arith, bytes, small) }

pub payload_small : (rs : List Record) → ArePayload rs → records_size rs ≤ 15488
payload_small rs p = omega (arith, p.most, length-records rs p.fit)

pub payload_some : (rs : List Record) → ArePayload rs → 0 < length rs
payload_some [] p = absurd (omega (arith, p.least))
payload_some (r ∷ rs) p = omega arith

-- a buffer can be sent as a block
pub payload_buffer : (rs : List Record) (bytes : ℕ) → HaveSpelling rs → (length rs == 0) ≡ false → bytes ≡ records_size rs → bytes ≤ 15488 → ArePayload rs
payload_buffer [] bytes h some is small = absurd cc
payload_buffer (r ∷ rs) bytes h some is small = payload (r ∷ rs) h (omega arith) (omega (arith, is, small))

-- a copy of a block of a log can be sent
pub payload_copy : (low high : ℕ) (rs copy : List Record) → HaveSpelling copy → copy ≡ after_to low high rs → low < high → high ≤ length rs → records_size (after_to low high rs) ≤ 15488 → ArePayload copy
payload_copy low high rs copy h is l within small =
    payload copy h (omega (arith, ap length is, length-drop low (take high rs), length-take-le high rs within, l)) (omega (arith, ap records_size is, small))

-- one more block
pub small_push : (low high : ℕ) (es : List ℕ) (rs new : List Record) → RisesTo low high es → high ≡ low + length rs → AreSmall low es rs → records_size new ≤ 15488
    → AreSmall low (es ++ (high + length new) ∷ []) (rs ++ new)
small_push low high es rs new p h a s = blocks_push (λ b. records_size b ≤ 15488) low high es rs new p h a s

-- a block that is found
pub small_found : (found : Option ℕ) (high first : ℕ) (es : List ℕ) (rs : List Record) → RisesTo 0 high es → AreSmall 0 es rs → found ≡ end_of_block 0 first es
    → IfSome found (λ last. records_size (after_to (first - 1) last rs) ≤ 15488)
small_found found high first es rs p a h = block_found (λ b. records_size b ≤ 15488) found high first es rs p a h
