-- What several calls appended, one after the other.
use Rattle.std.proofs.Common.{◌≡◌, ℕ, ◌≤◌, List, ◌++◌, length, take, ap, refl, sym, ◌∙◌, append_assoc, arith}
use Rattle.std.proofs.lemmas.List.{take_at, take-take, length-append}
use Rattle.ag_record.specs.Lists.{Begins}

pub appended2 : (old a b one two : List ℕ) → one ≡ old ++ a → two ≡ one ++ b → two ≡ old ++ (a ++ b)
appended2 old a b one two h k = k ∙ ap (λ (z : List ℕ). z ++ b) h ∙ append_assoc old a b

pub appended3 : (old a b c one two three : List ℕ) → one ≡ old ++ a → two ≡ one ++ b → three ≡ two ++ c → three ≡ old ++ (a ++ (b ++ c))
appended3 old a b c one two three h k l = appended2 old a (b ++ c) one three h (appended2 one b c two three k l)

-- where more was appended than that, the front stays
pub begins_more : (old a one two : List ℕ) → one ≡ old ++ a → Begins one two → Begins old two
begins_more old a one two h b =
    let le : length old ≤ length one = omega (arith, ap length h, length-append old a) in
    sym (take-take (length old) (length one) two le) ∙ ap (take (length old)) (b ∙ h) ∙ take_at old a (length old) refl
