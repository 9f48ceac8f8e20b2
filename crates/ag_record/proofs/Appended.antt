-- What several calls appended, one after the other.
use Rattle.std.proofs.Common.{◌≡◌, ℕ, List, ◌++◌, ap, ◌∙◌, append_assoc}

append4 : (old a b c d : List ℕ) → ((((old ++ a) ++ b) ++ c) ++ d) ≡ old ++ (a ++ (b ++ (c ++ d)))
append4 old a b c d = simp append_assoc

append5 : (old a b c d e : List ℕ) → (((((old ++ a) ++ b) ++ c) ++ d) ++ e) ≡ old ++ (a ++ (b ++ (c ++ (d ++ e))))
append5 old a b c d e = simp append_assoc

pub appended4 : (old o0 o1 o2 o3 o4 a b c d : List ℕ) → o0 ≡ old → o1 ≡ o0 ++ a → o2 ≡ o1 ++ b → o3 ≡ o2 ++ c → o4 ≡ o3 ++ d → o4 ≡ old ++ (a ++ (b ++ (c ++ d)))
appended4 old o0 o1 o2 o3 o4 a b c d e0 e1 e2 e3 e4 = rw (e4, e3, e2, e1, e0) (append4 old a b c d)

pub appended5 : (old o0 o1 o2 o3 o4 o5 a b c d e : List ℕ) → o0 ≡ old → o1 ≡ o0 ++ a → o2 ≡ o1 ++ b → o3 ≡ o2 ++ c → o4 ≡ o3 ++ d → o5 ≡ o4 ++ e → o5 ≡ old ++ (a ++ (b ++ (c ++ (d ++ e))))
appended5 old o0 o1 o2 o3 o4 o5 a b c d e e0 e1 e2 e3 e4 e5 = rw (e5, e4, e3, e2, e1, e0) (append5 old a b c d e)

-- what was appended, under another name
pub also : (o now b c : List ℕ) → now ≡ o ++ b → b ≡ c → now ≡ o ++ c
also o now b c e h = e ∙ ap (λ (z : List ℕ). o ++ z) h
