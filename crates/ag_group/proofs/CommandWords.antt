-- The words of a command.
use Rattle.std.proofs.Common.{◌≡◌, ℕ, ◌<◌, ◌≤◌, List, [], ◌∷◌, length, get_or, arith, sym, ap, ◌∙◌}
use Rattle.std.specs.Prelude.{map, String, string_bytes}

-- the texts of one word
pub one_text : {A : Type 0} (words : List (String A)) (word : String A) (text : List ℕ) → 1 ≤ length words → length words < 2 → word ≡ get_or words 0 word → text ≡ string_bytes word → map string_bytes words ≡ text ∷ []
one_text [] word text h k is says = absurd (omega (arith, h))
one_text (w ∷ []) word text h k is says = ap (λ (t : List ℕ). t ∷ []) (ap string_bytes (sym is) ∙ sym says)
one_text (w ∷ x ∷ ws) word text h k is says = absurd (omega (arith, k))
