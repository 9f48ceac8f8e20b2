-- A printed line is cut into the words that say its event.
use Rattle.std.proofs.Common.{◌≡◌, ℕ, List, [], ◌∷◌, ◌++◌, map, false, eqb, refl, ap, ◌∙◌}
use Rattle.std.specs.List.{AllByRecursion}
use Rattle.std.proofs.lemmas.List.Splits.{slice_split_none, slice_split_at}
use Rattle.std.proofs.lemmas.List.Elements.{All-from_recursion}
use Rattle.std.proofs.lemmas.List.{append-nil}
use Rattle.ag_script.specs.Lines.{words}
use Rattle.ag_script.specs.Words.{Word}
use Rattle.ag_events.specs.Texts.{word_text, tail_text}

-- no byte is a space
abbrev pub IsPlain : List ℕ → Type 0
IsPlain text = AllByRecursion (λ b. eqb b 32 ≡ false) text

pub cut_words : (text : List ℕ) (ws : List Word) → IsPlain text → AllByRecursion (λ w. IsPlain (word_text w)) ws → words (text ++ tail_text ws) ≡ text ∷ map word_text ws
cut_words text [] plain all = rw append-nil (slice_split_none (λ b. eqb b 32) text (All-from_recursion (λ b. eqb b 32 ≡ false) text plain))
cut_words text (w ∷ ws) plain all =
    slice_split_at (λ b. eqb b 32) text 32 (word_text w ++ tail_text ws) (All-from_recursion (λ b. eqb b 32 ≡ false) text plain) refl
    ∙ ap (λ (ts : List (List ℕ)). text ∷ ts) (cut_words (word_text w) ws all.0 all.1)
