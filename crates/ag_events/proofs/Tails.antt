-- The words of pairs.
use Rattle.std.proofs.Common.{◌≡◌, List, [], ◌∷◌, ◌++◌, refl, ap, ◌∙◌, sym, append_assoc, ℕ}
use Rattle.std.specs.List.{flat_map}
use Rattle.std.proofs.lemmas.List.Concat.{flat_map-cons}
use Rattle.ag_model.specs.declared.event.Pair.{Pair}
use Rattle.ag_script.specs.Words.{Word, pair_words}
use Rattle.ag_events.specs.Texts.{word_text, tail_text}

pub tail_append : (ws vs : List Word) → tail_text (ws ++ vs) ≡ tail_text ws ++ tail_text vs
tail_append [] vs = refl
tail_append (w ∷ ws) vs = ap (λ (t : List ℕ). 32 ∷ (word_text w ++ t)) (tail_append ws vs) ∙ ap (λ (t : List ℕ). 32 ∷ t) (sym (append_assoc (word_text w) (tail_text ws) (tail_text vs)))

pub tail_pairs : (pairs : List Pair) (vs : List Word) → tail_text (flat_map pair_words pairs ++ vs) ≡ flat_map (λ pair. tail_text (pair_words pair)) pairs ++ tail_text vs
tail_pairs [] vs = refl
tail_pairs (p ∷ pairs) vs =
    ap (λ (ws : List Word). tail_text (ws ++ vs)) (flat_map-cons pair_words p pairs)
    ∙ ap tail_text (append_assoc (pair_words p) (flat_map pair_words pairs) vs)
    ∙ tail_append (pair_words p) (flat_map pair_words pairs ++ vs)
    ∙ ap (λ (t : List ℕ). tail_text (pair_words p) ++ t) (tail_pairs pairs vs)
    ∙ sym (append_assoc (tail_text (pair_words p)) (flat_map (λ pair. tail_text (pair_words pair)) pairs) (tail_text vs))
    ∙ ap (λ (t : List ℕ). t ++ tail_text vs) (sym (flat_map-cons (λ (pair : Pair). tail_text (pair_words pair)) p pairs))
