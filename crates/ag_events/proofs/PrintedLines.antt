-- A printed line is one line, which is cut into the printed words of its event.
use Rattle.std.proofs.Common.{◌≡◌, ℕ, ◌<◌, ◌≤◌, List, [], ◌∷◌, ◌++◌, map, length, false, eqb, refl, sym, ap, subst, ◌∙◌, arith, inr, append_assoc}
use Rattle.std.specs.List.{flat_map, AllByRecursion}
use Rattle.std.proofs.lemmas.Bool.{ne_eqb}
use Rattle.std.proofs.lemmas.List.Splits.{slice_split_none, slice_split_at}
use Rattle.std.proofs.lemmas.List.Elements.{All-from_recursion}
use Rattle.std.proofs.lemmas.List.Concat.{flat_map-cons}
use Rattle.ag_model.specs.declared.config.Config.{Config}
use Rattle.ag_model.specs.declared.event.Event.{Event}
use Rattle.ag_built.specs.Built.{IsBuilt, most_events}
use Rattle.ag_script.specs.Words.{Word, Say, words_of}
use Rattle.ag_script.specs.Lines.{words, parts, AreLines, IsSkipped, IsScriptText}
use Rattle.ag_events.specs.Texts.{word_text, tail_text, line_text, event_text, script_text}
use Rattle.ag_events.specs.Ranges.{IsInRange, IsSayable}
use Rattle.ag_events.proofs.Named.{IsNamed, AreNamed, are_named, same_text}
use Rattle.ag_events.proofs.Solid.{IsSolid, word_solid}
use Rattle.ag_events.proofs.Splits.{IsPlain, cut_words}
use Rattle.ag_events.proofs.Spelled.{words_spelled}

solid_plain : (text : List ℕ) → IsSolid text → IsPlain text
solid_plain [] h = tt
solid_plain (b ∷ bs) h = (ne_eqb b 32 (λ same. omega (arith, h.0, same)), solid_plain bs h.1)

words_plain : (ws : List Word) → AllByRecursion IsInRange ws → AllByRecursion IsNamed ws → AllByRecursion (λ w. IsPlain (word_text w)) ws
words_plain [] h n = tt
words_plain (w ∷ ws) h n = (solid_plain (word_text w) (word_solid w h.0 n.0), words_plain ws h.1 n.1)

cut_line : (ws : List Word) → AllByRecursion IsInRange ws → AreNamed ws → words (line_text ws) ≡ map word_text ws
cut_line [] h n = absurd n
cut_line (w ∷ ws) h n = cut_words (word_text w) ws (solid_plain (word_text w) (word_solid w h.0 n.0)) (words_plain ws h.1 n.1)

pub line_says : (c : Config) (e : Event) → IsSayable c e → Say c e (words (event_text e))
line_says c e h =
    let cut = ap words (same_text c e) ∙ cut_line (words_of c e) h.0 (are_named c e) in
    subst (Say c e) (sym cut) (words_spelled (words_of c e) h.0, h.1)

-- ---- ends of lines

-- no byte ends a line
abbrev IsOneLine : List ℕ → Type 0
IsOneLine text = AllByRecursion (λ b. eqb b 10 ≡ false) text

one_line_then : (text more : List ℕ) → IsSolid text → IsOneLine more → IsOneLine (text ++ more)
one_line_then [] more h m = m
one_line_then (b ∷ bs) more h m = (ne_eqb b 10 (λ same. omega (arith, h.0, same)), one_line_then bs more h.1 m)

tail_one_line : (ws : List Word) → AllByRecursion IsInRange ws → AllByRecursion IsNamed ws → IsOneLine (tail_text ws)
tail_one_line [] h n = tt
tail_one_line (w ∷ ws) h n = (refl, one_line_then (word_text w) (tail_text ws) (word_solid w h.0 n.0) (tail_one_line ws h.1 n.1))

words_one_line : (ws : List Word) → AllByRecursion IsInRange ws → AreNamed ws → IsOneLine (line_text ws)
words_one_line [] h n = absurd n
words_one_line (w ∷ ws) h n = one_line_then (word_text w) (tail_text ws) (word_solid w h.0 n.0) (tail_one_line ws h.1 n.1)

event_one_line : (c : Config) (e : Event) → IsSayable c e → IsOneLine (event_text e)
event_one_line c e h = subst IsOneLine (sym (same_text c e)) (words_one_line (words_of c e) h.0 (are_named c e))

-- ---- scripts

-- what is printed of events that are built, each in a line
module _ (c : Config) where
  abbrev pub AreSayable : List Event → Type 0
  AreSayable es = AllByRecursion (λ e. IsSayable c e × IsBuilt e) es

  cut_script : (es : List Event) → AreSayable es → parts (script_text es) ≡ map event_text es ++ [] ∷ []
  cut_script [] h = refl
  cut_script (e ∷ es) h =
      ap parts (flat_map-cons (λ e. event_text e ++ 10 ∷ []) e es ∙ append_assoc (event_text e) (10 ∷ []) (script_text es))
      ∙ slice_split_at (λ b. eqb b 10) (event_text e) 10 (script_text es) (All-from_recursion (λ b. eqb b 10 ≡ false) (event_text e) (event_one_line c e h.0.0)) refl
      ∙ ap (λ (ls : List (List ℕ)). event_text e ∷ ls) (cut_script es h.1)

  lines_say : (es : List Event) → AreSayable es → AreLines c (map event_text es) es
  lines_say [] h = refl
  lines_say (e ∷ es) h = inr (e, es, refl, (line_says c e h.0.0, h.0.1), lines_say es h.1)

  pub script_says : (es : List Event) → AreSayable es → length es ≤ most_events → IsScriptText c (script_text es) es
  script_says es h few = record { lines = map event_text es; whole = cut_script es h; say = lines_say es h; few = few }
