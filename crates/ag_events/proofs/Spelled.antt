-- Each word is spelled as it is printed.
use Rattle.std.proofs.Common.{◌≡◌, ℕ, ◌+◌, ◌%◌, List, [], ◌∷◌, map, refl, ap, arith}
use Rattle.std.specs.List.{AllByRecursion}
use Rattle.ag_model.specs.declared.event.Who.{Who}
use Rattle.ag_model.specs.declared.event.Who.TheVariants.{Letter, Primary}
use Rattle.ag_script.specs.Words.{Word, Name, Node, Other, Number, Bytes, Mask, Spells, SpellsAll, who_text}
use Rattle.ag_events.specs.Texts.{word_text, who_byte}
use Rattle.ag_events.specs.Ranges.{HasLetter, IsInRange}
use Rattle.ag_events.proofs.Masks.{mask_read, mask_some, mask_few}

who_is : (who : Who) → HasLetter who → who_byte who ∷ [] ≡ who_text who
who_is (Letter n) h = let e : (65 + n) % 256 ≡ 65 + n = omega (arith, h) in ap (λ (b : ℕ). b ∷ []) e
who_is Primary h = refl

pub word_spelled : (word : Word) → IsInRange word → Spells word (word_text word)
word_spelled (Name name) h = refl
word_spelled (Node c who) h = (who_is who h.1, h.0)
word_spelled (Other c first who) h = (who_is who h.1, h.0, h.2)
word_spelled (Number low high n) h = (refl, h.0, h.1, h.2)
word_spelled (Bytes value) h = (refl, h)
word_spelled (Mask mask) h = (mask_some mask, mask_few mask h, mask_read mask h)

pub words_spelled : (words : List Word) → AllByRecursion IsInRange words → SpellsAll words (map word_text words)
words_spelled [] h = tt
words_spelled (word ∷ words) h = (word_spelled word h.0, words_spelled words h.1)
