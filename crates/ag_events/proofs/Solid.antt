-- What is printed of an event has no space in a word, and no end of a line.
use Rattle.std.proofs.Common.{◌≡◌, ℕ, zero, suc, ◌+◌, ◌%◌, ◌/◌, ◌<◌, List, [], ◌∷◌, ◌++◌, true, false, eqb, ltb, leb, ◌&&◌, take, refl, sym, subst, arith, inl, inr}
use Rattle.std.specs.List.{flat_map, AllByRecursion}
use Rattle.std.specs.Fmt.{digits, digits_onto, digit_glyph}
use Rattle.std.proofs.lemmas.List.Concat.{flat_map-cons}
use Rattle.std.proofs.lemmas.Bool.{cases_Bool, ltb-true, and_parts}
use Rattle.ag_model.specs.declared.event.Who.{Who}
use Rattle.ag_model.specs.declared.event.Who.TheVariants.{Letter, Primary}
use Rattle.ag_model.specs.declared.value.Value.{Value}
use Rattle.ag_script.specs.Hex.{hex_pair}
use Rattle.ag_script.specs.Words.{Word, Name, Node, Other, Number, Bytes, Mask, value_text}
use Rattle.ag_events.specs.Texts.{word_text, tail_text, who_byte}
use Rattle.ag_events.specs.Ranges.{HasLetter, IsInRange}
use Rattle.ag_events.proofs.Named.{is_solid, IsNamed}

-- each byte is above the space
abbrev pub IsSolid : List ℕ → Type 0
IsSolid text = AllByRecursion (λ b. 32 < b) text

glyph_solid : (d : ℕ) → 32 < digit_glyph false d
glyph_solid d = elim (cases_Bool (ltb d 10)) [
  | inl few ↦ rw few (omega arith)
  | inr more ↦ rw more (omega arith)
]

solid_onto : (k base n : ℕ) (acc : List ℕ) → IsSolid acc → IsSolid (digits_onto k base false n acc)
solid_onto zero base n acc a = a
solid_onto (suc k) base n acc a = elim (cases_Bool (eqb (n / base) 0)) [
  | inl last ↦ rw last (glyph_solid (n % base), a)
  | inr more ↦ rw more (solid_onto k base (n / base) (digit_glyph false (n % base) ∷ acc) (glyph_solid (n % base), a))
]

digits_solid : (base n : ℕ) → IsSolid (digits base false n)
unfolding digits
digits_solid base n = solid_onto 64 base n [] tt

pairs_solid : (bs : List ℕ) → IsSolid (flat_map hex_pair bs)
pairs_solid [] = tt
pairs_solid (b ∷ bs) = subst IsSolid (sym (flat_map-cons hex_pair b bs)) (glyph_solid (b / 16), (glyph_solid (b % 16), pairs_solid bs))

value_solid : (v : Value) → IsSolid (value_text v)
value_solid v = elim (cases_Bool (eqb v.len 0)) [
  | inl none ↦ rw none (omega arith, tt)
  | inr some ↦ rw some (pairs_solid (take v.len v.bytes))
]

who_solid : (who : Who) → HasLetter who → 32 < who_byte who
who_solid (Letter n) h = omega (arith, h)
who_solid Primary h = omega arith

name_solid : (text : List ℕ) → is_solid text ≡ true → IsSolid text
name_solid [] h = tt
name_solid (b ∷ bs) h = let p = and_parts (ltb 32 b) (is_solid bs) h in (ltb-true 32 b p.0, name_solid bs p.1)

pub word_solid : (word : Word) → IsInRange word → IsNamed word → IsSolid (word_text word)
word_solid (Name text) h n = name_solid text n
word_solid (Node c who) h n = (who_solid who h.1, tt)
word_solid (Other c first who) h n = (who_solid who h.1, tt)
word_solid (Number low high m) h n = digits_solid 10 m
word_solid (Bytes value) h n = value_solid value
word_solid (Mask mask) h n = digits_solid 16 mask
