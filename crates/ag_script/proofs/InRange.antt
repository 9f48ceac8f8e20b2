-- What is said is in range.
use Rattle.std.proofs.Common.{◌≢◌, ℕ, ◌+◌, ◌<◌, ◌≤◌, List, [], ◌∷◌, ◌++◌, arith, sym, subst, inl, inr}
use Rattle.std.specs.Prelude.{Result, Ok, Err, IfOk}
use Rattle.std.specs.List.{flat_map, AllByRecursion}
use Rattle.std.proofs.lemmas.List.Concat.{flat_map-cons}
use Rattle.ag_model.specs.declared.config.Config.{Config}
use Rattle.ag_model.specs.declared.event.Pair.{Pair}
use Rattle.ag_model.specs.declared.event.Event.{Event}
use Rattle.ag_model.specs.declared.event.Event.TheVariants.{Begin, Get, Put, Del, Commit, Rollback, Set, Trim, Harden, Ack, Send, Deliver, Repeat, Lose, Apply, Raise, Redo, Read, Snap, View, Close, Report, Flush, Crash, Start, Spoil, Unread, Ask, Suspects, Page, Sectors, Status, Cut, Mend, Join, Resume, Sync, Timeout, Planned, Auto, Force, Finish}
use Rattle.ag_rules.specs.Script.{IsWho, IsEvent, IsScript}
use Rattle.ag_built.specs.Built.{AreBuilt, IsPair, HasValues, HaveValues}
use Rattle.ag_script.specs.Words.{Word, Name, Node, Other, Number, Bytes, Mask, Spells, SpellsAll, HasPairs, IsValue, words_of, pair_words, suffix_words}
use Rattle.ag_script.specs.Lines.{words, IsLine, AreLines, IsScriptText}

-- what a word that is spelled may say
abbrev InRange : Word → Type 0
InRange (Name name) = Unit {0}
InRange (Node c who) = IsWho c who
InRange (Other c first who) = IsWho c who × (first ≢ who)
InRange (Number low high n) = (low ≤ n) × (n ≤ high)
InRange (Bytes value) = IsValue value
InRange (Mask mask) = Unit {0}

abbrev AllInRange : List Word → Type 0
AllInRange [] = Unit {0}
AllInRange (word ∷ words) = InRange word × AllInRange words

word_in_range : (word : Word) (text : List ℕ) → Spells word text → InRange word
word_in_range (Name name) text h = tt
word_in_range (Node c who) text h = h.1
word_in_range (Other c first who) text h = (h.1, λ same. h.2 (sym same))
word_in_range (Number low high n) text h = (h.1, h.2)
word_in_range (Bytes value) text h = h.1
word_in_range (Mask mask) text h = tt

words_in_range : (words : List Word) (texts : List (List ℕ)) → SpellsAll words texts → AllInRange words
words_in_range [] texts h = tt
words_in_range (word ∷ words) [] h = absurd h
words_in_range (word ∷ words) (text ∷ texts) h = (word_in_range word text h.0, words_in_range words texts h.1)

-- the values of pairs
values_in_range : (pairs : List Pair) (more : List Word) → AllInRange (flat_map pair_words pairs ++ more) → AllByRecursion (λ (pair : Pair). pair.value.len ≤ 64) pairs
values_in_range [] more h = tt
values_in_range (p ∷ pairs) more h =
    let s = subst (λ (ws : List Word). AllInRange (ws ++ more)) (flat_map-cons pair_words p pairs) h in
    (s.1.0.few, values_in_range pairs more s.1.1)

-- each value has zeros after its bytes
pairs_have_values : (pairs : List Pair) (more : List Word) → AllInRange (flat_map pair_words pairs ++ more) → AllByRecursion IsPair pairs
pairs_have_values [] more h = tt
pairs_have_values (p ∷ pairs) more h =
    let s = subst (λ (ws : List Word). AllInRange (ws ++ more)) (flat_map-cons pair_words p pairs) h in
    (record { room = s.1.0.whole; most = s.1.0.few; zeros = s.1.0.zeros }, pairs_have_values pairs more s.1.1)

event_has_values : (c : Config) (e : Event) → AllInRange (words_of c e) → HasValues e
event_has_values c (Set n pairs s) h = pairs_have_values pairs (suffix_words s) h.1.1
event_has_values c _ h = tt

below : {n k : ℕ} → n ≤ k → n < k + 1
below h = omega arith

page_below : (c : Config) (p : ℕ) → p ≤ 15 + c.pages → p < 16 + c.pages
page_below c p h = omega arith

event_in_range : (c : Config) (e : Event) → AllInRange (words_of c e) → HasPairs e → IsEvent c e
event_in_range c (Set n pairs s) h count = (h.1.0, count.0, count.1, values_in_range pairs (suffix_words s) h.1.1)
event_in_range c (Begin n s) h count = h.1.0
event_in_range c (Get n t k s) h count = h.1.0
event_in_range c (Put n t k v s) h count = (h.1.0, h.1.1.1.1.0.few)
event_in_range c (Del n t k s) h count = h.1.0
event_in_range c (Commit n t s) h count = h.1.0
event_in_range c (Rollback n t s) h count = h.1.0
event_in_range c (Trim n p z s) h count = (h.1.0, (h.1.1.0.0, page_below c p h.1.1.0.1))
event_in_range c (Harden n s) h count = h.1.0
event_in_range c (Ack n l s) h count = h.1.0
event_in_range c (Send n m s) h count = (h.1.0, h.1.1.0.0, h.1.1.0.1)
event_in_range c (Deliver n m i s) h count = ((h.1.0, h.1.1.0.0, h.1.1.0.1), (h.1.1.1.0.0, h.1.1.1.0.1))
event_in_range c (Repeat n m i s) h count = ((h.1.0, h.1.1.0.0, h.1.1.0.1), (h.1.1.1.0.0, h.1.1.1.0.1))
event_in_range c (Lose n m i s) h count = ((h.1.0, h.1.1.0.0, h.1.1.0.1), (h.1.1.1.0.0, h.1.1.1.0.1))
event_in_range c (Apply n x s) h count = (h.1.0, below h.1.1.0.1)
event_in_range c (Raise n x s) h count = (h.1.0, below h.1.1.0.1)
event_in_range c (Redo n s) h count = h.1.0
event_in_range c (Report n s) h count = h.1.0
event_in_range c (Read n q k s) h count = (h.1.0, below h.1.1.0.1)
event_in_range c (Snap n q s) h count = (h.1.0, below h.1.1.0.1)
event_in_range c (View n q k s) h count = (h.1.0, below h.1.1.0.1)
event_in_range c (Close n q s) h count = (h.1.0, below h.1.1.0.1)
event_in_range c (Suspects n s) h count = h.1.0
event_in_range c (Page n p s) h count = (h.1.0, (h.1.1.0.0, page_below c p h.1.1.0.1))
event_in_range c (Sectors n p s) h count = (h.1.0, (h.1.1.0.0, page_below c p h.1.1.0.1))
event_in_range c (Status n s) h count = h.1.0
event_in_range c (Flush n s) h count = h.1.0
event_in_range c (Crash n s) h count = h.1.0
event_in_range c (Start n s) h count = h.1.0
event_in_range c (Spoil n p x s) h count = (h.1.0, (h.1.1.0.0, page_below c p h.1.1.0.1), below h.1.1.1.0.1)
event_in_range c (Unread n p s) h count = (h.1.0, (h.1.1.0.0, page_below c p h.1.1.0.1))
event_in_range c (Ask n p m s) h count = ((h.1.0, h.1.1.1.0.0, h.1.1.1.0.1), (h.1.1.0.0, page_below c p h.1.1.0.1))
event_in_range c (Cut n s) h count = h.1.0
event_in_range c (Mend n s) h count = h.1.0
event_in_range c (Join n s) h count = h.1.0
event_in_range c (Resume n s) h count = h.1.0
event_in_range c (Sync n m s) h count = (h.1.0, h.1.1.0.0, h.1.1.0.1)
event_in_range c (Timeout n m s) h count = (h.1.0, h.1.1.0.0, h.1.1.0.1)
event_in_range c (Planned n s) h count = h.1.0
event_in_range c (Auto s) h count = tt
event_in_range c (Force n s) h count = h.1.0
event_in_range c (Finish n s) h count = h.1.0

pub line_in_range : (c : Config) (line : List ℕ) (e : Event) → IsLine c line e → IsEvent c e
line_in_range c line e h = event_in_range c e (words_in_range (words_of c e) (words line) h.0.0) h.0.1

line_has_values : (c : Config) (line : List ℕ) (e : Event) → IsLine c line e → HasValues e
line_has_values c line e h = event_has_values c e (words_in_range (words_of c e) (words line) h.0.0)

-- what is read is in range and built, and has its values
abbrev pub IsInRange : Config → List Event → Type 0
IsInRange c es = IsScript c es × AreBuilt es × HaveValues es

lines_in_range : (c : Config) (lines : List (List ℕ)) (es : List Event) → AreLines c lines es → IsInRange c es
lines_in_range c [] es h = subst (IsInRange c) (sym h) (tt, tt, tt)
lines_in_range c (line ∷ lines) es (inl h) = lines_in_range c lines es h.1
lines_in_range c (line ∷ lines) es (inr h) =
    let rest = lines_in_range c lines h.1 h.4 in
    subst (IsInRange c) (sym h.2) ((line_in_range c line h.0 h.3, rest.0), (h.3.1, rest.1), (line_has_values c line h.0 h.3, rest.2))

pub result_in_range : {E : Type 0} (c : Config) (text : List ℕ) (r : Result (List Event) E) → IfOk r (λ es. IsScriptText c text es) → IfOk r (λ es. IsScript c es) × IfOk r (λ es. AreBuilt es) × IfOk r (λ es. HaveValues es)
result_in_range c text (Ok es) h = lines_in_range c h.lines es h.say
result_in_range c text (Err e) h = (tt, tt, tt)
