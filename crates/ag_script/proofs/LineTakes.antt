-- A line that is read says its event.
use Rattle.std.proofs.Common.{◌≡◌, ℕ, ◌≤◌, List, [], ◌∷◌, ◌++◌, length, Option, Some, None, refl, sym, ap, subst, ◌∙◌, inl, inr, append_assoc}
use Rattle.std.specs.List.{flat_map}
use Rattle.std.specs.Str.{bytes_eq}
use Rattle.std.proofs.lemmas.Slice.Eq.{bytes_eq-Decides}
use Rattle.ag_lists.proofs.Results.{some_is}
use Rattle.ag_model.specs.declared.config.Config.{Config}
use Rattle.ag_model.specs.declared.value.Value.{Value}
use Rattle.ag_model.specs.declared.event.Pair.{Pair}
use Rattle.ag_model.specs.declared.event.Who.{Who}
use Rattle.ag_model.specs.declared.event.Suffix.{Suffix}
use Rattle.ag_model.specs.declared.event.Event.{Event}
use Rattle.ag_script.specs.Words.{Word, Name, Node, Other, Number, Bytes, Spells, SpellsAll, Say, HasPairs, words_of, pair_words, suffix_words}
use Rattle.ag_script.specs.Hex.{◌>>=◌}
use Rattle.ag_script.specs.ReadWord.{who_at, other_at, number_at, value_at}
use Rattle.ag_script.specs.ReadWords.{word_by, suffix_at, pairs_at}
use Rattle.ag_script.specs.Shapes.{Shape, Ends, PairsEnd, NodeThen, OtherThen, NumberThen, BytesThen, read}
use Rattle.ag_script.specs.Named.{first_named, shapes, transaction_shapes, log_shapes, look_shapes, disk_shapes, member_shapes, event_at}
use Rattle.ag_script.proofs.WordLemmas.{cases_option, pick, found, node_takes, other_takes, number_takes, value_takes}
use Rattle.ag_script.proofs.SuffixLemmas.{suffix_takes}
use Rattle.ag_script.proofs.PairLemmas.{pairs_takes}

-- a word that is read, and what is read after it
by_word : {A : Type 0} (f : List ℕ → Option A) (texts : List (List ℕ)) (k : A → List (List ℕ) → Option Event) (e : Event) → (word_by f texts >>= λ x. k x.0 x.1) ≡ Some e → (text : List ℕ) × (rest : List (List ℕ)) × (x : A) × (texts ≡ text ∷ rest) × (f text ≡ Some x) × (k x rest ≡ Some e)
by_word f [] k e h = absurd cc
by_word f (text ∷ rest) k e h =
    elim (cases_option (f text)) [
      | inl n ↦ absurd (let g : None ≡ Some e = sym (let i : (word_by f (text ∷ rest) >>= λ x. k x.0 x.1) ≡ None = rw n refl in i) ∙ h in cc)
      | inr x ↦ (text, rest, x.0, refl, x.1, sym (let i : (word_by f (text ∷ rest) >>= λ x. k x.0 x.1) ≡ k x.0 rest = rw x.1 refl in i) ∙ h)
    ]

spells_both : (ws vs : List Word) (front rest : List (List ℕ)) → SpellsAll ws front → SpellsAll vs rest → SpellsAll (ws ++ vs) (front ++ rest)
spells_both [] vs [] rest p q = q
spells_both [] vs (t ∷ front) rest p q = absurd p
spells_both (w ∷ ws) vs [] rest p q = absurd p
spells_both (w ∷ ws) vs (t ∷ front) rest p q = (p.0, spells_both ws vs front rest p.1 q)

-- each event of the shape has the words before, and those of the shape
abbrev pub IsRight : Config → Shape → List Word → Type 0
IsRight c (Ends event) before = (s : Suffix) → (words_of c (event s) ≡ before ++ suffix_words s) × HasPairs (event s)
IsRight c (PairsEnd event) before = (pairs : List Pair) (s : Suffix) → 1 ≤ length pairs → length pairs ≤ 8 → (words_of c (event pairs s) ≡ before ++ (flat_map pair_words pairs ++ suffix_words s)) × HasPairs (event pairs s)
IsRight c (NodeThen d next) before = (n : Who) → IsRight c (next n) (before ++ Node d n ∷ [])
IsRight c (OtherThen d first next) before = (n : Who) → IsRight c (next n) (before ++ Other d first n ∷ [])
IsRight c (NumberThen low high next) before = (n : ℕ) → IsRight c (next n) (before ++ Number low high n ∷ [])
IsRight c (BytesThen next) before = (v : Value) → IsRight c (next v) (before ++ Bytes v ∷ [])

-- the words of the event are those before and those that the texts spell
abbrev Said : Config → List Word → Event → List (List ℕ) → Type 0
Said c before e texts = (words : List Word) × (words_of c e ≡ before ++ words) × SpellsAll words texts × HasPairs e

said_on : (c : Config) (before : List Word) (word : Word) (e : Event) (text : List ℕ) (rest texts : List (List ℕ)) → texts ≡ text ∷ rest → Spells word text → Said c (before ++ word ∷ []) e rest → Said c before e texts
said_on c before word e text rest texts cut spells said = rw cut (word ∷ said.0, said.1 ∙ append_assoc before (word ∷ []) said.0, (spells, said.2), said.3)

read_right : (c : Config) (shape : Shape) (before : List Word) (texts : List (List ℕ)) (e : Event) → IsRight c shape before → read shape texts ≡ Some e → Said c before e texts
read_right c (Ends event) before texts e right h =
    let s = found (suffix_at texts) (λ s. Some (event s)) e h in
    let same : event s.0 ≡ e = some_is (event s.0) e s.2 in
    (suffix_words s.0, ap (words_of c) (sym same) ∙ (right s.0).0, suffix_takes texts s.0 s.1, subst HasPairs same (right s.0).1)
read_right c (PairsEnd event) before texts e right h =
    let x = found (pairs_at texts) (λ x. suffix_at x.1 >>= λ s. Some (event x.0 s)) e h in
    let s = found (suffix_at x.0.1) (λ s. Some (event x.0.0 s)) e x.2 in
    let taken = pairs_takes texts x.0 x.1 in
    let same : event x.0.0 s.0 ≡ e = some_is (event x.0.0 s.0) e s.2 in
    let is = right x.0.0 s.0 taken.1 taken.0.3 in
    let spelled : SpellsAll (flat_map pair_words x.0.0 ++ suffix_words s.0) texts =
    subst (SpellsAll (flat_map pair_words x.0.0 ++ suffix_words s.0)) (sym taken.0.1) (spells_both (flat_map pair_words x.0.0) (suffix_words s.0) taken.0.0 x.0.1 taken.0.2 (suffix_takes x.0.1 s.0 s.1)) in
    (flat_map pair_words x.0.0 ++ suffix_words s.0, ap (words_of c) (sym same) ∙ is.0, spelled, subst HasPairs same is.1)
read_right c (NodeThen d next) before texts e right h =
    let b = by_word (who_at d) texts (λ x. read (next x)) e h in
    said_on c before (Node d b.2) e b.0 b.1 texts b.3 (node_takes d b.0 b.2 b.4) (read_right c (next b.2) (before ++ Node d b.2 ∷ []) b.1 e (right b.2) b.5)
read_right c (OtherThen d first next) before texts e right h =
    let b = by_word (other_at d first) texts (λ x. read (next x)) e h in
    said_on c before (Other d first b.2) e b.0 b.1 texts b.3 (other_takes d first b.0 b.2 b.4) (read_right c (next b.2) (before ++ Other d first b.2 ∷ []) b.1 e (right b.2) b.5)
read_right c (NumberThen low high next) before texts e right h =
    let b = by_word (number_at low high) texts (λ x. read (next x)) e h in
    said_on c before (Number low high b.2) e b.0 b.1 texts b.3 (number_takes low high b.0 b.2 b.4) (read_right c (next b.2) (before ++ Number low high b.2 ∷ []) b.1 e (right b.2) b.5)
read_right c (BytesThen next) before texts e right h =
    let b = by_word value_at texts (λ x. read (next x)) e h in
    said_on c before (Bytes b.2) e b.0 b.1 texts b.3 (value_takes b.0 b.2 b.4) (read_right c (next b.2) (before ++ Bytes b.2 ∷ []) b.1 e (right b.2) b.5)

-- each shape of the table has the words of its events
abbrev AreRight : Config → List (List ℕ × Shape) → Type 0
AreRight c [] = Unit {0}
AreRight c (entry ∷ entries) = IsRight c entry.1 (Name entry.0 ∷ []) × AreRight c entries

named_right : (c : Config) (table : List (List ℕ × Shape)) (name : List ℕ) (texts : List (List ℕ)) (e : Event) → AreRight c table → first_named table name texts ≡ Some e → Say c e (name ∷ texts)
named_right c [] name texts e right h = absurd cc
named_right c (entry ∷ entries) name texts e right h =
    elim (pick (bytes_eq name entry.0) (read entry.1 texts) (first_named entries name texts) (Some e) h) [
      | inl p ↦ (let said = read_right c entry.1 (Name entry.0 ∷ []) texts e right.0 p.1 in
          (rw said.1 ((bytes_eq-Decides name entry.0).0 p.0, said.2), said.3))
      | inr q ↦ named_right c entries name texts e right.1 q
    ]

-- each event's shape has its words
shapes_right : (c : Config) → AreRight c (shapes c)
unfolding transaction_shapes log_shapes look_shapes disk_shapes member_shapes
shapes_right c = (λ n pairs s some few. (refl, (some, few)), (λ n s. (refl, tt), (λ n t k s. (refl, tt), (λ n t k v s. (refl, tt), (λ n t k s. (refl, tt), (λ n t s. (refl, tt), (λ n t s. (refl, tt), (λ n p z s. (refl, tt), (λ n s. (refl, tt), (λ n l s. (refl, tt), (λ n m s. (refl, tt), (λ n m i s. (refl, tt), (λ n m i s. (refl, tt), (λ n m i s. (refl, tt), (λ n x s. (refl, tt), (λ n x s. (refl, tt), (λ n s. (refl, tt), (λ n s. (refl, tt), (λ n q k s. (refl, tt), (λ n q s. (refl, tt), (λ n q k s. (refl, tt), (λ n q s. (refl, tt), (λ n s. (refl, tt), (λ n p s. (refl, tt), (λ n p s. (refl, tt), (λ n s. (refl, tt), (λ n s. (refl, tt), (λ n s. (refl, tt), (λ n s. (refl, tt), (λ n p x s. (refl, tt), (λ n p s. (refl, tt), (λ n p m s. (refl, tt), (λ n s. (refl, tt), (λ n s. (refl, tt), (λ n s. (refl, tt), (λ n s. (refl, tt), (λ n m s. (refl, tt), (λ n m s. (refl, tt), (λ n s. (refl, tt), (λ s. (refl, tt), (λ n s. (refl, tt), (λ n s. (refl, tt), tt))))))))))))))))))))))))))))))))))))))))))

pub line_takes : (c : Config) (texts : List (List ℕ)) (e : Event) → event_at c texts ≡ Some e → Say c e texts
unfolding event_at
line_takes c [] e h = absurd cc
line_takes c (name ∷ texts) e h = named_right c (shapes c) name texts e (shapes_right c) h
