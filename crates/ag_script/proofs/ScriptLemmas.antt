-- A script, line by line.
use Rattle.std.proofs.Common.{◌≡◌, ◌≢◌, ℕ, ◌+◌, ◌<◌, ◌≤◌, List, [], ◌∷◌, ◌++◌, length, take, drop, Bool, true, false, cond, Some, None, refl, sym, ap, ◌∙◌, append_assoc, arith, inl, inr, eqb, subst}
use Rattle.std.specs.Prelude.{position, IsTrue}
use Rattle.std.specs.List.{onto_first}
use Rattle.std.proofs.lemmas.List.{length-append}
use Rattle.ag_model.specs.declared.config.Config.{Config}
use Rattle.ag_model.specs.declared.event.Event.{Event}
use Rattle.ag_built.specs.Built.{IsBuilt, most_events}
use Rattle.ag_script.specs.Named.{event_at}
use Rattle.ag_script.specs.Lines.{words, IsLine, IsSkipped, IsBad, AreLines, parts, IsFirstBad, IsTooMany}
use Rattle.ag_script.specs.declared.script.Line.{Line}
use Rattle.ag_script.specs.LineKinds.{IsOfKind}
use Rattle.ag_script.proofs.LineTakes.{line_takes}
use Rattle.ag_script.proofs.LineAgain.{line_none, one_said}
use Rattle.ag_script.proofs.Cuts.{cut_none, cut_some}

pub AreLines-skipped : (c : Config) (lines : List (List ℕ)) (line : List ℕ) (es : List Event) → AreLines c lines es → IsSkipped line → AreLines c (lines ++ line ∷ []) es
AreLines-skipped c [] line es h skipped = inl (skipped, h)
AreLines-skipped c (l ∷ lines) line es (inl h) skipped = inl (h.0, AreLines-skipped c lines line es h.1 skipped)
AreLines-skipped c (l ∷ lines) line es (inr h) skipped = inr (h.0, h.1, h.2, h.3, AreLines-skipped c lines line h.1 h.4 skipped)

pub AreLines-event : (c : Config) (lines : List (List ℕ)) (line : List ℕ) (es : List Event) (e : Event) → AreLines c lines es → IsLine c line e → AreLines c (lines ++ line ∷ []) (es ++ e ∷ [])
AreLines-event c [] line es e h is = inr (e, [], ap (λ (xs : List Event). xs ++ e ∷ []) h, is, refl)
AreLines-event c (l ∷ lines) line es e (inl h) is = inl (h.0, AreLines-event c lines line es e h.1 is)
AreLines-event c (l ∷ lines) line es e (inr h) is = inr (h.0, h.1 ++ e ∷ [], ap (λ (xs : List Event). xs ++ e ∷ []) h.2, h.3, AreLines-event c lines line h.1 e h.4 is)

-- the lines so far
pub record SoFar (c : Config) (text rest : List ℕ) (before : ℕ) (events : List Event) : Type 0 where
  pub lines : List (List ℕ)
  pub cut : parts text ≡ lines ++ parts rest
  pub place : length lines ≡ before
  pub say : AreLines c lines events
  pub few : length events ≤ most_events

-- the next line
one_cut : (text rest : List ℕ) (end : ℕ) (lines : List (List ℕ)) → parts text ≡ lines ++ parts rest → position (λ b. eqb b 10) rest ≡ Some end → parts text ≡ (lines ++ take end rest ∷ []) ++ parts (drop (end + 1) rest)
one_cut text rest end lines cut at = cut ∙ ap (λ (ps : List (List ℕ)). lines ++ ps) (cut_some (λ b. eqb b 10) rest end at).1 ∙ sym (append_assoc lines (take end rest ∷ []) (parts (drop (end + 1) rest)))

pub SoFar-skipped : (c : Config) (text rest after : List ℕ) (before : ℕ) (es : List Event) (end : ℕ) → SoFar c text rest before es → position (λ b. eqb b 10) rest ≡ Some end → IsSkipped (take end rest) → after ≡ drop (end + 1) rest → SoFar c text after (before + 1) es
SoFar-skipped c text rest after before es end h at skipped is = rw is (record {
  lines = h.lines ++ take end rest ∷ [];
  cut = one_cut text rest end h.lines h.cut at;
  place = omega (arith, h.place, length-append h.lines (take end rest ∷ []));
  say = AreLines-skipped c h.lines (take end rest) es h.say skipped;
  few = h.few;
})

pub SoFar-event : (c : Config) (text rest after : List ℕ) (before : ℕ) (es : List Event) (end : ℕ) (e : Event) → SoFar c text rest before es → position (λ b. eqb b 10) rest ≡ Some end → IsLine c (take end rest) e → length es < most_events → after ≡ drop (end + 1) rest → SoFar c text after (before + 1) (es ++ e ∷ [])
SoFar-event c text rest after before es end e h at says room is = rw is (record {
  lines = h.lines ++ take end rest ∷ [];
  cut = one_cut text rest end h.lines h.cut at;
  place = omega (arith, h.place, length-append h.lines (take end rest ∷ []));
  say = AreLines-event c h.lines (take end rest) es e h.say says;
  few = omega (arith, room, length-append es (e ∷ []));
})

some_onto : (b : ℕ) (ps : List (List ℕ)) → onto_first b ps ≢ []
some_onto b [] e = cc
some_onto b (p ∷ ps) e = cc

some_cases : (test : Bool) (b : ℕ) (ps : List (List ℕ)) → cond test ([] ∷ ps) (onto_first b ps) ≢ []
some_cases true b ps e = cc
some_cases false b ps e = some_onto b ps e

some_parts : (text : List ℕ) → parts text ≢ []
some_parts [] e = cc
some_parts (b ∷ text) e = some_cases (eqb b 10) b (parts text) e

pub bad_line : (c : Config) (text rest : List ℕ) (before : ℕ) (es : List Event) (end : ℕ) → SoFar c text rest before es → position (λ b. eqb b 10) rest ≡ Some end → IsBad c (take end rest) → IsFirstBad c text before
bad_line c text rest before es end h at bad = record {
  lines = h.lines;
  line = take end rest;
  more = parts (drop (end + 1) rest);
  cut = h.cut ∙ ap (λ (ps : List (List ℕ)). h.lines ++ ps) (cut_some (λ b. eqb b 10) rest end at).1;
  place = h.place;
  events = es;
  say = h.say;
  few = h.few;
  bad = inr (some_parts (drop (end + 1) rest), bad);
}

pub bad_end : (c : Config) (text rest : List ℕ) (before : ℕ) (es : List Event) → SoFar c text rest before es → position (λ b. eqb b 10) rest ≡ None → rest ≢ [] → IsFirstBad c text before
bad_end c text rest before es h at some = record {
  lines = h.lines;
  line = rest;
  more = [];
  cut = h.cut ∙ ap (λ (ps : List (List ℕ)). h.lines ++ ps) (cut_none (λ b. eqb b 10) rest at);
  place = h.place;
  events = es;
  say = h.say;
  few = h.few;
  bad = inl (refl, some);
}

pub too_many : (c : Config) (text rest : List ℕ) (before : ℕ) (es : List Event) (end : ℕ) (e : Event) → SoFar c text rest before es → position (λ b. eqb b 10) rest ≡ Some end → IsLine c (take end rest) e → most_events ≤ length es → IsTooMany c text
too_many c text rest before es end e h at says full = record {
  lines = h.lines ++ take end rest ∷ [];
  more = parts (drop (end + 1) rest);
  cut = one_cut text rest end h.lines h.cut at;
  whole = some_parts (drop (end + 1) rest);
  events = es ++ e ∷ [];
  say = AreLines-event c h.lines (take end rest) es e h.say says;
  many = omega (arith, full, h.few, length-append es (e ∷ []));
}

pub not_empty : (xs : List ℕ) → eqb (length xs) 0 ≡ false → xs ≢ []
not_empty [] e h = absurd cc
not_empty (x ∷ xs) e h = cc

-- ---- what a line is

pub says : (c : Config) (line : List ℕ) (e : Event) → event_at c (words line) ≡ Some e → IsBuilt e → IsLine c line e
says c line e read built = (line_takes c (words line) e read, built)

not_so : {A : Type 0} → (A → IsTrue false) → A → ⊥
not_so f a = let e : false ≡ true = f a in cc

pub bad_none : (c : Config) (line : List ℕ) → (IsSkipped line → IsTrue false) → event_at c (words line) ≡ None → IsBad c line
bad_none c line other none = record { not_skipped = not_so other; no_event = λ e h. line_none c (words line) e none h.0 }

pub bad_unbuilt : (c : Config) (line : List ℕ) (d : Event) → (IsSkipped line → IsTrue false) → event_at c (words line) ≡ Some d → (IsBuilt d → IsTrue false) → IsBad c line
bad_unbuilt c line d other read unbuilt = record {
  not_skipped = not_so other;
  no_event = λ e h. not_so unbuilt (subst IsBuilt (one_said c (words line) e d h.0 (line_takes c (words line) d read)) h.1);
}

pub kind_is : (c : Config) (line : List ℕ) (k l : Line) → IsOfKind c line k → k ≡ l → IsOfKind c line l
kind_is c line k l h same = subst (IsOfKind c line) same h
