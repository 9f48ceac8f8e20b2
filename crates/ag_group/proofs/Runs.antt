-- A run that goes on by an event, and what is written of it.
use Rattle.std.proofs.Common.{◌≡◌, ℕ, zero, suc, ◌+◌, ◌<◌, ◌≤◌, List, [], ◌∷◌, ◌++◌, length, take, get_or, Option, refl, sym, ap, subst, ◌∙◌, append_assoc, map, arith}
use Rattle.std.specs.List.{flat_map, AllByRecursion}
use Rattle.std.specs.Io.KnownBytes.{Appends}
use Rattle.std.proofs.lemmas.List.{append-nil, take_more, take_all}
use Rattle.std.proofs.lemmas.List.Concat.{flat_map-cons}
use Rattle.std.proofs.lemmas.Grind.{flat_map-append}
use Rattle.ag_outside.specs.Streams.{AppendsFront}
use Rattle.ag_outside.proofs.StreamLemmas.{Appends-none, Appends-then}
use Rattle.ag_model.specs.declared.config.Config.{Config}
use Rattle.ag_model.specs.declared.event.Event.{Event}
use Rattle.ag_model.specs.declared.answer.Answer.{Answer}
use Rattle.ag_rules.specs.Group.{Group, opening}
use Rattle.ag_rules.specs.Allowed.{IsAllowed, next}
use Rattle.ag_rules.specs.Next.{done}
use Rattle.ag_rules.specs.Run.{moments_from, answers_of}
use Rattle.ag_transcript.specs.Transcript.{header_text, line, transcript}
use Rattle.ag_transcript.specs.Answers.{answer_text}
use Rattle.ag_law_logs.specs.Reached.{after_events, after_more}
use Rattle.ag_group.specs.Ran.{HasRun, HasRunInPart}

-- what holds of each item holds of the one at an index
pub every_at : {X : Type 0} (P : X → Type 0) (xs : List X) (i : ℕ) (d : X) → AllByRecursion P xs → i < length xs → P (get_or xs i d)
every_at P [] i d h lt = absurd (omega (arith, lt))
every_at P (x ∷ xs) zero d h lt = h.0
every_at P (x ∷ xs) (suc i) d h lt = every_at P xs i d h.1 (omega (arith, lt))

-- the answers to events, from a group on
abbrev pub answers_from : Group → List Event → List Answer
answers_from g es = map (λ m. m.answer) (moments_from g es)

answers_push : (g : Group) (es : List Event) (e : Event) → answers_from g (es ++ e ∷ []) ≡ answers_from g es ++ (done (after_events g es) e).answer ∷ []
answers_push g [] e = refl
answers_push g (d ∷ es) e = ap (λ (t : List Answer). (done g d).answer ∷ t) (answers_push (next g d) es e)

abbrev answer_line : Answer → List ℕ
answer_line a = line (answer_text a)

transcript_push : (c : Config) (bs : List Answer) (a : Answer) → transcript c (bs ++ a ∷ []) ≡ transcript c bs ++ answer_line a
transcript_push c bs a =
    let header = line (header_text c) in
    ap (λ (t : List ℕ). header ++ t) (flat_map-append answer_line bs (a ∷ []) ∙ ap (λ (t : List ℕ). flat_map answer_line bs ++ t) (flat_map-cons answer_line a [] ∙ append-nil (answer_line a)))
    ∙ sym (append_assoc header (flat_map answer_line bs) (answer_line a))

-- ---- what a sink has taken

pub front_none : (a : Option (List ℕ)) (x : List ℕ) → AppendsFront a a x
front_none a x = ([], x, refl, Appends-none a)

pub front_whole : (a b : Option (List ℕ)) (x : List ℕ) → Appends a b x → AppendsFront a b x
front_whole a b x h = (x, [], sym (append-nil x), h)

pub front_then : (a b c : Option (List ℕ)) (x y : List ℕ) → Appends a b x → AppendsFront b c y → AppendsFront a c (x ++ y)
front_then a b c x y h q = (x ++ q.0, q.1, ap (λ (t : List ℕ). x ++ t) q.2 ∙ sym (append_assoc x q.0 q.1), Appends-then a b c x q.0 h q.3)

-- ---- the run so far

-- the first events are done, and their transcript is written
pub record SoFar (c : Config) (es : List Event) (i : ℕ) (group : Group) (before now : Option (List ℕ)) : Type 0 where
  pub group_is : group ≡ after_events (opening c) (take i es)
  pub config : group.config ≡ c
  pub written : Appends before now (transcript c (answers_of c (take i es)))

pub not_begun : (c : Config) (es : List Event) (a : Option (List ℕ)) → HasRunInPart c es a a
not_begun c es a = record { count = 0; answers = []; lawful = refl; written = front_none a (transcript c []) }

header_only : (c : Config) → transcript c [] ≡ line (header_text c)
header_only c = append-nil (line (header_text c))

pub header_cut : (c : Config) (es : List Event) (a b : Option (List ℕ)) (text : List ℕ) → text ≡ line (header_text c) → AppendsFront a b text → HasRunInPart c es a b
header_cut c es a b text is h = record { count = 0; answers = []; lawful = refl; written = subst (λ (t : List ℕ). AppendsFront a b t) (is ∙ sym (header_only c)) h }

pub config_at_opening : (c : Config) → (opening c).config ≡ c
config_at_opening c = unfold opening in refl

pub SoFar-start : (c : Config) (es : List Event) (g : Group) (a b : Option (List ℕ)) (text : List ℕ) → g ≡ opening c → text ≡ line (header_text c) → Appends a b text → SoFar c es 0 g a b
SoFar-start c es g a b text opens is h = record { group_is = opens; config = ap (λ (x : Group). x.config) opens ∙ config_at_opening c; written = subst (λ (t : List ℕ). Appends a b t) (is ∙ sym (header_only c)) h }

pub SoFar-part : (c : Config) (es : List Event) (i : ℕ) (g : Group) (a b : Option (List ℕ)) → SoFar c es i g a b → HasRunInPart c es a b
SoFar-part c es i g a b h = record { count = i; answers = answers_of c (take i es); lawful = refl; written = front_whole a b (transcript c (answers_of c (take i es))) h.written }

-- the transcript of one more event
one_more : (c : Config) (es : List Event) (i : ℕ) (g : Group) (before b : Option (List ℕ)) (e : Event) (a : Answer) → SoFar c es i g before b → i < length es → e ≡ get_or es i e → IsAllowed g e a → transcript c (answers_of c (take (i + 1) es)) ≡ transcript c (answers_of c (take i es)) ++ answer_line a
one_more c es i g before b e a h lt is ok =
    let grown : take (i + 1) es ≡ take i es ++ e ∷ [] = take_more es i e lt ∙ ap (λ (x : Event). take i es ++ x ∷ []) (sym is) in
    let same : (done (after_events (opening c) (take i es)) e).answer ≡ a = ap (λ (x : Group). (done x e).answer) (sym h.group_is) ∙ sym ok in
    ap (λ (xs : List Event). transcript c (answers_of c xs)) grown
    ∙ ap (λ (bs : List Answer). transcript c bs) (answers_push (opening c) (take i es) e ∙ ap (λ (x : Answer). answers_of c (take i es) ++ x ∷ []) same)
    ∙ transcript_push c (answers_of c (take i es)) a

pub SoFar-event : (c : Config) (es : List Event) (i : ℕ) (g after_step : Group) (before b now : Option (List ℕ)) (e : Event) (a : Answer) (text : List ℕ) → SoFar c es i g before b → i < length es → e ≡ get_or es i e → IsAllowed g e a → after_step ≡ next g e → after_step.config ≡ g.config → text ≡ answer_line a → Appends b now text → SoFar c es (i + 1) after_step before now
SoFar-event c es i g after_step before b now e a text h lt is ok steps keeps says wrote =
    let grown : take (i + 1) es ≡ take i es ++ e ∷ [] = take_more es i e lt ∙ ap (λ (x : Event). take i es ++ x ∷ []) (sym is) in
    record {
      group_is = steps ∙ ap (λ (s : Group). next s e) h.group_is ∙ sym (after_more (opening c) (take i es) e) ∙ ap (λ (xs : List Event). after_events (opening c) xs) (sym grown);
      config = keeps ∙ h.config;
      written = subst (λ (t : List ℕ). Appends before now t) (sym (one_more c es i g before b e a h lt is ok))
          (Appends-then before b now (transcript c (answers_of c (take i es))) (answer_line a) h.written (subst (λ (t : List ℕ). Appends b now t) says wrote));
    }

pub event_cut : (c : Config) (es : List Event) (i : ℕ) (g : Group) (before b now : Option (List ℕ)) (e : Event) (a : Answer) (text : List ℕ) → SoFar c es i g before b → i < length es → e ≡ get_or es i e → IsAllowed g e a → text ≡ answer_line a → AppendsFront b now text → HasRunInPart c es before now
event_cut c es i g before b now e a text h lt is ok says wrote = record {
  count = i + 1;
  answers = answers_of c (take (i + 1) es);
  lawful = refl;
  written = subst (λ (t : List ℕ). AppendsFront before now t) (sym (one_more c es i g before b e a h lt is ok))
      (front_then before b now (transcript c (answers_of c (take i es))) (answer_line a) h.written (subst (λ (t : List ℕ). AppendsFront b now t) says wrote));
}

pub SoFar-end : (c : Config) (es : List Event) (i : ℕ) (g : Group) (a b : Option (List ℕ)) → length es ≤ i → SoFar c es i g a b → HasRun c es a b
SoFar-end c es i g a b all h = record { answers = answers_of c es; lawful = refl; written = subst (λ (xs : List Event). Appends a b (transcript c (answers_of c xs))) (take_all i es all) h.written }
