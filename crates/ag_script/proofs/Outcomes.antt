-- A text is a script, or has a first bad line, or has too many events, and never two of these.
use Rattle.std.proofs.Common.{◌≡◌, ◌≢◌, ℕ, ◌+◌, ◌<◌, ◌≤◌, List, [], ◌∷◌, ◌++◌, length, Some, None, refl, sym, ap, subst, ◌∙◌, arith, inl, inr, ◌⊎◌, eqb}
use Rattle.std.specs.List.{slice_split, onto_first}
use Rattle.std.specs.Prelude.{Result, Ok, Err, IfOk, IsErrOf, MatchResult}
use Rattle.ag_script.specs.declared.fault.ScriptFault.{ScriptFault}
use Rattle.ag_script.specs.declared.fault.ScriptFault.TheVariants.{BadLine, Events, NoMemory}
use Rattle.std.proofs.lemmas.Bool.{cases_lt}
use Rattle.std.proofs.lemmas.List.{length-append, nil_from_length, append-nil}
use Rattle.ag_model.specs.declared.config.Config.{Config}
use Rattle.ag_model.specs.declared.event.Event.{Event}
use Rattle.ag_built.specs.Built.{most_events}
use Rattle.ag_script.specs.Lines.{words, IsLine, IsSkipped, IsBad, AreLines, IsScriptText, IsFirstBad, IsTooMany}
use Rattle.ag_script.specs.Named.{event_at, transaction_shapes, log_shapes, look_shapes, disk_shapes, member_shapes}
use Rattle.ag_script.proofs.LineAgain.{line_again, one_said}

-- a line says one event at most
one_event : (c : Config) (line : List ℕ) (d e : Event) → IsLine c line d → IsLine c line e → d ≡ e
one_event c line d e p q = one_said c (words line) d e p.0 q.0

-- no event's name begins with `#`
hash_words : (c : Config) (ws : List (List ℕ)) → event_at c (onto_first 35 ws) ≡ None
unfolding event_at transaction_shapes log_shapes look_shapes disk_shapes member_shapes
hash_words c [] = refl
hash_words c (w ∷ ws) = refl

-- a line that is skipped says none
skipped_says : (c : Config) (line : List ℕ) (e : Event) → IsSkipped line → IsLine c line e → ⊥
unfolding event_at transaction_shapes log_shapes look_shapes disk_shapes member_shapes
skipped_says c [] e skipped h = let f : None ≡ Some e = line_again c ([] ∷ []) e h.0 in cc
skipped_says c (b ∷ line) e skipped h =
    let at : words (b ∷ line) ≡ onto_first 35 (words line) = ap (λ (x : ℕ). slice_split (λ y. eqb y 32) (x ∷ line)) skipped in
    let f : None ≡ Some e = sym (hash_words c (words line)) ∙ ap (event_at c) (sym at) ∙ line_again c (words (b ∷ line)) e h.0 in cc

same_push : (d e : Event) (xs ys : List Event) → d ≡ e → xs ≡ ys → d ∷ xs ≡ e ∷ ys
same_push d e xs ys p q = rw (p, q) refl

-- lines that go on have the events of their front first
AreLines-front : (c : Config) (front more : List (List ℕ)) (ds es : List Event) → AreLines c front ds → AreLines c (front ++ more) es → (others : List Event) × (es ≡ ds ++ others) × AreLines c more others
AreLines-front c [] more ds es p q = (es, ap (λ (x : List Event). x ++ es) (sym p), q)
AreLines-front c (line ∷ front) more ds es (inl p) (inl q) = AreLines-front c front more ds es p.1 q.1
AreLines-front c (line ∷ front) more ds es (inl p) (inr q) = absurd (skipped_says c line q.0 p.0 q.3)
AreLines-front c (line ∷ front) more ds es (inr p) (inl q) = absurd (skipped_says c line p.0 q.0 p.3)
AreLines-front c (line ∷ front) more ds es (inr p) (inr q) =
    let r = AreLines-front c front more p.1 q.1 p.4 q.4 in
    let same : q.0 ≡ p.0 = one_event c line q.0 p.0 q.3 p.3 in
    (r.0, q.2 ∙ same_push q.0 p.0 q.1 (p.1 ++ r.0) same r.1 ∙ ap (λ (x : List Event). x ++ r.0) (sym p.2), r.2)

-- ---- lists that end alike

same_line : (p q : List ℕ) (xs ys : List (List ℕ)) → p ≡ q → xs ≡ ys → p ∷ xs ≡ q ∷ ys
same_line p q xs ys e f = rw (e, f) refl

-- one list, cut at two places: either cut goes further
cut_twice : (a b x y : List (List ℕ)) → a ++ x ≡ b ++ y → length a ≤ length b → (m : List (List ℕ)) × (b ≡ a ++ m) × (x ≡ m ++ y)
cut_twice [] b x y e le = (b, refl, e)
cut_twice (p ∷ a) [] x y e le = absurd (omega arith)
cut_twice (p ∷ a) (q ∷ b) x y e le =
    let heads : p ≡ q = cc in
    let tails : a ++ x ≡ b ++ y = cc in
    let r = cut_twice a b x y tails (omega arith) in
    (r.0, same_line q p b (a ++ r.0) (sym heads) r.1, r.2)

some_length : (xs : List (List ℕ)) → xs ≢ [] → 0 < length xs
some_length [] h = absurd (h refl)
some_length (x ∷ xs) h = omega arith

pub one_script : (c : Config) (text : List ℕ) (ds es : List Event) → IsScriptText c text ds → IsScriptText c text es → ds ≡ es
one_script c text ds es p q =
    let e : p.lines ++ [] ∷ [] ≡ q.lines ++ [] ∷ [] = sym p.whole ∙ q.whole in
    let len = ap length e in
    let le : length p.lines ≤ length q.lines = omega (arith, len, length-append p.lines ([] ∷ []), length-append q.lines ([] ∷ [])) in
    let r = cut_twice p.lines q.lines ([] ∷ []) ([] ∷ []) e le in
    let none : r.0 ≡ [] = nil_from_length r.0 (let l = ap length r.2 in omega (arith, l, length-append r.0 ([] ∷ []))) in
    let say : AreLines c (p.lines ++ r.0) es = subst (λ (ls : List (List ℕ)). AreLines c ls es) r.1 q.say in
    let f = AreLines-front c p.lines r.0 ds es p.say say in
    let rest : AreLines c [] f.0 = subst (λ (ls : List (List ℕ)). AreLines c ls f.0) none f.2 in
    sym (f.1 ∙ ap (λ (x : List Event). ds ++ x) rest ∙ append-nil ds)

le_either : (m n : ℕ) → (m ≤ n) ⊎ (n ≤ m)
le_either m n = elim (cases_lt m n) [ inl lt ↦ inl (omega arith) | inr le ↦ inr le ]

-- a bad line isn't among lines that say events
bad_says : (c : Config) (w line : List ℕ) (es : List Event) (m : List (List ℕ)) → w ≡ line → IsBad c line → AreLines c (w ∷ m) es → ⊥
bad_says c w line es m same bad (inl skipped) = bad.not_skipped (subst IsSkipped same skipped.0)
bad_says c w line es m same bad (inr said) = bad.no_event said.0 (subst (λ (l : List ℕ). IsLine c l said.0) same said.3)

bad_at : (c : Config) (front m more : List (List ℕ)) (line : List ℕ) (es ds : List Event) → AreLines c front ds → AreLines c (front ++ m) es → line ∷ more ≡ m ++ [] ∷ [] → ((more ≡ []) × (line ≢ [])) ⊎ ((more ≢ []) × IsBad c line) → ⊥
bad_at c front [] more line es ds p q e (inl b) = b.1 (let h : line ≡ [] = cc in h)
bad_at c front [] more line es ds p q e (inr b) = b.0 (let h : more ≡ [] = cc in h)
bad_at c front (w ∷ m) more line es ds p q e (inl b) =
    let h : more ≡ m ++ [] ∷ [] = cc in
    let l = ap length (sym h ∙ b.0) in
    omega (arith, l, length-append m ([] ∷ []))
bad_at c front (w ∷ m) more line es ds p q e (inr b) =
    let same : w ≡ line = (let h : line ≡ w = cc in sym h) in
    let f = AreLines-front c front (w ∷ m) ds es p q in
    bad_says c w line f.0 m same b.1 f.2

pub script_bad : (c : Config) (text : List ℕ) (es : List Event) (before : ℕ) → IsScriptText c text es → IsFirstBad c text before → ⊥
script_bad c text es before p q =
    let e : q.lines ++ q.line ∷ q.more ≡ p.lines ++ [] ∷ [] = sym q.cut ∙ p.whole in
    let len = ap length e in
    let le : length q.lines ≤ length p.lines = omega (arith, len, length-append q.lines (q.line ∷ q.more), length-append p.lines ([] ∷ [])) in
    let r = cut_twice q.lines p.lines (q.line ∷ q.more) ([] ∷ []) e le in
    let say : AreLines c (q.lines ++ r.0) es = subst (λ (ls : List (List ℕ)). AreLines c ls es) r.1 p.say in
    bad_at c q.lines r.0 q.more q.line es q.events q.say say r.2 q.bad

pub script_many : (c : Config) (text : List ℕ) (es : List Event) → IsScriptText c text es → IsTooMany c text → ⊥
script_many c text es p q =
    let e : q.lines ++ q.more ≡ p.lines ++ [] ∷ [] = sym q.cut ∙ p.whole in
    let len = ap length e in
    let some = some_length q.more q.whole in
    let le : length q.lines ≤ length p.lines = omega (arith, len, some, length-append q.lines q.more, length-append p.lines ([] ∷ [])) in
    let r = cut_twice q.lines p.lines q.more ([] ∷ []) e le in
    let say : AreLines c (q.lines ++ r.0) es = subst (λ (ls : List (List ℕ)). AreLines c ls es) r.1 p.say in
    let f = AreLines-front c q.lines r.0 q.events es q.say say in
    omega (arith, p.few, q.many, ap length f.1, length-append q.events f.0)

-- of two bad lines the later one isn't behind the earlier one
bad_before : (c : Config) (front m more others : List (List ℕ)) (line later : List ℕ) (ds es : List Event) → AreLines c front ds → AreLines c (front ++ m) es → line ∷ more ≡ m ++ later ∷ others → ((more ≡ []) × (line ≢ [])) ⊎ ((more ≢ []) × IsBad c line) → m ≡ []
bad_before c front [] more others line later ds es p q e bad = refl
bad_before c front (w ∷ m) more others line later ds es p q e (inl b) =
    let h : more ≡ m ++ later ∷ others = cc in
    let l = ap length (sym h ∙ b.0) in
    absurd (omega (arith, l, length-append m (later ∷ others)))
bad_before c front (w ∷ m) more others line later ds es p q e (inr b) =
    let same : w ≡ line = (let h : line ≡ w = cc in sym h) in
    let f = AreLines-front c front (w ∷ m) ds es p q in
    absurd (bad_says c w line f.0 m same b.1 f.2)

bad_order : (c : Config) (text : List ℕ) (before again : ℕ) (p : IsFirstBad c text before) (q : IsFirstBad c text again) → length p.lines ≤ length q.lines → before ≡ again
bad_order c text before again p q le =
    let e : p.lines ++ p.line ∷ p.more ≡ q.lines ++ q.line ∷ q.more = sym p.cut ∙ q.cut in
    let r = cut_twice p.lines q.lines (p.line ∷ p.more) (q.line ∷ q.more) e le in
    let say : AreLines c (p.lines ++ r.0) q.events = subst (λ (ls : List (List ℕ)). AreLines c ls q.events) r.1 q.say in
    let none : r.0 ≡ [] = bad_before c p.lines r.0 p.more q.more p.line q.line p.events q.events p.say say r.2 p.bad in
    let same : length q.lines ≡ length p.lines = ap length (r.1 ∙ ap (λ (m : List (List ℕ)). p.lines ++ m) none ∙ append-nil p.lines) in
    sym p.place ∙ sym same ∙ q.place

pub one_bad : (c : Config) (text : List ℕ) (before again : ℕ) → IsFirstBad c text before → IsFirstBad c text again → before ≡ again
one_bad c text before again p q = elim (le_either (length p.lines) (length q.lines)) [
  | inl le ↦ bad_order c text before again p q le
  | inr le ↦ sym (bad_order c text again before q p le)
]

many_before : (c : Config) (front m more rest : List (List ℕ)) (line : List ℕ) (ds es : List Event) → AreLines c front ds → AreLines c (front ++ m) es → line ∷ more ≡ m ++ rest → ((more ≡ []) × (line ≢ [])) ⊎ ((more ≢ []) × IsBad c line) → rest ≢ [] → length ds ≤ most_events → length es ≡ most_events + 1 → ⊥
many_before c front [] more rest line ds es p q e bad whole few many =
    let f = AreLines-front c front [] ds es p q in
    omega (arith, few, many, ap length (f.1 ∙ ap (λ (x : List Event). ds ++ x) f.2 ∙ append-nil ds))
many_before c front (w ∷ m) more rest line ds es p q e (inl b) whole few many =
    let h : more ≡ m ++ rest = cc in
    let l = ap length (sym h ∙ b.0) in
    omega (arith, l, some_length rest whole, length-append m rest)
many_before c front (w ∷ m) more rest line ds es p q e (inr b) whole few many =
    let same : w ≡ line = (let h : line ≡ w = cc in sym h) in
    let f = AreLines-front c front (w ∷ m) ds es p q in
    bad_says c w line f.0 m same b.1 f.2

-- where there are too many events, no bad line comes before them
pub bad_many : (c : Config) (text : List ℕ) (before : ℕ) → IsFirstBad c text before → IsTooMany c text → ⊥
bad_many c text before p q =
    let e : p.lines ++ p.line ∷ p.more ≡ q.lines ++ q.more = sym p.cut ∙ q.cut in
    elim (le_either (length q.lines) (length p.lines)) [
      | inl le ↦ (
          let r = cut_twice q.lines p.lines q.more (p.line ∷ p.more) (sym e) le in
          let say : AreLines c (q.lines ++ r.0) p.events = subst (λ (ls : List (List ℕ)). AreLines c ls p.events) r.1 p.say in
          let f = AreLines-front c q.lines r.0 q.events p.events q.say say in
          omega (arith, p.few, q.many, ap length f.1, length-append q.events f.0))
      | inr le ↦ (
          let r = cut_twice p.lines q.lines (p.line ∷ p.more) q.more e le in
          let say : AreLines c (p.lines ++ r.0) q.events = subst (λ (ls : List (List ℕ)). AreLines c ls q.events) r.1 q.say in
          many_before c p.lines r.0 p.more q.more p.line p.events q.events p.say say r.2 p.bad q.whole p.few q.many)
    ]

-- ---- an outcome that tells the truth is the only one

-- the outcome tells the truth
pub record IsTrueOf (c : Config) (text : List ℕ) (first : ℕ) (r : Result (List Event) ScriptFault) : Type 0 where
  pub script : IfOk r (λ es. IsScriptText c text es)
  pub bad_line : (line : ℕ) → r ≡ Err (BadLine line) → (before : ℕ) × (line ≡ first + before) × IsFirstBad c text before
  pub events : IsErrOf r Events → IsTooMany c text

pub tells_script : (c : Config) (text : List ℕ) (first : ℕ) (events : List Event) (r : Result (List Event) ScriptFault) → IsTrueOf c text first r → IsScriptText c text events → MatchResult r (λ found. found ≡ events) (λ fault. fault ≡ NoMemory)
tells_script c text first events (Ok found) t h = one_script c text found events t.script h
tells_script c text first events (Err (BadLine line)) t h = absurd (let b = t.bad_line line refl in script_bad c text events b.0 h b.2)
tells_script c text first events (Err Events) t h = absurd (script_many c text events h (t.events refl))
tells_script c text first events (Err NoMemory) t h = refl

pub tells_bad : (c : Config) (text : List ℕ) (first before : ℕ) (r : Result (List Event) ScriptFault) → IsTrueOf c text first r → IsFirstBad c text before → MatchResult r (λ _. ⊥) (λ fault. (fault ≡ BadLine (first + before)) ⊎ (fault ≡ NoMemory))
tells_bad c text first before (Ok found) t h = script_bad c text found before t.script h
tells_bad c text first before (Err (BadLine line)) t h = inl (let b = t.bad_line line refl in ap BadLine (b.1 ∙ ap (λ (n : ℕ). first + n) (one_bad c text b.0 before b.2 h)))
tells_bad c text first before (Err Events) t h = absurd (bad_many c text before h (t.events refl))
tells_bad c text first before (Err NoMemory) t h = inr refl

pub tells_many : (c : Config) (text : List ℕ) (first : ℕ) (r : Result (List Event) ScriptFault) → IsTrueOf c text first r → IsTooMany c text → MatchResult r (λ _. ⊥) (λ fault. (fault ≡ Events) ⊎ (fault ≡ NoMemory))
tells_many c text first (Ok found) t h = script_many c text found t.script h
tells_many c text first (Err (BadLine line)) t h = absurd (let b = t.bad_line line refl in bad_many c text b.0 b.2 h)
tells_many c text first (Err Events) t h = inl refl
tells_many c text first (Err NoMemory) t h = inr refl
