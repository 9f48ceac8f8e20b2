-- A scenario, and the outcome of reading it.
use Rattle.std.proofs.Common.{◌≡◌, ℕ, ◌+◌, ◌<◌, ◌≤◌, List, ◌++◌, Option, Some, None, sym, ap, subst, ◌∙◌, arith, length, ◌⊎◌, inl, inr}
use Rattle.std.specs.Prelude.{IfSome, codes, ◌∷◌, []}
use Rattle.ag_model.specs.declared.config.Config.{Config}
use Rattle.ag_model.specs.declared.event.Event.{Event}
use Rattle.ag_script.specs.Lines.{IsScriptText, IsFirstBad, IsTooMany}
use Rattle.ag_rules.specs.Script.{IsConfig, IsScript}
use Rattle.ag_rules.specs.Run.{run}
use Rattle.ag_rules.specs.ReadsRight.{ReadsRight}
use Rattle.ag_rules.specs.SessionLaw.{SessionLaw}
use Rattle.ag_rules.specs.KeptLaw.{KeptLaw}
use Rattle.ag_rules.specs.RevertedLaw.{RevertedLaw}
use Rattle.ag_script.specs.declared.fault.ScriptFault.{ScriptFault}
use Rattle.ag_script.specs.declared.fault.ScriptFault.TheVariants as Fault
use Rattle.std.specs.Io.KnownBytes.{Keeps}
use Rattle.ag_group.specs.declared.status.Status.{Status}
use Rattle.ag_group.specs.declared.status.Status.TheVariants.{BadLine, NoMemory}
use Rattle.ag_group.specs.Statuses.{IsUnlessStopped}
use Rattle.ag_group.specs.Ran.{HasRun, HasRunInPart}
use Rattle.ag_group.specs.Played.{IsPlayed, IsPlayedInPart}
use Rattle.ag_group.specs.Scenario.{IsScenario, HasScript, HasBadLine, HasTooManyEvents, default_config, most_bytes}

abbrev dashes : List ℕ
dashes = codes "---" ++ 10 ∷ []

behind : (xs ys : List ℕ) → dashes ++ xs ≡ dashes ++ ys → xs ≡ ys
behind xs ys e = cc

-- a text has one script
pub one_script : (text x y : List ℕ) → HasScript text x → HasScript text y → x ≡ y
one_script text x y h g = behind x y (sym h ∙ g)

pub its_script : (text script : List ℕ) (c d : Config) (events : List Event) → IsScenario text d events → HasScript text script → c ≡ default_config → IsScriptText c script events
its_script text script c d events h has is =
    let same : h.script ≡ script = one_script text h.script script h.has has in
    let config : d ≡ c = h.head ∙ sym is in
    subst (λ (k : Config). IsScriptText k script events) config (subst (λ (s : List ℕ). IsScriptText d s events) same h.says)

pub its_bad_line : (text script : List ℕ) (c : Config) (line : ℕ) → (h : HasBadLine text line) → HasScript text script → c ≡ default_config → IsFirstBad c script h.before
its_bad_line text script c line h has is =
    let same : h.script ≡ script = one_script text h.script script h.has has in
    subst (λ (k : Config). IsFirstBad k script h.before) (sym is) (subst (λ (s : List ℕ). IsFirstBad default_config s h.before) same h.first)

pub its_many : (text script : List ℕ) (c : Config) → HasTooManyEvents text → HasScript text script → c ≡ default_config → IsTooMany c script
its_many text script c h has is =
    let same : h.script ≡ script = one_script text h.script script h.has has in
    subst (λ (k : Config). IsTooMany k script) (sym is) (subst (λ (s : List ℕ). IsTooMany default_config s) same h.many)

-- ---- what is told of a script, as a status

pub as_bad_line : (fault : ScriptFault) (found line before : ℕ) → fault ≡ Fault.BadLine found → line ≡ 2 + before → (fault ≡ Fault.BadLine (2 + before)) ⊎ (fault ≡ Fault.NoMemory) → (BadLine found ≡ BadLine line) ⊎ (BadLine found ≡ NoMemory)
as_bad_line fault found line before is place (inl e) =
    let same : Fault.BadLine found ≡ Fault.BadLine (2 + before) = sym is ∙ e in
    let number : found ≡ 2 + before = cc in
    inl (ap (λ (n : ℕ). BadLine n) (number ∙ sym place))
as_bad_line fault found line before is place (inr e) = absurd (let f : Fault.BadLine found ≡ Fault.NoMemory = sym is ∙ e in cc)

pub not_events : (fault : ScriptFault) (line : ℕ) → fault ≡ Fault.Events → (fault ≡ Fault.BadLine line) ⊎ (fault ≡ Fault.NoMemory) → ⊥
not_events fault line is (inl e) = let f : Fault.Events ≡ Fault.BadLine line = sym is ∙ e in absurd (cc)
not_events fault line is (inr e) = let f : Fault.Events ≡ Fault.NoMemory = sym is ∙ e in absurd (cc)

-- ---- a run of what was read

-- what is shown of the reads of each run
abbrev pub ReadLaw : Type 0
ReadLaw = (c : Config) (es : List Event) → 0 < length c.modes → IsScript c es → ReadsRight (run c es)

-- what is shown of the sessions of each run
abbrev pub SessionsLaw : Type 0
SessionsLaw = (c : Config) (es : List Event) → 0 < length c.modes → IsScript c es → SessionLaw (run c es)

-- a safe failover keeps what was confirmed
abbrev pub FailoverLaw : Type 0
FailoverLaw = (c : Config) (es : List Event) → 0 < length c.modes → IsScript c es → KeptLaw (run c es)

-- a replica that finishes reverting is as restored
abbrev pub RestoredLaw : Type 0
RestoredLaw = (c : Config) (es : List Event) → 0 < length c.modes → IsScript c es → RevertedLaw c.pages (run c es)

pub played : (text script : List ℕ) (c : Config) (events : List Event) (a b : Option (List ℕ)) → length text ≤ most_bytes → HasScript text script → c ≡ default_config → IsConfig c → IsScriptText c script events → IsScript c events → ReadLaw → SessionsLaw → FailoverLaw → RestoredLaw → HasRun c events a b → IsPlayed (Some text) a b
played text script c events a b few has head settings says range reads sessions kept reverted ran = record {
  config = c;
  events = events;
  answers = ran.answers;
  scenario = record { few = few; script = script; has = has; head = head; says = says };
  settings = settings;
  in_range = range;
  lawful = ran.lawful;
  reads = reads c events (omega (arith, settings.replicas.0)) range;
  sessions = sessions c events (omega (arith, settings.replicas.0)) range;
  kept = kept c events (omega (arith, settings.replicas.0)) range;
  reverted = reverted c events (omega (arith, settings.replicas.0)) range;
  written = ran.written;
}

pub played_in_part : (text script : List ℕ) (c : Config) (events : List Event) (a b : Option (List ℕ)) → length text ≤ most_bytes → HasScript text script → c ≡ default_config → IsConfig c → IsScriptText c script events → IsScript c events → HasRunInPart c events a b → IsPlayedInPart (Some text) a b
played_in_part text script c events a b few has head settings says range ran = record {
  config = c;
  events = events;
  count = ran.count;
  answers = ran.answers;
  scenario = record { few = few; script = script; has = has; head = head; says = says };
  settings = settings;
  in_range = range;
  lawful = ran.lawful;
  written = ran.written;
}

-- ---- what is told of the text that was read

-- what holds of that text holds of the one that is told
pub of_told : (o : Option (List ℕ)) (text : List ℕ) (P : List ℕ → Type 0) → IfSome o (λ bytes. text ≡ bytes) → P text → IfSome o P
of_told None text P e p = tt
of_told (Some bytes) text P e p = subst P e p

pub same_told : (o : Option (List ℕ)) (x y : List ℕ) → x ≡ y → IfSome o (λ bytes. y ≡ bytes) → IfSome o (λ bytes. x ≡ bytes)
same_told o x y same e = subst (λ (t : List ℕ). IfSome o (λ bytes. t ≡ bytes)) (sym same) e

pub told_played : (o : Option (List ℕ)) (text : List ℕ) (a b : Option (List ℕ)) → IfSome o (λ bytes. text ≡ bytes) → IsPlayed (Some text) a b → IsPlayed o a b
told_played o text a b e p = record {
  config = p.config;
  events = p.events;
  answers = p.answers;
  scenario = of_told o text (λ t. IsScenario t p.config p.events) e p.scenario;
  settings = p.settings;
  in_range = p.in_range;
  lawful = p.lawful;
  reads = p.reads;
  sessions = p.sessions;
  kept = p.kept;
  reverted = p.reverted;
  written = p.written;
}

pub told_in_part : (o : Option (List ℕ)) (text : List ℕ) (a b : Option (List ℕ)) → IfSome o (λ bytes. text ≡ bytes) → IsPlayedInPart (Some text) a b ⊎ Keeps a b → IsPlayedInPart o a b ⊎ Keeps a b
told_in_part o text a b e (inr keeps) = inr keeps
told_in_part o text a b e (inl p) = inl (record {
  config = p.config;
  events = p.events;
  count = p.count;
  answers = p.answers;
  scenario = of_told o text (λ t. IsScenario t p.config p.events) e p.scenario;
  settings = p.settings;
  in_range = p.in_range;
  lawful = p.lawful;
  written = p.written;
})

pub unless_stopped : (expected status : Status) → (status ≡ expected) ⊎ (status ≡ NoMemory) → IsUnlessStopped expected status
unless_stopped expected status (inl e) = inl e
unless_stopped expected status (inr e) = inr (inr e)
