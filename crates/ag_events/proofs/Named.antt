-- The words of each event: their names are printed as they are, and their texts are the same in every group.
use Rattle.std.proofs.Common.{◌≡◌, ℕ, List, [], ◌∷◌, ◌++◌, Bool, true, ltb, ◌&&◌, refl, subst, sym}
use Rattle.std.specs.List.{flat_map, AllByRecursion}
use Rattle.std.proofs.lemmas.List.Concat.{flat_map-cons}
use Rattle.ag_model.specs.declared.config.Config.{Config}
use Rattle.ag_model.specs.declared.event.Pair.{Pair}
use Rattle.ag_model.specs.declared.event.Suffix.{Suffix}
use Rattle.ag_model.specs.declared.event.Suffix.TheVariants.{Whole, Stop, Fail}
use Rattle.ag_model.specs.declared.event.Event.{Event}
use Rattle.ag_model.specs.declared.event.Event.TheVariants.{Set, Begin, Get, Put, Del, Commit, Rollback, Trim, Harden, Ack, Send, Deliver, Repeat, Lose, Apply, Raise, Redo, Report, Read}
use Rattle.ag_model.specs.declared.event.Event.TheVariants.{Snap, View, Close, Suspects, Page, Sectors, Status, Flush, Crash, Start, Spoil, Unread, Ask, Cut, Mend, Join, Resume, Sync}
use Rattle.ag_model.specs.declared.event.Event.TheVariants.{Timeout, Planned, Auto, Force, Finish}
use Rattle.ag_script.specs.Words.{Word, Name, pair_words, suffix_words, words_of}
use Rattle.ag_events.specs.Texts.{event_text, line_text}

-- each byte is above the space
abbrev pub is_solid : List ℕ → Bool
is_solid [] = true
is_solid (b ∷ bs) = ltb 32 b && is_solid bs

-- a name is such a text
abbrev pub IsNamed : Word → Type 0
IsNamed (Name text) = is_solid text ≡ true
IsNamed _ = Unit {0}

-- there are words, and their names are such texts
abbrev pub AreNamed : List Word → Type 0
AreNamed [] = ⊥
AreNamed (word ∷ words) = IsNamed word × AllByRecursion IsNamed words

suffix_named : (s : Suffix) → AllByRecursion IsNamed (suffix_words s)
suffix_named Whole = tt
suffix_named (Stop write mask) = (refl, (tt, (tt, tt)))
suffix_named (Fail call) = (refl, (tt, tt))

pairs_named : (pairs : List Pair) (s : Suffix) → AllByRecursion IsNamed (flat_map pair_words pairs ++ suffix_words s)
pairs_named [] s = suffix_named s
pairs_named (pair ∷ pairs) s = subst (λ (ws : List Word). AllByRecursion IsNamed (ws ++ suffix_words s)) (sym (flat_map-cons pair_words pair pairs)) (tt, (tt, pairs_named pairs s))

pub are_named : (c : Config) (e : Event) → AreNamed (words_of c e)
are_named c (Set n pairs s) = (refl, (tt, pairs_named pairs s))
are_named c (Begin n s) = (refl, (tt, suffix_named s))
are_named c (Get n t k s) = (refl, (tt, (tt, (tt, suffix_named s))))
are_named c (Put n t k v s) = (refl, (tt, (tt, (tt, (tt, suffix_named s)))))
are_named c (Del n t k s) = (refl, (tt, (tt, (tt, suffix_named s))))
are_named c (Commit n t s) = (refl, (tt, (tt, suffix_named s)))
are_named c (Rollback n t s) = (refl, (tt, (tt, suffix_named s)))
are_named c (Trim n p z s) = (refl, (tt, (tt, (tt, suffix_named s))))
are_named c (Harden n s) = (refl, (tt, suffix_named s))
are_named c (Ack n l s) = (refl, (tt, (tt, suffix_named s)))
are_named c (Send n m s) = (refl, (tt, (tt, suffix_named s)))
are_named c (Deliver n m i s) = (refl, (tt, (tt, (tt, suffix_named s))))
are_named c (Repeat n m i s) = (refl, (tt, (tt, (tt, suffix_named s))))
are_named c (Lose n m i s) = (refl, (tt, (tt, (tt, suffix_named s))))
are_named c (Apply n x s) = (refl, (tt, (tt, suffix_named s)))
are_named c (Raise n x s) = (refl, (tt, (tt, suffix_named s)))
are_named c (Redo n s) = (refl, (tt, suffix_named s))
are_named c (Report n s) = (refl, (tt, suffix_named s))
are_named c (Read n q k s) = (refl, (tt, (tt, (tt, suffix_named s))))
are_named c (Snap n q s) = (refl, (tt, (tt, suffix_named s)))
are_named c (View n q k s) = (refl, (tt, (tt, (tt, suffix_named s))))
are_named c (Close n q s) = (refl, (tt, (tt, suffix_named s)))
are_named c (Suspects n s) = (refl, (tt, suffix_named s))
are_named c (Page n p s) = (refl, (tt, (tt, suffix_named s)))
are_named c (Sectors n p s) = (refl, (tt, (tt, suffix_named s)))
are_named c (Status n s) = (refl, (tt, suffix_named s))
are_named c (Flush n s) = (refl, (tt, suffix_named s))
are_named c (Crash n s) = (refl, (tt, suffix_named s))
are_named c (Start n s) = (refl, (tt, suffix_named s))
are_named c (Spoil n p x s) = (refl, (tt, (tt, (tt, suffix_named s))))
are_named c (Unread n p s) = (refl, (tt, (tt, suffix_named s)))
are_named c (Ask n p m s) = (refl, (tt, (tt, (tt, suffix_named s))))
are_named c (Cut n s) = (refl, (tt, suffix_named s))
are_named c (Mend n s) = (refl, (tt, suffix_named s))
are_named c (Join n s) = (refl, (tt, suffix_named s))
are_named c (Resume n s) = (refl, (tt, suffix_named s))
are_named c (Sync n m s) = (refl, (tt, (tt, suffix_named s)))
are_named c (Timeout n m s) = (refl, (tt, (tt, suffix_named s)))
are_named c (Planned n s) = (refl, (tt, suffix_named s))
are_named c (Auto s) = (refl, suffix_named s)
are_named c (Force n s) = (refl, (tt, suffix_named s))
are_named c (Finish n s) = (refl, (tt, suffix_named s))

pub same_text : (c : Config) (e : Event) → event_text e ≡ line_text (words_of c e)
same_text c (Set n pairs s) = refl
same_text c (Begin n s) = refl
same_text c (Get n t k s) = refl
same_text c (Put n t k v s) = refl
same_text c (Del n t k s) = refl
same_text c (Commit n t s) = refl
same_text c (Rollback n t s) = refl
same_text c (Trim n p z s) = refl
same_text c (Harden n s) = refl
same_text c (Ack n l s) = refl
same_text c (Send n m s) = refl
same_text c (Deliver n m i s) = refl
same_text c (Repeat n m i s) = refl
same_text c (Lose n m i s) = refl
same_text c (Apply n x s) = refl
same_text c (Raise n x s) = refl
same_text c (Redo n s) = refl
same_text c (Report n s) = refl
same_text c (Read n q k s) = refl
same_text c (Snap n q s) = refl
same_text c (View n q k s) = refl
same_text c (Close n q s) = refl
same_text c (Suspects n s) = refl
same_text c (Page n p s) = refl
same_text c (Sectors n p s) = refl
same_text c (Status n s) = refl
same_text c (Flush n s) = refl
same_text c (Crash n s) = refl
same_text c (Start n s) = refl
same_text c (Spoil n p x s) = refl
same_text c (Unread n p s) = refl
same_text c (Ask n p m s) = refl
same_text c (Cut n s) = refl
same_text c (Mend n s) = refl
same_text c (Join n s) = refl
same_text c (Resume n s) = refl
same_text c (Sync n m s) = refl
same_text c (Timeout n m s) = refl
same_text c (Planned n s) = refl
same_text c (Auto s) = refl
same_text c (Force n s) = refl
same_text c (Finish n s) = refl
