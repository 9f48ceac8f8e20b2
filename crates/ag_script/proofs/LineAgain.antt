-- A line that says an event is read.
use Rattle.std.proofs.Common.{◌≡◌, ℕ, ◌≤◌, List, [], ◌∷◌, ◌++◌, length, Some, None, refl, sym, ap, subst, ◌∙◌}
use Rattle.std.specs.Prelude.{codes}
use Rattle.std.specs.List.{flat_map}
use Rattle.ag_lists.proofs.Results.{some_is}
use Rattle.ag_model.specs.declared.config.Config.{Config}
use Rattle.ag_model.specs.declared.value.Value.{Value}
use Rattle.ag_model.specs.declared.event.Pair.{Pair}
use Rattle.ag_model.specs.declared.event.Who.{Who}
use Rattle.ag_model.specs.declared.event.Suffix.{Suffix}
use Rattle.ag_model.specs.declared.event.Event.{Event}
use Rattle.ag_model.specs.declared.event.Event.TheVariants.{Begin, Get, Put, Del, Commit, Rollback, Set, Trim, Harden, Ack, Send, Deliver, Repeat, Lose, Apply, Raise, Redo, Read, Snap, View, Close, Report, Flush, Crash, Start, Spoil, Unread, Ask, Suspects, Page, Sectors, Status, Cut, Mend, Join, Resume, Sync, Timeout, Planned, Auto, Force, Finish}
use Rattle.ag_script.specs.Words.{Word, Name, Node, Other, Number, Bytes, SpellsAll, Say, words_of, pair_words, suffix_words}
use Rattle.ag_script.specs.ReadWords.{pairs_at}
use Rattle.ag_script.specs.Shapes.{Shape, Ends, PairsEnd, NodeThen, OtherThen, NumberThen, BytesThen, read, set_shape, begin_shape, get_shape, put_shape, del_shape, commit_shape, rollback_shape, trim_shape, harden_shape, ack_shape, send_shape, deliver_shape, repeat_shape, lose_shape, apply_shape, raise_shape, redo_shape, report_shape, read_shape, snap_shape, view_shape, close_shape, suspects_shape, page_shape, sectors_shape, status_shape, flush_shape, crash_shape, start_shape, spoil_shape, unread_shape, ask_shape, cut_shape, mend_shape, join_shape, resume_shape, sync_shape, timeout_shape, planned_shape, auto_shape, force_shape, finish_shape}
use Rattle.ag_script.specs.Named.{transaction_shapes, log_shapes, look_shapes, disk_shapes, member_shapes, event_at}
use Rattle.ag_script.proofs.WordLemmas.{node_again, other_again, number_again, value_again}
use Rattle.ag_script.proofs.SuffixLemmas.{suffix_again}
use Rattle.ag_script.proofs.PairLemmas.{pairs_again, no_key}

-- the shape leads to the event by these words
abbrev pub Leads : Shape → Event → List Word → Type 0
Leads (Ends event) e words = (s : Suffix) × (words ≡ suffix_words s) × (event s ≡ e)
Leads (PairsEnd event) e words = (pairs : List Pair) × (s : Suffix) × (words ≡ flat_map pair_words pairs ++ suffix_words s) × (1 ≤ length pairs) × (length pairs ≤ 8) × (event pairs s ≡ e)
Leads (NodeThen d next) e [] = ⊥
Leads (NodeThen d next) e (word ∷ words) = (n : Who) × (word ≡ Node d n) × Leads (next n) e words
Leads (OtherThen d first next) e [] = ⊥
Leads (OtherThen d first next) e (word ∷ words) = (n : Who) × (word ≡ Other d first n) × Leads (next n) e words
Leads (NumberThen low high next) e [] = ⊥
Leads (NumberThen low high next) e (word ∷ words) = (n : ℕ) × (word ≡ Number low high n) × Leads (next n) e words
Leads (BytesThen next) e [] = ⊥
Leads (BytesThen next) e (word ∷ words) = (v : Value) × (word ≡ Bytes v) × Leads (next v) e words

-- texts that spell words are cut as the words are
spells_apart : (ws vs : List Word) (texts : List (List ℕ)) → SpellsAll (ws ++ vs) texts → (front : List (List ℕ)) × (rest : List (List ℕ)) × (texts ≡ front ++ rest) × SpellsAll ws front × SpellsAll vs rest
spells_apart [] vs texts h = ([], texts, refl, tt, h)
spells_apart (w ∷ ws) vs [] h = absurd h
spells_apart (w ∷ ws) vs (t ∷ texts) h =
    let r = spells_apart ws vs texts h.1 in
    (t ∷ r.0, r.1, ap (λ (ts : List (List ℕ)). t ∷ ts) r.2, (h.0, r.3), r.4)

read_again : (shape : Shape) (e : Event) (words : List Word) (texts : List (List ℕ)) → Leads shape e words → SpellsAll words texts → read shape texts ≡ Some e
read_again (Ends event) e words texts l h = rw (suffix_again texts l.0 (rw l.1 at h)) (ap Some l.2)
read_again (PairsEnd event) e words texts l h =
    let s = spells_apart (flat_map pair_words l.0) (suffix_words l.1) texts (subst (λ (ws : List Word). SpellsAll ws texts) l.2 h) in
    let pairs : pairs_at texts ≡ Some (l.0, s.1) = ap pairs_at s.2 ∙ pairs_again l.0 s.0 s.1 s.3 l.3 l.4 (no_key l.1 s.1 s.4) in
    rw (pairs, suffix_again s.1 l.1 s.4) (ap Some l.5)
read_again (NodeThen d next) e [] texts l h = absurd l
read_again (NodeThen d next) e (word ∷ words) [] l h = absurd h
read_again (NodeThen d next) e (word ∷ words) (text ∷ texts) l h = rw (node_again d text l.0 (rw l.1 at h.0)) (read_again (next l.0) e words texts l.2 h.1)
read_again (OtherThen d first next) e [] texts l h = absurd l
read_again (OtherThen d first next) e (word ∷ words) [] l h = absurd h
read_again (OtherThen d first next) e (word ∷ words) (text ∷ texts) l h = rw (other_again d first text l.0 (rw l.1 at h.0)) (read_again (next l.0) e words texts l.2 h.1)
read_again (NumberThen low high next) e [] texts l h = absurd l
read_again (NumberThen low high next) e (word ∷ words) [] l h = absurd h
read_again (NumberThen low high next) e (word ∷ words) (text ∷ texts) l h = rw (number_again low high text l.0 (rw l.1 at h.0)) (read_again (next l.0) e words texts l.2 h.1)
read_again (BytesThen next) e [] texts l h = absurd l
read_again (BytesThen next) e (word ∷ words) [] l h = absurd h
read_again (BytesThen next) e (word ∷ words) (text ∷ texts) l h = rw (value_again text l.0 (rw l.1 at h.0)) (read_again (next l.0) e words texts l.2 h.1)

-- an event that is found by its name
named : (c : Config) (name : List ℕ) (shape : Shape) (e : Event) (words : List Word) (texts : List (List ℕ)) → ((rest : List (List ℕ)) → event_at c (name ∷ rest) ≡ read shape rest) → Leads shape e words → SpellsAll (Name name ∷ words) texts → event_at c texts ≡ Some e
named c name shape e words [] finds leads h = absurd h
named c name shape e words (text ∷ texts) finds leads h = ap (λ (t : List ℕ). event_at c (t ∷ texts)) h.0 ∙ finds texts ∙ read_again shape e words texts leads h.1

-- the words but the first
abbrev after_name : List Word → List Word
after_name [] = []
after_name (word ∷ words) = words

-- each event is found by its name, and its shape leads to it
pub line_again : (c : Config) (texts : List (List ℕ)) (e : Event) → Say c e texts → event_at c texts ≡ Some e
unfolding event_at transaction_shapes log_shapes look_shapes disk_shapes member_shapes
line_again c texts (Set n pairs s) said = named c (codes "set") (set_shape c) (Set n pairs s) (after_name (words_of c (Set n pairs s))) texts (λ rest. refl) (n, refl, (pairs, s, refl, said.1.0, said.1.1, refl)) said.0
line_again c texts (Begin n s) said = named c (codes "begin") (begin_shape c) (Begin n s) (after_name (words_of c (Begin n s))) texts (λ rest. refl) (n, refl, (s, refl, refl)) said.0
line_again c texts (Get n t k s) said = named c (codes "get") (get_shape c) (Get n t k s) (after_name (words_of c (Get n t k s))) texts (λ rest. refl) (n, refl, (t, refl, (k, refl, (s, refl, refl)))) said.0
line_again c texts (Put n t k v s) said = named c (codes "put") (put_shape c) (Put n t k v s) (after_name (words_of c (Put n t k v s))) texts (λ rest. refl) (n, refl, (t, refl, (k, refl, (v, refl, (s, refl, refl))))) said.0
line_again c texts (Del n t k s) said = named c (codes "del") (del_shape c) (Del n t k s) (after_name (words_of c (Del n t k s))) texts (λ rest. refl) (n, refl, (t, refl, (k, refl, (s, refl, refl)))) said.0
line_again c texts (Commit n t s) said = named c (codes "commit") (commit_shape c) (Commit n t s) (after_name (words_of c (Commit n t s))) texts (λ rest. refl) (n, refl, (t, refl, (s, refl, refl))) said.0
line_again c texts (Rollback n t s) said = named c (codes "rollback") (rollback_shape c) (Rollback n t s) (after_name (words_of c (Rollback n t s))) texts (λ rest. refl) (n, refl, (t, refl, (s, refl, refl))) said.0
line_again c texts (Trim n p z s) said = named c (codes "trim") (trim_shape c) (Trim n p z s) (after_name (words_of c (Trim n p z s))) texts (λ rest. refl) (n, refl, (p, refl, (z, refl, (s, refl, refl)))) said.0
line_again c texts (Harden n s) said = named c (codes "harden") (harden_shape c) (Harden n s) (after_name (words_of c (Harden n s))) texts (λ rest. refl) (n, refl, (s, refl, refl)) said.0
line_again c texts (Ack n l s) said = named c (codes "ack") (ack_shape c) (Ack n l s) (after_name (words_of c (Ack n l s))) texts (λ rest. refl) (n, refl, (l, refl, (s, refl, refl))) said.0
line_again c texts (Send n m s) said = named c (codes "send") (send_shape c) (Send n m s) (after_name (words_of c (Send n m s))) texts (λ rest. refl) (n, refl, (m, refl, (s, refl, refl))) said.0
line_again c texts (Deliver n m i s) said = named c (codes "deliver") (deliver_shape c) (Deliver n m i s) (after_name (words_of c (Deliver n m i s))) texts (λ rest. refl) (n, refl, (m, refl, (i, refl, (s, refl, refl)))) said.0
line_again c texts (Repeat n m i s) said = named c (codes "repeat") (repeat_shape c) (Repeat n m i s) (after_name (words_of c (Repeat n m i s))) texts (λ rest. refl) (n, refl, (m, refl, (i, refl, (s, refl, refl)))) said.0
line_again c texts (Lose n m i s) said = named c (codes "lose") (lose_shape c) (Lose n m i s) (after_name (words_of c (Lose n m i s))) texts (λ rest. refl) (n, refl, (m, refl, (i, refl, (s, refl, refl)))) said.0
line_again c texts (Apply n x s) said = named c (codes "apply") (apply_shape c) (Apply n x s) (after_name (words_of c (Apply n x s))) texts (λ rest. refl) (n, refl, (x, refl, (s, refl, refl))) said.0
line_again c texts (Raise n x s) said = named c (codes "raise") (raise_shape c) (Raise n x s) (after_name (words_of c (Raise n x s))) texts (λ rest. refl) (n, refl, (x, refl, (s, refl, refl))) said.0
line_again c texts (Redo n s) said = named c (codes "redo") (redo_shape c) (Redo n s) (after_name (words_of c (Redo n s))) texts (λ rest. refl) (n, refl, (s, refl, refl)) said.0
line_again c texts (Report n s) said = named c (codes "report") (report_shape c) (Report n s) (after_name (words_of c (Report n s))) texts (λ rest. refl) (n, refl, (s, refl, refl)) said.0
line_again c texts (Read n q k s) said = named c (codes "read") (read_shape c) (Read n q k s) (after_name (words_of c (Read n q k s))) texts (λ rest. refl) (n, refl, (q, refl, (k, refl, (s, refl, refl)))) said.0
line_again c texts (Snap n q s) said = named c (codes "snap") (snap_shape c) (Snap n q s) (after_name (words_of c (Snap n q s))) texts (λ rest. refl) (n, refl, (q, refl, (s, refl, refl))) said.0
line_again c texts (View n q k s) said = named c (codes "view") (view_shape c) (View n q k s) (after_name (words_of c (View n q k s))) texts (λ rest. refl) (n, refl, (q, refl, (k, refl, (s, refl, refl)))) said.0
line_again c texts (Close n q s) said = named c (codes "close") (close_shape c) (Close n q s) (after_name (words_of c (Close n q s))) texts (λ rest. refl) (n, refl, (q, refl, (s, refl, refl))) said.0
line_again c texts (Suspects n s) said = named c (codes "suspects") (suspects_shape c) (Suspects n s) (after_name (words_of c (Suspects n s))) texts (λ rest. refl) (n, refl, (s, refl, refl)) said.0
line_again c texts (Page n p s) said = named c (codes "page") (page_shape c) (Page n p s) (after_name (words_of c (Page n p s))) texts (λ rest. refl) (n, refl, (p, refl, (s, refl, refl))) said.0
line_again c texts (Sectors n p s) said = named c (codes "sectors") (sectors_shape c) (Sectors n p s) (after_name (words_of c (Sectors n p s))) texts (λ rest. refl) (n, refl, (p, refl, (s, refl, refl))) said.0
line_again c texts (Status n s) said = named c (codes "status") (status_shape c) (Status n s) (after_name (words_of c (Status n s))) texts (λ rest. refl) (n, refl, (s, refl, refl)) said.0
line_again c texts (Flush n s) said = named c (codes "flush") (flush_shape c) (Flush n s) (after_name (words_of c (Flush n s))) texts (λ rest. refl) (n, refl, (s, refl, refl)) said.0
line_again c texts (Crash n s) said = named c (codes "crash") (crash_shape c) (Crash n s) (after_name (words_of c (Crash n s))) texts (λ rest. refl) (n, refl, (s, refl, refl)) said.0
line_again c texts (Start n s) said = named c (codes "start") (start_shape c) (Start n s) (after_name (words_of c (Start n s))) texts (λ rest. refl) (n, refl, (s, refl, refl)) said.0
line_again c texts (Spoil n p x s) said = named c (codes "spoil") (spoil_shape c) (Spoil n p x s) (after_name (words_of c (Spoil n p x s))) texts (λ rest. refl) (n, refl, (p, refl, (x, refl, (s, refl, refl)))) said.0
line_again c texts (Unread n p s) said = named c (codes "unread") (unread_shape c) (Unread n p s) (after_name (words_of c (Unread n p s))) texts (λ rest. refl) (n, refl, (p, refl, (s, refl, refl))) said.0
line_again c texts (Ask n p m s) said = named c (codes "ask") (ask_shape c) (Ask n p m s) (after_name (words_of c (Ask n p m s))) texts (λ rest. refl) (n, refl, (p, refl, (m, refl, (s, refl, refl)))) said.0
line_again c texts (Cut n s) said = named c (codes "cut") (cut_shape c) (Cut n s) (after_name (words_of c (Cut n s))) texts (λ rest. refl) (n, refl, (s, refl, refl)) said.0
line_again c texts (Mend n s) said = named c (codes "mend") (mend_shape c) (Mend n s) (after_name (words_of c (Mend n s))) texts (λ rest. refl) (n, refl, (s, refl, refl)) said.0
line_again c texts (Join n s) said = named c (codes "join") (join_shape c) (Join n s) (after_name (words_of c (Join n s))) texts (λ rest. refl) (n, refl, (s, refl, refl)) said.0
line_again c texts (Resume n s) said = named c (codes "resume") (resume_shape c) (Resume n s) (after_name (words_of c (Resume n s))) texts (λ rest. refl) (n, refl, (s, refl, refl)) said.0
line_again c texts (Sync n m s) said = named c (codes "sync") (sync_shape c) (Sync n m s) (after_name (words_of c (Sync n m s))) texts (λ rest. refl) (n, refl, (m, refl, (s, refl, refl))) said.0
line_again c texts (Timeout n m s) said = named c (codes "timeout") (timeout_shape c) (Timeout n m s) (after_name (words_of c (Timeout n m s))) texts (λ rest. refl) (n, refl, (m, refl, (s, refl, refl))) said.0
line_again c texts (Planned n s) said = named c (codes "planned") (planned_shape c) (Planned n s) (after_name (words_of c (Planned n s))) texts (λ rest. refl) (n, refl, (s, refl, refl)) said.0
line_again c texts (Auto s) said = named c (codes "auto") auto_shape (Auto s) (after_name (words_of c (Auto s))) texts (λ rest. refl) (s, refl, refl) said.0
line_again c texts (Force n s) said = named c (codes "force") (force_shape c) (Force n s) (after_name (words_of c (Force n s))) texts (λ rest. refl) (n, refl, (s, refl, refl)) said.0
line_again c texts (Finish n s) said = named c (codes "finish") (finish_shape c) (Finish n s) (after_name (words_of c (Finish n s))) texts (λ rest. refl) (n, refl, (s, refl, refl)) said.0

-- no event is said where none is read
pub line_none : (c : Config) (texts : List (List ℕ)) (e : Event) → event_at c texts ≡ None → Say c e texts → ⊥
line_none c texts e no_event said = let again = line_again c texts e said in let f : None ≡ Some e = sym no_event ∙ again in cc

-- words say one event at most
pub one_said : (c : Config) (texts : List (List ℕ)) (d e : Event) → Say c d texts → Say c e texts → d ≡ e
one_said c texts d e p q = some_is d e (sym (line_again c texts d p) ∙ line_again c texts e q)
