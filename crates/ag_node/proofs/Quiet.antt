-- A node whose pages are neither bad nor pending nor held: access, redo and harden are free of notes and installs.
use Rattle.std.proofs.Common.{◌≡◌, ℕ, zero, suc, ◌+◌, ◌-◌, ◌<◌, ◌≤◌, List, [], ◌∷◌, ◌++◌, length, drop, get_or, set, map, Bool, true, false, not, cond, ◌&&◌, ◌||◌, ◌==◌, if◌then◌else◌, None, refl, sym, ap, ap₂, ◌∙◌, arith, ne_eqb, inl, inr}
use Rattle.std.specs.List.{list_any, filter, range_with_len}
use Rattle.std.proofs.lemmas.List.{take_all}
use Rattle.std.proofs.lemmas.Bool.Decides.{eqb_tells}
use Rattle.std.proofs.Math.Bool.{and-true, and-false, or-false}
use Rattle.ag_model.specs.declared.record.Record.{Record}
use Rattle.ag_model.specs.declared.answer.Answer.TheVariants.{Hardened, Front, Applied, No}
use Rattle.ag_model.specs.declared.answer.Refusal.TheVariants.{Pending, NotNoted}
use Rattle.ag_model.specs.Rows.{touches, contains, page_numbers, stripe_of}
use Rattle.ag_model.specs.Cells.{is_sound}
use Rattle.ag_model.specs.Blocks.{after_to, with_block}
use Rattle.ag_rules.specs.Replica.{Replica, Page, Leading, Stripe, clean_page, no_stripe, page, is_bad, applied_of, each_page, all_at, end, full_end}
use Rattle.ag_rules.specs.Plan.{Part, Case, Write, Block_write, can_note, first_case, refused, at_once, writing, each_synced}
use Rattle.ag_rules.specs.Access.{access, pended, notes}
use Rattle.ag_rules.specs.Redo.{touched_by, touched_up_to, notes_of, notes_from, redone_page, redone, is_due, is_due_at, by_stripe, due_pages, installed}
use Rattle.ag_rules.specs.HardenEvent.{hardened_one, hardens}
use Rattle.ag_rules.specs.RedoEvent.{redoes, redoes_touching, redone_whole}
use Rattle.ag_rules.specs.ApplyEvent.{applied_one, applies, applies_touching, touched_in_stripe}
use Rattle.ag_store.specs.Views.{set_where}
use Rattle.ag_node.specs.Homes.{Home, with_more}
use Rattle.ag_node.specs.View.{node_of, page_of_flag}
use Rattle.ag_node.specs.Nodes.{AreSound, IsHome}

-- filters

filter_none : {A : Type 0} (f : A → Bool) (xs : List A) → ((x : A) → f x ≡ false) → filter f xs ≡ []
filter_none f [] none = refl
filter_none f (x ∷ xs) none = ap (λ (b : Bool). cond b (x ∷ filter f xs) (filter f xs)) (none x) ∙ filter_none f xs none

pub filter_same : {A : Type 0} (f g : A → Bool) (xs : List A) → ((x : A) → f x ≡ g x) → filter f xs ≡ filter g xs
filter_same f g [] same = refl
filter_same f g (x ∷ xs) same = ap₂ (λ (b : Bool) (l : List _). cond b (x ∷ l) l) (same x) (filter_same f g xs same)

contains_cond : (p x : ℕ) (b : Bool) (l : List ℕ) → contains p (cond b (x ∷ l) l) ≡ ((b && (p == x)) || contains p l)
contains_cond p x true l = refl
contains_cond p x false l = refl

contains_below : (f : ℕ → Bool) (p a n : ℕ) → p < a → contains p (filter f (range_with_len a n)) ≡ false
contains_below f p a zero h = refl
contains_below f p a (suc n) h =
    contains_cond p a (f a) (filter f (range_with_len (a + 1) n))
    ∙ ap₂ (λ (b c : Bool). (f a && b) || c) (ne_eqb p a (λ e. omega arith)) (contains_below f p (a + 1) n (omega arith))
    ∙ ap (λ (b : Bool). b || false) (and-false (f a))

pub contains-filter : (f : ℕ → Bool) (p a n : ℕ) → a ≤ p → p < a + n → contains p (filter f (range_with_len a n)) ≡ f p
contains-filter f p a zero l h = absurd (omega arith)
contains-filter f p a (suc n) l h =
    let rest = filter f (range_with_len (a + 1) n) in
    contains_cond p a (f a) rest
    ∙ elim (eqb_tells p a) [
      | inl e ↦ ap₂ (λ (b c : Bool). (f a && b) || c) e.0 (rw e.1 (contains_below f a (a + 1) n (omega arith))) ∙ or-false (f a && true) ∙ and-true (f a) ∙ ap f (sym e.1)
      | inr e ↦ ap₂ (λ (b c : Bool). (f a && b) || c) e.0 (contains-filter f p (a + 1) n (omega arith) (omega arith)) ∙ ap (λ (b : Bool). b || f p) (and-false (f a))
    ]

-- pages of a quiet node

pub not_bad : (h : Home) (ss : List Stripe) (leading : Leading) → AreSound h.cells → (p : ℕ) → is_bad (node_of h ss leading) p ≡ false
not_bad h ss leading sound p = ap not (sound (p - 16))

not_pending : (ds : List Bool) (i : ℕ) → (get_or (map page_of_flag ds) i clean_page).pending ≡ false
not_pending [] i = refl
not_pending (d ∷ ds) zero = refl
not_pending (d ∷ ds) (suc i) = not_pending ds i

not_held : (ds : List Bool) (i : ℕ) → (get_or (map page_of_flag ds) i clean_page).held ≡ None
not_held [] i = refl
not_held (d ∷ ds) zero = refl
not_held (d ∷ ds) (suc i) = not_held ds i

-- no page is noted
pub no_notes : (h : Home) (ss : List Stripe) (leading : Leading) (touched : List ℕ) → AreSound h.cells → notes_of (node_of h ss leading) touched ≡ []
no_notes h ss leading touched sound =
    let r = node_of h ss leading in
    ap (notes_from r []) (filter_none (λ p. is_bad r p && not (page r p).pending) touched (λ p. ap (λ (b : Bool). b && not (page r p).pending) (not_bad h ss leading sound p)))

-- nothing is held, so nothing is installed
pub nothing_due : (r : Replica) (fs : List Bool) (pages : ℕ) → r.pages ≡ map page_of_flag fs → due_pages pages r ≡ []
nothing_due r fs pages same = ap by_stripe (filter_none (is_due r) (page_numbers pages) (λ p. ap (is_due_at (applied_of r p)) (ap (λ (l : List Page). (get_or l (p - 16) clean_page).held) same ∙ not_held fs (p - 16))))

none_installed : (first : ℕ) (xs : List Page) → each_page (λ p x. if contains p [] then clean_page else x) first xs ≡ xs
none_installed first [] = refl
none_installed first (x ∷ xs) = ap (λ l. x ∷ l) (none_installed (first + 1) xs)

pub installed_none : (r : Replica) → installed [] r ≡ r
installed_none r = ap (λ (l : List Page). record r { pages = l }) (none_installed 16 r.pages)

-- an event goes on at each page
pub access_is_free : (h : Home) (ss : List Stripe) (leading : Leading) (p : ℕ) (part : Part) → AreSound h.cells → access (node_of h ss leading) p part ≡ part
unfolding access
access_is_free h ss leading p part sound =
    let r = node_of h ss leading in
    let cases : Bool → Bool → List Case = λ pending bad. record { when = pending; part = refused (Pending p) r } ∷ record { when = bad && not (can_note p r.kept.suspects); part = at_once (No (NotNoted p)) (pended r p) } ∷ record { when = bad; part = notes r p } ∷ [] in
    ap₂ (λ (pending bad : Bool). first_case (cases pending bad) part) (not_pending h.dirty (p - 16)) (not_bad h ss leading sound p)

-- redo

dirtied : (touched d : Bool) → (let p : Page = record (page_of_flag d) { dirty = if touched && not (false || false) then true else d; pending = if touched && false then true else false } in p) ≡ page_of_flag (if touched then true else d)
dirtied true d = refl
dirtied false d = refl

flags_redone : (r : Replica) (touched : List ℕ) (test : ℕ → Bool) (first : ℕ) (ds : List Bool) → ((p : ℕ) → is_bad r p ≡ false) → ((p : ℕ) → first ≤ p → p < first + length ds → contains p touched ≡ test p) → each_page (redone_page r touched) first (map page_of_flag ds) ≡ map page_of_flag (set_where test first ds)
flags_redone r touched test first [] good same = refl
flags_redone r touched test first (d ∷ ds) good same =
    ap₂ (λ (x : Page) (l : List Page). x ∷ l)
    (ap₂ (λ (c b : Bool). record (page_of_flag d) { dirty = if c && not (b || false) then true else d; pending = if c && b then true else false }) (same first (omega arith) (omega arith)) (good first) ∙ dirtied (test first) d)
    (flags_redone r touched test (first + 1) ds good (λ p l h. same p (omega arith) (omega arith)))

-- the pages that pass a test are dirty too
abbrev pub dirty_where : (ℕ → Bool) → Home → Home
dirty_where test h = record h { dirty = set_where test 16 h.dirty }

-- the pages that pass a test become dirty, and nothing else changes
pub redone_where : (h : Home) (ss : List Stripe) (leading : Leading) (touched : List ℕ) (test : ℕ → Bool) → AreSound h.cells
    → ((p : ℕ) → 16 ≤ p → p < 16 + length h.dirty → contains p touched ≡ test p) → redone touched (node_of h ss leading) ≡ node_of (dirty_where test h) ss leading
redone_where h ss leading touched test sound same =
    let r = node_of h ss leading in
    ap (λ (l : List Page). record r { pages = l }) (flags_redone r touched test 16 h.dirty (not_bad h ss leading sound) same)

-- the records after an LSN, to the end
pub after_end : (xs : List Record) (a : ℕ) → after_to a (length xs) xs ≡ drop a xs
after_end xs a = ap (drop a) (take_all (length xs) xs (omega arith))

-- harden, redo and apply

-- the pages that a record of the buffer touches
abbrev pub buffer_touches : Home → List Record → ℕ → Bool
buffer_touches h buffer p = list_any (touches h.pages p) buffer

-- the node once its buffer is applied
pub harden_after : (h : Home) (ss : List Stripe) (leading : Leading) → IsHome h
    → hardened_one h.pages (node_of h ss leading) ≡ node_of (dirty_where (buffer_touches h leading.buffer) h) (all_at (length h.log.records + length leading.buffer)) (record leading { buffer = [] })
harden_after h ss leading is =
    let test = buffer_touches h leading.buffer in
    ap (λ (s : Replica). record s { stripes = all_at (length h.log.records + length leading.buffer); leading = record leading { buffer = [] } })
    (redone_where h ss leading (touched_by h.pages leading.buffer) test is.sound (λ p l k. contains-filter test p 16 h.pages l (omega (arith, k, is.each_flag))))

pub hardens_is : (h : Home) (ss : List Stripe) (leading : Leading) → IsHome h →
    (let r = node_of h ss leading in hardens h.pages r (due_pages h.pages (hardened_one h.pages r)))
    ≡ record { answer = Hardened (length h.log.records + length leading.buffer); writes = (Block_write leading.buffer ∷ []) ∷ []; out = []; after = node_of (dirty_where (buffer_touches h leading.buffer) (with_more h leading.buffer)) (all_at (length h.log.records + length leading.buffer)) (record leading { buffer = [] }) }
hardens_is h ss leading is =
    let r = node_of h ss leading in
    let marked = dirty_where (buffer_touches h leading.buffer) h in
    let after = node_of marked (all_at (length h.log.records + length leading.buffer)) (record leading { buffer = [] }) in
    let applied : hardened_one h.pages r ≡ after = harden_after h ss leading is in
    ap (hardens h.pages r) (ap (due_pages h.pages) applied ∙ nothing_due after marked.dirty h.pages refl)
    ∙ ap₂ (λ (ns : List Write) (s : Replica). writing (Hardened (full_end r)) (each_synced (Block_write leading.buffer ∷ ns ++ [])) [] s)
    (no_notes h ss leading (touched_by h.pages leading.buffer) is.sound)
    (installed_none (hardened_one h.pages r) ∙ applied)

-- the pages that a record up to an LSN touches where their stripe stands so
abbrev pub stripe_touches : Home → List Stripe → ℕ → ℕ → Bool
stripe_touches h ss high p = list_any (touches h.pages p) (after_to (get_or ss (stripe_of p) no_stripe).applied high h.log.records)

-- the node once redo went to the end
pub redo_after : (h : Home) (ss : List Stripe) (leading : Leading) → IsHome h
    → (let r = node_of h ss leading in redone_whole (touched_up_to h.pages (length h.log.records) r) r) ≡ node_of (dirty_where (stripe_touches h ss (length h.log.records)) h) (all_at (length h.log.records)) leading
redo_after h ss leading is =
    let r = node_of h ss leading in
    let test = stripe_touches h ss (length h.log.records) in
    ap (λ (s : Replica). record s { stripes = all_at (length h.log.records) })
    (redone_where h ss leading (touched_up_to h.pages (length h.log.records) r) test is.sound (λ p l k. contains-filter test p 16 h.pages l (omega (arith, k, is.each_flag))))

pub redoes_is : (h : Home) (ss : List Stripe) (leading : Leading) → IsHome h →
    (let r = node_of h ss leading in redoes_touching h.pages r (touched_up_to h.pages (end r) r))
    ≡ record { answer = Front (length h.log.records); writes = []; out = []; after = node_of (dirty_where (stripe_touches h ss (length h.log.records)) h) (all_at (length h.log.records)) leading }
redoes_is h ss leading is =
    let r = node_of h ss leading in
    let touched = touched_up_to h.pages (length h.log.records) r in
    let marked = dirty_where (stripe_touches h ss (length h.log.records)) h in
    let after = node_of marked (all_at (length h.log.records)) leading in
    let applied : redone_whole touched r ≡ after = redo_after h ss leading is in
    ap (redoes r (redone_whole touched r) touched) (ap (due_pages h.pages) applied ∙ nothing_due after marked.dirty h.pages refl)
    ∙ ap₂ (λ (ns : List Write) (s : Replica). writing (Front (length h.log.records)) (each_synced (ns ++ [])) [] s)
    (no_notes h ss leading touched is.sound)
    (installed_none (redone_whole touched r) ∙ applied)

-- a test of those that passed another one
contains-filter-filter : (f : ℕ → Bool) (p : ℕ) (xs : List ℕ) → contains p (filter f xs) ≡ (f p && contains p xs)
contains-filter-filter f p [] = sym (and-false (f p))
contains-filter-filter f p (x ∷ xs) =
    contains_cond p x (f x) (filter f xs)
    ∙ ap (λ (b : Bool). (f x && (p == x)) || b) (contains-filter-filter f p xs)
    ∙ elim (eqb_tells p x) [
      | inl e ↦ ap (λ (b : Bool). (f x && b) || (f p && contains p xs)) e.0 ∙ ap (λ (y : ℕ). (f y && true) || (f p && contains p xs)) (sym e.1) ∙ both (f p) (contains p xs) ∙ ap (λ (b : Bool). f p && (b || contains p xs)) (sym e.0)
      | inr e ↦ ap (λ (b : Bool). (f x && b) || (f p && contains p xs)) e.0 ∙ ap (λ (b : Bool). b || (f p && contains p xs)) (and-false (f x)) ∙ ap (λ (b : Bool). f p && (b || contains p xs)) (sym e.0)
    ]
  where
    both : (a b : Bool) → ((a && true) || (a && b)) ≡ (a && (true || b))
    both true b = refl
    both false b = refl

-- the pages of a stripe that the records up to an LSN touch
in_stripe : (ss : List Stripe) (pages x high p : ℕ) (rs : List Record)
    → ((stripe_of p == x) && list_any (touches pages p) (after_to (get_or ss (stripe_of p) no_stripe).applied high rs)) ≡ ((stripe_of p == x) && list_any (touches pages p) (after_to (get_or ss x no_stripe).applied high rs))
in_stripe ss pages x high p rs = elim (eqb_tells (stripe_of p) x) [
  | inl e ↦ ap (λ (y : ℕ). (stripe_of p == x) && list_any (touches pages p) (after_to (get_or ss y no_stripe).applied high rs)) e.1
  | inr e ↦ ap (λ (b : Bool). b && list_any (touches pages p) (after_to (get_or ss (stripe_of p) no_stripe).applied high rs)) e.0 ∙ ap (λ (b : Bool). b && list_any (touches pages p) (after_to (get_or ss x no_stripe).applied high rs)) (sym e.0)
]

-- the pages of a stripe that a record up to an LSN touches
abbrev pub one_touches : Home → List Stripe → ℕ → ℕ → ℕ → Bool
one_touches h ss x high p = (stripe_of p == x) && list_any (touches h.pages p) (after_to (get_or ss x no_stripe).applied high h.log.records)

-- the node once a stripe went to an LSN
pub apply_after : (h : Home) (ss : List Stripe) (leading : Leading) (x high : ℕ) → IsHome h
    → (let r = node_of h ss leading in applied_one (touched_in_stripe h.pages r x high) r x high)
    ≡ node_of (dirty_where (one_touches h ss x high) h) (set ss x (record (get_or ss x no_stripe) { applied = high })) leading
apply_after h ss leading x high is =
    let r = node_of h ss leading in
    let touched = stripe_touches h ss high in
    ap (λ (s : Replica). record s { stripes = set ss x (record (get_or ss x no_stripe) { applied = high }) })
    (redone_where h ss leading (touched_in_stripe h.pages r x high) (one_touches h ss x high) is.sound
    (λ p l k. contains-filter-filter (λ q. stripe_of q == x) p (filter touched (page_numbers h.pages))
    ∙ ap (λ (b : Bool). (stripe_of p == x) && b) (contains-filter touched p 16 h.pages l (omega (arith, k, is.each_flag)))
    ∙ in_stripe ss h.pages x high p h.log.records))

pub applies_is : (h : Home) (ss : List Stripe) (leading : Leading) (x high : ℕ) → IsHome h →
    (let r = node_of h ss leading in applies_touching h.pages r x high (touched_in_stripe h.pages r x high))
    ≡ record { answer = Applied high; writes = []; out = []; after = node_of (dirty_where (one_touches h ss x high) h) (set ss x (record (get_or ss x no_stripe) { applied = high })) leading }
applies_is h ss leading x high is =
    let r = node_of h ss leading in
    let touched = touched_in_stripe h.pages r x high in
    let marked = dirty_where (one_touches h ss x high) h in
    let after = node_of marked (set ss x (record (get_or ss x no_stripe) { applied = high })) leading in
    let applied : applied_one touched r x high ≡ after = apply_after h ss leading x high is in
    ap (applies r (applied_one touched r x high) touched high) (ap (filter (λ p. stripe_of p == x)) (ap (due_pages h.pages) applied ∙ nothing_due after marked.dirty h.pages refl))
    ∙ ap₂ (λ (ns : List Write) (s : Replica). writing (Applied high) (each_synced (ns ++ [])) [] s)
    (no_notes h ss leading touched is.sound)
    (installed_none (applied_one touched r x high) ∙ applied)
