-- A node that flushes, from its parts.
use Rattle.std.proofs.Common.{◌≡◌, ℕ, zero, suc, ◌+◌, ◌-◌, ◌<◌, ◌≤◌, List, [], ◌∷◌, ◌++◌, length, get_or, set, map, replicate, Bool, true, false, not, cond, refl, sym, ap, ap₂, ◌∙◌, arith, append_assoc, inl, inr}
use Rattle.std.specs.Prelude.{◌&&◌, if◌then◌else◌, nat_lt}
use Rattle.std.specs.List.{filter, flat_map, fold, range_with_len}
use Rattle.std.proofs.Math.Bool.{and-true}
use Rattle.std.proofs.Math.Seq.{set-append_seam}
use Rattle.std.proofs.lemmas.Bool.{cases_Bool}
use Rattle.std.proofs.lemmas.Grind.{fold-append}
use Rattle.std.proofs.lemmas.List.{append-nil, length-append}
use Rattle.ag_model.specs.declared.answer.Cell.{Cell}
use Rattle.ag_model.specs.Cells.{written_cells}
use Rattle.ag_model.specs.Rows.{contains, page_numbers}
use Rattle.ag_rules.specs.Replica.{Kept, Leading, Page, Replica, Stripe, clean_page, each_page, end, image, is_bad, least, page, with_image}
use Rattle.ag_rules.specs.Plan.{Batch, Master_write, Page_write, Part, Write, all_written, batch_written, written}
use Rattle.ag_rules.specs.FlushEvent.{Batching, batch_with, batched, by_eights, cleaned, flush_writes, flushed_master, flushes, least_applied, page_batch, pages_to_flush, unless_none}
use Rattle.ag_store.specs.Views.{flushed_cells}
use Rattle.ag_node.specs.Homes.{Home, flushed_home}
use Rattle.ag_node.specs.View.{node_of, kept_of, page_of_flag, stripes_in, stripes_of}
use Rattle.ag_node.specs.Nodes.{IsHome}
use Rattle.ag_node.proofs.NodeSteps.{pages_are}
use Rattle.ag_node.proofs.Quiet.{contains-filter, filter_same, not_bad}
use Rattle.ag_node.proofs.StartSteps.{home_cut}
use Rattle.ag_node.proofs.StripesOf.{all_applied, shown_up}

-- pages by eights

abbrev all_of : List (List ℕ) → List ℕ
all_of bs = flat_map (λ (b : List ℕ). b) bs

all_more : (bs cs : List (List ℕ)) → all_of (bs ++ cs) ≡ all_of bs ++ all_of cs
all_more [] cs = refl
all_more (b ∷ bs) cs = ap (λ (l : List ℕ). b ++ l) (all_more bs cs) ∙ sym (append_assoc b (all_of bs) (all_of cs))

all_last : (bs : List (List ℕ)) (last : List ℕ) → all_of (bs ++ unless_none last) ≡ all_of bs ++ last
all_last bs [] = all_more bs []
all_last bs (p ∷ ps) = all_more bs ((p ∷ ps) ∷ []) ∙ ap (λ (l : List ℕ). all_of bs ++ l) (append-nil (p ∷ ps))

one_batched : (b : Batching) (p : ℕ) → all_of (batch_with b p).full ++ (batch_with b p).last ≡ (all_of b.full ++ b.last) ++ p ∷ []
one_batched b p = by_room (nat_lt (length b.last) 8)
  where
    by_room : (room : Bool) → (let x : Batching = if room then record b { last = b.last ++ p ∷ [] } else record { full = b.full ++ b.last ∷ []; last = p ∷ [] } in all_of x.full ++ x.last) ≡ (all_of b.full ++ b.last) ++ p ∷ []
    by_room true = sym (append_assoc (all_of b.full) b.last (p ∷ []))
    by_room false = ap (λ (l : List ℕ). l ++ p ∷ []) (all_more b.full (b.last ∷ []) ∙ ap (λ (l : List ℕ). all_of b.full ++ l) (append-nil b.last))

some_batched : (ps : List ℕ) (b : Batching) → all_of (batched (fold batch_with b ps)) ≡ (all_of b.full ++ b.last) ++ ps
some_batched [] b = all_last b.full b.last ∙ sym (append-nil (all_of b.full ++ b.last))
some_batched (p ∷ ps) b = some_batched ps (batch_with b p) ∙ ap (λ (l : List ℕ). l ++ ps) (one_batched b p) ∙ append_assoc (all_of b.full ++ b.last) (p ∷ []) ps

all_batched : (ps : List ℕ) → all_of (by_eights ps) ≡ ps
unfolding by_eights
all_batched ps = some_batched ps (record { full = []; last = [] })

-- the writes of pages

abbrev page_written : Kept → ℕ → Kept
page_written k p = written k (Page_write p)

batch_is : (ps : List ℕ) (k : Kept) → batch_written k (page_batch ps) ≡ fold page_written k ps
batch_is [] k = refl
batch_is (p ∷ ps) k = batch_is ps (page_written k p)

batches_are : (bs : List (List ℕ)) (k : Kept) → fold batch_written k (map page_batch bs) ≡ fold page_written k (all_of bs)
batches_are [] k = refl
batches_are (b ∷ bs) k =
    ap (λ (x : Kept). fold batch_written x (map page_batch bs)) (batch_is b k)
    ∙ batches_are bs (fold page_written k b)
    ∙ sym (fold-append page_written k b (all_of bs))

abbrev cells_written : List (List Cell) → ℕ → List (List Cell)
cells_written cells p = set cells (p - 16) (written_cells (get_or cells (p - 16) []))

images_written : (ps : List ℕ) (k : Kept) → fold page_written k ps ≡ record k { images = fold cells_written k.images ps }
images_written [] k = refl
images_written (p ∷ ps) k = images_written ps (page_written k p)

-- each page that is due is written once
get_seam : (xs : List (List Cell)) (c : List Cell) (cs : List (List Cell)) → get_or (xs ++ c ∷ cs) (length xs) [] ≡ c
get_seam [] c cs = refl
get_seam (x ∷ xs) c cs = get_seam xs c cs

one_written : (xs : List (List Cell)) (c : List Cell) (cs : List (List Cell)) (a : ℕ) → a ≡ 16 + length xs → cells_written (xs ++ c ∷ cs) a ≡ (xs ++ written_cells c ∷ []) ++ cs
one_written xs c cs a e =
    let at : a - 16 ≡ length xs = omega (arith, e) in
    ap (λ (i : ℕ). set (xs ++ c ∷ cs) i (written_cells (get_or (xs ++ c ∷ cs) i []))) at
    ∙ ap (λ (x : List Cell). set (xs ++ c ∷ cs) (length xs) (written_cells x)) (get_seam xs c cs)
    ∙ set-append_seam xs c cs (written_cells c)
    ∙ sym (append_assoc xs (written_cells c ∷ []) cs)

due_written : (xs cs : List (List Cell)) (ds : List Bool) (due : ℕ → Bool) (a : ℕ) → a ≡ 16 + length xs → length ds ≡ length cs → ((j : ℕ) → j < length ds → due (a + j) ≡ get_or ds j false)
    → fold cells_written (xs ++ cs) (filter due (range_with_len a (length ds))) ≡ xs ++ flushed_cells ds cs
due_written xs [] [] due a at e same = refl
due_written xs (c ∷ cs) [] due a at e same = absurd (omega (arith, e))
due_written xs [] (d ∷ ds) due a at e same = absurd (omega (arith, e))
due_written xs (c ∷ cs) (d ∷ ds) due a at e same =
    let rest : List ℕ = filter due (range_with_len (a + 1) (length ds)) in
    let first : due a ≡ d = ap due (omega arith) ∙ same 0 (omega arith) in
    let later : (new : List Cell) → fold cells_written ((xs ++ new ∷ []) ++ cs) rest ≡ xs ++ new ∷ flushed_cells ds cs
    = λ new. due_written (xs ++ new ∷ []) cs ds due (a + 1) (omega (arith, at, length-append xs (new ∷ []))) (omega (arith, e)) (λ j k. ap due (omega arith) ∙ same (suc j) (omega (arith, k))) ∙ append_assoc xs (new ∷ []) (flushed_cells ds cs) in
    ap (λ (b : Bool). fold cells_written (xs ++ c ∷ cs) (cond b (a ∷ rest) rest)) first ∙ by_flag d later
  where
    by_flag : (f : Bool) → ((new : List Cell) → fold cells_written ((xs ++ new ∷ []) ++ cs) (filter due (range_with_len (a + 1) (length ds))) ≡ xs ++ new ∷ flushed_cells ds cs)
        → (let rest : List ℕ = filter due (range_with_len (a + 1) (length ds)) in fold cells_written (xs ++ c ∷ cs) (cond f (a ∷ rest) rest) ≡ xs ++ (if f then written_cells c else c) ∷ flushed_cells ds cs)
    by_flag true later = ap (λ (l : List (List Cell)). fold cells_written l (filter due (range_with_len (a + 1) (length ds)))) (one_written xs c cs a at) ∙ later (written_cells c)
    by_flag false later = ap (λ (l : List (List Cell)). fold cells_written l (filter due (range_with_len (a + 1) (length ds)))) (sym (append_assoc xs (c ∷ []) cs)) ∙ later c

-- the pages that are due are the dirty ones
abbrev due_of : Home → ℕ → Bool
due_of h p = get_or h.dirty (p - 16) false

dirty_at : (ds : List Bool) (i : ℕ) → (get_or (map page_of_flag ds) i clean_page).dirty ≡ get_or ds i false
dirty_at [] i = refl
dirty_at (d ∷ ds) zero = refl
dirty_at (d ∷ ds) (suc i) = dirty_at ds i

due_are : (h : Home) (ss : List Stripe) (leading : Leading) → IsHome h → pages_to_flush h.pages (node_of h ss leading) ≡ filter (due_of h) (page_numbers h.pages)
due_are h ss leading is =
    let r = node_of h ss leading in
    filter_same (λ p. (page r p).dirty && not (is_bad r p)) (due_of h) (page_numbers h.pages)
    (λ p. ap₂ (λ (d b : Bool). d && not b) (dirty_at h.dirty (p - 16)) (not_bad h ss leading is.sound p) ∙ and-true (due_of h p))

-- the flags after it
flag_cleaned : (d : Bool) → (let p : Page = record (page_of_flag d) { dirty = if d then false else d } in p) ≡ page_of_flag false
flag_cleaned true = refl
flag_cleaned false = refl

flags_cleaned : (ps : List ℕ) (first : ℕ) (ds : List Bool) → ((j : ℕ) → j < length ds → contains (first + j) ps ≡ get_or ds j false) → each_page (cleaned ps) first (map page_of_flag ds) ≡ map page_of_flag (replicate (length ds) false)
flags_cleaned ps first [] same = refl
flags_cleaned ps first (d ∷ ds) same =
    let here : contains first ps ≡ d = ap (λ (k : ℕ). contains k ps) (omega arith) ∙ same 0 (omega arith) in
    ap₂ (λ (x : Page) (l : List Page). x ∷ l)
    (ap (λ (b : Bool). record (page_of_flag d) { dirty = if b then false else d }) here ∙ flag_cleaned d)
    (flags_cleaned ps (first + 1) ds (λ j k. ap (λ (n : ℕ). contains n ps) (omega arith) ∙ same (suc j) (omega (arith, k))))

-- what a flush writes
writes_are : (h : Home) (ss : List Stripe) (leading : Leading) (ps : List ℕ) → IsHome h →
    all_written (kept_of h) (flush_writes (node_of h ss leading) ps) ≡ record (kept_of h) { master = flushed_master (node_of h ss leading); images = fold cells_written h.cells ps }
writes_are h ss leading ps is =
    let r = node_of h ss leading in
    let last : Batch = Master_write (flushed_master r) (end r) ∷ [] in
    fold-append batch_written (kept_of h) (map page_batch (by_eights ps)) (last ∷ [])
    ∙ ap (λ (k : Kept). batch_written k last) (batches_are (by_eights ps) (kept_of h) ∙ ap (λ (l : List ℕ). fold page_written (kept_of h) l) (all_batched ps) ∙ images_written ps (kept_of h))
    ∙ (λ i. record (kept_of h) { master = flushed_master r; images = fold cells_written h.cells ps; log = home_cut h is i })

-- the least LSN to which a stripe was redone
pub least_is : (h : Home) (published : List ℕ) (leading : Leading) (r : Replica) → node_of h (stripes_in h published) leading ≡ r → IsHome h → length published ≡ 16 → h.activity.up ≡ true → least h.applied ≡ least_applied r
least_is h published leading r is home sixteen up =
    sym (ap (λ (ss : List Stripe). least (map (λ (s : Stripe). s.applied) ss)) (shown_up h published up) ∙ ap least (all_applied h.applied published (home.sixteen ∙ sym sixteen)))
    ∙ ap least_applied is

flush_after : (h : Home) (published : List ℕ) (leading : Leading) → IsHome h → length published ≡ 16 → h.activity.up ≡ true
    → node_of (flushed_home h) (stripes_in h published) leading ≡ (let r = node_of h (stripes_in h published) leading in (flushes r (filter (due_of h) (page_numbers h.pages))).after)
flush_after h published leading home sixteen up =
    let ss = stripes_in h published in
    let r = node_of h ss leading in
    let ps : List ℕ = filter (due_of h) (page_numbers h.pages) in
    let cells : fold cells_written h.cells ps ≡ flushed_cells h.dirty h.cells
    = ap (λ (n : ℕ). fold cells_written h.cells (filter (due_of h) (range_with_len 16 n))) (sym home.each_flag)
    ∙ due_written [] h.cells h.dirty (due_of h) 16 refl (home.each_flag ∙ sym home.each_image) (λ j k. ap (λ (n : ℕ). get_or h.dirty n false) (omega arith)) in
    let flags : each_page (cleaned ps) 16 r.pages ≡ map page_of_flag (replicate h.pages false)
    = flags_cleaned ps 16 h.dirty (λ j k. contains-filter (due_of h) (16 + j) 16 h.pages (omega arith) (omega (arith, k, home.each_flag)) ∙ ap (λ (n : ℕ). get_or h.dirty n false) (omega arith))
    ∙ ap (λ (n : ℕ). map page_of_flag (replicate n false)) home.each_flag in
    sym ((λ i. record r { pages = flags i; kept = writes_are h ss leading ps home i })
    ∙ (λ i. record r {
      pages = map page_of_flag (replicate h.pages false);
      kept = record (kept_of h) {
        master = record (kept_of h).master { redo_start = sym (least_is h published leading r refl home sixteen up) i };
        images = cells i;
      };
    }))

pub node_flushed : (h h' : Home) (published : List ℕ) (leading : Leading) (r : Replica) (pages faults : ℕ) → node_of h (stripes_in h published) leading ≡ r → pages ≡ length r.pages → IsHome h → length published ≡ 16 → h.activity.up ≡ true
    → h' ≡ record (flushed_home h) { faults = faults } → node_of h' (stripes_in h' published) leading ≡ (flushes r (pages_to_flush pages r)).after
node_flushed h h' published leading r pages faults is p home sixteen up e =
    let few : pages ≡ h.pages = pages_are h (stripes_in h published) leading r pages is p home in
    (λ i. node_of (e i) (stripes_in (e i) published) leading)
    ∙ ap (λ (ss : List Stripe). node_of (flushed_home h) ss leading) (shown_up (flushed_home h) published up ∙ sym (shown_up h published up))
    ∙ flush_after h published leading home sixteen up
    ∙ ap (λ (ps : List ℕ). (flushes (node_of h (stripes_in h published) leading) ps).after) (sym (due_are h (stripes_in h published) leading home))
    ∙ (λ i. (flushes (is i) (pages_to_flush (sym few i) (is i))).after)
