-- A node after each step, from its parts.
use Rattle.std.proofs.Common.{◌≡◌, ℕ, ◌+◌, ◌%◌, ◌<◌, ◌≤◌, List, [], ◌∷◌, ◌++◌, length, map, get_or, set, take, drop, replicate, Bool, true, false, refl, sym, ap, ◌∙◌, subst, arith, le-ltb, lt-ltb}
use Rattle.std.specs.Prelude.{if◌then◌else◌, nat_lt, ◌&&◌, ◌==◌}
use Rattle.std.specs.List.{list_any}
use Rattle.std.proofs.lemmas.List.{length-map, length-append, get_or-replicate, take_all}
use Rattle.std.proofs.lemmas.Nat.{mod_below}
use Rattle.std.proofs.Math.Seq.{drop-append_seam}
use Rattle.ag_model.specs.declared.record.Record.{Record}
use Rattle.ag_model.specs.declared.value.Row.{Row}
use Rattle.ag_model.specs.declared.answer.Answer.TheVariants.{No}
use Rattle.ag_model.specs.declared.answer.Refusal.TheVariants.{TooOld}
use Rattle.ag_model.specs.Blocks.{after_to, next_end, with_block}
use Rattle.ag_model.specs.Rows.{rows, page_of, stripe_of, touches}
use Rattle.ag_model.specs.Page.{value}
use Rattle.ag_rules.specs.Replica.{Replica, Leading, Stripe, no_stripe, all_at, least, end, front, is_reverting, stripe, page_value, is_bad}
use Rattle.ag_rules.specs.Plan.{Block_write, Part, Here, unless, at_once, refused}
use Rattle.ag_rules.specs.Redo.{due_pages, touched_up_to}
use Rattle.ag_rules.specs.HardenEvent.{hardens, hardened_one}
use Rattle.ag_rules.specs.RedoEvent.{redoes_touching}
use Rattle.ag_rules.specs.ApplyEvent.{applies_touching, next_of_stripe, touched_in_stripe}
use Rattle.ag_rules.specs.RaiseEvent.{raised}
use Rattle.ag_rules.specs.ReadEvent.{reads_at, row_answer, is_too_old}
use Rattle.ag_node.specs.Homes.{Home, applied_home, is_touched_in, is_touched_to, redone_home, with_more}
use Rattle.ag_node.specs.View.{node_of, page_of_flag, state_of, stripes_in, stripes_of}
use Rattle.ag_node.specs.Nodes.{AreAtEnd, IsHome}
use Rattle.ag_node.proofs.Quiet.{access_is_free, applies_is, buffer_touches, dirty_where, hardens_is, not_bad, one_touches, redoes_is, stripe_touches}
use Rattle.ag_node.proofs.SetWhere.{set_where_same}
use Rattle.ag_node.proofs.StripesOf.{all_published, applied_in, apply_in, published_in, at_one, raise_in, shown_up}

-- the pages of a node are its flags
pub pages_are : (h : Home) (ss : List Stripe) (leading : Leading) (r : Replica) (pages : ℕ) → node_of h ss leading ≡ r → pages ≡ length r.pages → IsHome h → pages ≡ h.pages
pages_are h ss leading r pages is p home = p ∙ ap (λ (x : Replica). length x.pages) (sym is) ∙ length-map h.dirty page_of_flag ∙ home.each_flag

-- where the stripe of a page stands
pub stands_at : (h : Home) (published : List ℕ) (i : ℕ) → IsHome h → length published ≡ 16 → h.activity.up ≡ true → (get_or (stripes_in h published) i no_stripe).applied ≡ get_or h.applied i 0
stands_at h published i home sixteen up = ap (λ (ss : List Stripe). (get_or ss i no_stripe).applied) (shown_up h published up) ∙ applied_in h.applied published i (home.sixteen ∙ sym sixteen)

pub shown_at : (h : Home) (published : List ℕ) (i : ℕ) → IsHome h → length published ≡ 16 → h.activity.up ≡ true → (get_or (stripes_in h published) i no_stripe).published ≡ get_or published i 0
shown_at h published i home sixteen up = ap (λ (ss : List Stripe). (get_or ss i no_stripe).published) (shown_up h published up) ∙ published_in h.applied published i (home.sixteen ∙ sym sixteen)

-- the replica has as many pages as before
pub pages_stay : (h h' : Home) (ss : List Stripe) (leading : Leading) (r : Replica) → node_of h ss leading ≡ r → length h'.dirty ≡ length h.dirty → length (map page_of_flag h'.dirty) ≡ length r.pages
pages_stay h h' ss leading r is same = length-map h'.dirty page_of_flag ∙ same ∙ sym (length-map h.dirty page_of_flag) ∙ ap (λ (x : Replica). length x.pages) is

-- harden: the pages that redo touches are those of the buffer

seam : (xs ys : List Record) (a n : ℕ) → a ≡ length xs → n ≡ length xs + length ys → after_to a n (xs ++ ys) ≡ ys
seam xs ys a n low high =
    ap (λ (k : ℕ). drop k (take n (xs ++ ys))) low
    ∙ ap (λ (l : List Record). drop (length xs) l) (take_all n (xs ++ ys) (omega (arith, high, length-append xs ys)))
    ∙ drop-append_seam xs ys

harden_touches : (h : Home) (buffer : List Record) (n p : ℕ) → h.applied ≡ replicate 16 (length h.log.records) → n ≡ length h.log.records + length buffer → is_touched_to (with_more h buffer) n p ≡ buffer_touches h buffer p
harden_touches h buffer n p at is =
    let low : get_or h.applied (stripe_of p) 0 ≡ length h.log.records
    = ap (λ (l : List ℕ). get_or l (stripe_of p) 0) at ∙ get_or-replicate 16 (stripe_of p) (length h.log.records) 0 (mod_below p 16 (omega arith)) in
    ap (list_any (touches h.pages p)) (seam h.log.records buffer (get_or h.applied (stripe_of p) 0) n low is)

pub node_hardened : (h h' : Home) (published published' : List ℕ) (leading : Leading) (r : Replica) (pages n faults : ℕ)
    → node_of h (stripes_in h published) leading ≡ r → pages ≡ length r.pages → IsHome h → h.activity.up ≡ true → AreAtEnd h published
    → h' ≡ record (redone_home (with_more h leading.buffer) n) { faults = faults } → n ≡ length h.log.records + length leading.buffer → published' ≡ replicate 16 n
    → node_of h' (stripes_in h' published') (record leading { buffer = [] }) ≡ (hardens pages r (due_pages pages (hardened_one pages r))).after
node_hardened h h' published published' leading r pages n faults is p home up at home' end p' =
    let ss = stripes_in h published in
    let few : pages ≡ h.pages = pages_are h ss leading r pages is p home in
    let more = with_more h leading.buffer in
    let l : Leading = record leading { buffer = [] } in
    (λ i. node_of (home' i) (stripes_in (home' i) (p' i)) l)
    ∙ ap (λ (x : List Stripe). node_of (redone_home more n) x l) (shown_up (redone_home more n) (replicate 16 n) up ∙ at_one n)
    ∙ (λ i. node_of (record (redone_home more n) { dirty = set_where_same (is_touched_to more n) (buffer_touches h leading.buffer) 16 h.dirty (λ q. harden_touches h leading.buffer n q at.stand end) i }) (all_at (end i)) l)
    ∙ sym (ap (λ (x : Part). x.after) (hardens_is h ss leading home))
    ∙ (λ i. (hardens (sym few i) (is i) (due_pages (sym few i) (hardened_one (sym few i) (is i)))).after)

pub node_redone : (h h' : Home) (published published' : List ℕ) (leading : Leading) (r : Replica) (pages n faults : ℕ)
    → node_of h (stripes_in h published) leading ≡ r → pages ≡ length r.pages → IsHome h → length published ≡ 16 → h.activity.up ≡ true
    → h' ≡ record (redone_home h n) { faults = faults } → n ≡ length h.log.records → published' ≡ replicate 16 n
    → node_of h' (stripes_in h' published') leading ≡ (redoes_touching pages r (touched_up_to pages (end r) r)).after
node_redone h h' published published' leading r pages n faults is p home sixteen up home' end_is p' =
    let ss = stripes_in h published in
    let few : pages ≡ h.pages = pages_are h ss leading r pages is p home in
    let same : (q : ℕ) → is_touched_to h n q ≡ stripe_touches h ss n q
    = λ q. ap (λ (a : ℕ). list_any (touches h.pages q) (after_to a n h.log.records)) (sym (stands_at h published (stripe_of q) home sixteen up)) in
    (λ i. node_of (home' i) (stripes_in (home' i) (p' i)) leading)
    ∙ ap (λ (x : List Stripe). node_of (redone_home h n) x leading) (shown_up (redone_home h n) (replicate 16 n) up ∙ at_one n)
    ∙ (λ i. node_of (record (redone_home h n) { dirty = set_where_same (is_touched_to h n) (stripe_touches h ss n) 16 h.dirty same i }) (all_at n) leading)
    ∙ ap (λ (k : ℕ). node_of (dirty_where (stripe_touches h ss k) h) (all_at k) leading) end_is
    ∙ sym (ap (λ (x : Part). x.after) (redoes_is h ss leading home))
    ∙ (λ i. (redoes_touching (sym few i) (is i) (touched_up_to (sym few i) (end (is i)) (is i))).after)

pub node_applied : (h h' : Home) (published : List ℕ) (leading : Leading) (r : Replica) (pages x high faults : ℕ)
    → node_of h (stripes_in h published) leading ≡ r → pages ≡ length r.pages → IsHome h → length published ≡ 16 → h.activity.up ≡ true
    → h' ≡ record (applied_home h x high) { faults = faults } → high ≡ next_of_stripe r x
    → node_of h' (stripes_in h' published) leading ≡ (applies_touching pages r x (next_of_stripe r x) (touched_in_stripe pages r x (next_of_stripe r x))).after
node_applied h h' published leading r pages x high faults is p home sixteen up home' next =
    let ss = stripes_in h published in
    let few : pages ≡ h.pages = pages_are h ss leading r pages is p home in
    let same : (q : ℕ) → is_touched_in h x high q ≡ one_touches h ss x high q
    = λ q. ap (λ (a : ℕ). (stripe_of q == x) && list_any (touches h.pages q) (after_to a high h.log.records)) (sym (stands_at h published x home sixteen up)) in
    let one : List Stripe → List Stripe = λ l. set l x (record (get_or l x no_stripe) { applied = high }) in
    let stripes : stripes_in (applied_home h x high) published ≡ one ss
    = shown_up (applied_home h x high) published up ∙ apply_in h.applied published x high ∙ ap one (sym (shown_up h published up)) in
    (λ i. node_of (home' i) (stripes_in (home' i) published) leading)
    ∙ ap (λ (l : List Stripe). node_of (applied_home h x high) l leading) stripes
    ∙ (λ i. node_of (record (applied_home h x high) { dirty = set_where_same (is_touched_in h x high) (one_touches h ss x high) 16 h.dirty same i }) (one ss) leading)
    ∙ sym (ap (λ (y : Part). y.after) (applies_is h ss leading x high home))
    ∙ (λ i. (applies_touching (sym few i) (is i) x high (touched_in_stripe (sym few i) (is i) x high)).after)
    ∙ ap (λ (k : ℕ). (applies_touching pages r x k (touched_in_stripe pages r x k)).after) next

-- the end of the next block of a stripe
pub next_is : (h : Home) (published : List ℕ) (leading : Leading) (r : Replica) (x : ℕ) → node_of h (stripes_in h published) leading ≡ r → IsHome h → length published ≡ 16 → h.activity.up ≡ true
    → next_end (get_or h.applied x 0) h.log.ends ≡ next_of_stripe r x
next_is h published leading r x is home sixteen up =
    ap (λ (a : ℕ). next_end a h.log.ends) (sym (stands_at h published x home sixteen up)) ∙ ap (λ (y : Replica). next_of_stripe y x) is

-- a stripe that publishes
pub node_raised_stripe : (h : Home) (published published' : List ℕ) (leading : Leading) (r : Replica) (x lsn : ℕ) → node_of h (stripes_in h published) leading ≡ r → IsHome h → length published ≡ 16 → h.activity.up ≡ true
    → published' ≡ set published x lsn → lsn ≡ (stripe r x).applied → node_of h (stripes_in h published') leading ≡ raised r x
node_raised_stripe h published published' leading r x lsn is home sixteen up p' at =
    let ss = stripes_in h published in
    let one : List Stripe → List Stripe = λ l. set l x (record (get_or l x no_stripe) { published = lsn }) in
    (λ i. node_of h (stripes_in h (p' i)) leading)
    ∙ ap (λ (l : List Stripe). node_of h l leading) (shown_up h (set published x lsn) up ∙ raise_in h.applied published x lsn ∙ ap one (sym (shown_up h published up)))
    ∙ (λ i. record (is i) { stripes = set (is i).stripes x (record (stripe (is i) x) { published = lsn }) })
    ∙ ap (λ (k : ℕ). record r { stripes = set r.stripes x (record (stripe r x) { published = k }) }) at

-- the front of a node, by its stripes
abbrev pub front_of : List Stripe → ℕ
front_of ss = least (map (λ s. s.published) ss)

steady_front : (follows : Bool) (lsn : ℕ) → (if is_reverting (state_of follows) then 0 else lsn) ≡ lsn
steady_front true lsn = refl
steady_front false lsn = refl

front_is : (h : Home) (ss : List Stripe) (leading : Leading) → front (node_of h ss leading) ≡ front_of ss
front_is h ss leading = steady_front h.activity.follows (front_of ss)

-- while it is up, it is the least that a stripe has published
pub front_shown : (h : Home) (published : List ℕ) → IsHome h → length published ≡ 16 → h.activity.up ≡ true → least published ≡ front_of (stripes_in h published)
front_shown h published home sixteen up = sym (ap front_of (shown_up h published up) ∙ ap least (all_published h.applied published (home.sixteen ∙ sym sixteen)))

pub front_told : (h : Home) (published : List ℕ) (leading : Leading) (r : Replica) → node_of h (stripes_in h published) leading ≡ r → IsHome h → length published ≡ 16 → h.activity.up ≡ true → least published ≡ front r
front_told h published leading r is home sixteen up = front_shown h published home sixteen up ∙ sym (front_is h (stripes_in h published) leading) ∙ ap front is

-- a read of a node at its front
reads_is : (h : Home) (ss : List Stripe) (leading : Leading) (here : Here) (key : ℕ) → IsHome h → (let r : Replica = node_of h ss leading in
    (reads_at here r (front r) key) ≡ unless (is_too_old (front_of ss) (page_value here.pages r (page_of here.pages key)).horizon ∷ []) r (at_once (row_answer (front_of ss) (rows h.log.records (front_of ss) key)) r))
reads_is h ss leading here key home =
    let r : Replica = node_of h ss leading in
    (λ i. reads_at here r (front_is h ss leading i) key)
    ∙ access_is_free h ss leading (page_of here.pages key) _ home.sound

same_after : (b : Bool) (x y : Part) (r : Replica) → x.after ≡ r → y.after ≡ r → (if b then x else y).after ≡ r
same_after true x y r p q = p
same_after false x y r p q = q

-- the value of a page where its stripe stands
pub value_is : (h : Home) (published : List ℕ) (leading : Leading) (r : Replica) (pages page : ℕ) → node_of h (stripes_in h published) leading ≡ r → IsHome h → length published ≡ 16 → h.activity.up ≡ true → pages ≡ h.pages
    → value h.pages h.log.records (get_or h.applied (stripe_of page) 0) page ≡ page_value pages r page
value_is h published leading r pages page is home sixteen up few =
    (λ i. value (sym few i) h.log.records (sym (stands_at h published (stripe_of page) home sixteen up) i) page) ∙ ap (λ (x : Replica). page_value pages x page) is

-- the horizon of a key's page where its stripe stands
pub horizon_is : (h : Home) (published : List ℕ) (leading : Leading) (r : Replica) (pages key : ℕ) → node_of h (stripes_in h published) leading ≡ r → IsHome h → length published ≡ 16 → h.activity.up ≡ true → pages ≡ h.pages
    → (value h.pages h.log.records (get_or h.applied (stripe_of (page_of h.pages key)) 0) (page_of h.pages key)).horizon ≡ (page_value pages r (page_of pages key)).horizon
horizon_is h published leading r pages key is home sixteen up few =
    ap (λ v. v.horizon) (value_is h published leading r pages (page_of h.pages key) is home sixteen up few) ∙ (λ i. (page_value pages r (page_of (sym few i) key)).horizon)

pub read_too_old : (h : Home) (ss : List Stripe) (leading : Leading) (r : Replica) (here : Here) (key at horizon : ℕ)
    → node_of h ss leading ≡ r → IsHome h → at ≡ front_of ss → horizon ≡ (page_value here.pages r (page_of here.pages key)).horizon → at < horizon
    → No (TooOld at horizon) ≡ (reads_at here r (front r) key).answer
read_too_old h ss leading r here key at horizon is home a e old =
    let n : Replica = node_of h ss leading in
    let told : horizon ≡ (page_value here.pages n (page_of here.pages key)).horizon = e ∙ ap (λ (x : Replica). (page_value here.pages x (page_of here.pages key)).horizon) (sym is) in
    let new : (unless (is_too_old at horizon ∷ []) n (at_once (row_answer at (rows h.log.records at key)) n)).answer ≡ No (TooOld at horizon) = rw (lt-ltb at horizon old) refl in
    sym new ∙ (λ i. (unless (is_too_old (a i) (told i) ∷ []) n (at_once (row_answer (a i) (rows h.log.records (a i) key)) n)).answer)
    ∙ sym (ap (λ (x : Part). x.answer) (reads_is h ss leading here key home)) ∙ (λ i. (reads_at here (is i) (front (is i)) key).answer)

pub read_row : (h : Home) (ss : List Stripe) (leading : Leading) (r : Replica) (here : Here) (key at horizon : ℕ) (row : Row)
    → node_of h ss leading ≡ r → IsHome h → at ≡ front_of ss → horizon ≡ (page_value here.pages r (page_of here.pages key)).horizon → horizon ≤ at → row ≡ rows h.log.records at key
    → row_answer at row ≡ (reads_at here r (front r) key).answer
read_row h ss leading r here key at horizon row is home a e new found =
    let n : Replica = node_of h ss leading in
    let seen : horizon ≡ (page_value here.pages n (page_of here.pages key)).horizon = e ∙ ap (λ (x : Replica). (page_value here.pages x (page_of here.pages key)).horizon) (sym is) in
    let told : (unless (is_too_old at horizon ∷ []) n (at_once (row_answer at row) n)).answer ≡ row_answer at row = rw (le-ltb at horizon new) refl in
    sym told ∙ ap (λ (x : Row). (unless (is_too_old at horizon ∷ []) n (at_once (row_answer at x) n)).answer) found
    ∙ (λ i. (unless (is_too_old (a i) (seen i) ∷ []) n (at_once (row_answer (a i) (rows h.log.records (a i) key)) n)).answer)
    ∙ sym (ap (λ (x : Part). x.answer) (reads_is h ss leading here key home)) ∙ (λ i. (reads_at here (is i) (front (is i)) key).answer)

-- a read leaves the node as it was
pub read_left : (h : Home) (ss : List Stripe) (leading : Leading) (r : Replica) (here : Here) (key : ℕ) → node_of h ss leading ≡ r → IsHome h → (reads_at here r (front r) key).after ≡ r
read_left h ss leading r here key is home =
    let n : Replica = node_of h ss leading in
    let horizon : ℕ = (page_value here.pages n (page_of here.pages key)).horizon in
    (λ i. (reads_at here (sym is i) (front (sym is i)) key).after)
    ∙ ap (λ (x : Part). x.after) (reads_is h ss leading here key home)
    ∙ same_after (nat_lt (front_of ss) horizon) (refused (TooOld (front_of ss) horizon) n) (at_once (row_answer (front_of ss) (rows h.log.records (front_of ss) key)) n) n refl refl
    ∙ is

no_writes : (b : Bool) (x y : Part) → x.writes ≡ [] → y.writes ≡ [] → (if b then x else y).writes ≡ []
no_writes true x y p q = p
no_writes false x y p q = q

-- a read writes nothing
pub read_nothing : (h : Home) (ss : List Stripe) (leading : Leading) (r : Replica) (here : Here) (key : ℕ) → node_of h ss leading ≡ r → IsHome h → (reads_at here r (front r) key).writes ≡ []
read_nothing h ss leading r here key is home =
    let n : Replica = node_of h ss leading in
    (λ i. (reads_at here (sym is i) (front (sym is i)) key).writes)
    ∙ ap (λ (x : Part). x.writes) (reads_is h ss leading here key home)
    ∙ no_writes _ (refused (TooOld (front_of ss) (page_value here.pages n (page_of here.pages key)).horizon) n) (at_once (row_answer (front_of ss) (rows h.log.records (front_of ss) key)) n) refl refl

-- no page of a node is bad, and it doesn't revert
pub good_page : (h : Home) (ss : List Stripe) (leading : Leading) (r : Replica) (page : ℕ) → node_of h ss leading ≡ r → IsHome h → is_bad r page ≡ false
good_page h ss leading r page is home = ap (λ (x : Replica). is_bad x page) (sym is) ∙ not_bad h ss leading home.sound page

pub never_reverts : (follows : Bool) → is_reverting (state_of follows) ≡ false
never_reverts true = refl
never_reverts false = refl

pub steady_node : (h : Home) (ss : List Stripe) (leading : Leading) (r : Replica) → node_of h ss leading ≡ r → is_reverting r.state ≡ false
steady_node h ss leading r is = ap (λ (x : Replica). is_reverting x.state) (sym is) ∙ never_reverts h.activity.follows

-- what a node writes in redo, apply and harden

pub redoes_nothing : (h : Home) (ss : List Stripe) (leading : Leading) (r : Replica) (pages : ℕ) → node_of h ss leading ≡ r → pages ≡ length r.pages → IsHome h → (redoes_touching pages r (touched_up_to pages (end r) r)).writes ≡ []
redoes_nothing h ss leading r pages is p home =
    let few : pages ≡ h.pages = pages_are h ss leading r pages is p home in
    (λ i. (redoes_touching (few i) (sym is i) (touched_up_to (few i) (end (sym is i)) (sym is i))).writes)
    ∙ ap (λ (x : Part). x.writes) (redoes_is h ss leading home)

pub applies_nothing : (h : Home) (ss : List Stripe) (leading : Leading) (r : Replica) (pages x : ℕ) → node_of h ss leading ≡ r → pages ≡ length r.pages → IsHome h
    → (applies_touching pages r x (next_of_stripe r x) (touched_in_stripe pages r x (next_of_stripe r x))).writes ≡ []
applies_nothing h ss leading r pages x is p home =
    let few : pages ≡ h.pages = pages_are h ss leading r pages is p home in
    let n : Replica = node_of h ss leading in
    (λ i. (applies_touching (few i) (sym is i) x (next_of_stripe (sym is i) x) (touched_in_stripe (few i) (sym is i) x (next_of_stripe (sym is i) x))).writes)
    ∙ ap (λ (y : Part). y.writes) (applies_is h ss leading x (next_of_stripe n x) home)

pub hardens_block_of : (h : Home) (ss : List Stripe) (leading : Leading) (r : Replica) (pages : ℕ) → node_of h ss leading ≡ r → pages ≡ length r.pages → IsHome h
    → (hardens pages r (due_pages pages (hardened_one pages r))).writes ≡ (Block_write r.leading.buffer ∷ []) ∷ []
hardens_block_of h ss leading r pages is p home =
    let few : pages ≡ h.pages = pages_are h ss leading r pages is p home in
    (λ i. (hardens (few i) (sym is i) (due_pages (few i) (hardened_one (few i) (sym is i)))).writes)
    ∙ ap (λ (x : Part). x.writes) (hardens_is h ss leading home)
    ∙ (λ i. (Block_write (is i).leading.buffer ∷ []) ∷ [])

-- the log once the buffer is hardened
pub hardens_log : (h : Home) (ss : List Stripe) (leading : Leading) (r : Replica) (pages : ℕ) → node_of h ss leading ≡ r → pages ≡ length r.pages → IsHome h
    → (hardens pages r (due_pages pages (hardened_one pages r))).after.kept.log ≡ with_block r.kept.log r.leading.buffer
hardens_log h ss leading r pages is p home =
    let few : pages ≡ h.pages = pages_are h ss leading r pages is p home in
    (λ i. (hardens (few i) (sym is i) (due_pages (few i) (hardened_one (few i) (sym is i)))).after.kept.log)
    ∙ ap (λ (x : Part). x.after.kept.log) (hardens_is h ss leading home)
    ∙ (λ i. with_block (is i).kept.log (is i).leading.buffer)
