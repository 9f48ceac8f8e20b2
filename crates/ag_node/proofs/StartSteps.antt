-- A node that crashes and starts, from its parts.
use Rattle.std.proofs.lemmas.Bool.{cases_Bool}
use Rattle.std.proofs.Common.{inl, inr, ◌⊎◌, ◌≡◌, ℕ, zero, suc, ◌+◌, ◌<◌, ◌≤◌, List, [], ◌∷◌, ◌++◌, length, drop, get_or, map, replicate, Bool, true, false, refl, sym, ap, ap₂, ◌∙◌, arith}
use Rattle.std.specs.Prelude.{max, nat_le, nat_lt, if◌then◌else◌, ◌==◌}
use Rattle.std.specs.List.{filter, list_any}
use Rattle.std.proofs.lemmas.Bool.{le-leb, false_from_ne_true, ltb-true}
use Rattle.std.proofs.lemmas.List.{append-nil, get_or-replicate, take_all}
use Rattle.std.proofs.lemmas.Nat.{mod_below}
use Rattle.ag_model.specs.declared.config.Mode.{Mode}
use Rattle.ag_model.specs.declared.record.Log.{Log}
use Rattle.ag_model.specs.declared.answer.Answer.{Answer}
use Rattle.ag_model.specs.declared.answer.Answer.TheVariants.{Started}
use Rattle.ag_model.specs.declared.answer.Refusal.TheVariants.{Spent}
use Rattle.ag_model.specs.declared.answer.Role.TheVariants.{Primary, Secondary}
use Rattle.ag_model.specs.Blocks.{after_to, cut_at}
use Rattle.ag_model.specs.Rows.{contains, stripe_of, touches}
use Rattle.ag_model.specs.Starts.{last_term}
use Rattle.ag_rules.specs.Replica.{Replica, Leading, Page, Peer, Stripe, Master, all_at, applied_of, clean_page, end, fallen, is_reverting, no_leading, no_peer, no_stripe, records}
use Rattle.ag_rules.specs.Plan.{Here, Part, Write, Block_write, Master_write, refused, writing, written}
use Rattle.ag_rules.specs.Redo.{redone, touched_up_to}
use Rattle.ag_rules.specs.Promotion.{blocks_of, is_spent, new_leading, promotion_records, promotion_touches}
use Rattle.ag_rules.specs.StartEvent.{start_part, start_part_with, start_writes, starts_first, starts_second, start_records, is_named, woken, started_master}
use Rattle.ag_logstore.specs.LogKept.{RisesTo}
use Rattle.ag_logstore.proofs.LogEnds.{rises_le}
use Rattle.ag_model.proofs.Rising.{not-leb}
use Rattle.ag_store.specs.Images.{is_touched_between}
use Rattle.ag_store.specs.Views.{set_where}
use Rattle.ag_kept.specs.declared.reach.Reach.TheVariants.{End, Stop}
use Rattle.ag_node.specs.Activity.{Activity}
use Rattle.ag_node.specs.Homes.{Home, caught_up_home, down_home, raised_home, woken_home}
use Rattle.ag_node.specs.View.{node_of, kept_of, page_of_flag, state_of, stripes_in, stripes_of}
use Rattle.ag_node.specs.Starting.{CanStart, leads_up, raised_one, started_after, started_answer, woken_up}
use Rattle.ag_node.specs.Nodes.{AreAtEnd, IsHome}
use Rattle.ag_node.specs.Reaching.{kept_of_write}
use Rattle.ag_node.proofs.HomesKept.{home_caught_up}
use Rattle.ag_node.proofs.NodeSteps.{never_reverts, pages_are}
use Rattle.ag_node.proofs.Quiet.{after_end, contains-filter, dirty_where, no_notes, redone_where, stripe_touches}
use Rattle.ag_node.proofs.SetWhere.{set_where_same}
use Rattle.ag_node.proofs.StripesOf.{all_applied, all_published, at_one, shown_down, shown_up}
use Rattle.ag_node.proofs.Whole.{whole_blocks, no_promotion}

-- a crash

flags_cleaned : (ds : List Bool) → map page_of_flag (replicate (length ds) false) ≡ map (λ p. clean_page) (map page_of_flag ds)
flags_cleaned [] = refl
flags_cleaned (d ∷ ds) = ap (λ (l : List Page). clean_page ∷ l) (flags_cleaned ds)

-- a node that is down, as the rules see it fall
pub node_fallen : (h : Home) (ss : List Stripe) (leading : Leading) → IsHome h → node_of (down_home h) (all_at h.redo) no_leading ≡ fallen (node_of h ss leading) (kept_of h)
node_fallen h ss leading is =
    (λ i. record (node_of (down_home h) (all_at h.redo) no_leading) {
      term = max 1 (sym is.first.term i);
      pages = (ap (λ (n : ℕ). map page_of_flag (replicate n false)) (sym is.each_flag) ∙ flags_cleaned h.dirty) i;
    })

pub node_fell : (h h' : Home) (ss : List Stripe) (published : List ℕ) (leading leading' : Leading) (r : Replica)
    → node_of h ss leading ≡ r → IsHome h → h' ≡ down_home h → leading' ≡ no_leading → node_of h' (stripes_in h' published) leading' ≡ fallen r r.kept
node_fell h h' ss published leading leading' r is home e l =
    (λ i. node_of (e i) (stripes_in (e i) published) (l i))
    ∙ node_fallen h ss leading home
    ∙ (λ i. fallen (is i) (is i).kept)

-- a log cut at its end

ends_within : (low high : ℕ) (es : List ℕ) → RisesTo low high es → filter (λ e. nat_le e high) es ≡ es
ends_within low high [] h = refl
ends_within low high (e ∷ es) h = rw (le-leb e high (rises_le e high es h.1)) (ap (λ l. e ∷ l) (ends_within e high es h.1))

pub cut_whole : (log : Log) → RisesTo 0 (length log.records) log.ends → cut_at (length log.records) log ≡ log
cut_whole log h = λ i. record { records = take_all (length log.records) log.records (omega arith) i; ends = ends_within 0 (length log.records) log.ends h i }

-- the log of a home, cut at its end
pub home_cut : (h : Home) → IsHome h → cut_at (length h.log.records) h.log ≡ h.log
home_cut h is = cut_whole h.log is.first.rises

-- a start

-- what a start writes: the barrier's sync, and the master
abbrev pub writes_of_start : Home → List (List Write)
writes_of_start h = [] ∷ (Master_write (kept_of (raised_home h)).master (length h.log.records) ∷ []) ∷ []

-- a node that came up, whose log is redone
abbrev pub awake : Home → List Stripe → Home
awake h ss = dirty_where (stripe_touches h ss (length h.log.records)) (woken_home h)

-- the replica once redo went through what a start touches
woken_redone : (h : Home) (ss : List Stripe) (leading : Leading) (touched : List ℕ) → IsHome h
    → ((p : ℕ) → 16 ≤ p → p < 16 + length h.dirty → contains p touched ≡ stripe_touches h ss (length h.log.records) p)
    → redone touched (woken (node_of h ss leading)) ≡ node_of (dirty_where (stripe_touches h ss (length h.log.records)) (record h { activity = record h.activity { up = true } })) ss leading
woken_redone h ss leading touched is same = redone_where (record h { activity = record h.activity { up = true } }) ss leading touched (stripe_touches h ss (length h.log.records)) is.sound same

pub second_is : (h : Home) (ss : List Stripe) (leading : Leading) → IsHome h →
    (let r = node_of h ss leading in starts_second r (touched_up_to h.pages (length h.log.records) r))
    ≡ record { answer = Started Secondary 1 (length h.log.records) (length h.log.records); writes = writes_of_start h; out = []; after = node_of (awake h ss) (all_at (length h.log.records)) leading }
second_is h ss leading is =
    let r = node_of h ss leading in
    let e = length h.log.records in
    let touched = touched_up_to h.pages e r in
    let redone_is = woken_redone h ss leading touched is (λ p l k. contains-filter (stripe_touches h ss e) p 16 h.pages l (omega (arith, k, is.each_flag))) in
    ap₂ (λ (ns : List Write) (s : Replica). writing (Started Secondary 1 e e) (start_writes r ns) [] (record s { stripes = all_at e })) (no_notes h ss leading touched is.sound) redone_is
    ∙ (λ i. record {
      answer = Started Secondary 1 e e;
      writes = writes_of_start h;
      out = [];
      after = record (node_of (awake h ss) (all_at e) leading) { kept = record (kept_of (woken_home h)) { log = home_cut h is i } };
    })

add-zero : (n : ℕ) → n + 0 ≡ n
add-zero n = omega arith

first_of_pages : (h : Home) (ss : List Stripe) (leading : Leading) (here : Here) → IsHome h → h.activity.follows ≡ false → here.store.term ≡ 1 →
    starts_first (record here { pages = h.pages }) (node_of h ss leading) []
    ≡ record { answer = Started Primary 1 (length h.log.records) (length h.log.records); writes = writes_of_start h; out = []; after = leads_up here (node_of (awake h ss) (all_at (length h.log.records)) leading) }
unfolding blocks_of
first_of_pages h ss leading here is f t =
    let r = node_of h ss leading in
    let there : Here = record here { pages = h.pages } in
    let e = length h.log.records in
    let touched = promotion_touches h.pages [] r in
    let test = λ (p : ℕ). list_any (touches h.pages p) (drop (applied_of r p) h.log.records ++ []) in
    let redone_is = woken_redone h ss leading touched is
    (λ p l k. contains-filter test p 16 h.pages l (omega (arith, k, is.each_flag)) ∙ ap (list_any (touches h.pages p)) (append-nil (drop (applied_of r p) h.log.records) ∙ sym (after_end h.log.records (applied_of r p)))) in
    let led : Replica → ℕ → Replica = λ s n. record s { leads = true; state = 0; term = here.store.term; stripes = all_at n; leading = new_leading there (woken r) } in
    ap₂ (λ (ns : List Write) (s : Replica). writing (Started Primary here.store.term (e + 0) (e + 0)) (start_writes r (ns ++ [])) [] (led s (e + 0))) (no_notes h ss leading touched is.sound) redone_is
    ∙ (λ i. record {
      answer = Started Primary (t i) (add-zero e i) (add-zero e i);
      writes = writes_of_start h;
      out = [];
      after = record (leads_up here (node_of (awake h ss) (all_at (add-zero e i)) leading)) { term = t i; state = state_of (sym f i); kept = record (kept_of (woken_home h)) { log = home_cut h is i } };
    })

pub first_is : (h : Home) (ss : List Stripe) (leading : Leading) (here : Here) → here.pages ≡ h.pages → IsHome h → h.activity.follows ≡ false → here.store.term ≡ 1 →
    starts_first here (node_of h ss leading) []
    ≡ record { answer = Started Primary 1 (length h.log.records) (length h.log.records); writes = writes_of_start h; out = []; after = leads_up here (node_of (awake h ss) (all_at (length h.log.records)) leading) }
first_is h ss leading here few is f t = (λ i. starts_first (record here { pages = few i }) (node_of h ss leading) []) ∙ first_of_pages h ss leading here is f t

pub not_below : (n : ℕ) → nat_lt n 0 ≡ false
not_below n = false_from_ne_true (nat_lt n 0) (λ t. let l = ltb-true n 0 t in absurd (omega arith))

-- a secondary that can start
pub starts_as_second : (h : Here) (r : Replica) → CanStart r → is_named h ≡ false → start_part h r ≡ starts_second r (touched_up_to h.pages (end r) r)
unfolding start_part blocks_of
starts_as_second h r c n = rw (n, c.down, c.told, c.unspent, c.steady, not_below _) refl

nothing_to_append : (h : Here) (r : Replica) → is_named h ≡ true → promotion_records h.pages h.store.term (records r) ≡ [] → start_records h r ≡ []
nothing_to_append h r n none = ap (λ (b : Bool). if b then promotion_records h.pages h.store.term (records r) else []) n ∙ none

starts_with_nothing : (h : Here) (r : Replica) → CanStart r → is_named h ≡ true → start_part_with h r [] ≡ starts_first h r []
unfolding blocks_of
starts_with_nothing h r c n = rw (n, c.down, c.told, c.unspent, c.steady, not_below _) refl

-- a primary that can start, and has nothing to append
pub starts_as_first : (h : Here) (r : Replica) → CanStart r → is_named h ≡ true → promotion_records h.pages h.store.term (records r) ≡ [] → start_part h r ≡ starts_first h r []
unfolding start_part
starts_as_first h r c n none = ap (start_part_with h r) (nothing_to_append h r n none) ∙ starts_with_nothing h r c n

-- a node that is down neither leads nor follows
pub down_is : (h : Home) (ss : List Stripe) (leading : Leading) (r : Replica) → node_of h ss leading ≡ r → IsHome h → r.up ≡ false → (h.activity.follows ≡ false) × (h.activity.leads ≡ false)
down_is h ss leading r is home down = let d : h.activity.up ≡ false = ap (λ (x : Replica). x.up) is ∙ down in (home.stands.down_follows d, home.stands.down_leads d)

-- the pages that a start touches are those after the redo start
start_touches : (h : Home) (published : List ℕ) (p : ℕ) → h.activity.up ≡ false → is_touched_between h.pages h.log.records p h.redo (length h.log.records) ≡ stripe_touches h (stripes_in h published) (length h.log.records) p
start_touches h published p down =
    let at : (get_or (stripes_in h published) (stripe_of p) no_stripe).applied ≡ h.redo
    = ap (λ (ss : List Stripe). (get_or ss (stripe_of p) no_stripe).applied) (shown_down h published down)
    ∙ ap (λ (s : Stripe). s.applied) (get_or-replicate 16 (stripe_of p) (record { applied = h.redo; published = h.redo }) no_stripe (mod_below p 16 (omega arith))) in
    ap (λ (a : ℕ). list_any (touches h.pages p) (after_to a (length h.log.records) h.log.records)) (sym at)

-- a node that came up is what the rules say
pub node_woken : (h h' : Home) (published published' : List ℕ) (leading : Leading) (r : Replica) (pages faults : ℕ)
    → node_of h (stripes_in h published) leading ≡ r → pages ≡ length r.pages → IsHome h → r.up ≡ false
    → h' ≡ record (caught_up_home (woken_home h)) { faults = faults } → published' ≡ replicate 16 (length h.log.records)
    → node_of h' (stripes_in h' published') leading ≡ woken_up pages r End
node_woken h h' published published' leading r pages faults is p home down e f =
    let ss = stripes_in h published in
    let n = length h.log.records in
    let few : pages ≡ h.pages = pages_are h ss leading r pages is p home in
    let d : h.activity.up ≡ false = ap (λ (x : Replica). x.up) is ∙ down in
    let test : ℕ → Bool = λ q. is_touched_between h.pages h.log.records q h.redo n in
    let flags : set_where test 16 (replicate h.pages false) ≡ set_where (stripe_touches h ss n) 16 h.dirty
    = ap (λ (ds : List Bool). set_where test 16 ds) (sym (home.clean d)) ∙ set_where_same test (stripe_touches h ss n) 16 h.dirty (λ q. start_touches h published q d) in
    (λ i. node_of (e i) (stripes_in (e i) (f i)) leading)
    ∙ (λ i. node_of (record (woken_home h) { dirty = flags i }) (all_at n) leading)
    ∙ sym (ap (λ (x : Part). x.after) (second_is h ss leading home))
    ∙ (λ i. (starts_second (is i) (touched_up_to (sym few i) (end (is i)) (is i))).after)

-- a node whose start is stopped
pub node_stays : (h h' : Home) (published : List ℕ) (leading : Leading) (r : Replica) (pages faults : ℕ) (whole : Bool) → node_of h (stripes_in h published) leading ≡ r
    → h' ≡ record (if whole then raised_home h else h) { faults = faults } → node_of h' (stripes_in h' published) leading ≡ woken_up pages r (Stop whole)
node_stays h h' published leading r pages faults true is e = (λ i. node_of (e i) (stripes_in (e i) published) leading) ∙ ap raised_one is
node_stays h h' published leading r pages faults false is e = (λ i. node_of (e i) (stripes_in (e i) published) leading) ∙ is

-- what a start writes

named_or_not : (h : Here) → (is_named h ≡ true) ⊎ (is_named h ≡ false)
named_or_not h = cases_Bool (is_named h)

-- a node has no open transaction, and its term
no_promotion_of : (h : Home) (ss : List Stripe) (leading : Leading) (r : Replica) (here : Here) → node_of h ss leading ≡ r → IsHome h → here.store.term ≡ 1 → promotion_records here.pages here.store.term (records r) ≡ []
no_promotion_of h ss leading r here is home t =
    let whole = whole_blocks 0 (length h.log.records) h.log.ends h.log.records home.first.rises (omega arith) home.first.blocks in
    (λ i. promotion_records here.pages (t i) (records (sym is i))) ∙ no_promotion here.pages h.log.records whole home.first.term

pub start_writes_are : (h : Home) (ss : List Stripe) (leading : Leading) (r : Replica) (here : Here) → node_of h ss leading ≡ r → here.pages ≡ length r.pages → here.store.term ≡ 1 → IsHome h → CanStart r
    → (start_part here r).writes ≡ [] ∷ (Master_write (started_master r) (end r) ∷ []) ∷ []
start_writes_are h ss leading r here is p t home can =
    let few : here.pages ≡ h.pages = pages_are h ss leading r here.pages is p home in
    let no = down_is h ss leading r is home can.down in
    let same : writes_of_start h ≡ [] ∷ (Master_write (started_master r) (end r) ∷ []) ∷ [] = (λ i. [] ∷ (Master_write (started_master (is i)) (end (is i)) ∷ []) ∷ []) in
    elim (named_or_not here) [
      | inl named ↦ ap (λ (x : Part). x.writes) (starts_as_first here r can named (no_promotion_of h ss leading r here is home t)) ∙ (λ i. (starts_first here (sym is i) []).writes) ∙ ap (λ (x : Part). x.writes) (first_is h ss leading here few home no.0 t) ∙ same
      | inr other ↦ ap (λ (x : Part). x.writes) (starts_as_second here r can other) ∙ (λ i. (starts_second (sym is i) (touched_up_to (few i) (end (sym is i)) (sym is i))).writes) ∙ ap (λ (x : Part). x.writes) (second_is h ss leading home) ∙ same
    ]

-- what a node does that is told of a part
pub record Does (part : Part) (answer : Answer) (after : Replica) : Type 0 where
  pub answered : answer ≡ part.answer
  pub left : after ≡ part.after

-- where its master is written, a start comes up, and leads exactly where the store names it
pub start_told : (h : Home) (ss : List Stripe) (leading : Leading) (r : Replica) (here : Here) → node_of h ss leading ≡ r → here.pages ≡ length r.pages → here.store.term ≡ 1 → IsHome h → CanStart r
    → Does (start_part here r) (started_answer here (woken_up here.pages r End)) (started_after here (woken_up here.pages r End))
start_told h ss leading r here is p t home can =
    let e = length h.log.records in
    let up = node_of (awake h ss) (all_at e) leading in
    let few : here.pages ≡ h.pages = pages_are h ss leading r here.pages is p home in
    let no = down_is h ss leading r is home can.down in
    let second : starts_second r (touched_up_to here.pages (end r) r) ≡ record { answer = Started Secondary 1 e e; writes = writes_of_start h; out = []; after = up }
    = (λ i. starts_second (sym is i) (touched_up_to (few i) (end (sym is i)) (sym is i))) ∙ second_is h ss leading home in
    let woken_is : woken_up here.pages r End ≡ up = ap (λ (x : Part). x.after) second in
    elim (named_or_not here) [
      | inl named ↦
          let part = starts_as_first here r can named (no_promotion_of h ss leading r here is home t) ∙ (λ i. starts_first here (sym is i) []) ∙ first_is h ss leading here few home no.0 t in
          record {
            answered = (λ i. Started (if named i then Primary else Secondary) 1 (end (woken_is i)) (end (woken_is i))) ∙ ap (λ (x : Part). x.answer) (sym part);
            left = (λ i. if named i then leads_up here (woken_is i) else woken_is i) ∙ ap (λ (x : Part). x.after) (sym part);
          }
      | inr other ↦
          let part = starts_as_second here r can other ∙ second in
          record {
            answered = (λ i. Started (if other i then Primary else Secondary) 1 (end (woken_is i)) (end (woken_is i))) ∙ ap (λ (x : Part). x.answer) (sym part);
            left = (λ i. if other i then leads_up here (woken_is i) else woken_is i) ∙ ap (λ (x : Part). x.after) (sym part);
          }
    ]

-- the stripes of a node that came up
pub woken_stripes : (h : Home) (ss : List Stripe) (leading : Leading) (r : Replica) (pages : ℕ) → node_of h ss leading ≡ r → pages ≡ length r.pages → IsHome h
    → (woken_up pages r End).stripes ≡ all_at (end (woken_up pages r End))
woken_stripes h ss leading r pages is p home =
    let few : pages ≡ h.pages = pages_are h ss leading r pages is p home in
    let up : woken_up pages r End ≡ node_of (awake h ss) (all_at (length h.log.records)) leading
    = (λ i. (starts_second (sym is i) (touched_up_to (few i) (end (sym is i)) (sym is i))).after) ∙ ap (λ (x : Part). x.after) (second_is h ss leading home) in
    ap (λ (x : Replica). x.stripes) up ∙ ap (λ (x : Replica). all_at (end x)) (sym up)

-- the master of a node that starts is written, while the node is as it was
pub node_raised : (h : Home) (ss : List Stripe) (leading : Leading) (r : Replica) → node_of h ss leading ≡ r → IsHome h → raised_one r ≡ record r { kept = written r.kept (Master_write (started_master r) (end r)) }
node_raised h ss leading r is home =
    ap raised_one (sym is)
    ∙ (λ i. record (node_of h ss leading) { kept = record (kept_of (raised_home h)) { log = sym (home_cut h home) i } })
    ∙ (λ i. record (is i) { kept = written (is i).kept (Master_write (started_master (is i)) (end (is i))) })

-- what a start leaves that is stopped in its write
pub stopped_start : (pages : ℕ) (r : Replica) (whole : Bool) → raised_one r ≡ record r { kept = written r.kept (Master_write (started_master r) (end r)) }
    → fallen (woken_up pages r (Stop whole)) (woken_up pages r (Stop whole)).kept ≡ fallen r (kept_of_write whole r.kept (Master_write (started_master r) (end r)))
stopped_start pages r true e = ap (λ (x : Replica). fallen x x.kept) e
stopped_start pages r false e = refl

-- a node that is down, and may raise its incarnation, can start
pub can_start : (h : Home) (ss : List Stripe) (leading : Leading) (r : Replica) → node_of h ss leading ≡ r → h.activity.up ≡ false → h.activity.incarnation < 9223372036854775808 → CanStart r
can_start h ss leading r is down few = record {
  down = (λ i. (sym is i).up) ∙ down;
  told = (λ i. (sym is i).cut_off);
  unspent = (λ i. is_spent (sym is i).kept.master.incarnation) ∙ not-leb 9223372036854775808 h.activity.incarnation few;
  steady = (λ i. is_reverting (sym is i).state) ∙ never_reverts h.activity.follows;
}

-- a replica that is down, and may not raise its incarnation
pub starts_spent : (h : Here) (r : Replica) → r.up ≡ false → r.cut_off ≡ false → is_spent r.kept.master.incarnation ≡ true → start_part h r ≡ refused Spent r
unfolding start_part blocks_of
starts_spent h r d t s = rw (d, t, s) refl

pub all_strangers : (modes : List Mode) → replicate (length modes) no_peer ≡ map (λ m. no_peer) modes
all_strangers [] = refl
all_strangers (m ∷ ms) = ap (λ (l : List Peer). no_peer ∷ l) (all_strangers ms)

-- where all stripes of a node stand at its end, its numbers say so
pub at_end_of : (h : Home) (published : List ℕ) (leading : Leading) (r : Replica) → node_of h (stripes_in h published) leading ≡ r → IsHome h → length published ≡ 16 → h.activity.up ≡ true → r.stripes ≡ all_at (end r) → AreAtEnd h published
at_end_of h published leading r is home sixteen up at =
    let same = home.sixteen ∙ sym sixteen in
    let all : stripes_of h.applied published ≡ all_at (length h.log.records)
    = sym (shown_up h published up) ∙ ap (λ (x : Replica). x.stripes) is ∙ at ∙ ap (λ (x : Replica). all_at (end x)) (sym is) in
    record {
      stand = sym (all_applied h.applied published same) ∙ ap (map (λ (s : Stripe). s.applied)) all;
      shown = sym (all_published h.applied published same) ∙ ap (map (λ (s : Stripe). s.published)) all;
    }
