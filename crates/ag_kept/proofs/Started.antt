-- What a start makes of a disk.
use Rattle.std.proofs.Common.{◌≡◌, ◌⊎◌, ℕ, ◌+◌, ◌^◌, ◌<◌, ◌≤◌, length, Bool, true, false, IsTrue, sym, ap, ◌∙◌, subst, arith, inl, inr}
use Rattle.std.proofs.lemmas.Bool.{cases_lt}
use Rattle.std.specs.Prelude.{Contains, Option, Some}
use Rattle.std.specs.Option.{MatchOption}
use Rattle.ag_model.specs.declared.event.Suffix.{Suffix}
use Rattle.ag_model.specs.declared.record.Log.{Log}
use Rattle.ag_model.specs.Blocks.{cut_at}
use Rattle.ag_outside.specs.declared.order.Arm.{Arm}
use Rattle.ag_outside.specs.declared.order.Arm.TheVariants.{Fail as FailOrder}
use Rattle.ag_outside.specs.Disks.{Content, Image, Only}
use Rattle.ag_outside.specs.Scripts.{ScriptedView}
use Rattle.ag_outside.specs.Shown.{reads_of, holds_of}
use Rattle.ag_master.specs.declared.master.Master.{Master}
use Rattle.ag_master.proofs.Fields.{fields-spelling}
use Rattle.ag_logstore.specs.LogOf.{IsLogOf}
use Rattle.ag_logstore.specs.Stores.{StoreView, IsCurrent, IsReady}
use Rattle.ag_logstore.specs.LogKept.{RisesTo}
use Rattle.ag_kept.specs.declared.reach.Reach.{Reach}
use Rattle.ag_kept.specs.declared.reach.Reach.TheVariants.{End, Stop, Fault}
use Rattle.ag_kept.specs.Reaching.{how_far, order_of}
use Rattle.ag_kept.specs.Ending.{next, IsSettled, MayReach}
use Rattle.ag_kept.specs.Kept.{SamePages, master_on, kept_on, started}
use Rattle.ag_kept.specs.Standing.{IsHome, IsMemory, IsAtHome}
use Rattle.ag_kept.specs.Starting.{own_log, raised_master, raised_so_far, WasLoaded}
use Rattle.ag_kept.proofs.Calls.{ordered}
use Rattle.ag_kept.proofs.Orders.{far_stop, far_fail, far_end}
use Rattle.ag_kept.proofs.Finding.{log_on_is}
use Rattle.ag_kept.proofs.Homes.{cut_at_end, can_cut, rises_of, raised_current, next_fits, so_far_home, end_kept, so_far_kept, raise_leaves_pages}

-- what was loaded, where something was
pub was_loaded : {D : Type 0} (keeps : D → Bool) (reads : D → Image) (may_hold : D → ℕ → Content → Type 0) (faults : D → ℕ) (armed mid : ScriptedView D) (m : Master) (found : Option StoreView) (s : StoreView) → found ≡ Some s
    → MatchOption found (armed.order ≡ FailOrder (next armed.calls)) (λ t. WasLoaded keeps reads may_hold faults armed mid m t) → WasLoaded keeps reads may_hold faults armed mid m s
was_loaded keeps reads may_hold faults armed mid m found s is held = subst (λ (o : Option StoreView). MatchOption o (armed.order ≡ FailOrder (next armed.calls)) (λ t. WasLoaded keeps reads may_hold faults armed mid m t)) is held

-- a disk at home with a new order is at home
pub ordered_home : {D : Type 0} (keeps : D → Bool) (reads : D → Image) (old armed : ScriptedView D) (order : Arm) → armed ≡ ordered old order → IsAtHome keeps reads old → IsAtHome keeps reads armed
ordered_home keeps reads old armed order is h = subst (λ v. IsAtHome keeps reads v) (sym is) (record { modelled = h.modelled; unsynced = h.unsynced; home = h.home })

-- and so is one that reads the same
pub settled_home : {D : Type 0} (keeps : D → Bool) (reads : D → Image) (old new : ScriptedView D) → IsAtHome keeps reads old → IsSettled keeps old new → (image : Image) → reads_of reads new ≡ image → IsHome image → IsAtHome keeps reads new
settled_home keeps reads old new h s image is home = record { modelled = subst IsTrue (sym s.keeps_same) h.modelled; unsynced = s.unsynced; home = subst IsHome (sym is) home }

-- one of the three calls of a start
which_call : (call : ℕ) → 1 ≤ call → call ≤ 3 → (call ≡ 1) ⊎ ((call ≡ 2) ⊎ (call ≡ 3))
which_call call low high = elim (cases_lt call 2) [
  | inl one ↦ inl (omega (arith, low, one))
  | inr more ↦ elim (cases_lt call 3) [
    | inl two ↦ inr (inl (omega (arith, more, two)))
    | inr three ↦ inr (inr (omega (arith, high, three)))
  ]
]

module _ {D : Type 0} (keeps : D → Bool) (reads : D → Image) (may_hold : D → ℕ → Content → Type 0) (faults : D → ℕ) (old armed mid : ScriptedView D) (suffix : Suffix) (order : Arm) (m : Master) (s : StoreView)
    (armed_is : armed ≡ ordered old order) (order_is : order ≡ order_of suffix) (home : IsAtHome keeps reads old) (m_is : m ≡ master_on (reads_of reads old)) (small : m.incarnation + 1 < 2 ^ 64) (l : WasLoaded keeps reads may_hold faults armed mid m s) where
  abbrev image : Image
  image = reads_of reads old

  armed_reads : reads_of reads armed ≡ image
  armed_reads = ap (reads_of reads) armed_is

  mid_reads : reads_of reads mid ≡ image
  mid_reads = l.reads_same ∙ armed_reads

  -- what was loaded is the log
  log_is : own_log image ≡ s.log
  log_is =
      let at_old : IsLogOf image m.cut m.incarnation s.log = subst (λ i. IsLogOf i m.cut m.incarnation s.log) armed_reads l.log in
      log_on_is image (master_on image).cut (master_on image).incarnation s.log (subst (λ (x : Master). IsLogOf image x.cut x.incarnation s.log) m_is at_old)

  small_on : (master_on image).incarnation + 1 < 2 ^ 64
  small_on = subst (λ (x : Master). x.incarnation + 1 < 2 ^ 64) m_is small

  pub can_raise : (length s.log.records ≡ 0) ⊎ Contains s.log.ends (length s.log.records)
  can_raise = subst (λ (x : Log). (length x.records ≡ 0) ⊎ Contains x.ends (length x.records)) log_is (can_cut image home.home)

  calls_are : mid.calls ≡ 1
  calls_are = l.synced.calls_counted ∙ ap (λ (v : ScriptedView D). next v.calls) armed_is

  writes_are : mid.writes ≡ 0
  writes_are = l.synced.writes_same ∙ ap (λ (v : ScriptedView D). v.writes) armed_is

  orders_are : mid.order ≡ order_of suffix
  orders_are = l.synced.order ∙ ap (λ (v : ScriptedView D). v.order) armed_is ∙ order_is

  -- the numbers of the write and its sync
  abbrev Reaches : Reach → Type 0
  Reaches r = MayReach mid.order (next mid.writes) (next mid.calls) (next (next mid.calls)) r

  counted : (r : Reach) → Reaches r → MayReach (order_of suffix) 1 2 3 r
  counted r may = subst (λ c. MayReach (order_of suffix) 1 (next c) (next (next c)) r) calls_are (subst (λ w. MayReach (order_of suffix) (next w) (next mid.calls) (next (next mid.calls)) r) writes_are (subst (λ o. MayReach o (next mid.writes) (next mid.calls) (next (next mid.calls)) r) orders_are may))

  no_first : order_of suffix ≡ FailOrder 1 → ⊥
  no_first e = l.synced.no_fail (ap (λ (v : ScriptedView D). v.order) armed_is ∙ order_is ∙ e ∙ ap (λ (v : ScriptedView D). FailOrder (next v.calls)) (sym armed_is))

  far_so : (r : Reach) → MayReach (order_of suffix) 1 2 3 r → r ≡ how_far suffix 1 3
  far_so End may = sym (far_end suffix 1 3 may.0 (λ call low high e. elim (which_call call low high) [
    | inl one ↦ no_first (e ∙ ap FailOrder one)
    | inr later ↦ elim later [ inl two ↦ may.1 (e ∙ ap FailOrder two) | inr three ↦ may.2 (e ∙ ap FailOrder three) ]
  ]) (omega arith))
  far_so (Stop whole) may = ap Stop may.2 ∙ sym (far_stop suffix may.0 1 3 may.1)
  far_so Fault may = sym (elim may [ inl two ↦ far_fail suffix 2 1 3 two (omega arith) | inr three ↦ far_fail suffix 3 1 3 three (omega arith) ])

  pub start_far : (r : Reach) → Reaches r → r ≡ how_far suffix 1 3
  start_far r may = far_so r (counted r may)

  -- after the write of the master
  module _ (new : ScriptedView D) (settled : IsSettled keeps mid new) (short : length s.log.records < 2 ^ 64) where
    short_on : length (own_log image).records < 2 ^ 64
    short_on = subst (λ (x : Log). length x.records < 2 ^ 64) (sym log_is) short

    abbrev the_next : Master
    the_next = raised_master (master_on image) (length (own_log image).records)

    next_is : raised_master m (length s.log.records) ≡ the_next
    next_is = ap (λ (x : Master). raised_master x (length s.log.records)) m_is ∙ ap (λ (x : Log). raised_master (master_on image) (length x.records)) (sym log_is)

    new_reads : (r : Reach) → reads_of reads new ≡ raised_so_far (reads_of reads mid) (raised_master m (length s.log.records)) r → reads_of reads new ≡ raised_so_far image the_next r
    new_reads r e = e ∙ ap (λ i. raised_so_far i (raised_master m (length s.log.records)) r) mid_reads ∙ ap (λ (x : Master). raised_so_far image x r) next_is

    keeps_chain : keeps new.disk ≡ keeps old.disk
    keeps_chain = settled.keeps_same ∙ l.synced.settled.keeps_same ∙ ap (λ (v : ScriptedView D). keeps v.disk) armed_is

    pub start_home : (r : Reach) → reads_of reads new ≡ raised_so_far (reads_of reads mid) (raised_master m (length s.log.records)) r → IsAtHome keeps reads new
    start_home r e = settled_home keeps reads old new home (record { unsynced = settled.unsynced; keeps_same = keeps_chain }) (raised_so_far image the_next r) (new_reads r e) (so_far_home image home.home small_on short_on r)

    pub start_end_kept : (r : Reach) → r ≡ End → reads_of reads new ≡ raised_so_far (reads_of reads mid) (raised_master m (length s.log.records)) r → kept_on (reads_of reads new) true ≡ started (kept_on image false) End
    start_end_kept r is e = ap (λ i. kept_on i true) (new_reads r e ∙ ap (raised_so_far image the_next) is) ∙ end_kept image home.home small_on short_on

    pub start_kept : (r : Reach) → (r ≡ End → ⊥) → reads_of reads new ≡ raised_so_far (reads_of reads mid) (raised_master m (length s.log.records)) r → kept_on (reads_of reads new) false ≡ started (kept_on image false) r
    start_kept r other e = ap (λ i. kept_on i false) (new_reads r e) ∙ so_far_kept image home.home small_on short_on r other

    -- memory at the end
    pub start_memory : (may_hold : D → ℕ → Content → Type 0) (t : StoreView) (r : Reach) → r ≡ End → reads_of reads new ≡ raised_so_far (reads_of reads mid) (raised_master m (length s.log.records)) r
        → t ≡ record { log = cut_at (length s.log.records) s.log; cut = length s.log.records; incarnation = m.incarnation + 1; is_closed = s.is_closed } → Only (reads_of reads new) (holds_of keeps may_hold new) → IsMemory keeps reads may_hold new t
    start_memory may_hold t r is e t_is only =
        let now = raised_so_far image the_next End in
        let reads_now : reads_of reads new ≡ now = new_reads r e ∙ ap (raised_so_far image the_next) is in
        let master_now : master_on (reads_of reads new) ≡ the_next = ap master_on reads_now ∙ fields-spelling the_next (next_fits image home.home small_on short_on) in
        let made : Log → ℕ → StoreView = λ x n. record { log = x; cut = length x.records; incarnation = n; is_closed = false } in
        let cut_log : t ≡ made s.log (m.incarnation + 1) = t_is
        ∙ ap (λ (x : Log). let v : StoreView = record { log = x; cut = length s.log.records; incarnation = m.incarnation + 1; is_closed = s.is_closed } in v) (cut_at_end s.log (subst (λ (x : Log). RisesTo 0 (length x.records) x.ends) log_is (rises_of image home.home)))
        ∙ ap (λ (b : Bool). let v : StoreView = record { log = s.log; cut = length s.log.records; incarnation = m.incarnation + 1; is_closed = b } in v) l.is_open in
        let whole : t ≡ made (own_log image) ((master_on image).incarnation + 1) = cut_log ∙ ap (λ x. made x (m.incarnation + 1)) (sym log_is) ∙ ap (λ (x : Master). made (own_log image) (x.incarnation + 1)) m_is in
        record {
          cut = ap (λ (v : StoreView). v.cut) whole ∙ sym (ap (λ (x : Master). x.cut) master_now);
          incarnation = ap (λ (v : StoreView). v.incarnation) whole ∙ sym (ap (λ (x : Master). x.incarnation) master_now);
          is_open = ap (λ (v : StoreView). v.is_closed) whole;
          ready = subst (λ v. IsReady (keeps new.disk) (reads_of reads new) (holds_of keeps may_hold new) v) (sym whole) (record {
            least = omega arith;
            most = small_on;
            current = λ k. subst (λ i. IsCurrent i (made (own_log image) ((master_on image).incarnation + 1))) (sym reads_now) (raised_current image home.home small_on short_on false);
            synced = λ k. only;
          });
        }

-- the pages once a start came so far
pub started_pages : (old mid new : Image) (m : Master) (r : Reach) → mid ≡ old → new ≡ raised_so_far mid m r → SamePages old new
started_pages old mid new m r same is at page = ap (λ (i : Image). i at) is ∙ raise_leaves_pages mid m r at page ∙ ap (λ (i : Image). i at) same
