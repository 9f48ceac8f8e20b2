-- Redo takes each page to its value after the last of the records, or leaves it where it is ahead.
use Rattle.std.proofs.Common.{◌≡◌, ℕ, zero, suc, ◌+◌, ◌-◌, ◌<◌, ◌≤◌, max, Bool, true, false, cond, List, [], ◌∷◌, length, get_or, take, refl, sym, ap, subst, ◌∙◌, inl, inr, arith}
use Rattle.std.specs.Prelude.{Option, Some, None}
use Rattle.std.specs.List.{list_any}
use Rattle.std.proofs.lemmas.Bool.{cases_Bool, eqb-true}
use Rattle.std.proofs.lemmas.List.{length-take, length-drop, length-append, take_all}
use Rattle.std.proofs.lemmas.List.Sums.{sum_by-append}
use Rattle.std.proofs.Math.Seq.{take-append_seam, get_or-append_seam}
use mathlib.Core.Logic.{dite}
use native.Mathlib.Decide.{dec_le}
use Rattle.ag_model.specs.declared.record.Record.{Record}
use Rattle.ag_model.specs.declared.record.Record.TheVariants.{Put, Del, Commit, Abort, Trim, Term}
use Rattle.ag_model.specs.declared.value.Change.TheVariants.{Put as PutChange, Del as DelChange}
use Rattle.ag_model.specs.declared.value.PageValue.{PageValue}
use Rattle.ag_model.specs.declared.value.Version.{Version}
use Rattle.ag_model.specs.Blocks.{after_to}
use Rattle.ag_model.specs.Page.{value}
use Rattle.ag_model.specs.Rows.{touches}
use Rattle.ag_model.specs.Sizes.{change_size, versions_size}
use Rattle.ag_version.specs.Steps.{AreProper, IsAt, IsDue}
use Rattle.ag_version.proofs.Redone.{redo_change, redo_commit, redo_abort, redo_trim}
use Rattle.ag_version.proofs.Untouched.{untouched-value}
use Rattle.ag_stripe.specs.Redo.{after_record, redone, redone_value, HasRoom}
use Rattle.ag_stripe.proofs.Nexts.{stand-at}
use Rattle.ag_stripe.proofs.Redone.{redone-below, redone-above}
use Rattle.ag_stripe.proofs.Touches.{lsn-below, lsn-touched, number-is}
use Rattle.ag_pool.specs.declared.frame.Frame.{Frame}
use Rattle.ag_pool.specs.Redo.{redone_by, numbered_after, HasNoRoom, AreFitting}
use Rattle.ag_pool.proofs.Marks.{untouched, numbered}
use Rattle.ag_pool.proofs.Redone.{page-more}

-- the edit by a record gives the page its value after it
after-is : (pages n : ℕ) (log : List Record) (r : Record) (v : PageValue) → IsDue pages log n r v → after_record n r v ≡ value pages log n v.page
after-is pages n log (Put txn key x) v due = redo_change (PutChange x) pages n txn key log v due
after-is pages n log (Del txn key) v due = redo_change DelChange pages n txn key log v due
after-is pages n log (Commit txn listed) v due = redo_commit pages n txn listed log v due
after-is pages n log (Abort txn listed) v due = redo_abort pages n txn listed log v due
after-is pages n log (Trim page horizon) v due =
    let same : v.page ≡ page = eqb-true v.page page due.touched in
    redo_trim pages n horizon log v (subst (λ (p : ℕ). IsDue pages log n (Trim p horizon) v) (sym same) due)
after-is pages n log (Term term) v due = (let on = due.touched in cc)

-- what fits after the record has room before it
fits : (lsn : ℕ) (r : Record) (v : PageValue) → versions_size (after_record lsn r v).versions ≤ 8144 → HasRoom r v
fits lsn (Put txn key x) v h =
    let size = sum_by-append (λ (w : Version). change_size w.change) v.versions (record { lsn = lsn; txn = txn; commit = 0; key = key; change = PutChange x } ∷ []) in
    omega arith
fits lsn (Del txn key) v h =
    let size = sum_by-append (λ (w : Version). change_size w.change) v.versions (record { lsn = lsn; txn = txn; commit = 0; key = key; change = DelChange } ∷ []) in
    omega arith
fits lsn (Commit txn listed) v h = tt
fits lsn (Abort txn listed) v h = tt
fits lsn (Trim trimmed horizon) v h = tt
fits lsn (Term term) v h = tt

module _ (pages page lsn : ℕ) (log : List Record) (r : Record) (low : 16 ≤ page) (high : page < 16 + pages) (proper : AreProper pages log) (at : IsAt log (lsn + 1) r) where
  before : lsn + 1 - 1 ≡ lsn
  before = omega arith

  -- a page that doesn't have the record yet has its value before it
  due-there : (v : PageValue) (k : ℕ) → touches pages page r ≡ true → v.lsn < lsn + 1 → lsn ≤ k → v ≡ value pages log k page → IsDue pages log (lsn + 1) r v × (v.page ≡ page)
  due-there v k on lt above is =
      let own : v.page ≡ page = ap (λ (w : PageValue). w.page) is ∙ number-is pages page log k in
      let same : k ≡ lsn = dite (dec_le (lsn + 1) k)
      (λ le. let past = lsn-touched pages page log (lsn + 1) k r at on le in let e = ap (λ (w : PageValue). w.lsn) is in absurd (omega arith))
      (λ not. omega arith) in (
        record {
          proper = proper;
          here = at;
          touched = ap (λ (p : ℕ). touches pages p r) own ∙ on;
          before = is ∙ (λ i. value pages log ((same ∙ sym before) i) (sym own i));
        },
        own,
      )

  on-step : (v : PageValue) (k : ℕ) → touches pages page r ≡ true → lsn ≤ k → v ≡ value pages log k page → redone (lsn + 1) r v ≡ value pages log (max (lsn + 1) k) page
  on-step v k on above is = dite (dec_le (lsn + 1) k)
      (λ le.
      let past = lsn-touched pages page log (lsn + 1) k r at on le in
      let e = ap (λ (w : PageValue). w.lsn) is in
      let m : k ≡ max (lsn + 1) k = omega arith in
      redone-above (lsn + 1) r v (omega arith) ∙ is ∙ ap (λ (n : ℕ). value pages log n page) m)
      (λ not.
      let top = lsn-below pages page log k in
      let e = ap (λ (w : PageValue). w.lsn) is in
      let lt : v.lsn < lsn + 1 = omega arith in
      let due = due-there v k on lt above is in
      let m : lsn + 1 ≡ max (lsn + 1) k = omega arith in
      redone-below (lsn + 1) r v lt ∙ after-is pages (lsn + 1) log r v due.0 ∙ ap (value pages log (lsn + 1)) due.1 ∙ ap (λ (n : ℕ). value pages log n page) m)

  off-step : (k : ℕ) → touches pages page r ≡ false → lsn ≤ k → value pages log k page ≡ value pages log (max (lsn + 1) k) page
  off-step k off above = dite (dec_le (lsn + 1) k)
      (λ le. let m : k ≡ max (lsn + 1) k = omega arith in ap (λ (n : ℕ). value pages log n page) m)
      (λ not.
      let same : k ≡ lsn + 1 - 1 = omega arith in
      let m : lsn + 1 ≡ max (lsn + 1) k = omega arith in
      ap (λ (n : ℕ). value pages log n page) same ∙ sym (untouched-value pages page (lsn + 1) log r low high proper at off) ∙ ap (λ (n : ℕ). value pages log n page) m)

  -- redo of the record, where it touches the page
  pub value-step : (o : Option PageValue) (k : ℕ) → lsn ≤ k → o ≡ Some (value pages log k page)
      → cond (touches pages page r) (redone_value (lsn + 1) r o) o ≡ Some (value pages log (max (lsn + 1) k) page)
  value-step o k above is = elim (cases_Bool (touches pages page r)) [
    | inl on ↦
        ap (λ (b : Bool). cond b (redone_value (lsn + 1) r o) o) on ∙ ap (redone_value (lsn + 1) r) is ∙ ap Some (on-step (value pages log k page) k on above refl)
    | inr off ↦ ap (λ (b : Bool). cond b (redone_value (lsn + 1) r o) o) off ∙ is ∙ ap Some (off-step k off above)
  ]

  -- and it finds room
  pub room-step : (v : PageValue) (k : ℕ) → AreFitting pages log → touches pages page r ≡ true → lsn ≤ k → v ≡ value pages log k page → v.lsn < lsn + 1 → HasRoom r v
  room-step v k room on above is lt =
      let due = due-there v k on lt above is in
      let after : after_record (lsn + 1) r v ≡ value pages log (lsn + 1) v.page = after-is pages (lsn + 1) log r v due.0 in
      fits (lsn + 1) r v (subst (λ (w : PageValue). versions_size w.versions ≤ 8144) (sym after) (room (lsn + 1) v.page))

cond-value : (b : Bool) (x y : Frame) → (cond b x y).value ≡ cond b x.value y.value
cond-value true x y = refl
cond-value false x y = refl

get_or-other : (d e : Record) (rs : List Record) (i : ℕ) → i < length rs → get_or rs i d ≡ get_or rs i e
get_or-other d e [] i lt = absurd (omega arith)
get_or-other d e (r ∷ rs) zero lt = refl
get_or-other d e (r ∷ rs) (suc i) lt = get_or-other d e rs i (omega arith)

-- records that stand next in a log after an LSN, and a page that has a value of the log from there on
module _ (pages page low high at : ℕ) (log records : List Record) (f : Frame) (proper : AreProper pages log) (data_page : 16 ≤ page) (below : page < 16 + pages)
    (rise : low ≤ high) (reach : high ≤ length log) (is : records ≡ after_to low high log) (above : low ≤ at) (start : f.value ≡ Some (value pages log at page)) where
  long : low + length records ≡ high
  long = omega (arith, ap length is, length-drop low (take high log), length-take high log)

  stand : after_to low (low + length records) log ≡ records
  stand = ap (λ (n : ℕ). after_to low n log) long ∙ sym is

  here : (i : ℕ) (r : Record) → i < length records → r ≡ get_or records i r → IsAt log (low + i + 1) r
  here i r lt there = let e = long in stand-at low i log records r lt there (omega arith) stand

  -- after so many of them
  run : (i : ℕ) → i ≤ length records → (redone_by pages page (numbered_after low (take i records)) f).value ≡ Some (value pages log (max (low + i) at) page)
  run zero le = let m : at ≡ max (low + 0) at = omega arith in start ∙ ap (λ (n : ℕ). Some (value pages log n page)) m
  run (suc i) le =
      let r : Record = get_or records i (Term 0) in
      let lt : i < length records = omega arith in
      let there : get_or records i (Term 0) ≡ get_or records i (get_or records i (Term 0)) = get_or-other (Term 0) (get_or records i (Term 0)) records i lt in
      let g : Frame = redone_by pages page (numbered_after low (take i records)) f in
      let e : suc i ≡ i + 1 = omega arith in
      let m : max (low + i + 1) (max (low + i) at) ≡ max (low + suc i) at = omega arith in
      ap (λ (n : ℕ). (redone_by pages page (numbered_after low (take n records)) f).value) e
      ∙ ap (λ (h : Frame). h.value) (page-more 0 pages low i records r lt there page f)
      ∙ cond-value (touches pages page r) _ g
      ∙ value-step pages page (low + i) log r data_page below proper (here i r lt there) g.value (max (low + i) at) (omega arith) (run i (omega arith))
      ∙ ap (λ (n : ℕ). Some (value pages log n page)) m

  pub ahead : (redone_by pages page (numbered_after low records) f).value ≡ Some (value pages log (max high at) page)
  ahead =
      ap (λ (l : List Record). (redone_by pages page (numbered_after low l) f).value) (sym (take_all (length records) records (omega arith)))
      ∙ run (length records) (omega arith) ∙ ap (λ (n : ℕ). Some (value pages log (max n at) page)) long

  pub room : AreFitting pages log → HasNoRoom pages page low records f → ⊥
  room fitting h =
      let i : ℕ = length h.before in
      let lt : length h.before < length records = omega (arith, ap length h.parts, length-append h.before (h.entry ∷ h.after)) in
      let first : take (length h.before) records ≡ h.before = ap (take (length h.before)) h.parts ∙ take-append_seam h.before (h.entry ∷ h.after) in
      let there : h.entry ≡ get_or records (length h.before) h.entry = sym (ap (λ (l : List Record). get_or l (length h.before) h.entry) h.parts
      ∙ get_or-append_seam h.before h.entry h.after h.entry) in
      let so_far = ap (λ (l : List Record). (redone_by pages page (numbered_after low l) f).value) (sym first) ∙ run (length h.before) (omega arith) in
      h.full (λ v e lt'.
      let same : Some v ≡ Some (value pages log (max (low + length h.before) at) page) = sym e ∙ so_far in
      let v_is : v ≡ value pages log (max (low + length h.before) at) page = cc in
      room-step pages page (low + length h.before) log h.entry data_page below proper (here (length h.before) h.entry lt there)
      v (max (low + length h.before) at) fitting h.touched (omega arith) v_is (omega arith))

pub exact : (pages page low high : ℕ) (log records : List Record) (f : Frame) → AreProper pages log → 16 ≤ page → page < 16 + pages → low ≤ high → high ≤ length log
    → records ≡ after_to low high log
    → f.value ≡ Some (value pages log low page) → (redone_by pages page (numbered_after low records) f).value ≡ Some (value pages log high page)
exact pages page low high log records f proper data_page below rise reach is start =
    let m : max high low ≡ high = omega arith in
    ahead pages page low high low log records f proper data_page below rise reach is (omega arith) start ∙ ap (λ (n : ℕ). Some (value pages log n page)) m

-- records that don't touch a page leave its value
pub value-stays : (pages page low high : ℕ) (log : List Record) → AreProper pages log → 16 ≤ page → page < 16 + pages → low ≤ high → high ≤ length log
    → list_any (touches pages page) (after_to low high log) ≡ false → value pages log low page ≡ value pages log high page
value-stays pages page low high log proper data_page below rise reach off =
    let f : Frame = record { value = Some (value pages log low page); dirty = false; pending = false; held = None; came = false } in
    let stays = untouched pages page (numbered_after low (after_to low high log)) f (numbered pages page (low + 1) (after_to low high log) ∙ off) in
    let both : Some (value pages log low page) ≡ Some (value pages log high page) = sym (ap (λ (g : Frame). g.value) stays)
    ∙ exact pages page low high log (after_to low high log) f proper data_page below rise reach refl refl in
    cc
