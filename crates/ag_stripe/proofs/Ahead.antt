-- Redo takes each page on to its next value, or leaves it where it is ahead.
use Rattle.std.proofs.Common.{◌≡◌, ℕ, ◌+◌, ◌-◌, ◌<◌, ◌≤◌, Bool, true, false, cond, ◌&&◌, ◌||◌, List, [], ◌∷◌, length, get_or, take, refl, sym, ap, subst, ◌∙◌, inl, inr, arith}
use Rattle.std.specs.Prelude.{Option, Some}
use Rattle.std.specs.List.{list_any}
use Rattle.std.proofs.lemmas.Bool.{cases_Bool, eqb-true, and_from}
use Rattle.std.proofs.lemmas.List.Sums.{sum_by-append}
use Rattle.std.proofs.lemmas.List.Folds.{list_any_more, list_any_at}
use Rattle.std.proofs.Math.Bool.{and-false}
use Rattle.ag_lists.proofs.Tests.{or_same}
use mathlib.Core.Logic.{dite}
use native.Mathlib.Decide.{dec_le}
use Rattle.ag_model.specs.declared.record.Log.{Log}
use Rattle.ag_model.specs.declared.record.Record.{Record}
use Rattle.ag_model.specs.declared.record.Record.TheVariants.{Put, Del, Commit, Abort, Trim, Term}
use Rattle.ag_model.specs.declared.value.Change.TheVariants.{Put as PutChange, Del as DelChange}
use Rattle.ag_model.specs.declared.value.PageValue.{PageValue}
use Rattle.ag_model.specs.declared.value.Version.{Version}
use Rattle.ag_model.specs.Page.{value}
use Rattle.ag_model.specs.Prefixes.{end_of}
use Rattle.ag_model.specs.Proper.{IsProper}
use Rattle.ag_model.specs.Rows.{touches}
use Rattle.ag_model.specs.Sizes.{change_size, versions_size}
use Rattle.ag_version.specs.Steps.{IsAt, IsDue}
use Rattle.ag_version.proofs.Redone.{redo_change, redo_commit, redo_abort, redo_trim}
use Rattle.ag_version.proofs.Untouched.{untouched-value}
use Rattle.ag_stripe.specs.declared.slot.Slot.{Slot}
use Rattle.ag_stripe.specs.declared.fault.StripeFault.{StripeFault}
use Rattle.ag_stripe.specs.declared.fault.StripeFault.TheVariants.{Bad, Pending, TooOld, Home, Unlawful, NoMemory}
use Rattle.ag_stripe.specs.Tables.{Table, IsSameTable, is_own, slot_of, is_dirty}
use Rattle.ag_stripe.specs.Known.{Told, Known, known_by, known}
use Rattle.ag_stripe.specs.Known.Known.{Value}
use Rattle.ag_stripe.specs.Ahead.{IsAhead, AreNext}
use Rattle.ag_stripe.specs.Redo.{after_record, redone, redone_value, redone_slot, HasRoom, CanTake, IsRefusal, is_touched, IsKept, AreKept, IsUnlawful}
use Rattle.ag_stripe.proofs.Nexts.{stand-at}
use Rattle.ag_stripe.proofs.Slots.{owns}
use Rattle.ag_stripe.proofs.Readings.{own-same}
use Rattle.ag_stripe.proofs.Redone.{redone-below, redone-above}
use Rattle.ag_stripe.proofs.Touches.{lsn-below, lsn-touched, number-is}

-- the edit by a record gives the page its value after it
after-is : (pages n : ℕ) (log : List Record) (r : Record) (v : PageValue) → IsDue pages log n r v → after_record n r v ≡ value pages log n v.page
after-is pages n log (Put txn key x) v due = redo_change (PutChange x) pages n txn key log v due
after-is pages n log (Del txn key) v due = redo_change DelChange pages n txn key log v due
after-is pages n log (Commit txn listed) v due = redo_commit pages n txn listed log v due
after-is pages n log (Abort txn listed) v due = redo_abort pages n txn listed log v due
after-is pages n log (Trim page horizon) v due =
    let same : v.page ≡ page = eqb-true v.page page due.touched in
    redo_trim pages n horizon log v (subst (λ (p : ℕ). IsDue pages log n (Trim p horizon) v) (sym same) due)
after-is pages n log (Term term) v due = (let on = due.touched in cc)

-- a page value that is one of a known page
known-value : (told : Told) (page : ℕ) (o : Option PageValue) (v w : PageValue) → o ≡ Some v → known_by told page o ≡ Value w → v ≡ w
known-value told page o v w e k = (let is : Value v ≡ Value w = sym (ap (known_by told page) e) ∙ k in cc)

module _ (pages page lsn : ℕ) (log : Log) (r : Record) (low : 16 ≤ page) (high : page < 16 + pages) (proper : IsProper pages log) (at : IsAt log.records (lsn + 1) r) (reach : lsn + 1 ≤ end_of log) where
  before : lsn + 1 - 1 ≡ lsn
  before = omega arith

  -- a record that doesn't touch the page
  stays-ahead : (k : Known) → touches pages page r ≡ false → IsAhead pages log lsn page k → IsAhead pages log (lsn + 1) page k
  stays-ahead k off h = dite (dec_le (lsn + 1) h.lsn)
      (λ le. record { lsn = h.lsn; low = le; high = h.high; value = h.value })
      (λ not. let above = h.low in let same : h.lsn ≡ lsn = omega arith in record {
        lsn = lsn + 1;
        low = omega arith;
        high = reach;
        value = h.value ∙ ap Value (ap (λ (n : ℕ). value pages log.records n page) (same ∙ sym before) ∙ sym (untouched-value pages page (lsn + 1) log.records r low high proper.each at off));
      })

  -- a page that doesn't have the record yet has its value before it
  due-there : (v : PageValue) (n : ℕ) → touches pages page r ≡ true → v.lsn < lsn + 1 → lsn ≤ n → v ≡ value pages log.records n page → IsDue pages log.records (lsn + 1) r v × (v.page ≡ page)
  due-there v n on lt above is =
      let own : v.page ≡ page = ap (λ (w : PageValue). w.page) is ∙ number-is pages page log.records n in
      let same : n ≡ lsn = dite (dec_le (lsn + 1) n)
      (λ le. let past = lsn-touched pages page log.records (lsn + 1) n r at on le in let e = ap (λ (w : PageValue). w.lsn) is in absurd (omega arith))
      (λ not. omega arith) in (
        record {
          proper = proper.each;
          here = at;
          touched = ap (λ (p : ℕ). touches pages p r) own ∙ on;
          before = is ∙ (λ i. value pages log.records ((same ∙ sym before) i) (sym own i));
        },
        own,
      )

  redone-ahead : (v : PageValue) (n : ℕ) → touches pages page r ≡ true → lsn ≤ n → n ≤ end_of log → v ≡ value pages log.records n page → IsAhead pages log (lsn + 1) page (Value (redone (lsn + 1) r v))
  redone-ahead v n on above under is = dite (dec_le (lsn + 1) v.lsn)
      (λ le. let e = ap (λ (w : PageValue). w.lsn) is in let top = lsn-below pages page log.records n in record {
        lsn = n;
        low = omega arith;
        high = under;
        value = ap Value (redone-above (lsn + 1) r v le ∙ is);
      })
      (λ not. let lt : v.lsn < lsn + 1 = omega arith in let due = due-there v n on lt above is in record {
        lsn = lsn + 1;
        low = omega arith;
        high = reach;
        value = ap Value (redone-below (lsn + 1) r v lt ∙ after-is pages (lsn + 1) log.records r v due.0 ∙ ap (value pages log.records (lsn + 1)) due.1);
      })

  -- redo of the record
  pub ahead-step : (told : Told) (old new : Option PageValue) → (touches pages page r ≡ true → (v : PageValue) × (old ≡ Some v)) → new ≡ cond (touches pages page r) (redone_value (lsn + 1) r old) old
      → IsAhead pages log lsn page (known_by told page old) → IsAhead pages log (lsn + 1) page (known_by told page new)
  ahead-step told old new kept is h = elim (cases_Bool (touches pages page r)) [
    | inl on ↦
        (let v = kept on in
        let after : new ≡ Some (redone (lsn + 1) r v.0) = is ∙ ap (λ (b : Bool). cond b (redone_value (lsn + 1) r old) old) on ∙ ap (redone_value (lsn + 1) r) v.1 in
        subst (IsAhead pages log (lsn + 1) page) (sym (ap (known_by told page) after)) (redone-ahead v.0 h.lsn on h.low h.high (known-value told page old v.0 (value pages log.records h.lsn page) v.1 h.value)))
    | inr off ↦
        (let after : new ≡ old = is ∙ ap (λ (b : Bool). cond b (redone_value (lsn + 1) r old) old) off in
        subst (IsAhead pages log (lsn + 1) page) (sym (ap (known_by told page) after)) (stays-ahead (known_by told page old) off h))
  ]

  -- what the record adds has room
  room : (r' : Record) (v : PageValue) → versions_size (after_record (lsn + 1) r' v).versions ≤ 8144 → HasRoom r' v
  room (Put txn key x) v h =
      let size = sum_by-append (λ (w : Version). change_size w.change) v.versions (record { lsn = lsn + 1; txn = txn; commit = 0; key = key; change = PutChange x } ∷ []) in
      omega arith
  room (Del txn key) v h =
      let size = sum_by-append (λ (w : Version). change_size w.change) v.versions (record { lsn = lsn + 1; txn = txn; commit = 0; key = key; change = DelChange } ∷ []) in
      omega arith
  room (Commit txn listed) v h = tt
  room (Abort txn listed) v h = tt
  room (Trim trimmed horizon) v h = tt
  room (Term term) v h = tt

  pub room-there : (told : Told) (old : Slot) → touches pages page r ≡ true → IsAhead pages log lsn page (known_by told page old.value) → CanTake (lsn + 1) r old
  room-there told old on h v e lt =
      let due = due-there v h.lsn on lt h.low (known-value told page old.value v (value pages log.records h.lsn page) e h.value) in
      let is : after_record (lsn + 1) r v ≡ value pages log.records (lsn + 1) v.page = after-is pages (lsn + 1) log.records r v due.0 in
      room r v (subst (λ (w : PageValue). versions_size w.versions ≤ 8144) (sym is) (proper.room (lsn + 1) v.page))

-- ---- a run of records

abbrev pub Redone : Table → Table → ℕ → Record → Type 0
Redone old new lsn r = (q : ℕ) → slot_of new q ≡ cond (is_own old q && touches old.pages q r) (redone_slot lsn r (slot_of old q)) (slot_of old q)

-- what was read in stays so
pub kept-step : (old new : Table) (lsn : ℕ) (r : Record) → Redone old new lsn r → (q : ℕ) → IsKept old q → IsKept new q
kept-step old new lsn r h q (v, e) = by_test (is_own old q && touches old.pages q r) (h q)
  where
    by_test : (b : Bool) → slot_of new q ≡ cond b (redone_slot lsn r (slot_of old q)) (slot_of old q) → IsKept new q
    by_test true f = (redone lsn r v, ap (λ (s : Slot). s.value) f ∙ ap (redone_value lsn r) e)
    by_test false f = (v, ap (λ (s : Slot). s.value) f ∙ e)

-- what is dirty after one record more
pub dirty-step : (old new : Table) (lsn : ℕ) (r : Record) → Redone old new lsn r → (q : ℕ) → is_dirty new q ≡ (is_dirty old q || (is_own old q && touches old.pages q r))
dirty-step old new lsn r h q = by_test (is_own old q && touches old.pages q r) (h q)
  where
    or-true : (b : Bool) → true ≡ (b || true)
    or-true true = refl
    or-true false = refl

    by_test : (b : Bool) → slot_of new q ≡ cond b (redone_slot lsn r (slot_of old q)) (slot_of old q) → is_dirty new q ≡ (is_dirty old q || b)
    by_test true f = ap (λ (s : Slot). s.dirty) f ∙ or-true (is_dirty old q)
    by_test false f = ap (λ (s : Slot). s.dirty) f ∙ or_same (is_dirty old q) false refl

pub touched-first : (t : Table) (q : ℕ) → is_touched t [] q ≡ false
touched-first t q = and-false (is_own t q)

-- one record more touches what it touches
pub dirty-more-records : (start old new : Table) (lsn i : ℕ) (records : List Record) (r : Record) → IsSameTable start old → i < length records → r ≡ get_or records i r → Redone old new lsn r
    → ((q : ℕ) → is_dirty old q ≡ (is_dirty start q || is_touched start (take i records) q)) → (q : ℕ) → is_dirty new q ≡ (is_dirty start q || is_touched start (take (i + 1) records) q)
dirty-more-records start old new lsn i records r same lt there h inv q =
    dirty-step old new lsn r h q
    ∙ (λ j. inv q j || (own-same start old same q j && touches (same.pages j) q (there j)))
    ∙ regroup (is_dirty start q) (is_own start q) (list_any (touches start.pages q) (take i records)) (touches start.pages q (get_or records i r))
    ∙ ap (λ (b : Bool). is_dirty start q || (is_own start q && b)) (sym (list_any_more (touches start.pages q) records i r lt))
  where
    regroup : (d o a b : Bool) → ((d || (o && a)) || (o && b)) ≡ (d || (o && (a || b)))
    regroup true o a b = refl
    regroup false true a b = refl
    regroup false false a b = refl

-- one record more of a block
module _ (start old new : Table) (applied lsn i : ℕ) (records : List Record) (r : Record) (same : IsSameTable start old) (lt : i < length records) (there : r ≡ get_or records i r) (here : lsn ≡ applied + i) (kept : (q : ℕ) → IsKept start q → IsKept old q) where
  standing : (log : Log) → AreNext start.pages applied log records → IsAt log.records (lsn + 1) r
  standing log h =
      let e : applied + i + 1 ≡ lsn + 1 = omega arith in
      subst (λ (n : ℕ). IsAt log.records n r) e (stand-at applied i log.records records r lt there h.reach h.stand)

  within : (log : Log) → AreNext start.pages applied log records → lsn + 1 ≤ end_of log
  within log h = (let far = h.reach in omega arith)

  touched : (page : ℕ) → is_own start page ≡ true → touches start.pages page r ≡ true → is_touched start records page ≡ true
  touched page own on = and_from (is_own start page) (list_any (touches start.pages page) records) own (list_any_at (touches start.pages page) records i r lt (ap (touches start.pages page) (sym there) ∙ on))

  pub values-step : Redone old new (lsn + 1) r → (told : Told) (log : Log) (page : ℕ) → AreNext start.pages applied log records → AreKept start records → is_own start page ≡ true
      → IsAhead start.pages log lsn page (known told old page) → IsAhead start.pages log (lsn + 1) page (known told new page)
  values-step h told log page stand all own ahead =
      let o = owns start page own in
      let mine : is_own old page ≡ true = own-same start old same page ∙ own in
      let is : slot_of new page ≡ cond (touches start.pages page r) (redone_slot (lsn + 1) r (slot_of old page)) (slot_of old page) =
      h page ∙ (λ j. cond (mine j && touches (same.pages j) page r) (redone_slot (lsn + 1) r (slot_of old page)) (slot_of old page)) in
      ahead-step start.pages page lsn log r o.low o.high stand.proper (standing log stand) (within log stand) told (slot_of old page).value (slot_of new page).value
      (λ on. kept page (all page (touched page own on)))
      (ap (λ (s : Slot). s.value) is ∙ by_test (touches start.pages page r))
      ahead
    where
      by_test : (b : Bool) → (cond b (redone_slot (lsn + 1) r (slot_of old page)) (slot_of old page)).value ≡ cond b (redone_value (lsn + 1) r (slot_of old page).value) (slot_of old page).value
      by_test true = refl
      by_test false = refl

  pub refused-step : (e : StripeFault) → IsRefusal (lsn + 1) r old e
      → ((told : Told) (log : Log) (page : ℕ) → AreNext start.pages applied log records → AreKept start records → is_own start page ≡ true → IsAhead start.pages log applied page (known told start page) → IsAhead start.pages log lsn page (known told old page))
      → IsUnlawful start applied records e
  refused-step (Unlawful page) (mine, on, full) values =
      let own : is_own start page ≡ true = sym (own-same start old same page) ∙ mine in
      let hit : touches start.pages page r ≡ true = ap (λ (n : ℕ). touches n page r) (sym same.pages) ∙ on in
      let o = owns start page own in (
        touched page own hit,
        λ told log stand all ahead. full (room-there start.pages page lsn log r o.low o.high stand.proper (standing log stand) (within log stand) told (slot_of old page) hit (values told log page stand all own ahead)),
      )
  refused-step NoMemory h values = tt
  refused-step (Bad page) h values = h
  refused-step (Pending page) h values = h
  refused-step (TooOld s o) h values = h
  refused-step Home h values = h
