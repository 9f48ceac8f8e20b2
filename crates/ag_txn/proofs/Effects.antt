-- Records take each copy on to the page of the log with them.
use Rattle.std.proofs.Common.{◌≡◌, ℕ, zero, suc, ◌+◌, ◌-◌, ◌<◌, ◌≤◌, Bool, false, cond, ◌||◌, List, [], ◌∷◌, ◌++◌, length, get_or, set, map, replicate, refl, sym, ap, ap₂, subst, ◌∙◌, inl, inr, arith, append_assoc, length-append, length-set}
use Rattle.std.specs.Prelude.{Option, Some, None, slice_get}
use Rattle.std.specs.List.{list_any}
use Rattle.std.specs.Option.{option_map, unwrap_or}
use Rattle.std.proofs.lemmas.Bool.{cases_Bool, eqb-true}
use Rattle.std.proofs.lemmas.Bool.Decides.{eqb_tells}
use Rattle.std.proofs.lemmas.List.{append-nil, get_or-set_same, get_or-set_other, take-append-le}
use Rattle.std.proofs.lemmas.List.Folds.{list_any-append}
use Rattle.ag_model.specs.declared.record.Record.{Record}
use Rattle.ag_model.specs.declared.record.Record.TheVariants.{Put, Del, Commit, Abort, Trim, Term}
use Rattle.ag_model.specs.declared.value.Change.TheVariants.{Put as PutChange, Del as DelChange}
use Rattle.ag_model.specs.declared.value.PageValue.{PageValue}
use Rattle.ag_model.specs.Page.{value}
use Rattle.ag_model.specs.Rows.{touches}
use Rattle.ag_version.specs.Steps.{AreProper, IsAt, IsDue}
use Rattle.ag_version.proofs.Redone.{value_at_end, value-is, redo_change, redo_commit, redo_abort, redo_trim}
use Rattle.ag_version.proofs.Untouched.{untouched-value}
use Rattle.ag_stripe.specs.Redo.{after_record}
use Rattle.ag_txn.specs.Effective.{AreEffective, HaveCopiesFor}
use Rattle.ag_txn.specs.View.{Copies, copy_of, with_copy, page_after, page_after_all, copies_after_all}
use Rattle.ag_txn.proofs.Copied.{after_all_at, after_all_length, untouched_page}

-- the edit by a record gives the page its value after it
after-is : (pages n : ℕ) (log : List Record) (r : Record) (v : PageValue) → IsDue pages log n r v → after_record n r v ≡ value pages log n v.page
after-is pages n log (Put txn key x) v due = redo_change (PutChange x) pages n txn key log v due
after-is pages n log (Del txn key) v due = redo_change DelChange pages n txn key log v due
after-is pages n log (Commit txn listed) v due = redo_commit pages n txn listed log v due
after-is pages n log (Abort txn listed) v due = redo_abort pages n txn listed log v due
after-is pages n log (Trim page horizon) v due =
    let same : v.page ≡ page = eqb-true v.page page due.touched in
    redo_trim pages n horizon log v (subst (λ (p : ℕ). IsDue pages log n (Trim p horizon) v) (sym same) due)
after-is pages n log (Term term) v due = (let on = due.touched in cc)

pub number-is : (pages n page : ℕ) (log : List Record) → (value pages log n page).page ≡ page
unfolding value
number-is pages n page log = refl

-- a prefix of a log gives the same value
value-front : (pages n page : ℕ) (front rest : List Record) → n ≤ length front → value pages (front ++ rest) n page ≡ value pages front n page
value-front pages n page front rest le = value-is pages page n (front ++ rest) ∙ ap (value_at_end pages page) (take-append-le n front rest le) ∙ sym (value-is pages page n front)

-- the record behind the front of a log
at-front : (front rest : List Record) (r : Record) → slice_get (front ++ r ∷ rest) (length front) ≡ Some r
at-front [] rest r = refl
at-front (x ∷ front) rest r = at-front front rest r

-- one record takes a page on to its value after it
step : (pages page n : ℕ) (log : List Record) (r : Record) (v : PageValue) → 16 ≤ page → page < 16 + pages → AreProper pages log → IsAt log (n + 1) r → v ≡ value pages log n page
    → page_after pages (n + 1) r page v ≡ value pages log (n + 1) page
step pages page n log r v low high proper at is = elim (cases_Bool (touches pages page r)) [
  | inl on ↦
      (let same : v.page ≡ page = ap (λ (w : PageValue). w.page) is ∙ number-is pages n page log in
      let due : IsDue pages log (n + 1) r v = record {
        proper = proper;
        here = at;
        touched = ap (λ (p : ℕ). touches pages p r) same ∙ on;
        before = is ∙
            (let back = sym same in λ i. value pages log (less i) (back i));
      } in
      ap (λ (b : Bool). cond b (after_record (n + 1) r v) v) on ∙ after-is pages (n + 1) log r v due ∙ ap (value pages log (n + 1)) same)
  | inr off ↦
      ap (λ (b : Bool). cond b (after_record (n + 1) r v) v) off ∙ is
      ∙ sym (untouched-value pages page (n + 1) log r low high proper at off ∙ ap (λ (m : ℕ). value pages log m page) (sym less))
]
  where
    less : n ≡ n + 1 - 1
    less = omega arith

-- records take a page on to its value after them
along : (pages page n : ℕ) (log front rs : List Record) (v : PageValue) → 16 ≤ page → page < 16 + pages → AreProper pages log → log ≡ front ++ rs → n ≡ length front → v ≡ value pages log n page
    → page_after_all pages (n + 1) rs page v ≡ value pages log (n + length rs) page
along pages page n log front [] v low high proper split long is = is ∙ ap (λ (m : ℕ). value pages log m page) (omega arith)
along pages page n log front (r ∷ rs) v low high proper split long is =
    let same : n + 1 - 1 ≡ length front = omega arith in
    let at : IsAt log (n + 1) r = (omega arith, (λ i. slice_get (split i) (same i)) ∙ at-front front rs r) in
    along pages page (n + 1) log (front ++ r ∷ []) rs (page_after pages (n + 1) r page v) low high proper
    (split ∙ sym (append_assoc front (r ∷ []) rs)) (omega (arith, length-append front (r ∷ []))) (step pages page n log r v low high proper at is)
    ∙ ap (λ (m : ℕ). value pages log m page) (omega arith)

-- the buffer takes a page on to what transactions see, where it has no copy
bare : (pages page : ℕ) (log buffer : List Record) → 16 ≤ page → page < 16 + pages → AreProper pages (log ++ buffer) → list_any (touches pages page) buffer ≡ false
    → value pages log (length log) page ≡ value pages (log ++ buffer) (length (log ++ buffer)) page
bare pages page log buffer low high proper off =
    let v = value pages log (length log) page in
    sym (untouched_page pages (length log + 1) buffer page v off)
    ∙ along pages page (length log) (log ++ buffer) log buffer v low high proper refl refl (sym (value-front pages (length log) page log buffer (omega arith)))
    ∙ ap (λ (m : ℕ). value pages (log ++ buffer) m page) (sym (length-append log buffer))

-- the page that transactions see
pub seen-is : (pages page : ℕ) (log buffer : List Record) (copies : Copies) → AreEffective pages log buffer copies → AreProper pages (log ++ buffer) → 16 ≤ page → page < 16 + pages
    → unwrap_or (copy_of copies page) (value pages log (length log) page) ≡ value pages (log ++ buffer) (length (log ++ buffer)) page
seen-is pages page log buffer copies h proper low high = by_copy (copy_of copies page) refl
  where
    by_copy : (o : Option PageValue) → copy_of copies page ≡ o → unwrap_or o (value pages log (length log) page) ≡ value pages (log ++ buffer) (length (log ++ buffer)) page
    by_copy None e = bare pages page log buffer low high proper (h.touched page low high e)
    by_copy (Some v) e = h.values page v low high e

-- no copies, and no buffer
pub none-effective : (pages : ℕ) (log : List Record) (copies : Copies) → length copies ≡ pages → ((page : ℕ) → copy_of copies page ≡ None) → AreEffective pages log [] copies
none-effective pages log copies long none = record {
  slots = long;
  values = λ page v low high e. (let two : ◌≡◌ {A = Option PageValue} None (Some v) = sym (none page) ∙ e in absurd (cc));
  touched = λ page low high e. refl;
}

pub bare-slot : (n i : ℕ) → ◌≡◌ {A = Option PageValue} (get_or (replicate n None) i None) None
bare-slot zero i = refl
bare-slot (suc n) zero = refl
bare-slot (suc n) (suc i) = bare-slot n i

pub let-go : (copies : Copies) (i : ℕ) → ◌≡◌ {A = Option PageValue} (get_or (map (λ (c : Option PageValue). None) copies) i None) None
let-go [] i = refl
let-go (c ∷ cs) zero = refl
let-go (c ∷ cs) (suc i) = let-go cs i

-- a copy of a page as transactions see it
pub copied-effective : (pages page : ℕ) (log buffer : List Record) (copies : Copies) → AreEffective pages log buffer copies → AreProper pages (log ++ buffer) → 16 ≤ page → page < 16 + pages
    → AreEffective pages log buffer (with_copy page (unwrap_or (copy_of copies page) (value pages log (length log) page)) copies)
copied-effective pages page log buffer copies h proper low high = record {
  slots = length-set copies (page - 16) (Some w) ∙ h.slots;
  values = λ p v l u e. elim (eqb_tells p page) [
    | inl same ↦
        (let place : p - 16 ≡ page - 16 = ap (λ (n : ℕ). n - 16) same.1 in
        let here : ◌≡◌ {A = Option PageValue} (Some w) (Some v) = sym
        (ap (λ (n : ℕ). get_or (set copies (page - 16) (Some w)) n None) place ∙ get_or-set_same copies (page - 16) (Some w) None inside) ∙ e in
        let is : w ≡ v = cc in
        sym is ∙ seen-is pages page log buffer copies h proper low high ∙ ap (value pages (log ++ buffer) (length (log ++ buffer))) (sym same.1))
    | inr other ↦ h.values p v l u (sym (away p l other.1) ∙ e)
  ];
  touched = λ p l u e. elim (eqb_tells p page) [
    | inl same ↦
        (let place : p - 16 ≡ page - 16 = ap (λ (n : ℕ). n - 16) same.1 in
        let here : ◌≡◌ {A = Option PageValue} (Some w) None = sym
        (ap (λ (n : ℕ). get_or (set copies (page - 16) (Some w)) n None) place ∙ get_or-set_same copies (page - 16) (Some w) None inside) ∙ e in
        absurd (cc))
    | inr other ↦ h.touched p l u (sym (away p l other.1) ∙ e)
  ];
}
  where
    w : PageValue
    w = unwrap_or (copy_of copies page) (value pages log (length log) page)

    inside : page - 16 < length copies
    inside = let s = h.slots in omega arith

    away : (p : ℕ) → 16 ≤ p → (p ≡ page → ⊥) → copy_of (with_copy page w copies) p ≡ copy_of copies p
    away p l other = get_or-set_other copies (page - 16) (p - 16) (Some w) None (λ e. other (omega arith))

-- records for which there are copies
pub added-effective : (pages : ℕ) (log buffer new : List Record) (copies : Copies) → AreEffective pages log buffer copies → AreProper pages (log ++ (buffer ++ new)) → HaveCopiesFor pages copies new
    → AreEffective pages log (buffer ++ new) (copies_after_all pages (length log + length buffer + 1) new copies)
added-effective pages log buffer new copies h proper have = record {
  slots = after_all_length pages first new copies ∙ h.slots;
  values = λ page v low high e. by_copy page v low high (copy_of copies page) refl (sym (at page low) ∙ e);
  touched = λ page low high e. by_none page low high (copy_of copies page) refl (sym (at page low) ∙ e);
}
  where
    first : ℕ
    first = length log + length buffer + 1

    whole : List Record
    whole = log ++ (buffer ++ new)

    at : (page : ℕ) → 16 ≤ page → copy_of (copies_after_all pages first new copies) page ≡ option_map (page_after_all pages first new page) (copy_of copies page)
    at page low = after_all_at pages first new copies (page - 16) ∙ ap (λ (p : ℕ). option_map (page_after_all pages first new p) (copy_of copies page)) (omega arith)

    by_copy : (page : ℕ) (v : PageValue) → 16 ≤ page → page < 16 + pages → (o : Option PageValue) → copy_of copies page ≡ o → option_map (page_after_all pages first new page) o ≡ Some v
        → v ≡ value pages whole (length whole) page
    by_copy page v low high None e is = absurd (cc)
    by_copy page v low high (Some u) e is =
        let made : page_after_all pages first new page u ≡ v = cc in
        let split : whole ≡ (log ++ buffer) ++ new = sym (append_assoc log buffer new) in
        let long : length log + length buffer ≡ length (log ++ buffer) = sym (length-append log buffer) in
        let before : u ≡ value pages whole (length log + length buffer) page =
        h.values page u low high e
        ∙ sym ((λ i. value pages (split i) (long i) page) ∙ value-front pages (length (log ++ buffer)) page (log ++ buffer) new (omega arith)) in
        sym made ∙ along pages page (length log + length buffer) whole (log ++ buffer) new u low high proper split long before
        ∙ ap (λ (m : ℕ). value pages whole m page) (omega (arith, length-append log (buffer ++ new), length-append buffer new))

    by_none : (page : ℕ) → 16 ≤ page → page < 16 + pages → (o : Option PageValue) → copy_of copies page ≡ o → option_map (page_after_all pages first new page) o ≡ None
        → list_any (touches pages page) (buffer ++ new) ≡ false
    by_none page low high None e is = list_any-append (touches pages page) buffer new ∙ ap₂ (λ (a b : Bool). a || b) (h.touched page low high e) (have page low high e)
    by_none page low high (Some u) e is = absurd (cc)

-- the buffer is hardened
pub hardened-effective : (pages : ℕ) (log buffer : List Record) (copies : Copies) → AreEffective pages log buffer copies → AreEffective pages (log ++ buffer) [] copies
hardened-effective pages log buffer copies h = record {
  slots = h.slots;
  values = λ page v low high e. h.values page v low high e ∙ (let same = sym (append-nil (log ++ buffer)) in λ i. value pages (same i) (length (same i)) page);
  touched = λ page low high e. refl;
}
