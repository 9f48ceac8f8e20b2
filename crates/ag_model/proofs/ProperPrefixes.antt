-- A prefix of a proper log is proper.
use Rattle.std.proofs.Common.{◌≡◌, ℕ, ◌+◌, ◌-◌, ◌<◌, ◌≤◌, Bool, true, false, eqb, leb, List, [], ◌∷◌, ◌++◌, length, get_or, take, drop, refl, sym, ap, subst, ◌∙◌, inl, inr, arith}
use Rattle.std.specs.Prelude.{Some, None, nat_le}
use Rattle.std.specs.List.{AllByRecursion, enumerate_from, filter, flat_map, list_any}
use Rattle.std.proofs.lemmas.Bool.{cases_Bool, or_cases, or_left, or_right, false≢true, false_from_ne_true, leb-true, leb-false, eqb-true, eq-eqb}
use Rattle.std.proofs.lemmas.List.{append_assoc, append-nil, length-take, take-take, take_all, take_at, take-append-drop, drop-take, get_or-take}
use Rattle.std.proofs.lemmas.Grind.{flat_map-append}
use Rattle.std.proofs.lemmas.List.Elements.{filter-append, All-from_recursion, recursion_from_All}
use Rattle.std.proofs.lemmas.List.FromFn.{get_or-enumerate_from, length-enumerate_from}
use Rattle.ag_model.specs.declared.config.TermStart.{TermStart}
use Rattle.ag_model.specs.declared.record.Log.{Log}
use Rattle.ag_model.specs.declared.record.Record.{Record}
use Rattle.ag_model.specs.declared.record.Record.TheVariants.{Put, Del, Commit, Abort, Trim, Term}
use Rattle.ag_model.specs.Blocks.{with_block, cut_at}
use Rattle.ag_model.specs.Page.{numbered, value}
use Rattle.ag_model.specs.Prefixes.{end_of, IsBlockEnd, IsPrefix}
use Rattle.ag_model.specs.Proper.{IsProper, IsRecordOf, IsEnd, RisesFrom, terms}
use Rattle.ag_model.specs.Rows.{contains}
use Rattle.ag_model.specs.Sizes.{versions_size}
use Rattle.ag_model.specs.Starts.{start_by}
use Rattle.ag_model.specs.Txns.{txn_of, pages_of}
use Rattle.ag_model.proofs.Prefixes.{taken_value, end_last, end_low, end_positive, whole_ends, cut_length}
use Rattle.ag_model.proofs.Rising.{rises-filter, rises-above, rises-first, last-cut, not-leb}

-- the terms of records that stand from this LSN on
abbrev terms_from : ℕ → List Record → List ℕ
terms_from k log = flat_map (λ (s : TermStart). s.term ∷ []) (flat_map (λ (r : ℕ × Record). start_by r.0 r.1) (enumerate_from k log))

terms-first : (k : ℕ) (xs ys : List Record) → (rest : List ℕ) × (terms_from k xs ++ rest ≡ terms_from k (xs ++ ys))
terms-first k [] ys = (terms_from k ys, refl)
terms-first k (x ∷ xs) ys =
    let ih = terms-first (k + 1) xs ys in
    let here = flat_map (λ (s : TermStart). s.term ∷ []) (start_by k x) in
    let step : (zs : List Record) → terms_from k (x ∷ zs) ≡ here ++ terms_from (k + 1) zs
    = λ zs. flat_map-append (λ (s : TermStart). s.term ∷ []) (start_by k x) (flat_map (λ (r : ℕ × Record). start_by r.0 r.1) (enumerate_from (k + 1) zs)) in
    (ih.0, ap (λ z. z ++ ih.0) (step xs) ∙ append_assoc here (terms_from (k + 1) xs) ih.0 ∙ ap (λ z. here ++ z) ih.1 ∙ sym (step (xs ++ ys)))

terms-taken : (n : ℕ) (log : List Record) → RisesFrom 0 (terms log) → RisesFrom 0 (terms (take n log))
terms-taken n log h =
    let first = terms-first 1 (take n log) (drop n log) in
    rises-first 0 (terms (take n log)) first.0 (subst (RisesFrom 0) (sym (first.1 ∙ ap (terms_from 1) (take-append-drop n log))) h)

none-taken : (p : Record → Bool) (n : ℕ) (log : List Record) → list_any p log ≡ false → list_any p (take n log) ≡ false
none-taken p n log e = false_from_ne_true (list_any p (take n log)) (λ t. false≢true (sym e ∙ ap (list_any p) (sym (take-append-drop n log)) ∙ found (take n log) (drop n log) t))
  where
    found : (xs ys : List Record) → list_any p xs ≡ true → list_any p (xs ++ ys) ≡ true
    found [] ys t = cc
    found (x ∷ xs) ys t = elim (or_cases (p x) (list_any p xs) t) [
      | inl a ↦ or_left (p x) (list_any p (xs ++ ys)) a
      | inr b ↦ or_right (p x) (list_any p (xs ++ ys)) (found xs ys b)
    ]

end-taken : (pages n lsn txn : ℕ) (log : List Record) (listed : List ℕ) → lsn ≤ n → IsEnd pages log lsn txn listed → IsEnd pages (take n log) lsn txn listed
end-taken pages n lsn txn log listed le h =
    let m = n - lsn in
    let e : n ≡ lsn + m = omega arith in
    let cut : drop lsn (take n log) ≡ take m (drop lsn log) = ap (λ (k : ℕ). drop lsn (take k log)) e ∙ drop-take lsn m log in (
      ap (list_any (λ r. contains txn (txn_of r))) cut ∙ none-taken (λ r. contains txn (txn_of r)) m (drop lsn log) h.0,
      h.1 ∙ ap (pages_of pages txn) (sym (take-take (lsn - 1) n log (omega arith))),
    )

record-taken : (pages n lsn : ℕ) (log : List Record) (r : Record) → lsn ≤ n → IsRecordOf pages log lsn r → IsRecordOf pages (take n log) lsn r
record-taken pages n lsn log (Put txn key value) le h = tt
record-taken pages n lsn log (Del txn key) le h = tt
record-taken pages n lsn log (Commit txn listed) le h = end-taken pages n lsn txn log listed le h
record-taken pages n lsn log (Abort txn listed) le h = end-taken pages n lsn txn log listed le h
record-taken pages n lsn log (Trim page horizon) le h = h
record-taken pages n lsn log (Term term) le h = tt

each-taken : (pages n : ℕ) (log : List Record) → n ≤ length log → AllByRecursion (λ r. IsRecordOf pages log r.0 r.1) (numbered log) → AllByRecursion (λ r. IsRecordOf pages (take n log) r.0 r.1) (numbered (take n log))
each-taken pages n log le h =
    let each = All-from_recursion (λ r. IsRecordOf pages log r.0 r.1) (numbered log) h in
    recursion_from_All (λ r. IsRecordOf pages (take n log) r.0 r.1) (numbered (take n log)) (λ i d below.
    let lt : i < n = omega (arith, below, length-enumerate_from 1 (take n log), length-take n log) in
    let at : get_or (numbered log) i d ≡ (1 + i, get_or log i d.1) = get_or-enumerate_from 1 log i d (omega arith) in
    let here : get_or (numbered (take n log)) i d ≡ (1 + i, get_or (take n log) i d.1) = get_or-enumerate_from 1 (take n log) i d (omega (arith, length-take n log)) in
    let same : get_or (take n log) i d.1 ≡ get_or log i d.1 = get_or-take n log i d.1 lt in
    let old = subst (λ (r : ℕ × Record). IsRecordOf pages log r.0 r.1) at (each i d (omega (arith, length-enumerate_from 1 log))) in
    subst (λ (r : ℕ × Record). IsRecordOf pages (take n log) r.0 r.1) (sym (here ∙ ap (λ (r : Record). (1 + i, r)) same)) (record-taken pages n (1 + i) log (get_or log i d.1) (omega arith) old))

room-taken : (pages n k page : ℕ) (log : List Record) → ((k page : ℕ) → versions_size (value pages log k page).versions ≤ 8144) → versions_size (value pages (take n log) k page).versions ≤ 8144
unfolding value
room-taken pages n k page log h = elim (cases_Bool (leb k n)) [
  | inl t ↦ subst (λ (rs : List Record). versions_size (taken_value pages page rs).versions ≤ 8144) (sym (take-take k n log (leb-true k n t))) (h k page)
  | inr f ↦ subst (λ (rs : List Record). versions_size (taken_value pages page rs).versions ≤ 8144) (sym (take_all k (take n log) (omega (arith, leb-false k n f, length-take n log)))) (h n page)
]

pub cut_proper : (pages : ℕ) (log : Log) (n : ℕ) → IsProper pages log → IsBlockEnd log n → IsProper pages (cut_at n log)
cut_proper pages log n p e =
    let low = end_positive pages log n p e in
    let high = end_low pages log n p e in
    let most = p.most in
    let long = cut_length pages log n p e in
    record {
      first = take-take 1 n log.records (omega arith) ∙ p.first;
      terms = terms-taken n log.records p.terms;
      each = each-taken pages n log.records high p.each;
      room = λ k page. room-taken pages n k page log.records p.room;
      ends = rises-filter (λ e. nat_le e n) 0 log.ends p.ends;
      last = last-cut n 0 None log.ends p.ends e ∙ ap Some (sym long);
      most = omega arith;
    }

-- a prefix that has a record is proper
pub prefix_proper : (pages : ℕ) (a log : Log) → IsProper pages log → IsPrefix a log → 0 < end_of a → IsProper pages a
prefix_proper pages a log p h lt = subst (IsProper pages) (sym h.cut) (cut_proper pages log (end_of a) p (elim (or_cases (eqb (end_of a) 0) (contains (end_of a) log.ends) h.end) [
  | inl t ↦ (let z = eqb-true (end_of a) 0 t in absurd (omega arith))
  | inr r ↦ r
]))

contains-first : (n : ℕ) (es fs : List ℕ) → contains n es ≡ true → contains n (es ++ fs) ≡ true
contains-first n [] fs c = cc
contains-first n (e ∷ es) fs c = elim (or_cases (eqb n e) (contains n es) c) [
  | inl t ↦ or_left (eqb n e) (contains n (es ++ fs)) t
  | inr r ↦ or_right (eqb n e) (contains n (es ++ fs)) (contains-first n es fs r)
]

contains-last : (n : ℕ) (es : List ℕ) → contains n (es ++ n ∷ []) ≡ true
contains-last n [] = or_left (eqb n n) false (eq-eqb n n refl)
contains-last n (e ∷ es) = or_right (eqb n e) (contains n (es ++ n ∷ [])) (contains-last n es)

below-last : (low n m : ℕ) (es : List ℕ) → RisesFrom low (es ++ m ∷ []) → contains n es ≡ true → n < m
below-last low n m [] h c = cc
below-last low n m (e ∷ es) h c = elim (or_cases (eqb n e) (contains n es) c) [
  | inl t ↦ omega (arith, eqb-true n e t, rises-above e m (es ++ m ∷ []) h.1 (contains-last m es))
  | inr r ↦ below-last e n m es h.1 r
]

-- a log is a prefix of it with one more block
pub prefix_more : (pages : ℕ) (log : Log) (new : List Record) → IsProper pages log → IsProper pages (with_block log new) → IsPrefix log (with_block log new)
prefix_more pages log new p q =
    let n = end_of log in
    let m = n + length new in
    let e = end_last pages log p in
    let f = not-leb m n (below-last 0 n m log.ends q.ends e) in
    record {
      end = or_right (eqb n 0) (contains n (log.ends ++ m ∷ [])) (contains-first n log.ends (m ∷ []) e);
      cut = λ i. record {
        records = sym (take_at log.records new n refl) i;
        ends = sym (filter-append (λ e. nat_le e n) log.ends (m ∷ []) ∙ ap (λ z. z ++ filter (λ e. nat_le e n) (m ∷ [])) (whole_ends n log.ends p.ends p.last) ∙ none f) i;
      };
    }
  where
    none : leb (end_of log + length new) (end_of log) ≡ false → log.ends ++ filter (λ e. nat_le e (end_of log)) ((end_of log + length new) ∷ []) ≡ log.ends
    none f = rw f (append-nil log.ends)
