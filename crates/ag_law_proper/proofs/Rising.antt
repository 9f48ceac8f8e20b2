-- The terms of a log rise.
use Rattle.std.proofs.Common.{◌≡◌, ℕ, ◌+◌, ◌<◌, List, [], ◌∷◌, ◌++◌, length, map, false, refl, sym, ap, ◌∙◌, subst, arith, append_assoc, length-append}
use Rattle.std.specs.Prelude.{nat_lt}
use Rattle.std.specs.List.{flat_map, enumerate_from}
use Rattle.std.proofs.lemmas.Bool.{ltb-true, false≢true}
use Rattle.ag_model.specs.declared.record.Record.{Record}
use Rattle.ag_model.specs.declared.record.Record.TheVariants.{Put, Del, Commit, Abort, Trim, Term}
use Rattle.ag_model.specs.declared.config.TermStart.{TermStart}
use Rattle.ag_model.specs.declared.event.Pair.{Pair}
use Rattle.ag_model.specs.Starts.{last_term, start_by}
use Rattle.ag_model.specs.Proper.{RisesFrom, terms}
use Rattle.ag_model.specs.Txns.{open_in}
use Rattle.ag_rules.specs.PutEvent.{record_of}
use Rattle.ag_rules.specs.CommitEvent.{end_record}
use Rattle.ag_rules.specs.SetEvent.{records_of_set, pages_of_pairs}
use Rattle.ag_rules.specs.Promotion.{promotion_records, abort_of}
use Rattle.ag_lists.proofs.Tests.{if_has}
use Rattle.ag_lists.proofs.Each.{all_append, all_middle}
use Rattle.ag_laws.specs.At.{NoTerm, is_term}
use Rattle.ag_laws.proofs.Grow.{last_quiet, last_begun}
use Rattle.ag_laws.proofs.Plain.{change_quiet, end_quiet, puts_quiet}
use Rattle.ag_laws.proofs.Promoted.{aborts_quiet}
use Rattle.ag_law_proper.specs.Growth.{Lead, Steps, Same, Hardens, Opens, Changes, Closes, Ends, Sets, Trims}
use Rattle.ag_law_proper.specs.Law.{Law}
use Rattle.ag_law_proper.specs.Places.{EachPlace}
use Rattle.ag_law_proper.proofs.Splits.{each_none, each_shorter, each_append, each_one}

-- a record that starts a term starts a later one than those before
abbrev pub TermPlace : List Record → Record → List Record → Type 0
TermPlace front r back = (t : ℕ) → r ≡ Term t → last_term front < t

-- records that start no term go on a log
goes_termless : (log new : List Record) → NoTerm new → EachPlace TermPlace log → EachPlace TermPlace (log ++ new)
goes_termless log new none all =
    each_append TermPlace log new (λ front r back e q. q)
    (λ first r back e t is. absurd (false≢true (sym (all_middle (λ x. is_term x ≡ false) first r back (subst (λ (l : List Record). NoTerm l) e none)) ∙ ap is_term is))) all

pub set_termless : (pages txn : ℕ) (pairs : List Pair) → NoTerm (records_of_set pages txn pairs)
set_termless pages txn pairs = all_append _ (map (λ (pair : Pair). Put txn pair.key pair.value) pairs) (Commit txn (pages_of_pairs pages pairs) ∷ []) (puts_quiet txn pairs) (refl, tt)

step_rises : (pages : ℕ) (a b : Lead) → Steps pages a b → EachPlace TermPlace a.log → EachPlace TermPlace b.log
step_rises pages a b (Same e) p = subst (λ (x : Lead). EachPlace TermPlace x.log) (sym e) p
step_rises pages a b (Hardens e) p = subst (λ (x : Lead). EachPlace TermPlace x.log) (sym e) p
step_rises pages a b (Opens snapshot e) p = subst (λ (x : Lead). EachPlace TermPlace x.log) (sym e) p
step_rises pages a b (Changes txn key c is_open room fits e) p = subst (λ (x : Lead). EachPlace TermPlace x.log) (sym e) (goes_termless a.log (record_of txn key c ∷ []) (change_quiet txn key c) p)
step_rises pages a b (Closes txn none e) p = subst (λ (x : Lead). EachPlace TermPlace x.log) (sym e) p
step_rises pages a b (Ends commits txn ps is_open is fits e) p = subst (λ (x : Lead). EachPlace TermPlace x.log) (sym e) (goes_termless a.log (end_record commits txn ps ∷ []) (end_quiet commits txn ps) p)
step_rises pages a b (Sets pairs room fits e) p = subst (λ (x : Lead). EachPlace TermPlace x.log) (sym e) (goes_termless a.log (records_of_set pages (a.last_txn + 1) pairs) (set_termless pages (a.last_txn + 1) pairs) p)
step_rises pages a b (Trims page horizon low fits e) p = subst (λ (x : Lead). EachPlace TermPlace x.log) (sym e) (goes_termless a.log (Trim page horizon ∷ []) (refl, tt) p)

taken_rises : (pages term : ℕ) (log : List Record) → EachPlace TermPlace log → EachPlace TermPlace (log ++ promotion_records pages term log)
unfolding promotion_records
taken_rises pages term log p =
    let aborts : List Record = map (abort_of pages log) (open_in log) in
    if_has (λ (l : List Record). EachPlace TermPlace (log ++ (l ++ aborts))) (nat_lt (last_term log) term) (Term term ∷ []) []
    (λ y. subst (EachPlace TermPlace) (append_assoc log (Term term ∷ []) aborts)
    (goes_termless (log ++ Term term ∷ []) aborts (aborts_quiet pages log (open_in log))
    (each_one TermPlace log (Term term) (λ front r back e q. q) (λ t e. let same : term ≡ t = cc in omega (arith, ltb-true (last_term log) term y, same)) p)))
    (λ _. goes_termless log aborts (aborts_quiet pages log (open_in log)) p)

pub rise_law : (pages : ℕ) → Law pages (EachPlace TermPlace) (λ x. EachPlace TermPlace x.log)
rise_law pages = record {
  none = each_none TermPlace;
  shorter = each_shorter TermPlace (λ front r back more q. q);
  log = λ x p. p;
  first = each_one TermPlace [] (Term 1) (λ front r back e q. q) (λ t e. let same : 1 ≡ t = cc in omega (arith, same)) (each_none TermPlace);
  steps = step_rises pages;
  takes = λ term log low p. taken_rises pages term log p;
}

-- the terms of the records from one on
abbrev terms_from : ℕ → List Record → List ℕ
terms_from k rest = flat_map (λ (s : TermStart). s.term ∷ []) (flat_map (λ r. start_by r.0 r.1) (enumerate_from k rest))

pub rising_terms : (log : List Record) → EachPlace TermPlace log → RisesFrom 0 (terms log)
rising_terms log all = from [] log refl
  where
    next : (front : List Record) (r : Record) (rest : List Record) → log ≡ front ++ r ∷ rest → log ≡ (front ++ r ∷ []) ++ rest
    next front r rest e = e ∙ sym (append_assoc front (r ∷ []) rest)

    quiet : (front : List Record) (r : Record) (rest : List Record) → NoTerm (r ∷ []) → RisesFrom (last_term (front ++ r ∷ [])) (terms_from (length (front ++ r ∷ []) + 1) rest) → RisesFrom (last_term front) (terms_from (length front + 1 + 1) rest)
    quiet front r rest none p =
        subst (λ (n : ℕ). RisesFrom (last_term front) (terms_from (n + 1) rest)) (length-append front (r ∷ []))
        (subst (λ (t : ℕ). RisesFrom t (terms_from (length (front ++ r ∷ []) + 1) rest)) (last_quiet front (r ∷ []) none) p)

    from : (front rest : List Record) → log ≡ front ++ rest → RisesFrom (last_term front) (terms_from (length front + 1) rest)
    from front [] e = tt
    from front (Term t ∷ rest) e = (
      all front (Term t) rest e t refl,
      subst (λ (n : ℕ). RisesFrom t (terms_from (n + 1) rest)) (length-append front (Term t ∷ []))
          (subst (λ (u : ℕ). RisesFrom u (terms_from (length (front ++ Term t ∷ []) + 1) rest)) (last_begun front [] t tt) (from (front ++ Term t ∷ []) rest (next front (Term t) rest e))),
    )
    from front (Put t k v ∷ rest) e = quiet front (Put t k v) rest (refl, tt) (from (front ++ Put t k v ∷ []) rest (next front (Put t k v) rest e))
    from front (Del t k ∷ rest) e = quiet front (Del t k) rest (refl, tt) (from (front ++ Del t k ∷ []) rest (next front (Del t k) rest e))
    from front (Commit t ps ∷ rest) e = quiet front (Commit t ps) rest (refl, tt) (from (front ++ Commit t ps ∷ []) rest (next front (Commit t ps) rest e))
    from front (Abort t ps ∷ rest) e = quiet front (Abort t ps) rest (refl, tt) (from (front ++ Abort t ps ∷ []) rest (next front (Abort t ps) rest e))
    from front (Trim p h ∷ rest) e = quiet front (Trim p h) rest (refl, tt) (from (front ++ Trim p h ∷ []) rest (next front (Trim p h) rest e))
