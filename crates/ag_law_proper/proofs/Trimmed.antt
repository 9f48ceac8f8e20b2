-- The horizon of each Trim lies below its own LSN.
use Rattle.std.proofs.Common.{◌≡◌, ℕ, ◌+◌, List, [], ◌∷◌, ◌++◌, length, map, Bool, true, false, refl, sym, subst, arith}
use Rattle.std.specs.Prelude.{if◌then◌else◌, nat_lt}
use Rattle.std.specs.List.{AllByRecursion}
use Rattle.ag_model.specs.declared.record.Record.{Record}
use Rattle.ag_model.specs.declared.record.Record.TheVariants.{Put, Del, Commit, Abort, Trim, Term}
use Rattle.ag_model.specs.declared.value.Change.{Change}
use Rattle.ag_model.specs.declared.value.Change.TheVariants.{Put as PutChange, Del as DelChange}
use Rattle.ag_model.specs.declared.event.Pair.{Pair}
use Rattle.ag_model.specs.Starts.{last_term}
use Rattle.ag_model.specs.Txns.{open_in}
use Rattle.ag_rules.specs.PutEvent.{record_of}
use Rattle.ag_rules.specs.CommitEvent.{end_record}
use Rattle.ag_rules.specs.SetEvent.{records_of_set, pages_of_pairs}
use Rattle.ag_rules.specs.Promotion.{promotion_records, abort_of}
use Rattle.ag_lists.proofs.Tests.{if_has}
use Rattle.ag_lists.proofs.Each.{all_append, all_middle}
use Rattle.ag_law_proper.specs.Growth.{Lead, Steps, Same, Hardens, Opens, Changes, Closes, Ends, Sets, Trims}
use Rattle.ag_law_proper.specs.Law.{Law}
use Rattle.ag_law_proper.specs.Places.{EachPlace}
use Rattle.ag_law_proper.specs.Trims.{IsTrimBelow}
use Rattle.ag_law_proper.proofs.Splits.{each_none, each_shorter, each_append, each_one}

-- a record in its place
abbrev pub TrimPlace : List Record → Record → List Record → Type 0
TrimPlace front r back = IsTrimBelow (length front + 1) r

-- records that trim nothing
abbrev pub is_no_trim : Record → Bool
is_no_trim (Trim p h) = false
is_no_trim _ = true

no_trim : (lsn : ℕ) (r : Record) → is_no_trim r ≡ true → IsTrimBelow lsn r
no_trim lsn (Put t k v) e = tt
no_trim lsn (Del t k) e = tt
no_trim lsn (Commit t ps) e = tt
no_trim lsn (Abort t ps) e = tt
no_trim lsn (Trim p h) e = absurd (cc)
no_trim lsn (Term t) e = tt

-- records that trim nothing go on a log
pub goes_untrimmed : (log new : List Record) → AllByRecursion (λ r. is_no_trim r ≡ true) new → EachPlace TrimPlace log → EachPlace TrimPlace (log ++ new)
goes_untrimmed log new none all =
    each_append TrimPlace log new (λ front r back e q. q)
    (λ first r back e. no_trim (length (log ++ first) + 1) r (all_middle (λ x. is_no_trim x ≡ true) first r back (subst (AllByRecursion (λ x. is_no_trim x ≡ true)) e none))) all

change_none : (txn key : ℕ) (c : Change) → is_no_trim (record_of txn key c) ≡ true
change_none txn key (PutChange v) = refl
change_none txn key DelChange = refl

end_none : (commits : Bool) (txn : ℕ) (ps : List ℕ) → is_no_trim (end_record commits txn ps) ≡ true
end_none true txn ps = refl
end_none false txn ps = refl

puts_none : (txn : ℕ) (pairs : List Pair) → AllByRecursion (λ r. is_no_trim r ≡ true) (map (λ (pair : Pair). Put txn pair.key pair.value) pairs)
puts_none txn [] = tt
puts_none txn (p ∷ ps) = (refl, puts_none txn ps)

aborts_none : (pages : ℕ) (log : List Record) (ts : List ℕ) → AllByRecursion (λ r. is_no_trim r ≡ true) (map (abort_of pages log) ts)
aborts_none pages log [] = tt
aborts_none pages log (t ∷ ts) = (refl, aborts_none pages log ts)

step_trimmed : (pages : ℕ) (a b : Lead) → Steps pages a b → EachPlace TrimPlace a.log → EachPlace TrimPlace b.log
step_trimmed pages a b (Same e) p = subst (λ (x : Lead). EachPlace TrimPlace x.log) (sym e) p
step_trimmed pages a b (Hardens e) p = subst (λ (x : Lead). EachPlace TrimPlace x.log) (sym e) p
step_trimmed pages a b (Opens snapshot e) p = subst (λ (x : Lead). EachPlace TrimPlace x.log) (sym e) p
step_trimmed pages a b (Changes txn key c is_open room fits e) p = subst (λ (x : Lead). EachPlace TrimPlace x.log) (sym e) (goes_untrimmed a.log (record_of txn key c ∷ []) (change_none txn key c, tt) p)
step_trimmed pages a b (Closes txn none e) p = subst (λ (x : Lead). EachPlace TrimPlace x.log) (sym e) p
step_trimmed pages a b (Ends commits txn ps is_open is fits e) p = subst (λ (x : Lead). EachPlace TrimPlace x.log) (sym e) (goes_untrimmed a.log (end_record commits txn ps ∷ []) (end_none commits txn ps, tt) p)
step_trimmed pages a b (Sets pairs room fits e) p =
    subst (λ (x : Lead). EachPlace TrimPlace x.log) (sym e)
    (goes_untrimmed a.log (records_of_set pages (a.last_txn + 1) pairs) (all_append _ (map (λ (pair : Pair). Put (a.last_txn + 1) pair.key pair.value) pairs) (Commit (a.last_txn + 1) (pages_of_pairs pages pairs) ∷ []) (puts_none (a.last_txn + 1) pairs) (refl, tt)) p)
step_trimmed pages a b (Trims page horizon low fits e) p =
    subst (λ (x : Lead). EachPlace TrimPlace x.log) (sym e) (each_one TrimPlace a.log (Trim page horizon) (λ front r back e q. q) (omega (arith, low)) p)

taken_trimmed : (pages term : ℕ) (log : List Record) → EachPlace TrimPlace log → EachPlace TrimPlace (log ++ promotion_records pages term log)
unfolding promotion_records
taken_trimmed pages term log p =
    goes_untrimmed log _ (all_append (λ (r : Record). is_no_trim r ≡ true) (if nat_lt (last_term log) term then Term term ∷ [] else []) (map (abort_of pages log) (open_in log))
    (if_has (AllByRecursion (λ (r : Record). is_no_trim r ≡ true)) (nat_lt (last_term log) term) (Term term ∷ []) [] (λ _. (refl, tt)) (λ _. tt)) (aborts_none pages log (open_in log))) p

pub trim_law : (pages : ℕ) → Law pages (EachPlace TrimPlace) (λ x. EachPlace TrimPlace x.log)
trim_law pages = record {
  none = each_none TrimPlace;
  shorter = each_shorter TrimPlace (λ front r back more q. q);
  log = λ x p. p;
  first = each_one TrimPlace [] (Term 1) (λ front r back e q. q) tt (each_none TrimPlace);
  steps = step_trimmed pages;
  takes = λ term log low p. taken_trimmed pages term log p;
}
