-- Each Put and Del found room on its page, in each log of each run.
use Rattle.std.specs.Prelude.{if◌then◌else◌}
use Rattle.std.proofs.Common.{◌≡◌, ℕ, zero, suc, ◌+◌, ◌≤◌, List, [], ◌∷◌, ◌++◌, map, take, Bool, true, false, refl, sym, ap, ◌∙◌, subst, arith, append_assoc}
use Rattle.std.specs.Prelude.{◌==◌, nat_lt}
use Rattle.std.specs.List.{AllByRecursion, filter, sum_by}
use Rattle.std.proofs.lemmas.Bool.{eqb-true, eqb-false}
use Rattle.std.proofs.lemmas.List.{append-nil}
use Rattle.std.proofs.lemmas.List.Sums.{sum_by-append}
use Rattle.std.proofs.lemmas.List.Elements.{filter-append}
use Rattle.ag_model.specs.declared.record.Record.{Record}
use Rattle.ag_model.specs.declared.record.Record.TheVariants.{Put, Del, Commit, Abort, Trim, Term}
use Rattle.ag_model.specs.declared.value.Change.{Change}
use Rattle.ag_model.specs.declared.value.Change.TheVariants.{Put as PutChange, Del as DelChange}
use Rattle.ag_model.specs.declared.event.Pair.{Pair}
use Rattle.ag_model.specs.Rows.{page_of}
use Rattle.ag_model.specs.Sizes.{change_size}
use Rattle.ag_model.specs.Starts.{last_term}
use Rattle.ag_model.specs.Txns.{open_in}
use Rattle.ag_rules.specs.PutEvent.{record_of}
use Rattle.ag_rules.specs.CommitEvent.{end_record}
use Rattle.ag_rules.specs.SetEvent.{pages_of_pairs, taken_on, pair_size}
use Rattle.ag_rules.specs.Promotion.{promotion_records, abort_of}
use Rattle.ag_lists.proofs.Tests.{by_bool, if_has}
use Rattle.ag_lists.proofs.Each.{all_append, all_middle}
use Rattle.ag_law_proper.specs.Growth.{Lead, Steps, Same, Hardens, Opens, Changes, Closes, Ends, Sets, Trims, PairsFit, free_on}
use Rattle.ag_law_proper.specs.Law.{Law}
use Rattle.ag_law_proper.specs.Places.{EachPlace}
use Rattle.ag_law_proper.proofs.Splits.{each_none, each_shorter, each_append, each_one}
use Rattle.ag_law_proper.proofs.Both.{ProperLog, ProperLead, proper_law, proper_records}
use Rattle.ag_law_proper.proofs.Ended.{puts}
use Rattle.ag_law_room.specs.Room.{HasRoom, PutPlace}
use Rattle.ag_law_room.proofs.Sizes.{size_of, adds, free_is, value_size, size_step}

-- records that put nothing
abbrev is_no_put : Record → Bool
is_no_put (Put t k v) = false
is_no_put (Del t k) = false
is_no_put _ = true

no_put : (pages : ℕ) (front : List Record) (r : Record) (back : List Record) → is_no_put r ≡ true → PutPlace pages front r back
no_put pages front (Put t k v) back e = absurd (cc)
no_put pages front (Del t k) back e = absurd (cc)
no_put pages front (Commit t ps) back e = tt
no_put pages front (Abort t ps) back e = tt
no_put pages front (Trim p h) back e = tt
no_put pages front (Term t) back e = tt

-- what comes after a record doesn't matter
any_after : (pages : ℕ) (front : List Record) (r : Record) (back more : List Record) → PutPlace pages front r back → PutPlace pages front r more
any_after pages front (Put t k v) back more p = p
any_after pages front (Del t k) back more p = p
any_after pages front (Commit t ps) back more p = tt
any_after pages front (Abort t ps) back more p = tt
any_after pages front (Trim q h) back more p = tt
any_after pages front (Term t) back more p = tt

goes_unput : (pages : ℕ) (log new : List Record) → AllByRecursion (λ r. is_no_put r ≡ true) new → EachPlace (PutPlace pages) log → EachPlace (PutPlace pages) (log ++ new)
goes_unput pages log new none all =
    each_append (PutPlace pages) log new (λ front r back e p. any_after pages front r back (back ++ new) p)
    (λ first r back e. no_put pages (log ++ first) r back (all_middle (λ x. is_no_put x ≡ true) first r back (subst (AllByRecursion (λ x. is_no_put x ≡ true)) e none))) all

one_put : (pages : ℕ) (log : List Record) (r : Record) → PutPlace pages log r [] → EachPlace (PutPlace pages) log → EachPlace (PutPlace pages) (log ++ r ∷ [])
one_put pages log r here all = each_one (PutPlace pages) log r (λ front x back e p. any_after pages front x back (back ++ r ∷ []) p) here all

change_place : (pages : ℕ) (log : List Record) (txn key : ℕ) (c : Change) → change_size c ≤ free_on pages log (page_of pages key) → PutPlace pages log (record_of txn key c) []
change_place pages log txn key (PutChange v) h = h
change_place pages log txn key DelChange h = h

end_unput : (commits : Bool) (txn : ℕ) (ps : List ℕ) → is_no_put (end_record commits txn ps) ≡ true
end_unput true txn ps = refl
end_unput false txn ps = refl

aborts_unput : (pages : ℕ) (log : List Record) (ts : List ℕ) → AllByRecursion (λ r. is_no_put r ≡ true) (map (abort_of pages log) ts)
aborts_unput pages log [] = tt
aborts_unput pages log (t ∷ ts) = (refl, aborts_unput pages log ts)

eqb_turn : (x y : ℕ) → (x == y) ≡ true → (y == x) ≡ true
eqb_turn x y e = by_bool (y == x) (λ v. (y == x) ≡ v → v ≡ true) (λ _ _. refl) (λ _ f. absurd (eqb-false y x f (sym (eqb-true x y e)))) refl

-- one pair more takes what its Put adds
taken_push : (pages p txn : ℕ) (earlier : List Pair) (pair : Pair) → taken_on pages p earlier + adds pages p (Put txn pair.key pair.value) ≤ taken_on pages p (earlier ++ pair ∷ [])
taken_push pages p txn earlier pair =
    let f : Pair → Bool = λ (x : Pair). page_of pages x.key == p in
    let e : taken_on pages p (earlier ++ pair ∷ []) ≡ sum_by pair_size (filter f earlier) + sum_by pair_size (if f pair then pair ∷ [] else []) = ap (sum_by pair_size) (filter-append f earlier (pair ∷ [])) ∙ sum_by-append pair_size (filter f earlier) (if f pair then pair ∷ [] else []) in
    by_bool (p == page_of pages pair.key) (λ b. (p == page_of pages pair.key) ≡ b → taken_on pages p earlier + (if b then 30 + pair.value.len else 0) ≤ taken_on pages p (earlier ++ pair ∷ []))
    (λ _ y.
    let one : sum_by pair_size (if f pair then pair ∷ [] else []) ≡ 0 + pair_size pair = ap (λ b. sum_by pair_size (if b then pair ∷ [] else [])) (eqb_turn p (page_of pages pair.key) y) in
    omega (arith, e, one))
    (λ _ y. omega (arith, e))
    refl

-- the puts of a transaction, one by one, where the whole log after them is proper
puts_found : (pages txn : ℕ) (log acc : List Record) (earlier pairs : List Pair) (last : Record) → is_no_put last ≡ true → ProperLog pages (acc ++ (puts txn pairs ++ last ∷ [])) → ((p : ℕ) → size_of pages p acc ≤ size_of pages p log + taken_on pages p earlier)
    → PairsFit pages log earlier pairs → EachPlace (PutPlace pages) acc → EachPlace (PutPlace pages) (acc ++ (puts txn pairs ++ last ∷ []))
puts_found pages txn log acc earlier [] last none proper low fit all = one_put pages acc last (no_put pages acc last [] none) all
puts_found pages txn log acc earlier (pair ∷ pairs) last none proper low fit all =
    let r : Record = Put txn pair.key pair.value in
    let p : ℕ = page_of pages pair.key in
    let rest : List Record = puts txn pairs ++ last ∷ [] in
    let whole : ProperLog pages ((acc ++ r ∷ []) ++ rest) = subst (ProperLog pages) (sym (append_assoc acc (r ∷ []) rest)) proper in
    let front : ProperLog pages (acc ++ r ∷ []) = (proper_law pages).shorter (acc ++ r ∷ []) ((acc ++ r ∷ []) ++ rest) (rest, refl) whole in
    let here : pair_size pair ≤ free_on pages acc p = omega (arith, fit.0, free_is pages p log, free_is pages p acc, low p) in
    subst (EachPlace (PutPlace pages)) (append_assoc acc (r ∷ []) rest)
    (puts_found pages txn log (acc ++ r ∷ []) (earlier ++ pair ∷ []) pairs last none whole
    (λ q. omega (arith, size_step pages q acc r (proper_records pages (acc ++ r ∷ []) front), low q, taken_push pages q txn earlier pair)) fit.1 (one_put pages acc r here all))

-- what a log of this law has, and what a primary with such a log knows
abbrev pub FoundLog : ℕ → List Record → Type 0
FoundLog pages log = ProperLog pages log × EachPlace (PutPlace pages) log

abbrev pub FoundLead : ℕ → Lead → Type 0
FoundLead pages x = ProperLead pages x × EachPlace (PutPlace pages) x.log

step_found : (pages : ℕ) (a b : Lead) → Steps pages a b → ProperLead pages b → EachPlace (PutPlace pages) a.log → EachPlace (PutPlace pages) b.log
step_found pages a b (Same e) after p = subst (λ (x : Lead). EachPlace (PutPlace pages) x.log) (sym e) p
step_found pages a b (Hardens e) after p = subst (λ (x : Lead). EachPlace (PutPlace pages) x.log) (sym e) p
step_found pages a b (Opens snapshot e) after p = subst (λ (x : Lead). EachPlace (PutPlace pages) x.log) (sym e) p
step_found pages a b (Changes txn key c is_open room fits e) after p = subst (λ (x : Lead). EachPlace (PutPlace pages) x.log) (sym e) (one_put pages a.log (record_of txn key c) (change_place pages a.log txn key c room) p)
step_found pages a b (Closes txn none e) after p = subst (λ (x : Lead). EachPlace (PutPlace pages) x.log) (sym e) p
step_found pages a b (Ends commits txn ps is_open is fits e) after p = subst (λ (x : Lead). EachPlace (PutPlace pages) x.log) (sym e) (goes_unput pages a.log (end_record commits txn ps ∷ []) (end_unput commits txn ps, tt) p)
step_found pages a b (Sets pairs room fits e) after p =
    subst (λ (x : Lead). EachPlace (PutPlace pages) x.log) (sym e)
    (puts_found pages (a.last_txn + 1) a.log a.log [] pairs (Commit (a.last_txn + 1) (pages_of_pairs pages pairs)) refl ((proper_law pages).log _ (subst (ProperLead pages) e after)) (λ q. omega arith) room p)
step_found pages a b (Trims page horizon low fits e) after p = subst (λ (x : Lead). EachPlace (PutPlace pages) x.log) (sym e) (goes_unput pages a.log (Trim page horizon ∷ []) (refl, tt) p)

taken_found : (pages term : ℕ) (log : List Record) → EachPlace (PutPlace pages) log → EachPlace (PutPlace pages) (log ++ promotion_records pages term log)
unfolding promotion_records
taken_found pages term log p =
    goes_unput pages log _ (all_append (λ (r : Record). is_no_put r ≡ true) (if nat_lt (last_term log) term then Term term ∷ [] else []) (map (abort_of pages log) (open_in log))
    (if_has (AllByRecursion (λ (r : Record). is_no_put r ≡ true)) (nat_lt (last_term log) term) (Term term ∷ []) [] (λ _. (refl, tt)) (λ _. tt)) (aborts_unput pages log (open_in log))) p

pub found_law : (pages : ℕ) → Law pages (FoundLog pages) (FoundLead pages)
found_law pages = record {
  none = ((proper_law pages).none, each_none (PutPlace pages));
  shorter = λ a b p q. ((proper_law pages).shorter a b p q.0, each_shorter (PutPlace pages) (λ front r back more x. any_after pages front r (back ++ more) back x) a b p q.1);
  log = λ x p. ((proper_law pages).log x p.0, p.1);
  first = ((proper_law pages).first, one_put pages [] (Term 1) tt (each_none (PutPlace pages)));
  steps = λ a b s p. let after : ProperLead pages b = (proper_law pages).steps a b s p.0 in (after, step_found pages a b s after p.1);
  takes = λ term log low p. ((proper_law pages).takes term log low p.0, taken_found pages term log p.1);
}

-- what a record adds, where it found room
adds_fit : (pages page : ℕ) (front : List Record) (r : Record) (back : List Record) → PutPlace pages front r back → size_of pages page front ≤ 8144 → size_of pages page front + adds pages page r ≤ 8144
adds_fit pages page front (Put t k v) back p low =
    by_bool (page == page_of pages k) (λ b. (page == page_of pages k) ≡ b → size_of pages page front + (if b then 30 + v.len else 0) ≤ 8144)
    (λ _ e.
    let same : page ≡ page_of pages k = eqb-true page (page_of pages k) e in
    let room : 30 + v.len ≤ free_on pages front page = subst (λ (q : ℕ). 30 + v.len ≤ free_on pages front q) (sym same) p in
    omega (arith, room, free_is pages page front, low))
    (λ _ e. omega (arith, low)) refl
adds_fit pages page front (Del t k) back p low =
    by_bool (page == page_of pages k) (λ b. (page == page_of pages k) ≡ b → size_of pages page front + (if b then 30 else 0) ≤ 8144)
    (λ _ e.
    let same : page ≡ page_of pages k = eqb-true page (page_of pages k) e in
    let room : 30 ≤ free_on pages front page = subst (λ (q : ℕ). 30 ≤ free_on pages front q) (sym same) p in
    omega (arith, room, free_is pages page front, low))
    (λ _ e. omega (arith, low)) refl
adds_fit pages page front (Commit t ps) back p low = omega (arith, low)
adds_fit pages page front (Abort t ps) back p low = omega (arith, low)
adds_fit pages page front (Trim q h) back p low = omega (arith, low)
adds_fit pages page front (Term t) back p low = omega (arith, low)

-- each page of each prefix has room
pub has_room : (pages : ℕ) (log : List Record) → FoundLog pages log → HasRoom pages log
has_room pages log p n page = subst (λ (s : ℕ). s ≤ 8144) (sym (value_size pages page n log)) (from [] log n refl (omega arith))
  where
    from : (front rest : List Record) (n : ℕ) → log ≡ front ++ rest → size_of pages page front ≤ 8144 → size_of pages page (front ++ take n rest) ≤ 8144
    from front rest zero e low = subst (λ (l : List Record). size_of pages page l ≤ 8144) (sym (append-nil front)) low
    from front [] (suc n) e low = subst (λ (l : List Record). size_of pages page l ≤ 8144) (sym (append-nil front)) low
    from front (r ∷ rest) (suc n) e low =
        let whole : log ≡ (front ++ r ∷ []) ++ rest = e ∙ sym (append_assoc front (r ∷ []) rest) in
        let proper : ProperLog pages (front ++ r ∷ []) = (proper_law pages).shorter (front ++ r ∷ []) log (rest, sym whole) p.0 in
        subst (λ (l : List Record). size_of pages page l ≤ 8144) (append_assoc front (r ∷ []) (take n rest))
        (from (front ++ r ∷ []) rest n whole (omega (arith, size_step pages page front r (proper_records pages (front ++ r ∷ []) proper), adds_fit pages page front r rest (p.1 front r rest e) low)))
