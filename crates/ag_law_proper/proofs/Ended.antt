-- Each transaction ends once, nothing of it stands after its end, and its end lists the pages that it touched.
use Rattle.std.specs.Prelude.{if◌then◌else◌}
use Rattle.std.proofs.Common.{◌≡◌, ◌≢◌, ℕ, ◌+◌, ◌<◌, ◌≤◌, List, [], ◌∷◌, ◌++◌, map, Bool, true, false, refl, sym, ap, ◌∙◌, subst, arith, append_assoc}
use Rattle.std.specs.Prelude.{◌==◌, ◌||◌, not, nat_lt}
use Rattle.std.specs.List.{AllByRecursion, filter, list_any}
use Rattle.std.proofs.lemmas.Bool.{eqb-true, eqb-false, or_parts, false≢true, or_right, or_from}
use Rattle.std.proofs.lemmas.List.Folds.{list_any-append}
use Rattle.std.proofs.lemmas.List.{append-nil}
use Rattle.ag_model.specs.declared.record.Record.{Record}
use Rattle.ag_model.specs.declared.record.Record.TheVariants.{Put, Del, Commit, Abort, Trim, Term}
use Rattle.ag_model.specs.declared.value.Change.{Change}
use Rattle.ag_model.specs.declared.value.Change.TheVariants.{Put as PutChange, Del as DelChange}
use Rattle.ag_model.specs.declared.event.Pair.{Pair}
use Rattle.ag_model.specs.Starts.{last_term}
use Rattle.ag_model.specs.Txns.{is_end_of, txn_of, pages_of, open_in, last_txn}
use Rattle.ag_rules.specs.Replica.{OpenTxn}
use Rattle.ag_rules.specs.PutEvent.{record_of}
use Rattle.ag_rules.specs.CommitEvent.{end_record}
use Rattle.ag_rules.specs.SetEvent.{records_of_set, pages_of_pairs}
use Rattle.ag_rules.specs.Promotion.{promotion_records, abort_of}
use Rattle.ag_lists.proofs.Tests.{by_bool, if_has}
use Rattle.ag_lists.proofs.Each.{all_map}
use Rattle.ag_law_proper.specs.Growth.{Lead, Steps, Same, Hardens, Opens, Changes, Closes, Ends, Sets, Trims, is_open_in, closed, with_whole, longer_by, opened}
use Rattle.ag_law_proper.specs.Law.{Law}
use Rattle.ag_law_proper.specs.Places.{EachPlace}
use Rattle.ag_law_proper.specs.Ended.{is_of, EndPlace}
use Rattle.ag_law_proper.proofs.Splits.{each_none, each_shorter, each_append, each_one}
use Rattle.ag_law_proper.proofs.Numbers.{Sorted, open_sorted, open_unended, open_low, all_low, none_of, apart, eqb_same}
use Rattle.ag_law_proper.proofs.Pages.{pages_quiet, pages_of_set}

-- what a primary knows of its transactions: the open ones have no end, and numbers above the last one are unused
pub record Knows (pages : ℕ) (x : Lead) : Type 0 where
  pub each : EachPlace (EndPlace pages) x.log
  pub unended : (txn : ℕ) → is_open_in txn x.open_txns ≡ true → list_any (is_end_of txn) x.log ≡ false
  pub fresh : (txn : ℕ) → x.last_txn < txn → list_any (is_of txn) x.log ≡ false
  pub known : (txn : ℕ) → is_open_in txn x.open_txns ≡ true → txn ≤ x.last_txn

-- less may come after a record
less_after : (pages : ℕ) (front : List Record) (r : Record) (back more : List Record) → EndPlace pages front r (back ++ more) → EndPlace pages front r back
less_after pages front (Put t k v) back more p = tt
less_after pages front (Del t k) back more p = tt
less_after pages front (Commit t ps) back more p = ((or_parts _ _ (sym (list_any-append (is_of t) back more) ∙ p.0)).0, p.1)
less_after pages front (Abort t ps) back more p = ((or_parts _ _ (sym (list_any-append (is_of t) back more) ∙ p.0)).0, p.1)
less_after pages front (Trim q h) back more p = tt
less_after pages front (Term t) back more p = tt

-- no record of these is of a transaction that has ended
abbrev LeaveEnded : List Record → List Record → Type 0
LeaveEnded log new = (v : ℕ) → list_any (is_end_of v) log ≡ true → list_any (is_of v) new ≡ false

ended_at : (v : ℕ) (front : List Record) (r : Record) (back log : List Record) → log ≡ front ++ r ∷ back → is_end_of v r ≡ true → list_any (is_end_of v) log ≡ true
ended_at v front r back log e is =
    ap (list_any (is_end_of v)) e ∙ list_any-append (is_end_of v) front (r ∷ back) ∙ or_right (list_any (is_end_of v) front) (is_end_of v r || list_any (is_end_of v) back) (ap (λ b. b || list_any (is_end_of v) back) is)

more_after : (pages : ℕ) (log new front : List Record) (r : Record) (back : List Record) → LeaveEnded log new → log ≡ front ++ r ∷ back → EndPlace pages front r back → EndPlace pages front r (back ++ new)
more_after pages log new front (Put t k v) back leave e p = tt
more_after pages log new front (Del t k) back leave e p = tt
more_after pages log new front (Commit t ps) back leave e p = (list_any-append (is_of t) back new ∙ or_from _ _ p.0 (leave t (ended_at t front (Commit t ps) back log e (eqb_same t))), p.1)
more_after pages log new front (Abort t ps) back leave e p = (list_any-append (is_of t) back new ∙ or_from _ _ p.0 (leave t (ended_at t front (Abort t ps) back log e (eqb_same t))), p.1)
more_after pages log new front (Trim q h) back leave e p = tt
more_after pages log new front (Term t) back leave e p = tt

-- a record of a transaction that hasn't ended
leave_one : (log : List Record) (r : Record) (u : ℕ) → txn_of r ≡ u ∷ [] → list_any (is_end_of u) log ≡ false → LeaveEnded log (r ∷ [])
leave_one log r u is open_ v ended =
    ap (λ ts. list_any (λ y. v == y) ts || false) is
    ∙ ap (λ b. (b || false) || false) (apart v u (λ e. false≢true (sym open_ ∙ ap (λ x. list_any (is_end_of x) log) (sym e) ∙ ended)))

-- a record of no transaction
leave_none : (log : List Record) (r : Record) → txn_of r ≡ [] → LeaveEnded log (r ∷ [])
leave_none log r is v ended = ap (λ ts. list_any (λ y. v == y) ts || false) is

-- one more record
one_more : (pages : ℕ) (log : List Record) (r : Record) → LeaveEnded log (r ∷ []) → EndPlace pages log r [] → EachPlace (EndPlace pages) log → EachPlace (EndPlace pages) (log ++ r ∷ [])
one_more pages log r leave here all = each_one (EndPlace pages) log r (λ front x back e p. more_after pages log (r ∷ []) front x back leave e p) here all

-- an end by one more record
any_one : (p : Record → Bool) (log : List Record) (r : Record) → list_any p log ≡ false → p r ≡ false → list_any p (log ++ r ∷ []) ≡ false
any_one p log r old new = list_any-append p log (r ∷ []) ∙ or_from _ _ old (ap (λ b. b || false) new)

change_txn : (txn key : ℕ) (c : Change) → txn_of (record_of txn key c) ≡ txn ∷ []
change_txn txn key (PutChange v) = refl
change_txn txn key DelChange = refl

change_no_end : (v txn key : ℕ) (c : Change) → is_end_of v (record_of txn key c) ≡ false
change_no_end v txn key (PutChange x) = refl
change_no_end v txn key DelChange = refl

change_place : (pages : ℕ) (log : List Record) (txn key : ℕ) (c : Change) → EndPlace pages log (record_of txn key c) []
change_place pages log txn key (PutChange v) = tt
change_place pages log txn key DelChange = tt

is_one : (v u : ℕ) (ts : List ℕ) → ts ≡ u ∷ [] → v ≢ u → list_any (λ y. v == y) ts ≡ false
is_one v u ts e p = ap (list_any (λ y. v == y)) e ∙ ap (λ b. b || false) (apart v u p)

-- a change of an open transaction
change_knows : (pages : ℕ) (a : Lead) (txn key : ℕ) (c : Change) → is_open_in txn a.open_txns ≡ true → Knows pages a → Knows pages (longer_by (record_of txn key c ∷ []) a)
change_knows pages a txn key c is_open k = record {
  each = one_more pages a.log (record_of txn key c) (leave_one a.log (record_of txn key c) txn (change_txn txn key c) (k.unended txn is_open)) (change_place pages a.log txn key c) k.each;
  unended = λ u h. any_one (is_end_of u) a.log (record_of txn key c) (k.unended u h) (change_no_end u txn key c);
  fresh = λ u h. any_one (is_of u) a.log (record_of txn key c) (k.fresh u h) (is_one u txn (txn_of (record_of txn key c)) (change_txn txn key c) (let low : txn ≤ a.last_txn = k.known txn is_open in λ e. omega (arith, low, h, e)));
  known = k.known;
}

-- what is open still where one is closed
still_open : (u txn : ℕ) (ts : List OpenTxn) → is_open_in u (filter (λ t. not (t.txn == txn)) ts) ≡ true → (is_open_in u ts ≡ true) × (u ≢ txn)
still_open u txn [] e = absurd (cc)
still_open u txn (t ∷ ts) e =
    by_bool (t.txn == txn) (λ b. (t.txn == txn) ≡ b → is_open_in u (if not b then t ∷ filter (λ t. not (t.txn == txn)) ts else filter (λ t. not (t.txn == txn)) ts) ≡ true → (((t.txn == u) || is_open_in u ts) ≡ true) × (u ≢ txn))
    (λ _ q h. let more : (is_open_in u ts ≡ true) × (u ≢ txn) = still_open u txn ts h in (or_right (t.txn == u) (is_open_in u ts) more.0, more.1))
    (λ _ q h.
    by_bool (t.txn == u) (λ b. (t.txn == u) ≡ b → (b || is_open_in u (filter (λ t. not (t.txn == txn)) ts)) ≡ true → ((b || is_open_in u ts) ≡ true) × (u ≢ txn))
    (λ _ same _. (refl, λ e. eqb-false t.txn txn q (eqb-true t.txn u same ∙ e)))
    (λ _ _ g. still_open u txn ts g) refl h)
    refl e

closed_knows : (pages : ℕ) (a : Lead) (txn : ℕ) → Knows pages a → Knows pages (closed txn a)
closed_knows pages a txn k = record {
  each = k.each;
  unended = λ u h. k.unended u (still_open u txn a.open_txns h).0;
  fresh = k.fresh;
  known = λ u h. k.known u (still_open u txn a.open_txns h).0;
}

end_txn : (commits : Bool) (txn : ℕ) (ps : List ℕ) → txn_of (end_record commits txn ps) ≡ txn ∷ []
end_txn true txn ps = refl
end_txn false txn ps = refl

end_is_end : (commits : Bool) (v txn : ℕ) (ps : List ℕ) → v ≢ txn → is_end_of v (end_record commits txn ps) ≡ false
end_is_end true v txn ps p = apart v txn p
end_is_end false v txn ps p = apart v txn p

end_place : (pages : ℕ) (log : List Record) (commits : Bool) (txn : ℕ) (ps : List ℕ) → ps ≡ pages_of pages txn log → EndPlace pages log (end_record commits txn ps) []
end_place pages log true txn ps e = (refl, e)
end_place pages log false txn ps e = (refl, e)

end_knows : (pages : ℕ) (a : Lead) (commits : Bool) (txn : ℕ) (ps : List ℕ) → is_open_in txn a.open_txns ≡ true → ps ≡ pages_of pages txn a.log → Knows pages a → Knows pages (longer_by (end_record commits txn ps ∷ []) (closed txn a))
end_knows pages a commits txn ps is_open e k = record {
  each = one_more pages a.log (end_record commits txn ps) (leave_one a.log (end_record commits txn ps) txn (end_txn commits txn ps) (k.unended txn is_open)) (end_place pages a.log commits txn ps e) k.each;
  unended = λ u h.
      let o : (is_open_in u a.open_txns ≡ true) × (u ≢ txn) = still_open u txn a.open_txns h in
      any_one (is_end_of u) a.log (end_record commits txn ps) (k.unended u o.0) (end_is_end commits u txn ps o.1);
  fresh = λ u h. any_one (is_of u) a.log (end_record commits txn ps) (k.fresh u h) (is_one u txn (txn_of (end_record commits txn ps)) (end_txn commits txn ps) (let low : txn ≤ a.last_txn = k.known txn is_open in λ q. omega (arith, low, h, q)));
  known = λ u h. k.known u (still_open u txn a.open_txns h).0;
}

-- a transaction with no record has no end
no_end : (v : ℕ) (log : List Record) → list_any (is_of v) log ≡ false → list_any (is_end_of v) log ≡ false
no_end v [] e = refl
no_end v (Put t k x ∷ log) e = no_end v log (or_parts _ _ e).1
no_end v (Del t k ∷ log) e = no_end v log (or_parts _ _ e).1
no_end v (Commit t ps ∷ log) e = let q : (((v == t) || false) ≡ false) × (list_any (is_of v) log ≡ false) = or_parts _ _ e in or_from (v == t) (list_any (is_end_of v) log) (or_parts _ _ q.0).0 (no_end v log q.1)
no_end v (Abort t ps ∷ log) e = let q : (((v == t) || false) ≡ false) × (list_any (is_of v) log ≡ false) = or_parts _ _ e in or_from (v == t) (list_any (is_end_of v) log) (or_parts _ _ q.0).0 (no_end v log q.1)
no_end v (Trim q h ∷ log) e = no_end v log e
no_end v (Term t ∷ log) e = no_end v log e

-- what is open where one more is
open_more : (u new snapshot : ℕ) (ts : List OpenTxn) → is_open_in u (ts ++ record { txn = new; snapshot = snapshot } ∷ []) ≡ true → is_open_in u ts ≡ false → new ≡ u
open_more u new snapshot [] e f = eqb-true new u (or_single (new == u) e)
  where
    or_single : (b : Bool) → (b || false) ≡ true → b ≡ true
    or_single true q = refl
    or_single false q = q
open_more u new snapshot (t ∷ ts) e f =
    let q : ((t.txn == u) ≡ false) × (is_open_in u ts ≡ false) = or_parts _ _ f in
    open_more u new snapshot ts (sym (ap (λ b. b || is_open_in u (ts ++ record { txn = new; snapshot = snapshot } ∷ [])) q.0) ∙ e) q.1

opened_knows : (pages : ℕ) (a : Lead) (snapshot : ℕ) → Knows pages a → Knows pages (opened snapshot a)
opened_knows pages a snapshot k = record {
  each = k.each;
  unended = λ u h. by_bool (is_open_in u a.open_txns) (λ b. is_open_in u a.open_txns ≡ b → list_any (is_end_of u) a.log ≡ false)
      (λ _ e. k.unended u e)
      (λ _ e. let same : a.last_txn + 1 ≡ u = open_more u (a.last_txn + 1) snapshot a.open_txns h e in no_end u a.log (k.fresh u (omega (arith, same)))) refl;
  fresh = λ u h. k.fresh u (omega (arith, h));
  known = λ u h. by_bool (is_open_in u a.open_txns) (λ b. is_open_in u a.open_txns ≡ b → u ≤ a.last_txn + 1)
      (λ _ e. let low : u ≤ a.last_txn = k.known u e in omega (arith, low))
      (λ _ e. let same : a.last_txn + 1 ≡ u = open_more u (a.last_txn + 1) snapshot a.open_txns h e in omega (arith, same)) refl;
}

-- the puts of one transaction
abbrev pub puts : ℕ → List Pair → List Record
puts txn pairs = map (λ (pair : Pair). Put txn pair.key pair.value) pairs

puts_apart : (v txn : ℕ) (pairs : List Pair) → v ≢ txn → list_any (is_of v) (puts txn pairs) ≡ false
puts_apart v txn [] p = refl
puts_apart v txn (x ∷ xs) p = ap (λ b. (b || false) || list_any (is_of v) (puts txn xs)) (apart v txn p) ∙ puts_apart v txn xs p

puts_no_end : (v txn : ℕ) (pairs : List Pair) → list_any (is_end_of v) (puts txn pairs) ≡ false
puts_no_end v txn [] = refl
puts_no_end v txn (x ∷ xs) = puts_no_end v txn xs

puts_place : (pages txn : ℕ) (log : List Record) (pairs : List Pair) (first : List Record) (r : Record) (back : List Record) → puts txn pairs ≡ first ++ r ∷ back → EndPlace pages (log ++ first) r back
puts_place pages txn log [] [] r back e = absurd (cc)
puts_place pages txn log [] (y ∷ first) r back e = absurd (cc)
puts_place pages txn log (x ∷ xs) [] r back e = let same : Put txn x.key x.value ≡ r = cc in subst (λ (y : Record). EndPlace pages (log ++ []) y back) same tt
puts_place pages txn log (x ∷ xs) (y ∷ first) r back e =
    let same : Put txn x.key x.value ≡ y = cc in
    let rest : puts txn xs ≡ first ++ r ∷ back = cc in
    subst (λ (l : List Record). EndPlace pages l r back) (append_assoc log (y ∷ []) first) (puts_place pages txn (log ++ y ∷ []) xs first r back rest)

set_knows : (pages : ℕ) (a : Lead) (pairs : List Pair) → Knows pages a → Knows pages (with_whole (records_of_set pages (a.last_txn + 1) pairs) a)
set_knows pages a pairs k =
    let txn : ℕ = a.last_txn + 1 in
    let unused : list_any (is_of txn) a.log ≡ false = k.fresh txn (omega arith) in
    let open_ : list_any (is_end_of txn) a.log ≡ false = no_end txn a.log unused in
    let first : List Record = a.log ++ puts txn pairs in
    let commit : Record = Commit txn (pages_of_pairs pages pairs) in
    let leave : LeaveEnded a.log (puts txn pairs) = λ v ended. puts_apart v txn pairs (λ e. false≢true (sym open_ ∙ ap (λ x. list_any (is_end_of x) a.log) (sym e) ∙ ended)) in
    let one : EachPlace (EndPlace pages) first = each_append (EndPlace pages) a.log (puts txn pairs) (λ front x back e p. more_after pages a.log (puts txn pairs) front x back leave e p) (puts_place pages txn a.log pairs) k.each in
    let still : list_any (is_end_of txn) first ≡ false = list_any-append (is_end_of txn) a.log (puts txn pairs) ∙ or_from _ _ open_ (puts_no_end txn txn pairs) in
    record {
      each = subst (EachPlace (EndPlace pages)) (append_assoc a.log (puts txn pairs) (commit ∷ []))
          (one_more pages first commit (leave_one first commit txn refl still) (refl, pages_of_set pages txn a.log pairs unused) one);
      unended = λ u h.
          let low : u ≤ a.last_txn = k.known u h in
          list_any-append (is_end_of u) a.log (puts txn pairs ++ commit ∷ []) ∙ or_from _ _ (k.unended u h) (any_one (is_end_of u) (puts txn pairs) commit (puts_no_end u txn pairs) (apart u txn (λ e. omega (arith, low, e))));
      fresh = λ u h.
          let far : u ≢ txn = λ e. omega (arith, h, e) in
          list_any-append (is_of u) a.log (puts txn pairs ++ commit ∷ []) ∙ or_from _ _ (k.fresh u (omega (arith, h))) (any_one (is_of u) (puts txn pairs) commit (puts_apart u txn pairs far) (ap (λ b. b || false) (apart u txn far)));
      known = λ u h. let low : u ≤ a.last_txn = k.known u h in omega (arith, low);
    }

trim_knows : (pages : ℕ) (a : Lead) (page horizon : ℕ) → Knows pages a → Knows pages (longer_by (Trim page horizon ∷ []) a)
trim_knows pages a page horizon k = record {
  each = one_more pages a.log (Trim page horizon) (leave_none a.log (Trim page horizon) refl) tt k.each;
  unended = λ u h. any_one (is_end_of u) a.log (Trim page horizon) (k.unended u h) refl;
  fresh = λ u h. any_one (is_of u) a.log (Trim page horizon) (k.fresh u h) refl;
  known = k.known;
}

step_knows : (pages : ℕ) (a b : Lead) → Steps pages a b → Knows pages a → Knows pages b
step_knows pages a b (Same e) k = subst (Knows pages) (sym e) k
step_knows pages a b (Hardens e) k = subst (Knows pages) (sym e) (record { each = k.each; unended = k.unended; fresh = k.fresh; known = k.known })
step_knows pages a b (Opens snapshot e) k = subst (Knows pages) (sym e) (opened_knows pages a snapshot k)
step_knows pages a b (Changes txn key c is_open room fits e) k = subst (Knows pages) (sym e) (change_knows pages a txn key c is_open k)
step_knows pages a b (Closes txn none e) k = subst (Knows pages) (sym e) (closed_knows pages a txn k)
step_knows pages a b (Ends commits txn ps is_open is fits e) k = subst (Knows pages) (sym e) (end_knows pages a commits txn ps is_open is k)
step_knows pages a b (Sets pairs room fits e) k = subst (Knows pages) (sym e) (set_knows pages a pairs k)
step_knows pages a b (Trims page horizon low fits e) k = subst (Knows pages) (sym e) (trim_knows pages a page horizon k)

-- the Aborts of a promotion, one by one; the log so far has the pages of the old one
aborts_place : (pages : ℕ) (log acc : List Record) (ts : List ℕ) → Sorted ts → AllByRecursion (λ t. list_any (is_end_of t) acc ≡ false) ts → ((t : ℕ) → pages_of pages t log ≡ pages_of pages t acc) → EachPlace (EndPlace pages) acc → EachPlace (EndPlace pages) (acc ++ map (abort_of pages log) ts)
aborts_place pages log acc [] s open_ same all = subst (EachPlace (EndPlace pages)) (sym (append-nil acc)) all
aborts_place pages log acc (t ∷ ts) s open_ same all =
    let r : Record = abort_of pages log t in
    subst (EachPlace (EndPlace pages)) (append_assoc acc (r ∷ []) (map (abort_of pages log) ts))
    (aborts_place pages log (acc ++ r ∷ []) ts s.1
    (all_two (λ x. t < x) (λ x. list_any (is_end_of x) acc ≡ false) (λ x. list_any (is_end_of x) (acc ++ r ∷ []) ≡ false) (λ x h o. any_one (is_end_of x) acc r o (apart x t (λ e. omega (arith, h, e)))) ts s.0 open_.1)
    (λ x. same x ∙ sym (pages_quiet pages x acc (r ∷ []) (refl, tt)))
    (one_more pages acc r (leave_one acc r t refl open_.0) (refl, same t) all))
  where
    all_two : (P Q R : ℕ → Type 0) → ((x : ℕ) → P x → Q x → R x) → (xs : List ℕ) → AllByRecursion P xs → AllByRecursion Q xs → AllByRecursion R xs
    all_two P Q R f [] p q = tt
    all_two P Q R f (x ∷ xs) p q = (f x p.0 q.0, all_two P Q R f xs p.1 q.1)

aborts_apart : (pages v : ℕ) (log : List Record) (ts : List ℕ) → AllByRecursion (λ t. t < v) ts → list_any (is_of v) (map (abort_of pages log) ts) ≡ false
aborts_apart pages v log [] p = refl
aborts_apart pages v log (t ∷ ts) p = ap (λ b. (b || false) || list_any (is_of v) (map (abort_of pages log) ts)) (apart v t (λ e. omega (arith, p.0, e))) ∙ aborts_apart pages v log ts p.1

taken_knows : (pages term : ℕ) (log : List Record) → EachPlace (EndPlace pages) log → Knows pages (record { log = log ++ promotion_records pages term log; buffer = []; open_txns = []; last_txn = last_txn log })
unfolding promotion_records
taken_knows pages term log all =
    let ts : List ℕ = open_in log in
    let aborts : List Record = map (abort_of pages log) ts in
    let low : (v : ℕ) → last_txn log < v → list_any (is_of v) aborts ≡ false = λ v h. aborts_apart pages v log ts (all_map (λ t. t ≤ last_txn log) (λ t. t < v) (λ t p. omega (arith, p, h)) ts (open_low log)) in
    if_has (λ (l : List Record). Knows pages (record { log = log ++ (l ++ aborts); buffer = []; open_txns = []; last_txn = last_txn log })) (nat_lt (last_term log) term) (Term term ∷ []) []
    (λ _. record {
      each = subst (EachPlace (EndPlace pages)) (append_assoc log (Term term ∷ []) aborts)
          (aborts_place pages log (log ++ Term term ∷ []) ts (open_sorted log)
          (all_map (λ t. list_any (is_end_of t) log ≡ false) (λ t. list_any (is_end_of t) (log ++ Term term ∷ []) ≡ false) (λ t o. any_one (is_end_of t) log (Term term) o refl) ts (open_unended log))
          (λ x. sym (pages_quiet pages x log (Term term ∷ []) (refl, tt)))
          (one_more pages log (Term term) (leave_none log (Term term) refl) tt all));
      unended = λ u h. absurd (false≢true h);
      fresh = λ v h. list_any-append (is_of v) log (Term term ∷ aborts) ∙ or_from _ _ (none_of (last_txn log) v log h (all_low log)) (low v h);
      known = λ u h. absurd (false≢true h);
    })
    (λ _. record {
      each = aborts_place pages log log ts (open_sorted log) (open_unended log) (λ x. refl) all;
      unended = λ u h. absurd (false≢true h);
      fresh = λ v h. list_any-append (is_of v) log aborts ∙ or_from _ _ (none_of (last_txn log) v log h (all_low log)) (low v h);
      known = λ u h. absurd (false≢true h);
    })

pub end_law : (pages : ℕ) → Law pages (EachPlace (EndPlace pages)) (Knows pages)
end_law pages = record {
  none = each_none (EndPlace pages);
  shorter = each_shorter (EndPlace pages) (less_after pages);
  log = λ x k. k.each;
  first = record {
    each = one_more pages [] (Term 1) (leave_none [] (Term 1) refl) tt (each_none (EndPlace pages));
    unended = λ u h. absurd (false≢true h);
    fresh = λ v h. refl;
    known = λ u h. absurd (false≢true h);
  };
  steps = step_knows pages;
  takes = λ term log low all. taken_knows pages term log all;
}
