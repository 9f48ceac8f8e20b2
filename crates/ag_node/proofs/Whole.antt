-- What holds of the records of whole transactions.
use Rattle.std.proofs.Common.{◌≡◌, ℕ, ◌+◌, ◌-◌, ◌≤◌, max, List, [], ◌∷◌, ◌++◌, length, map, take, drop, Bool, true, false, not, refl, ap, ◌∙◌, subst, arith}
use Rattle.std.specs.Prelude.{if◌then◌else◌, ◌==◌, ◌||◌, nat_lt}
use Rattle.std.specs.List.{AllByRecursion, filter, flat_map, fold, list_any}
use Rattle.std.proofs.Math.Bool.{or-true}
use Rattle.std.proofs.Math.Nat.{le-max_left, le-max_right}
use Rattle.std.proofs.lemmas.Grind.{fold-append}
use Rattle.std.proofs.lemmas.List.{length-drop, take-append-drop}
use Rattle.std.proofs.lemmas.List.Folds.{list_any-append}
use Rattle.ag_model.specs.declared.config.TermStart.{TermStart}
use Rattle.ag_model.specs.declared.record.Record.{Record}
use Rattle.ag_model.specs.declared.record.Record.TheVariants.{Put, Del, Commit, Abort, Trim, Term}
use Rattle.ag_model.specs.declared.event.Pair.{Pair}
use Rattle.ag_model.specs.Txns.{is_end_of, txn_of, last_txn, rising, open_in}
use Rattle.ag_model.specs.Starts.{term_starts, last_term}
use Rattle.ag_rules.specs.SetEvent.{pages_of_pairs, records_of_set}
use Rattle.ag_rules.specs.Promotion.{abort_of, promotion_records, blocks_of}
use Rattle.ag_ends.specs.Starts.{starts_after}
use Rattle.ag_ends.proofs.Starts.{starts_whole}
use Rattle.ag_built.specs.Whole.{is_commit_of, IsWholeRecord, IsWhole}
use Rattle.ag_logstore.specs.Blocks.{AreBlocks}
use Rattle.ag_logstore.specs.LogKept.{RisesTo}
use Rattle.ag_node.specs.Room.{is_trim}
use Rattle.ag_logstore.proofs.LogEnds.{rises_le}
use Rattle.ag_node.proofs.RoomLog.{eqb_self, puts_of, new_of, all_map, all_append}

-- the transactions that have their Commit among the first records have it among the second
abbrev EndsWith : List Record → List Record → Type 0
EndsWith xs all = (txn : ℕ) → list_any (is_commit_of txn) xs ≡ true → list_any (is_commit_of txn) all ≡ true

ends_left : (xs ys : List Record) → EndsWith xs (xs ++ ys)
ends_left xs ys txn e = list_any-append (is_commit_of txn) xs ys ∙ ap (λ b. b || list_any (is_commit_of txn) ys) e

ends_right : (xs ys : List Record) → EndsWith ys (xs ++ ys)
ends_right xs ys txn e = list_any-append (is_commit_of txn) xs ys ∙ ap (λ b. list_any (is_commit_of txn) xs || b) e ∙ or-true _

ends_later : (x : Record) (xs all : List Record) → EndsWith (x ∷ xs) all → EndsWith xs all
ends_later x xs all ends txn e = ends txn (ap (λ b. is_commit_of txn x || b) e ∙ or-true _)

-- a record is whole in sight of more Commits too
whole_record : (xs all : List Record) (r : Record) → EndsWith xs all → IsWholeRecord xs r → IsWholeRecord all r
whole_record xs all (Put txn key value) ends h = ends txn h
whole_record xs all (Del txn key) ends h = h
whole_record xs all (Commit txn listed) ends h = h
whole_record xs all (Abort txn listed) ends h = h
whole_record xs all (Trim page horizon) ends h = h
whole_record xs all (Term term) ends h = h

pub whole_nil : IsWhole []
whole_nil = tt

-- whole transactions one after the other
pub whole_append : (xs ys : List Record) → IsWhole xs → IsWhole ys → IsWhole (xs ++ ys)
whole_append xs ys p q =
    all_append (IsWholeRecord (xs ++ ys)) xs ys
    (all_map (IsWholeRecord xs) (IsWholeRecord (xs ++ ys)) (λ r. whole_record xs (xs ++ ys) r (ends_left xs ys)) xs p)
    (all_map (IsWholeRecord ys) (IsWholeRecord (xs ++ ys)) (λ r. whole_record ys (xs ++ ys) r (ends_right xs ys)) ys q)

commit_in_new : (txn : ℕ) (pairs : List Pair) (listed : List ℕ) → list_any (is_commit_of txn) (new_of txn pairs listed) ≡ true
commit_in_new txn [] listed = ap (λ b. b || false) (eqb_self txn)
commit_in_new txn (pair ∷ pairs) listed = commit_in_new txn pairs listed

whole_puts : (all : List Record) (txn : ℕ) (pairs : List Pair) → list_any (is_commit_of txn) all ≡ true → AllByRecursion (IsWholeRecord all) (puts_of txn pairs)
whole_puts all txn [] e = tt
whole_puts all txn (pair ∷ pairs) e = (e, whole_puts all txn pairs e)

-- a `set` is a whole transaction
pub whole_set : (pages txn : ℕ) (pairs : List Pair) → IsWhole (records_of_set pages txn pairs)
whole_set pages txn pairs =
    let listed : List ℕ = pages_of_pairs pages pairs in
    let new : List Record = new_of txn pairs listed in
    all_append (IsWholeRecord new) (puts_of txn pairs) (Commit txn listed ∷ []) (whole_puts new txn pairs (commit_in_new txn pairs listed)) (tt, tt)

-- each transaction of whole records has its Commit
txns_end : (all xs : List Record) → EndsWith xs all → AllByRecursion (IsWholeRecord all) xs → AllByRecursion (λ txn. list_any (is_commit_of txn) all ≡ true) (flat_map txn_of xs)
txns_end all [] ends h = tt
txns_end all (Put txn key value ∷ xs) ends h = (h.0, txns_end all xs (ends_later (Put txn key value) xs all ends) h.1)
txns_end all (Del txn key ∷ xs) ends h = absurd h.0
txns_end all (Commit txn listed ∷ xs) ends h = (ends txn (ap (λ b. b || list_any (is_commit_of txn) xs) (eqb_self txn)), txns_end all xs (ends_later (Commit txn listed) xs all ends) h.1)
txns_end all (Abort txn listed ∷ xs) ends h = absurd h.0
txns_end all (Trim page horizon ∷ xs) ends h = absurd h.0
txns_end all (Term term ∷ xs) ends h = txns_end all xs (ends_later (Term term) xs all ends) h.1

or_more : (a b c : Bool) → (b ≡ true → c ≡ true) → (a || b) ≡ true → (a || c) ≡ true
or_more true b c f e = refl
or_more false b c f e = f e

-- a transaction that has its Commit has ended
commit_ends : (txn : ℕ) (rs : List Record) → list_any (is_commit_of txn) rs ≡ true → list_any (is_end_of txn) rs ≡ true
commit_ends txn [] e = e
commit_ends txn (Put t key value ∷ rs) e = commit_ends txn rs e
commit_ends txn (Del t key ∷ rs) e = commit_ends txn rs e
commit_ends txn (Commit t listed ∷ rs) e = or_more (txn == t) _ _ (commit_ends txn rs) e
commit_ends txn (Abort t listed ∷ rs) e = ap (λ b. (txn == t) || b) (commit_ends txn rs e) ∙ or-true _
commit_ends txn (Trim page horizon ∷ rs) e = commit_ends txn rs e
commit_ends txn (Term term ∷ rs) e = commit_ends txn rs e

none_stay : (f : ℕ → Bool) (xs : List ℕ) → AllByRecursion (λ x. f x ≡ false) xs → filter f xs ≡ []
none_stay f [] h = refl
none_stay f (x ∷ xs) h = ap (λ b. if b then x ∷ filter f xs else filter f xs) h.0 ∙ none_stay f xs h.1

-- no transaction is open
pub none_open : (rs : List Record) → IsWhole rs → open_in rs ≡ []
none_open rs h =
    ap rising (none_stay (λ txn. not (list_any (is_end_of txn) rs)) (flat_map txn_of rs)
    (all_map (λ txn. list_any (is_commit_of txn) rs ≡ true) (λ txn. not (list_any (is_end_of txn) rs) ≡ false) (λ txn e. ap not (commit_ends txn rs e)) (flat_map txn_of rs)
    (txns_end rs rs (λ txn e. e) h)))

-- no term but the first starts
first_term : (lsn : ℕ) (all rs : List Record) → AllByRecursion (IsWholeRecord all) rs → fold (λ last (s : TermStart). s.term) 1 (starts_after lsn rs) ≡ 1
first_term lsn all [] h = refl
first_term lsn all (Put txn key value ∷ rs) h = first_term (lsn + 1) all rs h.1
first_term lsn all (Del txn key ∷ rs) h = absurd h.0
first_term lsn all (Commit txn listed ∷ rs) h = first_term (lsn + 1) all rs h.1
first_term lsn all (Abort txn listed ∷ rs) h = absurd h.0
first_term lsn all (Trim page horizon ∷ rs) h = absurd h.0
first_term lsn all (Term term ∷ rs) h = ap (λ t. fold (λ last (s : TermStart). s.term) t (starts_after (lsn + 1) rs)) h.0 ∙ first_term (lsn + 1) all rs h.1

-- after whole transactions the log is still in its first term
pub term_stays : (xs ys : List Record) → last_term xs ≡ 1 → IsWhole ys → last_term (xs ++ ys) ≡ 1
term_stays xs ys first h =
    ap (fold (λ last (s : TermStart). s.term) 0) (starts_whole xs ys)
    ∙ fold-append (λ last (s : TermStart). s.term) 0 (term_starts xs) (starts_after (length xs) ys)
    ∙ ap (λ t. fold (λ last (s : TermStart). s.term) t (starts_after (length xs) ys)) first
    ∙ first_term (length xs) ys ys h

-- a primary of the first term appends nothing when it starts
pub no_promotion : (pages : ℕ) (rs : List Record) → IsWhole rs → last_term rs ≡ 1 → promotion_records pages 1 rs ≡ []
unfolding promotion_records
no_promotion pages rs h first =
    ap (λ t. (if nat_lt t 1 then Term 1 ∷ [] else []) ++ map (abort_of pages rs) (open_in rs)) first
    ∙ ap (λ txns. map (abort_of pages rs) txns) (none_open rs h)

-- no records are put into no block
pub no_blocks : blocks_of [] ≡ []
unfolding blocks_of
no_blocks = refl

none_trimmed : (all rs : List Record) → AllByRecursion (IsWholeRecord all) rs → list_any is_trim rs ≡ false
none_trimmed all [] h = refl
none_trimmed all (Put txn key value ∷ rs) h = none_trimmed all rs h.1
none_trimmed all (Del txn key ∷ rs) h = absurd h.0
none_trimmed all (Commit txn listed ∷ rs) h = none_trimmed all rs h.1
none_trimmed all (Abort txn listed ∷ rs) h = absurd h.0
none_trimmed all (Trim page horizon ∷ rs) h = absurd h.0
none_trimmed all (Term term ∷ rs) h = none_trimmed all rs h.1

-- no page is trimmed
pub whole_untrimmed : (rs : List Record) → IsWhole rs → list_any is_trim rs ≡ false
whole_untrimmed rs h = none_trimmed rs rs h

fold_max_least : (d : ℕ) (xs : List ℕ) → d ≤ fold max d xs
fold_max_least d [] = omega arith
fold_max_least d (x ∷ xs) = omega (arith, fold_max_least (max d x) xs, le-max_left d x)

within_max : (d : ℕ) (xs : List ℕ) → AllByRecursion (λ x. x ≤ fold max d xs) xs
within_max d [] = tt
within_max d (x ∷ xs) = (omega (arith, fold_max_least (max d x) xs, le-max_right d x), within_max (max d x) xs)

all_split : {X : Type 0} (P : X → Type 0) (xs ys : List X) → AllByRecursion P (xs ++ ys) → AllByRecursion P xs × AllByRecursion P ys
all_split P [] ys h = (tt, h)
all_split P (x ∷ xs) ys h = ((h.0, (all_split P xs ys h.1).0), (all_split P xs ys h.1).1)

all_pieces : {X A : Type 0} (P : A → Type 0) (f : X → List A) (xs : List X) → AllByRecursion P (flat_map f xs) → AllByRecursion (λ x. AllByRecursion P (f x)) xs
all_pieces P f [] h = tt
all_pieces P f (x ∷ xs) h = ((all_split P (f x) (flat_map f xs) h).0, all_pieces P f xs (all_split P (f x) (flat_map f xs) h).1)

-- the transactions of a log go up to its last one
pub whole_known : (rs : List Record) → AllByRecursion (λ (r : Record). AllByRecursion (λ t. t ≤ last_txn rs) (txn_of r)) rs
whole_known rs = all_pieces (λ t. t ≤ last_txn rs) txn_of rs (within_max 0 (flat_map txn_of rs))

-- blocks of whole transactions make a log of whole transactions
pub whole_blocks : (low high : ℕ) (es : List ℕ) (rs : List Record) → RisesTo low high es → high ≡ low + length rs → AreBlocks IsWhole low es rs → IsWhole rs
whole_blocks low high [] [] p h a = tt
whole_blocks low high [] (r ∷ rs) p h a = absurd (omega (arith, p, h))
whole_blocks low high (e ∷ es) rs p h a =
    let rest : high ≡ e + length (drop (e - low) rs) = omega (arith, h, p.0, rises_le e high es p.1, length-drop (e - low) rs) in
    subst IsWhole (take-append-drop (e - low) rs) (whole_append (take (e - low) rs) (drop (e - low) rs) a.0 (whole_blocks e high es (drop (e - low) rs) p.1 rest a.1))
