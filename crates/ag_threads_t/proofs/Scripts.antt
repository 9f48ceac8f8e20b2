-- The log of a script of transactions is proper at each of its block ends.
use Rattle.std.proofs.Common.{◌≡◌, ℕ, zero, suc, ◌+◌, ◌-◌, ◌*◌, ◌<◌, ◌≤◌, Bool, true, false, cond, List, [], ◌∷◌, ◌++◌, length, take, drop, refl, sym, ap, subst, ◌∙◌, arith, append_assoc, ne_eqb}
use Rattle.std.specs.Prelude.{Some, ◌==◌, ◌||◌, ◌&&◌}
use Rattle.std.specs.List.{AllByRecursion, filter, flat_map, list_any, last_or, sum_by, enumerate_from, range_with_len}
use lib.Seq.{take-append-add, drop-append-add}
use Rattle.std.proofs.lemmas.Bool.{or_parts, eqb-true, eqb-false, eq-eqb}
use Rattle.std.proofs.lemmas.List.{length-append}
use Rattle.std.proofs.lemmas.List.Folds.{list_any-append}
use Rattle.std.proofs.lemmas.List.Sums.{sum_by-cons, sum_by-append}
use Rattle.ag_model.specs.declared.config.TermStart.{TermStart}
use Rattle.ag_model.specs.declared.record.Log.{Log}
use Rattle.ag_model.specs.declared.record.Record.{Record}
use Rattle.ag_model.specs.declared.record.Record.TheVariants.{Put, Del, Commit, Abort, Trim, Term}
use Rattle.ag_model.specs.Blocks.{with_block}
use Rattle.ag_model.specs.Proper.{IsProper, IsRecordOf, RisesFrom}
use Rattle.ag_model.specs.Rows.{page_of, page_numbers, touches, contains}
use Rattle.ag_model.specs.Starts.{start_by}
use Rattle.ag_model.specs.Stripes.{opening_log}
use Rattle.ag_model.specs.Txns.{is_change_of, txn_of, pages_of}
use Rattle.ag_threads_t.specs.Script.{Write, records_of_one, records_of, ends_of, log_of, writes_of, most_added, IsScript}
use Rattle.ag_threads_t.proofs.Logs.{room}

records_length : (n : ℕ) (ws : List Write) → length (records_of n ws) ≡ 2 * length ws
records_length n [] = refl
records_length n (w ∷ ws) = omega (arith, records_length (n + 1) ws)

-- one more transaction
records_more : (n m : ℕ) (ws : List Write) (w : Write) → n + length ws ≡ m → records_of n (ws ++ w ∷ []) ≡ records_of n ws ++ records_of_one m w
records_more n m [] w e = let same : n ≡ m = omega arith in ap (λ (k : ℕ). records_of_one k w) same
records_more n m (x ∷ ws) w e = ap (λ (l : List Record). Put (n + 1) x.key x.value ∷ Commit (n + 1) (page_of 16 x.key ∷ []) ∷ l) (records_more (n + 1) m ws w (omega arith))

ends_more : (n m : ℕ) (ws : List Write) (w : Write) → n + length ws ≡ m → ends_of n (ws ++ w ∷ []) ≡ ends_of n ws ++ (2 * m + 3) ∷ []
ends_more n m [] w e = let same : n ≡ m = omega arith in ap (λ (k : ℕ). (2 * k + 3) ∷ []) same
ends_more n m (x ∷ ws) w e = ap (λ (l : List ℕ). (2 * n + 3) ∷ l) (ends_more (n + 1) m ws w (omega arith))

pub log_more : (ws : List Write) (w : Write) → with_block (log_of ws) (records_of_one (length ws) w) ≡ log_of (ws ++ w ∷ [])
log_more ws w =
    let end : length (Term 1 ∷ records_of 0 ws) + length (records_of_one (length ws) w) ≡ 2 * length ws + 3 = omega (arith, records_length 0 ws) in
    λ i. record {
      records = Term 1 ∷ sym (records_more 0 (length ws) ws w (omega arith)) i;
      ends = (ap (λ (e : ℕ). (1 ∷ ends_of 0 ws) ++ e ∷ []) end ∙ ap (λ (l : List ℕ). 1 ∷ l) (sym (ends_more 0 (length ws) ws w (omega arith)))) i;
    }

-- no transaction of the script starts a term
no_starts : (k n : ℕ) (ws : List Write) → flat_map (λ (r : ℕ × Record). start_by r.0 r.1) (enumerate_from k (records_of n ws)) ≡ []
no_starts k n [] = refl
no_starts k n (w ∷ ws) = no_starts (k + 1 + 1) (n + 1) ws

rises : (low n : ℕ) (ws : List Write) → low < 2 * n + 3 → RisesFrom low (ends_of n ws)
rises low n [] lt = tt
rises low n (w ∷ ws) lt = (lt, rises (2 * n + 3) (n + 1) ws (omega arith))

last_end : (e n m : ℕ) (ws : List Write) → e ≡ 2 * n + 1 → m ≡ 2 * (n + length ws) + 1 → last_or (Some e) (ends_of n ws) ≡ Some m
last_end e n m [] is end = let same : e ≡ m = omega arith in ap Some same
last_end e n m (w ∷ ws) is end = last_end (2 * n + 3) (n + 1) m ws (omega arith) (omega arith)

-- the records of a script put what it says
writes_back : (n : ℕ) (ws : List Write) → writes_of (records_of n ws) ≡ ws
writes_back n [] = refl
writes_back n (w ∷ ws) = ap (λ (l : List Write). w ∷ l) (writes_back (n + 1) ws)

-- whether a record is of a transaction
abbrev is_of : ℕ → Record → Bool
is_of txn r = contains txn (txn_of r)

-- the transactions have rising numbers
none_later : (n txn : ℕ) (ws : List Write) → txn ≤ n → list_any (is_of txn) (records_of n ws) ≡ false
none_later n txn [] le = refl
none_later n txn (w ∷ ws) le =
    ap (λ (b : Bool). (b || false) || ((b || false) || list_any (is_of txn) (records_of (n + 1) ws))) (ne_eqb txn (n + 1) (λ e. absurd (omega arith)))
    ∙ none_later (n + 1) txn ws (omega arith)

none_before : (n : ℕ) (old : List Record) (w : Write) → ((txn : ℕ) → n < txn → list_any (is_of txn) old ≡ false) → (txn : ℕ) → n + 1 < txn → list_any (is_of txn) (old ++ records_of_one n w) ≡ false
none_before n old w none txn lt =
    list_any-append (is_of txn) old (records_of_one n w)
    ∙ ap (λ (b : Bool). b || list_any (is_of txn) (records_of_one n w)) (none txn (omega arith))
    ∙ ap (λ (b : Bool). (b || false) || ((b || false) || false)) (ne_eqb txn (n + 1) (λ e. absurd (omega arith)))

-- what is of another transaction is no change of this one
no_change : (txn : ℕ) (r : Record) → is_of txn r ≡ false → is_change_of txn r ≡ false
no_change txn (Put t key v) e = (or_parts (txn == t) false e).0
no_change txn (Del t key) e = (or_parts (txn == t) false e).0
no_change txn (Commit t listed) e = refl
no_change txn (Abort t listed) e = refl
no_change txn (Trim p h) e = refl
no_change txn (Term t) e = refl

-- whether a record is a change of a page by a transaction
abbrev changes : ℕ → ℕ → Record → Bool
changes txn page r = is_change_of txn r && touches 16 page r

no_changes : (txn page : ℕ) (old : List Record) → list_any (is_of txn) old ≡ false → list_any (changes txn page) old ≡ false
no_changes txn page [] e = refl
no_changes txn page (r ∷ old) e =
    let both : (is_of txn r ≡ false) × (list_any (is_of txn) old ≡ false) = or_parts (is_of txn r) (list_any (is_of txn) old) e in
    ap (λ (b : Bool). (b && touches 16 page r) || list_any (changes txn page) old) (no_change txn r both.0) ∙ no_changes txn page old both.1

or_false : (b : Bool) → (b || false) ≡ b
or_false true = refl
or_false false = refl

filter_same : (f g : ℕ → Bool) → ((x : ℕ) → f x ≡ g x) → (xs : List ℕ) → filter f xs ≡ filter g xs
filter_same f g e [] = refl
filter_same f g e (x ∷ xs) = ap (λ (b : Bool). cond b (x ∷ filter f xs) (filter f xs)) (e x) ∙ ap (λ (l : List ℕ). cond (g x) (x ∷ l) l) (filter_same f g e xs)

-- a number among some that follow one another
filter_none : (a n p : ℕ) → p < a → filter (λ q. q == p) (range_with_len a n) ≡ []
filter_none a zero p lt = refl
filter_none a (suc n) p lt = ap (λ (b : Bool). cond b (a ∷ filter (λ q. q == p) (range_with_len (a + 1) n)) (filter (λ q. q == p) (range_with_len (a + 1) n))) (ne_eqb a p (λ e. absurd (omega arith))) ∙ filter_none (a + 1) n p (omega arith)

filter_one : (a n p : ℕ) → a ≤ p → p < a + n → filter (λ q. q == p) (range_with_len a n) ≡ p ∷ []
filter_one a zero p low high = absurd (omega arith)
filter_one a (suc n) p low high = go (λ lt. filter_one (a + 1) n p lt (omega arith)) (a == p) refl
  where
    go : (a + 1 ≤ p → filter (λ q. q == p) (range_with_len (a + 1) n) ≡ p ∷ []) → (b : Bool) → (a == p) ≡ b → cond b (a ∷ filter (λ q. q == p) (range_with_len (a + 1) n)) (filter (λ q. q == p) (range_with_len (a + 1) n)) ≡ p ∷ []
    go more true e = let same : a ≡ p = eqb-true a p e in ap (λ (l : List ℕ). a ∷ l) (filter_none (a + 1) n p (omega arith)) ∙ ap (λ (x : ℕ). x ∷ []) same
    go more false e = let apart = eqb-false a p e in more (omega arith)

-- the Commit lists the page of the key
listed_right : (n : ℕ) (old : List Record) (w : Write) → ((txn : ℕ) → n < txn → list_any (is_of txn) old ≡ false) → page_of 16 w.key ∷ [] ≡ pages_of 16 (n + 1) (old ++ Put (n + 1) w.key w.value ∷ [])
listed_right n old w none =
    sym (filter_same (λ page. list_any (changes (n + 1) page) (old ++ Put (n + 1) w.key w.value ∷ [])) (λ page. page == page_of 16 w.key)
    (λ page. list_any-append (changes (n + 1) page) old (Put (n + 1) w.key w.value ∷ [])
    ∙ ap (λ (b : Bool). b || list_any (changes (n + 1) page) (Put (n + 1) w.key w.value ∷ [])) (no_changes (n + 1) page old (none (n + 1) (omega arith)))
    ∙ ap (λ (b : Bool). (b && (page == page_of 16 w.key)) || false) (eq-eqb (n + 1) (n + 1) refl)
    ∙ or_false (page == page_of 16 w.key))
    (page_numbers 16)
    ∙ filter_one 16 16 (page_of 16 w.key) (omega arith) (omega arith))

-- each record is that of a proper log
each_right : (old : List Record) (k n : ℕ) (ws : List Write) → length old + 1 ≡ k → ((txn : ℕ) → n < txn → list_any (is_of txn) old ≡ false)
    → AllByRecursion (λ (r : ℕ × Record). IsRecordOf 16 (old ++ records_of n ws) r.0 r.1) (enumerate_from k (records_of n ws))
each_right old k n [] at none = tt
each_right old k n (w ∷ ws) at none =
    let past : k + 1 ≡ length old + 2 = omega arith in
    let there : k + 1 - 1 ≡ length old + 1 = omega arith in
    let alone : list_any (is_of (n + 1)) (drop (k + 1) (old ++ records_of n (w ∷ ws))) ≡ false =
    ap (λ (i : ℕ). list_any (is_of (n + 1)) (drop i (old ++ records_of n (w ∷ ws)))) past
    ∙ ap (list_any (is_of (n + 1))) (drop-append-add old (records_of n (w ∷ ws)) 2)
    ∙ none_later (n + 1) (n + 1) ws (omega arith) in
    let before : take (k + 1 - 1) (old ++ records_of n (w ∷ ws)) ≡ old ++ Put (n + 1) w.key w.value ∷ [] =
    ap (λ (i : ℕ). take i (old ++ records_of n (w ∷ ws))) there ∙ take-append-add old (records_of n (w ∷ ws)) 1 in
    let listed : page_of 16 w.key ∷ [] ≡ pages_of 16 (n + 1) (take (k + 1 - 1) (old ++ records_of n (w ∷ ws))) = listed_right n old w none ∙ ap (pages_of 16 (n + 1)) (sym before) in
    let more : AllByRecursion (λ (r : ℕ × Record). IsRecordOf 16 ((old ++ records_of_one n w) ++ records_of (n + 1) ws) r.0 r.1) (enumerate_from (k + 1 + 1) (records_of (n + 1) ws)) =
    each_right (old ++ records_of_one n w) (k + 1 + 1) (n + 1) ws (omega (arith, length-append old (records_of_one n w))) (none_before n old w none) in
    (tt, ((alone, listed), subst (λ (l : List Record). AllByRecursion (λ (r : ℕ × Record). IsRecordOf 16 l r.0 r.1) (enumerate_from (k + 1 + 1) (records_of (n + 1) ws))) (append_assoc old (records_of_one n w) (records_of (n + 1) ws)) more))

-- the log of a short script is proper
script_proper : (ws : List Write) → length ws ≤ 200 → sum_by most_added (Term 1 ∷ records_of 0 ws) ≤ 8144 → IsProper 16 (log_of ws)
script_proper ws few small = record {
  first = refl;
  terms = subst (λ (ss : List TermStart). RisesFrom 0 (1 ∷ flat_map (λ (s : TermStart). s.term ∷ []) ss)) (sym (no_starts 2 0 ws)) (omega arith, tt);
  each = (tt, each_right (Term 1 ∷ []) 2 0 ws refl (λ txn lt. refl));
  room = room (Term 1 ∷ records_of 0 ws) small;
  ends = (omega arith, rises 1 0 ws (omega arith));
  last = last_end 1 0 (length (Term 1 ∷ records_of 0 ws)) ws refl (omega (arith, records_length 0 ws));
  most = omega (arith, records_length 0 ws);
}

-- a transaction adds 32 bytes to a page
one_added : (n : ℕ) (w : Write) → w.value.len ≡ 2 → sum_by most_added (records_of_one n w) ≡ 32
one_added n w short =
    omega (
      arith,
      sum_by-cons most_added (Put (n + 1) w.key w.value) (Commit (n + 1) (page_of 16 w.key ∷ []) ∷ []),
      sum_by-cons most_added (Commit (n + 1) (page_of 16 w.key ∷ [])) [],
    )

-- a block of the script, after n others
pub record IsNextOf (n : ℕ) (block : List Record) : Type 0 where
  pub write : Write
  pub short : write.value.len ≡ 2
  pub is : block ≡ records_of_one n write

pub none_written : IsScript 0 opening_log
none_written = (refl, refl, omega arith)

pub more_written : (n : ℕ) (log : Log) (block : List Record) → IsScript n log → IsNextOf n block → IsScript (n + 1) (with_block log block)
more_written n log block old next =
    let ws : List Write = writes_of log.records in
    let w : Write = next.write in
    let is : with_block log block ≡ log_of (ws ++ w ∷ []) =
    (λ i. with_block (old.1 i) ((next.is ∙ ap (λ (k : ℕ). records_of_one k w) (sym old.0)) i)) ∙ log_more ws w in
    let back : writes_of (log.records ++ block) ≡ ws ++ w ∷ [] = ap (λ (l : Log). writes_of l.records) is ∙ writes_back 0 (ws ++ w ∷ []) in
    let size : sum_by most_added block ≡ 32 = ap (sum_by most_added) next.is ∙ one_added n w next.short in
    let many = old.0 in
    let small = old.2 in (
      ap length back ∙ length-append ws (w ∷ []) ∙ ap (λ (k : ℕ). k + 1) many,
      is ∙ ap log_of (sym back),
      omega (arith, sum_by-append most_added log.records block),
    )

pub written_proper : (n : ℕ) (log : Log) → IsScript n log → n ≤ 200 → IsProper 16 log
written_proper n log all few =
    let ws : List Write = writes_of log.records in
    let many = all.0 in
    let small = all.2 in
    let records : sum_by most_added log.records ≡ sum_by most_added (Term 1 ∷ records_of 0 ws) = ap (λ (l : Log). sum_by most_added l.records) all.1 in
    subst (IsProper 16) (sym all.1) (script_proper ws (omega arith) (omega arith))

empty : (ws : List Write) → length ws ≡ 0 → ws ≡ []
empty [] e = refl
empty (w ∷ ws) e = absurd (omega arith)

-- a script of no transaction is the opening log
pub opened_only : (log : Log) → IsScript 0 log → log ≡ opening_log
opened_only log all = all.1 ∙ ap log_of (empty (writes_of log.records) all.0)
