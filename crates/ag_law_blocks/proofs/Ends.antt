-- Block ends that rise, where a log goes on by blocks or is cut.
use Rattle.std.specs.Prelude.{if◌then◌else◌}
use Rattle.std.proofs.Common.{◌≡◌, ℕ, ◌+◌, ◌<◌, ◌≤◌, List, [], ◌∷◌, ◌++◌, length, map, Bool, true, false, refl, sym, ap, ◌∙◌, subst, arith, length-append}
use Rattle.std.specs.Prelude.{◌==◌, ◌||◌, ◌&&◌, nat_lt}
use Rattle.std.specs.List.{AllByRecursion, fold, list_any}
use Rattle.std.proofs.Math.Bool.{or-false}
use Rattle.std.proofs.lemmas.Bool.{leb-false, or_right}
use Rattle.std.proofs.lemmas.List.Folds.{list_any-append}
use Rattle.std.proofs.lemmas.List.FromFn.{length-range_with_len}
use Rattle.std.proofs.lemmas.List.Sums.{length-filter, count_by-le-length}
use Rattle.ag_model.specs.declared.record.Record.{Record}
use Rattle.ag_model.specs.declared.record.Record.TheVariants.{Term}
use Rattle.ag_model.specs.declared.record.Log.{Log}
use Rattle.ag_model.specs.Rows.{contains, touches, page_numbers}
use Rattle.ag_model.specs.Blocks.{with_block}
use Rattle.ag_model.specs.Sizes.{record_size, records_size}
use Rattle.ag_model.specs.Starts.{last_term}
use Rattle.ag_model.specs.Proper.{RisesFrom}
use Rattle.ag_model.specs.Txns.{is_change_of, pages_of, open_in}
use Rattle.ag_rules.specs.Promotion.{Packing, pack, packed, fits, unless_empty, blocks_of, promotion_records, abort_of}
use Rattle.ag_lists.proofs.Tests.{by_bool, if_has}
use Rattle.ag_lists.proofs.Each.{all_append}
use Rattle.ag_laws.specs.Ends.{EndsIn}
use Rattle.ag_laws.proofs.Ends.{ends_push, ends_le}
use Rattle.ag_law_proper.specs.Growth.{with_blocks}
use Rattle.ag_law_proper.proofs.Numbers.{apart, eqb_same}

pub contains_push : (n e : ℕ) (xs : List ℕ) → contains n (0 ∷ xs ++ e ∷ []) ≡ (contains n (0 ∷ xs) || (n == e))
contains_push n e xs = list_any-append (λ y. n == y) (0 ∷ xs) (e ∷ []) ∙ ap (λ b. contains n (0 ∷ xs) || b) (or-false (n == e))

-- what is past the end isn't one of the ends
pub none_past : (n low len : ℕ) (xs : List ℕ) → EndsIn low xs len → len < n → contains n xs ≡ false
none_past n low len [] p h = refl
none_past n low len (x ∷ xs) p h = ap (λ b. b || contains n xs) (apart n x (λ e. let q : x ≤ len = ends_le x len xs p.1 in omega arith)) ∙ none_past n x len xs p.1 h

pub rises_push : (low len e : ℕ) (xs : List ℕ) → RisesFrom low xs → EndsIn low xs len → len < e → RisesFrom low (xs ++ e ∷ [])
rises_push low len e [] r p h = (omega (arith, p, h), tt)
rises_push low len e (x ∷ xs) r p h = (r.0, rises_push x len e xs r.1 p.1 h)

-- a log that goes on by whole blocks
pub record Extends (l new : Log) : Type 0 where
  pub old : (n : ℕ) → n ≤ length l.records → contains n (0 ∷ new.ends) ≡ contains n (0 ∷ l.ends)
  pub rises : RisesFrom 0 new.ends
  pub ends : EndsIn 0 new.ends (length new.records)
  pub whole : contains (length new.records) (0 ∷ new.ends) ≡ true
  pub longer : length l.records ≤ length new.records

pub extends_none : (l : Log) → RisesFrom 0 l.ends → EndsIn 0 l.ends (length l.records) → contains (length l.records) (0 ∷ l.ends) ≡ true → Extends l l
extends_none l rises ends whole = record { old = λ n h. refl; rises = rises; ends = ends; whole = whole; longer = omega arith }

pub extends_one : (l : Log) (b : List Record) → RisesFrom 0 l.ends → EndsIn 0 l.ends (length l.records) → 0 < length b → Extends l (with_block l b)
extends_one l b rises ends some =
    let len : ℕ = length l.records in
    let e : ℕ = len + length b in
    let long : length (l.records ++ b) ≡ e = length-append l.records b in
    record {
      old = λ n h. contains_push n e l.ends ∙ ap (λ t. contains n (0 ∷ l.ends) || t) (apart n e (λ q. omega (arith, h, q, some))) ∙ or-false (contains n (0 ∷ l.ends));
      rises = rises_push 0 len e l.ends rises ends (omega (arith, some));
      ends = subst (λ (j : ℕ). EndsIn 0 (l.ends ++ e ∷ []) j) (sym long) (ends_push 0 len (length b) l.ends ends);
      whole = ap (λ n. contains n (0 ∷ l.ends ++ e ∷ [])) long ∙ contains_push e e l.ends ∙ ap (λ t. contains e (0 ∷ l.ends) || t) (eqb_same e) ∙ or_right (contains e (0 ∷ l.ends)) true refl;
      longer = omega (arith, long);
    }

pub extends_all : (l : Log) (bs : List (List Record)) → RisesFrom 0 l.ends → EndsIn 0 l.ends (length l.records) → contains (length l.records) (0 ∷ l.ends) ≡ true → AllByRecursion (λ b. 0 < length b) bs → Extends l (with_blocks l bs)
extends_all l [] rises ends whole some = extends_none l rises ends whole
extends_all l (b ∷ bs) rises ends whole some =
    let one : Extends l (with_block l b) = extends_one l b rises ends some.0 in
    let more : Extends (with_block l b) (with_blocks (with_block l b) bs) = extends_all (with_block l b) bs one.rises one.ends one.whole some.1 in
    record { old = λ n h. more.old n (omega (arith, h, one.longer)) ∙ one.old n h; rises = more.rises; ends = more.ends; whole = more.whole; longer = omega (arith, one.longer, more.longer) }

-- the blocks of records that each fit into a block aren't empty
all_pushed : (bs : List (List Record)) (b : List Record) → AllByRecursion (λ b. 0 < length b) bs → AllByRecursion (λ b. 0 < length b) (bs ++ unless_empty b)
all_pushed bs [] p = all_append (λ (b : List Record). 0 < length b) bs [] p tt
all_pushed bs (r ∷ rs) p = all_append (λ (b : List Record). 0 < length b) bs ((r ∷ rs) ∷ []) p (omega arith, tt)

fits_alone : (r : Record) → record_size r ≤ 15488 → fits [] r ≡ true
fits_alone r h = by_bool (fits [] r) (λ v. fits [] r ≡ v → v ≡ true) (λ _ _. refl) (λ _ e. absurd (let none : records_size [] ≡ 0 = refl in omega (arith, leb-false (records_size [] + record_size r) 15488 e, h, none))) refl

not_empty : (last : List Record) (r : Record) → record_size r ≤ 15488 → fits last r ≡ false → 0 < length last
not_empty [] r h e = absurd (cc (fits_alone r h, e))
not_empty (x ∷ xs) r h e = omega arith

packed_some : (p : Packing) (rs : List Record) → AllByRecursion (λ b. 0 < length b) p.full → AllByRecursion (λ r. record_size r ≤ 15488) rs → AllByRecursion (λ b. 0 < length b) (packed (fold pack p rs))
packed_some p [] full small = all_pushed p.full p.last full
packed_some p (r ∷ rs) full small =
    if_has (λ (q : Packing). AllByRecursion (λ b. 0 < length b) (packed (fold pack q rs))) (fits p.last r) (record p { last = p.last ++ r ∷ [] }) (record { full = p.full ++ p.last ∷ []; last = r ∷ [] })
    (λ _. packed_some (record p { last = p.last ++ r ∷ [] }) rs full small.1)
    (λ e. packed_some (record { full = p.full ++ p.last ∷ []; last = r ∷ [] }) rs (all_append (λ (b : List Record). 0 < length b) p.full (p.last ∷ []) full (not_empty p.last r small.0 e, tt)) small.1)

pub blocks_some : (rs : List Record) → AllByRecursion (λ r. record_size r ≤ 15488) rs → AllByRecursion (λ b. 0 < length b) (blocks_of rs)
unfolding blocks_of
blocks_some rs small = packed_some (record { full = []; last = [] }) rs tt small

listed_length : (pages txn : ℕ) (log : List Record) → length (pages_of pages txn log) ≤ pages
listed_length pages txn log =
    let test : ℕ → Bool = λ page. list_any (λ r. is_change_of txn r && touches pages page r) log in
    omega (arith, length-filter test (page_numbers pages), count_by-le-length test (page_numbers pages), length-range_with_len 16 pages)

aborts_small : (pages : ℕ) (log : List Record) (ts : List ℕ) → pages ≤ 2048 → AllByRecursion (λ r. record_size r ≤ 15488) (map (abort_of pages log) ts)
aborts_small pages log [] h = tt
aborts_small pages log (t ∷ ts) h = (let n : length (pages_of pages t log) ≤ pages = listed_length pages t log in omega (arith, n, h), aborts_small pages log ts h)

-- the records of a promotion fit, where there are so many pages at most
pub promotion_small : (pages term : ℕ) (log : List Record) → pages ≤ 2048 → AllByRecursion (λ r. record_size r ≤ 15488) (promotion_records pages term log)
unfolding promotion_records
promotion_small pages term log h =
    all_append (λ (r : Record). record_size r ≤ 15488) (if nat_lt (last_term log) term then Term term ∷ [] else []) (map (abort_of pages log) (open_in log))
    (if_has (AllByRecursion (λ (r : Record). record_size r ≤ 15488)) (nat_lt (last_term log) term) (Term term ∷ []) [] (λ _. (omega arith, tt)) (λ _. tt))
    (aborts_small pages log (open_in log) h)
