-- The pages that a transaction touched, where its log goes on.
use Rattle.std.proofs.Common.{◌≡◌, ℕ, List, [], ◌∷◌, ◌++◌, map, Bool, false, refl, sym, ap, ◌∙◌}
use Rattle.std.specs.Prelude.{◌==◌, ◌||◌, ◌&&◌, if◌then◌else◌}
use Rattle.std.specs.List.{AllByRecursion, filter, list_any}
use Rattle.std.proofs.lemmas.Bool.{eqb-true, eqb-false}
use Rattle.std.proofs.lemmas.List.Folds.{list_any-append}
use Rattle.std.proofs.Math.Bool.{or-false}
use Rattle.ag_model.specs.declared.record.Record.{Record}
use Rattle.ag_model.specs.declared.record.Record.TheVariants.{Put, Del, Commit, Abort, Trim, Term}
use Rattle.ag_model.specs.declared.event.Pair.{Pair}
use Rattle.ag_model.specs.Rows.{touches, page_of, page_numbers}
use Rattle.ag_model.specs.Txns.{is_change_of, pages_of}
use Rattle.ag_rules.specs.SetEvent.{pages_of_pairs}
use Rattle.ag_lists.proofs.Tests.{by_bool}
use Rattle.ag_law_proper.specs.Ended.{is_of}
use Rattle.ag_law_proper.proofs.Numbers.{apart, eqb_same}

pub filter_same : (f g : ℕ → Bool) → ((x : ℕ) → f x ≡ g x) → (xs : List ℕ) → filter f xs ≡ filter g xs
filter_same f g e [] = refl
filter_same f g e (x ∷ xs) = ap (λ b. if b then x ∷ filter f xs else filter f xs) (e x) ∙ ap (λ l. if g x then x ∷ l else l) (filter_same f g e xs)

-- changes of the transaction among records that are none
none_changed : (txn : ℕ) (pages page : ℕ) (new : List Record) → AllByRecursion (λ r. is_change_of txn r ≡ false) new → list_any (λ r. is_change_of txn r && touches pages page r) new ≡ false
none_changed txn pages page [] p = refl
none_changed txn pages page (r ∷ new) p = ap (λ b. (b && touches pages page r) || list_any (λ r. is_change_of txn r && touches pages page r) new) p.0 ∙ none_changed txn pages page new p.1

-- records that are no changes of the transaction leave its pages
pub pages_quiet : (pages txn : ℕ) (log new : List Record) → AllByRecursion (λ r. is_change_of txn r ≡ false) new → pages_of pages txn (log ++ new) ≡ pages_of pages txn log
pages_quiet pages txn log new none =
    filter_same (λ page. list_any (λ r. is_change_of txn r && touches pages page r) (log ++ new)) (λ page. list_any (λ r. is_change_of txn r && touches pages page r) log)
    (λ page. list_any-append (λ r. is_change_of txn r && touches pages page r) log new ∙ ap (λ b. list_any (λ r. is_change_of txn r && touches pages page r) log || b) (none_changed txn pages page new none) ∙ or-false _)
    (page_numbers pages)

-- a transaction with no record has changed nothing
none_of_log : (pages txn page : ℕ) (log : List Record) → list_any (is_of txn) log ≡ false → list_any (λ r. is_change_of txn r && touches pages page r) log ≡ false
none_of_log pages txn page [] e = refl
none_of_log pages txn page (Put t k v ∷ log) e =
    by_bool (txn == t) (λ b. ((b || false) || list_any (is_of txn) log) ≡ false → ((b && (page == page_of pages k)) || list_any (λ r. is_change_of txn r && touches pages page r) log) ≡ false)
    (λ _ q. absurd (cc)) (λ _ q. none_of_log pages txn page log q) e
none_of_log pages txn page (Del t k ∷ log) e =
    by_bool (txn == t) (λ b. ((b || false) || list_any (is_of txn) log) ≡ false → ((b && (page == page_of pages k)) || list_any (λ r. is_change_of txn r && touches pages page r) log) ≡ false)
    (λ _ q. absurd (cc)) (λ _ q. none_of_log pages txn page log q) e
none_of_log pages txn page (Commit t ps ∷ log) e = by_bool (txn == t) (λ b. ((b || false) || list_any (is_of txn) log) ≡ false → list_any (λ r. is_change_of txn r && touches pages page r) log ≡ false) (λ _ q. absurd (cc)) (λ _ q. none_of_log pages txn page log q) e
none_of_log pages txn page (Abort t ps ∷ log) e = by_bool (txn == t) (λ b. ((b || false) || list_any (is_of txn) log) ≡ false → list_any (λ r. is_change_of txn r && touches pages page r) log ≡ false) (λ _ q. absurd (cc)) (λ _ q. none_of_log pages txn page log q) e
none_of_log pages txn page (Trim q h ∷ log) e = none_of_log pages txn page log e
none_of_log pages txn page (Term t ∷ log) e = none_of_log pages txn page log e

eqb_turn : (x y : ℕ) → (x == y) ≡ (y == x)
eqb_turn x y = by_bool (x == y) (λ v. (x == y) ≡ v → v ≡ (y == x)) (λ _ e. sym (ap (λ z. z == x) (sym (eqb-true x y e)) ∙ eqb_same x)) (λ _ e. sym (apart y x (λ q. eqb-false x y e (sym q)))) refl

-- the pages of the puts of one transaction
puts_touch : (pages txn page : ℕ) (pairs : List Pair) → list_any (λ r. is_change_of txn r && touches pages page r) (map (λ (pair : Pair). Put txn pair.key pair.value) pairs) ≡ list_any (λ (pair : Pair). page_of pages pair.key == page) pairs
puts_touch pages txn page [] = refl
puts_touch pages txn page (p ∷ ps) =
    ap (λ b. (b && (page == page_of pages p.key)) || list_any (λ r. is_change_of txn r && touches pages page r) (map (λ (pair : Pair). Put txn pair.key pair.value) ps)) (eqb_same txn)
    ∙ ap (λ b. b || list_any (λ r. is_change_of txn r && touches pages page r) (map (λ (pair : Pair). Put txn pair.key pair.value) ps)) (eqb_turn page (page_of pages p.key))
    ∙ ap (λ b. (page_of pages p.key == page) || b) (puts_touch pages txn page ps)

-- a whole transaction touches the pages of its pairs
pub pages_of_set : (pages txn : ℕ) (log : List Record) (pairs : List Pair) → list_any (is_of txn) log ≡ false → pages_of_pairs pages pairs ≡ pages_of pages txn (log ++ map (λ (pair : Pair). Put txn pair.key pair.value) pairs)
pages_of_set pages txn log pairs none =
    filter_same (λ page. list_any (λ (pair : Pair). page_of pages pair.key == page) pairs) (λ page. list_any (λ r. is_change_of txn r && touches pages page r) (log ++ map (λ (pair : Pair). Put txn pair.key pair.value) pairs))
    (λ page. sym (list_any-append (λ r. is_change_of txn r && touches pages page r) log (map (λ (pair : Pair). Put txn pair.key pair.value) pairs)
    ∙ ap (λ b. b || list_any (λ r. is_change_of txn r && touches pages page r) (map (λ (pair : Pair). Put txn pair.key pair.value) pairs)) (none_of_log pages txn page log none)
    ∙ puts_touch pages txn page pairs))
    (page_numbers pages)
