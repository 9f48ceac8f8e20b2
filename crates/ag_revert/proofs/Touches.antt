-- Sets of pages that records touch, one after the other.
use Rattle.std.proofs.Common.{◌≡◌, ℕ, zero, suc, ◌+◌, ◌<◌, ◌≤◌, List, [], ◌∷◌, ◌++◌, length, take, drop, get_or, Bool, false, refl, sym, ap, ◌∙◌, arith}
use Rattle.std.specs.Prelude.{◌==◌, ◌||◌}
use Rattle.std.specs.List.{filter, list_any, range_with_len}
use Rattle.std.proofs.lemmas.List.Folds.{list_any_more}
use Rattle.ag_model.specs.declared.record.Record.{Record}
use Rattle.ag_model.specs.Rows.{contains, page_numbers, touches}
use Rattle.ag_model.specs.PageSets.{most_pages, pages_where}
use Rattle.ag_model.specs.PageBits.{contains-pages_where}
use Rattle.ag_rules.specs.Replica.{Replica, records, is_foreign}
use Rattle.ag_rules.specs.ResumeMessage.{foreign_from}
use Rattle.ag_lists.proofs.Tests.{or_comm, or_assoc}
use Rattle.ag_revert.specs.Touched.{touched_after}
use Rattle.ag_model.proofs.PageSets.{pages_where-agrees}

-- no page
pub pages_none : pages_where (λ p. false) ≡ []
pages_none = none (page_numbers most_pages)
  where
    none : (ps : List ℕ) → filter (λ p. false) ps ≡ []
    none [] = refl
    none (p ∷ ps) = none ps

-- one more page
pub pages_add : (q : ℕ → Bool) (page : ℕ) → pages_where (λ p. (p == page) || contains p (pages_where q)) ≡ pages_where (λ p. q p || (p == page))
pages_add q page =
    pages_where-agrees (λ p. (p == page) || contains p (pages_where q)) (λ p. q p || (p == page))
    (λ p low high. ap (λ b. (p == page) || b) (contains-pages_where q p low high) ∙ or_comm (p == page) (q p))

-- one more page of a list
pub pages_listed : (q : ℕ → Bool) (xs : List ℕ) (i page : ℕ) → i < length xs → page ≡ get_or xs i 0 → pages_where (λ p. (q p || contains p (take i xs)) || (p == page)) ≡ pages_where (λ p. q p || contains p (take (i + 1) xs))
pages_listed q xs i page within is =
    pages_where-agrees (λ p. (q p || contains p (take i xs)) || (p == page)) (λ p. q p || contains p (take (i + 1) xs))
    (λ p low high.
    ap (λ y. (q p || contains p (take i xs)) || (p == y)) is
    ∙ or_assoc (q p) (contains p (take i xs)) (p == get_or xs i 0)
    ∙ ap (λ b. q p || b) (sym (list_any_more (λ y. p == y) xs i 0 within)))

-- one more record
pub pages_touched : (pages : ℕ) (xs : List Record) (i : ℕ) (x : Record) → i < length xs → x ≡ get_or xs i x
    → pages_where (λ p. list_any (touches pages p) (take i xs) || touches pages p x) ≡ pages_where (λ p. list_any (touches pages p) (take (i + 1) xs))
pages_touched pages xs i x within is =
    pages_where-agrees (λ p. list_any (touches pages p) (take i xs) || touches pages p x) (λ p. list_any (touches pages p) (take (i + 1) xs))
    (λ p low high.
    ap (λ y. list_any (touches pages p) (take i xs) || touches pages p y) is
    ∙ sym (list_any_more (touches pages p) xs i x within))

-- what is foreign after a Resume: the pages so far, and those that are touched
pub foreign_agrees : (pages fork : ℕ) (r : Replica) → pages ≤ 2048 → foreign_from pages r fork ≡ filter (λ p. is_foreign r p || contains p (touched_after pages (records r) fork)) (page_numbers pages)
foreign_agrees pages fork r few = agrees 16 pages (omega arith) (omega arith)
  where
    agrees : (a n : ℕ) → 16 ≤ a → a + n ≤ 2064
        → filter (λ p. is_foreign r p || list_any (touches pages p) (drop fork (records r))) (range_with_len a n) ≡ filter (λ p. is_foreign r p || contains p (touched_after pages (records r) fork)) (range_with_len a n)
    agrees a zero low high = refl
    agrees a (suc n) low high =
        let head : list_any (touches pages a) (drop fork (records r)) ≡ contains a (touched_after pages (records r) fork) =
        sym (contains-pages_where (λ p. list_any (touches pages p) (drop fork (records r))) a low (omega arith)) in
        let tail = agrees (a + 1) n (omega arith) (omega arith) in
        rw (head, tail) refl
