-- Two laws at once, and what each record of a proper log meets.
use Rattle.std.proofs.Common.{◌≡◌, ℕ, ◌+◌, ◌-◌, List, [], ◌∷◌, ◌++◌, length, take, drop, sym, ap, ◌∙◌, arith, append_assoc, length-append}
use Rattle.std.specs.List.{AllByRecursion, list_any}
use Rattle.std.proofs.lemmas.List.{take_at, drop_at}
use Rattle.ag_model.specs.declared.record.Record.{Record}
use Rattle.ag_model.specs.declared.record.Record.TheVariants.{Put, Del, Commit, Abort, Trim, Term}
use Rattle.ag_model.specs.Page.{numbered}
use Rattle.ag_model.specs.Proper.{IsRecordOf, IsEnd}
use Rattle.ag_model.specs.Txns.{pages_of}
use Rattle.ag_law_proper.specs.Growth.{Lead}
use Rattle.ag_law_proper.specs.Law.{Law}
use Rattle.ag_law_proper.specs.Places.{EachPlace}
use Rattle.ag_law_proper.specs.Ended.{is_of, EndPlace, IsEndBetween}
use Rattle.ag_law_proper.proofs.Splits.{each_numbered}
use Rattle.ag_law_proper.proofs.Trimmed.{TrimPlace, trim_law}
use Rattle.ag_law_proper.proofs.Ended.{Knows, end_law}

pub both_laws : (pages : ℕ) (R S : List Record → Type 0) (W X : Lead → Type 0) → Law pages R W → Law pages S X → Law pages (λ log. R log × S log) (λ x. W x × X x)
both_laws pages R S W X one two = record {
  none = (one.none, two.none);
  shorter = λ a b p q. (one.shorter a b p q.0, two.shorter a b p q.1);
  log = λ x p. (one.log x p.0, two.log x p.1);
  first = (one.first, two.first);
  steps = λ a b s p. (one.steps a b s p.0, two.steps a b s p.1);
  takes = λ term log low p. (one.takes term log low p.0, two.takes term log low p.1);
}

-- a record in its place, by Trims and by ends
abbrev pub ProperLog : ℕ → List Record → Type 0
ProperLog pages log = EachPlace TrimPlace log × EachPlace (EndPlace pages) log

-- the same of what a primary leads with
abbrev pub ProperLead : ℕ → Lead → Type 0
ProperLead pages x = EachPlace TrimPlace x.log × Knows pages x

pub proper_law : (pages : ℕ) → Law pages (ProperLog pages) (ProperLead pages)
proper_law pages = both_laws pages (EachPlace TrimPlace) (EachPlace (EndPlace pages)) (λ x. EachPlace TrimPlace x.log) (Knows pages) (trim_law pages) (end_law pages)

end_of_place : (pages txn : ℕ) (listed : List ℕ) (log front : List Record) (r : Record) (back : List Record) → log ≡ front ++ r ∷ back → IsEndBetween pages front txn listed back → IsEnd pages log (length front + 1) txn listed
end_of_place pages txn listed log front r back e p =
    let whole : log ≡ (front ++ r ∷ []) ++ back = e ∙ sym (append_assoc front (r ∷ []) back) in (
      ap (λ l. list_any (is_of txn) (drop (length front + 1) l)) whole ∙ ap (list_any (is_of txn)) (drop_at (front ++ r ∷ []) back (length front + 1) (length-append front (r ∷ []))) ∙ p.0,
      p.1 ∙ ap (pages_of pages txn) (sym (ap (take (length front + 1 - 1)) e ∙ take_at front (r ∷ back) (length front + 1 - 1) (omega arith))),
    )

record_of_place : (pages : ℕ) (log front : List Record) (r : Record) (back : List Record) → log ≡ front ++ r ∷ back → TrimPlace front r back → EndPlace pages front r back → IsRecordOf pages log (length front + 1) r
record_of_place pages log front (Put t k v) back e p q = tt
record_of_place pages log front (Del t k) back e p q = tt
record_of_place pages log front (Commit t ps) back e p q = end_of_place pages t ps log front (Commit t ps) back e q
record_of_place pages log front (Abort t ps) back e p q = end_of_place pages t ps log front (Abort t ps) back e q
record_of_place pages log front (Trim g h) back e p q = p
record_of_place pages log front (Term t) back e p q = tt

-- each record is one of a proper log
pub proper_records : (pages : ℕ) (log : List Record) → ProperLog pages log → AllByRecursion (λ r. IsRecordOf pages log r.0 r.1) (numbered log)
proper_records pages log p = each_numbered (IsRecordOf pages log) log (λ front r back e. record_of_place pages log front r back e (p.0 front r back e) (p.1 front r back e))
