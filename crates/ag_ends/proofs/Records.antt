-- A record is the same as itself, and as its copy.
use Rattle.std.proofs.Common.{◌≡◌, ℕ, List, [], ◌∷◌, true, refl, sym, ◌∙◌, arith}
use Rattle.std.specs.Prelude.{◌==◌, ◌&&◌}
use Rattle.std.specs.List.{AllZip}
use Rattle.std.proofs.lemmas.List.Elements.{same_from_all_zip}
use Rattle.std.specs.contracts.prelude.U16Clone.TheImpl.{is_clone-value}
use Rattle.std.proofs.lemmas.Bool.{and_from}
use Rattle.ag_model.specs.declared.value.Value.{Value}
use Rattle.ag_model.specs.declared.record.Record.{Record}
use Rattle.ag_model.specs.declared.record.Record.TheVariants.{Put, Del, Commit, Abort, Trim, Term}
use Rattle.ag_model.specs.contracts.record.RecordClone.TheImpl.{by_variants}
use Rattle.ag_model.specs.Starts.{is_same_list, is_same_value, is_same_record}

pub same_number : (n : ℕ) → (n == n) ≡ true
same_number n = grind arith

pub same_list : (xs : List ℕ) → is_same_list xs xs ≡ true
same_list [] = refl
same_list (x ∷ xs) = and_from (x == x) (is_same_list xs xs) (same_number x) (same_list xs)

pub same_value : (v : Value) → is_same_value v v ≡ true
same_value v = and_from (v.len == v.len) (is_same_list v.bytes v.bytes) (same_number v.len) (same_list v.bytes)

pub same_record : (x : Record) → is_same_record x x ≡ true
same_record (Put t k v) = and_from ((t == t) && (k == k)) (is_same_value v v) (and_from (t == t) (k == k) (same_number t) (same_number k)) (same_value v)
same_record (Del t k) = and_from (t == t) (k == k) (same_number t) (same_number k)
same_record (Commit t ps) = and_from (t == t) (is_same_list ps ps) (same_number t) (same_list ps)
same_record (Abort t ps) = and_from (t == t) (is_same_list ps ps) (same_number t) (same_list ps)
same_record (Trim p h) = and_from (p == p) (h == h) (same_number p) (same_number h)
same_record (Term t) = same_number t

-- a copy of page numbers is the page numbers
numbers_same : (xs ys : List ℕ) → AllZip is_clone-value.it xs ys → ys ≡ xs
numbers_same xs ys h = same_from_all_zip is_clone-value.it xs ys h (λ x y r. r)

-- a copy of a record is the record
pub clone_same : (x y : Record) → by_variants x y → y ≡ x
clone_same (Put t k v) (Put u l w) p = grind arith
clone_same (Del t k) (Del u l) p = grind arith
clone_same (Commit t ps) (Commit u qs) p =
    let same : qs ≡ ps = sym p.1.3 ∙ numbers_same _ _ p.1.4.0 ∙ p.1.2 in
    let txn : u ≡ t = grind arith in
    cc
clone_same (Abort t ps) (Abort u qs) p =
    let same : qs ≡ ps = sym p.1.3 ∙ numbers_same _ _ p.1.4.0 ∙ p.1.2 in
    let txn : u ≡ t = grind arith in
    cc
clone_same (Trim g h) (Trim q i) p = grind arith
clone_same (Term t) (Term u) p = grind arith
clone_same x y p = absurd p
