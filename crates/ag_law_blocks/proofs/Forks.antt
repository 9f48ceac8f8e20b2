-- A fork is where a block ends, and past the first record.
use Rattle.std.proofs.Common.{◌≡◌, ℕ, ◌+◌, ◌-◌, ◌<◌, ◌≤◌, min, List, [], ◌∷◌, ◌++◌, length, refl, sym, ◌∙◌, subst, arith, append_assoc, length-append}
use Rattle.std.specs.Prelude.{nat_le}
use Rattle.std.specs.List.{AllByRecursion}
use Rattle.std.proofs.lemmas.Bool.{leb-true, leb-false}
use Rattle.ag_model.specs.declared.record.Record.{Record}
use Rattle.ag_model.specs.declared.record.Record.TheVariants.{Put, Del, Commit, Abort, Trim, Term}
use Rattle.ag_model.specs.declared.config.TermStart.{TermStart}
use Rattle.ag_model.specs.Starts.{term_starts, is_same_start, fork_of_starts}
use Rattle.ag_lists.proofs.Tests.{by_bool, if_has}
use Rattle.ag_ends.specs.Starts.{starts_after}
use Rattle.ag_law_blocks.specs.Marks.{Begins}

-- what both numbers have, the lesser has
min_has : (P : ℕ → Type 0) (a b : ℕ) → P a → P b → P (min a b)
min_has P a b p q =
    by_bool (nat_le a b) (λ v. nat_le a b ≡ v → P (min a b))
    (λ _ e. let same : min a b ≡ a = omega (arith, leb-true a b e) in subst P (sym same) p)
    (λ _ e. let same : min a b ≡ b = omega (arith, leb-false a b e) in subst P (sym same) q) refl

-- what holds of both ends, and before each start, holds of the fork
pub fork_has : (P : ℕ → Type 0) (ss : List TermStart) (e : ℕ) (ts : List TermStart) (e2 : ℕ) → P e → P e2 → AllByRecursion (λ s. P (s.lsn - 1)) ss → AllByRecursion (λ s. P (s.lsn - 1)) ts → P (fork_of_starts ss e ts e2)
unfolding fork_of_starts
fork_has P [] e [] e2 p q ps qs = min_has P e e2 p q
fork_has P [] e (t ∷ ts) e2 p q ps qs = min_has P e (t.lsn - 1) p qs.0
fork_has P (s ∷ ss) e [] e2 p q ps qs = min_has P (s.lsn - 1) e2 ps.0 q
fork_has P (s ∷ ss) e (t ∷ ts) e2 p q ps qs =
    if_has P (is_same_start s t) (fork_of_starts ss e ts e2) (min (s.lsn - 1) (t.lsn - 1)) (λ _. fork_has P ss e ts e2 p q ps.1 qs.1) (λ _. min_has P (s.lsn - 1) (t.lsn - 1) ps.0 qs.0)

-- the starts of records from an LSN on lie there or later
starts_late : (k : ℕ) (log : List Record) → 1 ≤ k → AllByRecursion (λ s. 0 < s.lsn - 1) (starts_after k log)
starts_late k [] h = tt
starts_late k (Term t ∷ log) h = (omega (arith, h), starts_late (k + 1) log (omega (arith, h)))
starts_late k (Put t key v ∷ log) h = starts_late (k + 1) log (omega (arith, h))
starts_late k (Del t key ∷ log) h = starts_late (k + 1) log (omega (arith, h))
starts_late k (Commit t ps ∷ log) h = starts_late (k + 1) log (omega (arith, h))
starts_late k (Abort t ps ∷ log) h = starts_late (k + 1) log (omega (arith, h))
starts_late k (Trim p x ∷ log) h = starts_late (k + 1) log (omega (arith, h))

fork_of_begun : (a b : List Record) (e e2 : ℕ) → 0 < e → 0 < e2 → 0 < fork_of_starts (term_starts (Term 1 ∷ a)) e (term_starts (Term 1 ∷ b)) e2
unfolding fork_of_starts
fork_of_begun a b e e2 h k = fork_has (λ n. 0 < n) (starts_after 1 a) e (starts_after 1 b) e2 h k (starts_late 1 a (omega arith)) (starts_late 1 b (omega arith))

-- logs that begin with the first term part past it
pub fork_some : (a b : List Record) → Begins a → Begins b → 0 < fork_of_starts (term_starts a) (length a) (term_starts b) (length b)
fork_some a b p q =
    subst (λ (x : List Record). 0 < fork_of_starts (term_starts x) (length x) (term_starts b) (length b)) (sym p.1)
    (subst (λ (x : List Record). 0 < fork_of_starts (term_starts (Term 1 ∷ p.0)) (length (Term 1 ∷ p.0)) (term_starts x) (length x)) (sym q.1)
    (fork_of_begun p.0 q.0 (length (Term 1 ∷ p.0)) (length (Term 1 ∷ q.0)) (omega arith) (omega arith)))

-- what holds before each Term record holds of its start
pub starts_have : (P : ℕ → Type 0) (log : List Record) → ((front : List Record) (t : ℕ) (back : List Record) → log ≡ front ++ Term t ∷ back → P (length front)) → AllByRecursion (λ s. P (s.lsn - 1)) (term_starts log)
starts_have P log all = from [] log refl
  where
    next : (front : List Record) (r : Record) (rest : List Record) → AllByRecursion (λ (s : TermStart). P (s.lsn - 1)) (starts_after (length (front ++ r ∷ [])) rest) → AllByRecursion (λ (s : TermStart). P (s.lsn - 1)) (starts_after (length front + 1) rest)
    next front r rest p = subst (λ (n : ℕ). AllByRecursion (λ (s : TermStart). P (s.lsn - 1)) (starts_after n rest)) (length-append front (r ∷ [])) p

    from : (front rest : List Record) → log ≡ front ++ rest → AllByRecursion (λ (s : TermStart). P (s.lsn - 1)) (starts_after (length front) rest)
    from front [] e = tt
    from front (Term t ∷ rest) e = (subst P (omega arith) (all front t rest e), next front (Term t) rest (from (front ++ Term t ∷ []) rest (e ∙ sym (append_assoc front (Term t ∷ []) rest))))
    from front (Put t k v ∷ rest) e = next front (Put t k v) rest (from (front ++ Put t k v ∷ []) rest (e ∙ sym (append_assoc front (Put t k v ∷ []) rest)))
    from front (Del t k ∷ rest) e = next front (Del t k) rest (from (front ++ Del t k ∷ []) rest (e ∙ sym (append_assoc front (Del t k ∷ []) rest)))
    from front (Commit t ps ∷ rest) e = next front (Commit t ps) rest (from (front ++ Commit t ps ∷ []) rest (e ∙ sym (append_assoc front (Commit t ps ∷ []) rest)))
    from front (Abort t ps ∷ rest) e = next front (Abort t ps) rest (from (front ++ Abort t ps ∷ []) rest (e ∙ sym (append_assoc front (Abort t ps ∷ []) rest)))
    from front (Trim p h ∷ rest) e = next front (Trim p h) rest (from (front ++ Trim p h ∷ []) rest (e ∙ sym (append_assoc front (Trim p h ∷ []) rest)))
