-- Commits and Aborts in a log with one more record.
use Rattle.std.proofs.Common.{◌≡◌, ℕ, ◌+◌, Bool, false, ◌||◌, cond, List, [], ◌∷◌, ◌++◌, length, refl, ap, ◌∙◌}
use Rattle.std.specs.List.{list_any, enumerate_from}
use Rattle.std.proofs.lemmas.Bool.{or_parts, or_from, eq-eqb}
use Rattle.std.proofs.lemmas.List.Folds.{list_any-append}
use Rattle.ag_model.specs.declared.record.Record.{Record}
use Rattle.ag_model.specs.declared.record.Record.TheVariants.{Put, Del, Commit, Abort, Trim, Term}
use Rattle.ag_model.specs.Page.{commit_here, commit_of, is_abort_of, numbered}
use Rattle.ag_model.specs.Txns.{is_end_of}
use Rattle.ag_version.proofs.Lists.{enumerate_push}

-- no record of the log ends the transaction
abbrev pub IsOpen : ℕ → List Record → Type 0
IsOpen txn log = list_any (is_end_of txn) log ≡ false

-- a record that doesn't end a transaction says nothing of it
pub commit_here-passes : (u : ℕ) (r : Record) (n later : ℕ) → is_end_of u r ≡ false → commit_here u r n later ≡ later
commit_here-passes u (Put t key value) n later e = refl
commit_here-passes u (Del t key) n later e = refl
commit_here-passes u (Commit t listed) n later e = rw e refl
commit_here-passes u (Abort t listed) n later e = refl
commit_here-passes u (Trim page horizon) n later e = refl
commit_here-passes u (Term term) n later e = refl

pub abort-passes : (u : ℕ) (r : Record) → is_end_of u r ≡ false → is_abort_of u r ≡ false
abort-passes u (Put t key value) e = refl
abort-passes u (Del t key) e = refl
abort-passes u (Commit t listed) e = refl
abort-passes u (Abort t listed) e = e
abort-passes u (Trim page horizon) e = refl
abort-passes u (Term term) e = refl

-- an open transaction has no Commit and no Abort
commit_of-open_from : (u k : ℕ) (log : List Record) → IsOpen u log → commit_of u (enumerate_from k log) ≡ 0
commit_of-open_from u k [] h = refl
commit_of-open_from u k (r ∷ log) h =
    let p = or_parts (is_end_of u r) (list_any (is_end_of u) log) h in
    commit_here-passes u r k (commit_of u (enumerate_from (k + 1) log)) p.0 ∙ commit_of-open_from u (k + 1) log p.1

pub commit_of-open : (u : ℕ) (log : List Record) → IsOpen u log → commit_of u (numbered log) ≡ 0
commit_of-open u log h = commit_of-open_from u 1 log h

pub aborted-open : (u : ℕ) (log : List Record) → IsOpen u log → list_any (is_abort_of u) log ≡ false
aborted-open u [] h = refl
aborted-open u (r ∷ log) h =
    let p = or_parts (is_end_of u r) (list_any (is_end_of u) log) h in
    or_from (is_abort_of u r) (list_any (is_abort_of u) log) (abort-passes u r p.0) (aborted-open u log p.1)

-- one record more
pub numbered_push : (log : List Record) (r : Record) → numbered (log ++ r ∷ []) ≡ numbered log ++ (1 + length log, r) ∷ []
numbered_push log r = enumerate_push 1 log r

commit_of_push_other : (u : ℕ) (rs : List (ℕ × Record)) (n : ℕ) (r : Record) → ((later : ℕ) → commit_here u r n later ≡ later) → commit_of u (rs ++ (n, r) ∷ []) ≡ commit_of u rs
commit_of_push_other u [] n r e = e 0
commit_of_push_other u (x ∷ rs) n r e = ap (λ (z : ℕ). commit_here u x.1 x.0 z) (commit_of_push_other u rs n r e)

commit_of_push_first : (u k : ℕ) (log : List Record) (n : ℕ) (r : Record) → IsOpen u log → commit_of u (enumerate_from k log ++ (n, r) ∷ []) ≡ commit_here u r n 0
commit_of_push_first u k [] n r h = refl
commit_of_push_first u k (x ∷ log) n r h =
    let p = or_parts (is_end_of u x) (list_any (is_end_of u) log) h in
    commit_here-passes u x k (commit_of u (enumerate_from (k + 1) log ++ (n, r) ∷ [])) p.0 ∙ commit_of_push_first u (k + 1) log n r p.1

-- a record that isn't the Commit of a transaction leaves its Commit
pub commit_of_push : (u : ℕ) (log : List Record) (r : Record) → ((n later : ℕ) → commit_here u r n later ≡ later) → commit_of u (numbered (log ++ r ∷ [])) ≡ commit_of u (numbered log)
commit_of_push u log r e = ap (commit_of u) (numbered_push log r) ∙ commit_of_push_other u (numbered log) (1 + length log) r (e (1 + length log))

-- the Commit of an open transaction
pub commit_of_commit : (t : ℕ) (log : List Record) (listed : List ℕ) → IsOpen t log → commit_of t (numbered (log ++ Commit t listed ∷ [])) ≡ 1 + length log
commit_of_commit t log listed h =
    ap (commit_of t) (numbered_push log (Commit t listed)) ∙ commit_of_push_first t 1 log (1 + length log) (Commit t listed) h ∙ ap (λ (b : Bool). cond b (1 + length log) 0) (eq-eqb t t refl)

pub aborted_push : (u : ℕ) (log : List Record) (r : Record) → list_any (is_abort_of u) (log ++ r ∷ []) ≡ (list_any (is_abort_of u) log || (is_abort_of u r || false))
aborted_push u log r = list_any-append (is_abort_of u) log (r ∷ [])
