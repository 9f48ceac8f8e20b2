-- Where two logs part, told by their term starts.
use Rattle.std.proofs.Common.{◌≡◌, ℕ, zero, suc, ◌+◌, ◌≤◌, List, [], ◌∷◌, length, take, true, sym, ap, ◌∙◌, arith}
use Rattle.std.specs.List.{common_prefix_len}
use Rattle.ag_model.specs.declared.record.Record.{Record}
use Rattle.ag_model.specs.Starts.{term_starts, fork_of_starts, is_same_record, fork}
use Rattle.ag_rules.specs.Replica.{records, end}
use Rattle.ag_rules.specs.Group.{Group, replica}
use Rattle.ag_lists.proofs.Tests.{if_has}
use Rattle.ag_ends.proofs.Records.{same_record}
use Rattle.ag_ends.proofs.Forks.{fork_from, fork_from_start, low_from, step}
use Rattle.ag_laws.specs.Logs.{Logs, Setting, IsTraced}
use Rattle.ag_laws.specs.Good.{Good}
use Rattle.ag_laws.proofs.Starts.{Agree, agree}
use Rattle.ag_laws.proofs.Grow.{records_traced}

-- the starts tell no fork that is too short
told_from : (k : ℕ) (a b : List Record) → k + common_prefix_len is_same_record a b ≤ fork_from k a b
told_from k [] b = omega (arith, low_from k [] b)
told_from k (x ∷ a) [] = omega (arith, low_from k (x ∷ a) [])
told_from k (x ∷ a) (y ∷ b) =
    if_has (λ (n : ℕ). k + n ≤ fork_from k (x ∷ a) (y ∷ b)) (is_same_record x y) (1 + common_prefix_len is_same_record a b) 0
    (λ e. omega (arith, told_from (k + 1) a b, step k x y a b e))
    (λ _. omega (arith, low_from k (x ∷ a) (y ∷ b)))

pub told_least : (a b : List Record) → fork a b ≤ fork_of_starts (term_starts a) (length a) (term_starts b) (length b)
unfolding fork
told_least a b =
    omega (arith, told_from 0 a b, fork_from_start a b)

-- logs that are the same up to an LSN have so long a common prefix
common_most : (f : ℕ) (a b : List Record) → f ≤ length a → f ≤ length b → take f a ≡ take f b → f ≤ common_prefix_len is_same_record a b
common_most zero a b h h2 e = omega arith
common_most (suc f) [] b h h2 e = absurd (omega (arith, h))
common_most (suc f) (x ∷ a) [] h h2 e = absurd (omega (arith, h2))
common_most (suc f) (x ∷ a) (y ∷ b) h h2 e =
    let one : x ≡ y = cc in
    let rest : take f a ≡ take f b = cc in
    let yes : is_same_record x y ≡ true = ap (is_same_record x) (sym one) ∙ same_record x in
    if_has (λ (n : ℕ). suc f ≤ n) (is_same_record x y) (1 + common_prefix_len is_same_record a b) 0
    (λ _. omega (arith, common_most f a b (omega (arith, h)) (omega (arith, h2)) rest))
    (λ n. absurd (cc))

-- what two logs have in common is at most what their starts tell
pub told_most : (f : ℕ) (a b : List Record) → f ≤ length a → f ≤ length b → take f a ≡ take f b → f ≤ fork_of_starts (term_starts a) (length a) (term_starts b) (length b)
unfolding fork
told_most f a b h h2 e = omega (arith, common_most f a b h h2 e, told_least a b)

pub told_exact : (logs : Logs) (a b : List Record) → IsTraced logs a → IsTraced logs b → fork_of_starts (term_starts a) (length a) (term_starts b) (length b) ≡ fork a b
unfolding fork
told_exact logs a b ta tb =
    let g : Agree a b (fork_of_starts (term_starts a) (length a) (term_starts b) (length b)) = agree logs a b ta tb in
    omega (arith, common_most _ a b g.one g.two g.same, told_least a b)

pub told_in_group : (s : Setting) (logs : Logs) (g : Group) (n m : ℕ) → Good s logs g → fork_of_starts (term_starts (records (replica g n))) (end (replica g n)) (term_starts (records (replica g m))) (end (replica g m)) ≡ fork (records (replica g n)) (records (replica g m))
told_in_group s logs g n m good = told_exact logs (records (replica g n)) (records (replica g m)) (records_traced s logs g n good) (records_traced s logs g m good)
