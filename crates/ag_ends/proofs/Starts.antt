-- The term starts of a log part by part, and the term at an LSN.
use Rattle.std.proofs.Common.{◌≡◌, ℕ, zero, suc, ◌+◌, ◌<◌, List, [], ◌∷◌, ◌++◌, length, get_or, take, refl, sym, ap, ◌∙◌, arith, append_assoc, append-nil, zero-add}
use Rattle.std.specs.Prelude.{nat_le}
use Rattle.std.specs.List.{fold}
use Rattle.std.proofs.lemmas.Bool.{leb-false}
use Rattle.std.proofs.lemmas.List.{take_more, length-take-le}
use Rattle.ag_model.specs.declared.config.TermStart.{TermStart}
use Rattle.ag_model.specs.declared.record.Record.{Record}
use Rattle.ag_model.specs.declared.record.Record.TheVariants.{Put, Del, Commit, Abort, Trim, Term}
use Rattle.ag_model.specs.Starts.{start_by, term_starts, last_term}
use Rattle.ag_lists.proofs.Tests.{if_has}
use Rattle.ag_ends.specs.Starts.{starts_after, term_by}
use Rattle.ag_ends.proofs.Rise.{rise, term_with, none_above}

-- the starts of records one after the other
pub starts_append : (lsn : ℕ) (xs ys : List Record) → starts_after lsn (xs ++ ys) ≡ starts_after lsn xs ++ starts_after (lsn + length xs) ys
starts_append lsn [] ys = ap (λ n. starts_after n ys) (omega arith)
starts_append lsn (x ∷ xs) ys =
    let n : (lsn + 1) + length xs ≡ lsn + suc (length xs) = omega arith in
    ap (λ zs. start_by (lsn + 1) x ++ zs) (starts_append (lsn + 1) xs ys ∙ ap (λ m. starts_after (lsn + 1) xs ++ starts_after m ys) n)
    ∙ sym (append_assoc (start_by (lsn + 1) x) (starts_after (lsn + 1) xs) (starts_after (lsn + suc (length xs)) ys))

-- one record more
pub starts_more : (lsn i : ℕ) (rs : List Record) (d : Record) → i < length rs
    → starts_after lsn (take (i + 1) rs) ≡ starts_after lsn (take i rs) ++ start_by (lsn + i + 1) (get_or rs i d)
starts_more lsn i rs d h =
    ap (starts_after lsn) (take_more rs i d h)
    ∙ starts_append lsn (take i rs) (get_or rs i d ∷ [])
    ∙ ap (λ zs. starts_after lsn (take i rs) ++ zs)
    (append-nil (start_by (lsn + length (take i rs) + 1) (get_or rs i d))
    ∙ ap (λ m. start_by (lsn + m + 1) (get_or rs i d)) (length-take-le i rs (omega arith)))

-- a step of the loop that finds starts
pub starts_step : (old now next : List TermStart) (before lsn i : ℕ) (rs : List Record) (r : Record) → i < length rs → r ≡ get_or rs i r → lsn ≡ before + i
    → now ≡ old ++ starts_after before (take i rs) → next ≡ now ++ start_by (lsn + 1) r → next ≡ old ++ starts_after before (take (i + 1) rs)
starts_step old now next before lsn i rs r h e n p q =
    q ∙ ap (λ ss. ss ++ start_by (lsn + 1) r) p ∙ append_assoc old (starts_after before (take i rs)) (start_by (lsn + 1) r)
    ∙ ap (λ ss. old ++ (starts_after before (take i rs) ++ ss)) (ap (λ m. start_by (m + 1) r) n ∙ ap (start_by (before + i + 1)) e)
    ∙ ap (λ ss. old ++ ss) (sym (starts_more before i rs r h))

-- the same for a log's starts
pub starts_whole : (xs ys : List Record) → term_starts (xs ++ ys) ≡ term_starts xs ++ starts_after (length xs) ys
starts_whole xs ys = starts_append 0 xs ys ∙ ap (λ m. term_starts xs ++ starts_after m ys) (zero-add (length xs))

-- the last term of the first records, by the starts of all
abbrev pub TermIs : ℕ → ℕ → ℕ → List Record → Type 0
TermIs lsn n d rs = fold (term_with (lsn + n)) d (starts_after lsn rs) ≡ fold (λ last (s : TermStart). s.term) d (starts_after lsn (take n rs))

later : (lsn n d : ℕ) (rs : List Record) → TermIs (lsn + 1) n d rs
    → fold (term_with (lsn + suc n)) d (starts_after (lsn + 1) rs) ≡ fold (λ last (s : TermStart). s.term) d (starts_after (lsn + 1) (take n rs))
later lsn n d rs h =
    let e : lsn + suc n ≡ (lsn + 1) + n = omega arith in
    ap (λ m. fold (term_with m) d (starts_after (lsn + 1) rs)) e ∙ h

pub term_is : (lsn n d : ℕ) (rs : List Record) → TermIs lsn n d rs
term_is lsn zero d [] = refl
term_is lsn (suc n) d [] = refl
term_is lsn zero d (x ∷ rs) = none_above (lsn + 0) d lsn _ (starts_after lsn (x ∷ rs)) (omega arith) (rise lsn (x ∷ rs))
term_is lsn (suc n) d (Term t ∷ rs) =
    if_has (λ (x : ℕ). fold (term_with (lsn + suc n)) x (starts_after (lsn + 1) rs) ≡ fold (λ last (s : TermStart). s.term) t (starts_after (lsn + 1) (take n rs)))
    (nat_le (lsn + 1) (lsn + suc n)) t d
    (λ _. later lsn n t rs (term_is (lsn + 1) n t rs))
    (λ f. absurd (omega (arith, leb-false (lsn + 1) (lsn + suc n) f)))
term_is lsn (suc n) d (Put t key v ∷ rs) = later lsn n d rs (term_is (lsn + 1) n d rs)
term_is lsn (suc n) d (Del t key ∷ rs) = later lsn n d rs (term_is (lsn + 1) n d rs)
term_is lsn (suc n) d (Commit t ps ∷ rs) = later lsn n d rs (term_is (lsn + 1) n d rs)
term_is lsn (suc n) d (Abort t ps ∷ rs) = later lsn n d rs (term_is (lsn + 1) n d rs)
term_is lsn (suc n) d (Trim p g ∷ rs) = later lsn n d rs (term_is (lsn + 1) n d rs)

-- the term at an LSN is the last of the records up to there
pub term_at_is : (last : ℕ) (rs : List Record) → term_by last (term_starts rs) ≡ last_term (take last rs)
term_at_is last rs = ap (λ m. term_by m (term_starts rs)) (sym (zero-add last)) ∙ term_is 0 last 0 rs
