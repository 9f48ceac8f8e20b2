-- Term starts in order, and those of them that a cut leaves.
use Rattle.std.proofs.Common.{◌≡◌, ℕ, zero, suc, ◌+◌, ◌<◌, ◌≤◌, cond, List, [], ◌∷◌, length, get_or, take, refl, sym, ap, ◌∙◌, arith, zero-add, le-leb}
use Rattle.std.specs.Prelude.{nat_le}
use Rattle.std.specs.List.{filter}
use Rattle.std.specs.List.Sorted.{IsNonDecreasingBy}
use Rattle.std.proofs.lemmas.Bool.{leb-true}
use Rattle.ag_model.specs.declared.config.TermStart.{TermStart}
use Rattle.ag_model.specs.declared.record.Record.{Record}
use Rattle.ag_model.specs.declared.record.Record.TheVariants.{Put, Del, Commit, Abort, Trim, Term}
use Rattle.ag_model.specs.Starts.{term_starts}
use Rattle.ag_lists.proofs.Tests.{by_bool}
use Rattle.ag_ends.specs.Starts.{starts_after}
use Rattle.ag_ends.proofs.Rise.{Rise, rise}

-- each start is above the LSN that they rise from
start_above : (low high i : ℕ) (ss : List TermStart) (d : TermStart) → Rise low high ss → i < length ss → low < (get_or ss i d).lsn
start_above low high i [] d p h = absurd (omega (arith, h))
start_above low high zero (s ∷ ss) d p h = p.0
start_above low high (suc i) (s ∷ ss) d p h = omega (arith, p.0, start_above s.lsn high i ss d p.1 (omega (arith, h)))

-- starts that rise are in order
pub starts_in_order : (low high : ℕ) (ss : List TermStart) → Rise low high ss → IsNonDecreasingBy (λ (s : TermStart). s.lsn) ss
starts_in_order low high [] p i j d le h = absurd (omega (arith, h))
starts_in_order low high (s ∷ ss) p zero zero d le h = omega arith
starts_in_order low high (s ∷ ss) p zero (suc j) d le h = omega (arith, start_above s.lsn high j ss d p.1 (omega (arith, h)))
starts_in_order low high (s ∷ ss) p (suc i) zero d le h = absurd (omega (arith, le))
starts_in_order low high (s ∷ ss) p (suc i) (suc j) d le h = starts_in_order s.lsn high ss p.1 i j d (omega (arith, le)) (omega (arith, h))

-- the starts up to an LSN
abbrev pub starts_up : ℕ → List TermStart → List TermStart
starts_up end ss = filter (λ (s : TermStart). nat_le s.lsn end) ss

none_up : (end low high : ℕ) (ss : List TermStart) → end ≤ low → Rise low high ss → starts_up end ss ≡ []
none_up end low high [] h p = refl
none_up end low high (s ∷ ss) h p =
    by_bool (nat_le s.lsn end) (λ b. cond b (s ∷ starts_up end ss) (starts_up end ss) ≡ [])
    (λ e. absurd (omega (arith, h, p.0, leb-true s.lsn end e)))
    (λ _. none_up end s.lsn high ss (omega (arith, h, p.0)) p.1)

shifted : (lsn n : ℕ) (rs : List Record) → starts_up ((lsn + 1) + n) (starts_after (lsn + 1) rs) ≡ starts_after (lsn + 1) (take n rs)
    → starts_up (lsn + suc n) (starts_after (lsn + 1) rs) ≡ starts_after (lsn + 1) (take n rs)
shifted lsn n rs h = ap (λ m. starts_up m (starts_after (lsn + 1) rs)) (omega arith) ∙ h

-- they are those of the records up to it
starts_of_front : (lsn n : ℕ) (rs : List Record) → starts_up (lsn + n) (starts_after lsn rs) ≡ starts_after lsn (take n rs)
starts_of_front lsn zero rs = none_up (lsn + 0) lsn _ (starts_after lsn rs) (omega arith) (rise lsn rs)
starts_of_front lsn (suc n) [] = refl
starts_of_front lsn (suc n) (Term t ∷ rs) =
    let more : starts_up (lsn + suc n) (starts_after (lsn + 1) rs) ≡ starts_after (lsn + 1) (take n rs) = shifted lsn n rs (starts_of_front (lsn + 1) n rs) in
    let start : TermStart = record { term = t; lsn = lsn + 1 } in
    ap (λ b. cond b (start ∷ starts_up (lsn + suc n) (starts_after (lsn + 1) rs)) (starts_up (lsn + suc n) (starts_after (lsn + 1) rs))) (le-leb (lsn + 1) (lsn + suc n) (omega arith))
    ∙ ap (λ ss. start ∷ ss) more
starts_of_front lsn (suc n) (Put t k v ∷ rs) = shifted lsn n rs (starts_of_front (lsn + 1) n rs)
starts_of_front lsn (suc n) (Del t k ∷ rs) = shifted lsn n rs (starts_of_front (lsn + 1) n rs)
starts_of_front lsn (suc n) (Commit t ps ∷ rs) = shifted lsn n rs (starts_of_front (lsn + 1) n rs)
starts_of_front lsn (suc n) (Abort t ps ∷ rs) = shifted lsn n rs (starts_of_front (lsn + 1) n rs)
starts_of_front lsn (suc n) (Trim p g ∷ rs) = shifted lsn n rs (starts_of_front (lsn + 1) n rs)

pub starts_of_cut : (end : ℕ) (rs : List Record) → starts_up end (term_starts rs) ≡ term_starts (take end rs)
starts_of_cut end rs = ap (λ m. starts_up m (term_starts rs)) (sym (zero-add end)) ∙ starts_of_front 0 end rs
