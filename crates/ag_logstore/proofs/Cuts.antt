-- A log in memory, cut at a block's end.
use Rattle.std.proofs.Common.{◌≡◌, ℕ, zero, suc, ◌+◌, ◌-◌, ◌<◌, ◌≤◌, List, [], ◌∷◌, length, get_or, take, drop, Bool, true, false, cond, refl, sym, ap, ◌∙◌, subst, inl, inr, ◌⊎◌, arith, add_assoc, zero-add}
use Rattle.std.specs.Prelude.{nat_le, Contains}
use Rattle.std.specs.List.{filter}
use Rattle.std.specs.List.Sorted.{IsPartitionPoint}
use Rattle.std.proofs.lemmas.Bool.{leb-true, le-leb, false≢true}
use Rattle.std.proofs.lemmas.List.{drop-take, drop-drop, take-take, length-drop, length-take-le}
use Rattle.ag_model.specs.declared.config.TermStart.{TermStart}
use Rattle.ag_model.specs.declared.record.Record.{Record}
use Rattle.ag_model.specs.Sizes.{sectors_to, records_size}
use Rattle.ag_model.specs.declared.record.Log.{Log}
use Rattle.ag_model.specs.Blocks.{cut_at}
use Rattle.ag_lists.proofs.Tests.{by_bool}
use Rattle.ag_ends.proofs.CutStarts.{starts_up, starts_of_cut}
use Rattle.ag_logstore.specs.LogKept.{RisesTo, AreSmall, IsKept}
use Rattle.ag_logstore.proofs.Fitting.{fit_take}
use Rattle.ag_logstore.proofs.LogEnds.{rises_le}

-- what stands before a partition point is what passes the test
pub take_is_filter : {X : Type 0} (p : X → Bool) (xs : List X) (i : ℕ) → i ≤ length xs → IsPartitionPoint (λ y. p y ≡ true) (λ y. p y ≡ false) xs i → take i xs ≡ filter p xs
take_is_filter p [] zero le point = refl
take_is_filter p [] (suc i) le point = absurd (omega (arith, le))
take_is_filter p (x ∷ xs) zero le point =
    by_bool (p x) (λ b. [] ≡ cond b (x ∷ filter p xs) (filter p xs))
    (λ t. absurd (false≢true (sym (point.1 0 x (omega arith) (omega arith)) ∙ t)))
    (λ _. take_is_filter p xs zero (omega arith) ((λ k d l h. absurd (omega (arith, h))), λ k d l h. point.1 (suc k) d (omega arith) (omega (arith, h))))
take_is_filter p (x ∷ xs) (suc i) le point =
    by_bool (p x) (λ b. x ∷ take i xs ≡ cond b (x ∷ filter p xs) (filter p xs))
    (λ _. ap (λ ys. x ∷ ys) (take_is_filter p xs i (omega (arith, le)) ((λ k d l h. point.0 (suc k) d (omega arith) (omega (arith, h))), λ k d l h. point.1 (suc k) d (omega (arith, l)) (omega (arith, h)))))
    (λ f. absurd (false≢true (sym f ∙ point.0 0 x (omega arith) (omega arith))))

abbrev pub to_end : ℕ → List ℕ → List ℕ
to_end end es = filter (λ e. nat_le e end) es

-- an end that is kept, and one that isn't
kept_one : (e end : ℕ) (es : List ℕ) → e ≤ end → to_end end (e ∷ es) ≡ e ∷ to_end end es
kept_one e end es h = ap (λ b. cond b (e ∷ to_end end es) (to_end end es)) (le-leb e end h)

pub gone_all : (low high end : ℕ) (es : List ℕ) → RisesTo low high es → end ≤ low → to_end end es ≡ []
gone_all low high end [] p h = refl
gone_all low high end (e ∷ es) p h =
    by_bool (nat_le e end) (λ b. cond b (e ∷ to_end end es) (to_end end es) ≡ [])
    (λ t. absurd (omega (arith, leb-true e end t, p.0, h)))
    (λ _. gone_all e high end es p.1 (omega (arith, p.0, h)))

pub kept_all : (low high end : ℕ) (es : List ℕ) → RisesTo low high es → high ≤ end → to_end end es ≡ es
kept_all low high end [] p h = refl
kept_all low high end (e ∷ es) p h = kept_one e end es (omega (arith, rises_le e high es p.1, h)) ∙ ap (λ xs. e ∷ xs) (kept_all e high end es p.1 h)

-- where a cut may lead from an end: to itself, or to the end of a later block
abbrev pub IsCut : ℕ → ℕ → List ℕ → Type 0
IsCut low end es = (end ≡ low) ⊎ Contains es end

-- the log in two: the blocks that are kept, and the others
pub record Splits (low high end : ℕ) (es : List ℕ) (rs : List Record) : Type 0 where
  pub from : low ≤ end
  pub to : end ≤ high
  pub keeps : RisesTo low end (to_end end es)
  pub keeps_small : AreSmall low (to_end end es) (take (end - low) rs)
  pub others : RisesTo end high (drop (length (to_end end es)) es)
  pub others_small : AreSmall end (drop (length (to_end end es)) es) (drop (end - low) rs)
  pub sectors : sectors_to low es rs ≡ sectors_to low (to_end end es) (take (end - low) rs) + sectors_to end (drop (length (to_end end es)) es) (drop (end - low) rs)

-- none is kept
splits_here : (low high : ℕ) (es : List ℕ) (rs : List Record) → RisesTo low high es → AreSmall low es rs → Splits low high low es rs
splits_here low high es rs p a =
    let none : to_end low es ≡ [] = gone_all low high low es p (omega arith) in
    let zero : low - low ≡ 0 = omega arith in
    record {
      from = omega arith;
      to = rises_le low high es p;
      keeps = rw none refl;
      keeps_small = rw none tt;
      others = rw none p;
      others_small = rw (none, zero) a;
      sectors = rw (none, zero) (sym (zero-add _));
    }

-- the first is kept, and of the others what a cut of them keeps
splits_later : (low high end e : ℕ) (es : List ℕ) (rs : List Record) → low < e → (records_size (take (e - low) rs) ≤ 15488) → Splits e high end es (drop (e - low) rs) → Splits low high end (e ∷ es) rs
splits_later low high end e es rs up small s =
    let kept : to_end end (e ∷ es) ≡ e ∷ to_end end es = kept_one e end es s.from in
    let first : take (e - low) (take (end - low) rs) ≡ take (e - low) rs = take-take (e - low) (end - low) rs (omega (arith, s.from)) in
    let sum : (e - low) + (end - e) ≡ end - low = omega (arith, up, s.from) in
    let rest : drop (e - low) (take (end - low) rs) ≡ take (end - e) (drop (e - low) rs) = ap (λ n. drop (e - low) (take n rs)) (sym sum) ∙ drop-take (e - low) (end - e) rs in
    let far : drop (end - low) rs ≡ drop (end - e) (drop (e - low) rs) = sym (drop-drop (end - e) (e - low) rs ∙ ap (λ n. drop n rs) sum) in
    record {
      from = omega (arith, up, s.from);
      to = s.to;
      keeps = rw kept (up, s.keeps);
      keeps_small = rw (kept, first, rest) (small, s.keeps_small);
      others = rw kept s.others;
      others_small = rw (kept, far) s.others_small;
      sectors = rw (kept, first, rest, far, s.sectors) (sym (add_assoc _ _ _));
    }

pub splits : (low high end : ℕ) (es : List ℕ) (rs : List Record) → RisesTo low high es → AreSmall low es rs → IsCut low end es → Splits low high end es rs
splits low high end es rs p a (inl here) = subst (λ n. Splits low high n es rs) (sym here) (splits_here low high es rs p a)
splits low high end [] rs p a (inr there) = absurd (omega (arith, there.1))
splits low high end (e ∷ es) rs p a (inr there) = splits_later low high end e es rs p.0 a.0 (splits e high end es (drop (e - low) rs) p.1 a.1 (rest there.0 there.1 there.2))
  where
    rest : (k : ℕ) → k < suc (length es) → get_or (e ∷ es) k end ≡ end → IsCut e end es
    rest zero h is = inl (sym is)
    rest (suc k) h is = inr (k, omega (arith, h), is)

-- the same of a whole log
pub record Parts (high end : ℕ) (es : List ℕ) (rs : List Record) : Type 0 where
  pub to : end ≤ high
  pub keeps : RisesTo 0 end (to_end end es)
  pub keeps_small : AreSmall 0 (to_end end es) (take end rs)
  pub others : RisesTo end high (drop (length (to_end end es)) es)
  pub others_small : AreSmall end (drop (length (to_end end es)) es) (drop end rs)
  pub sectors : sectors_to 0 es rs ≡ sectors_to 0 (to_end end es) (take end rs) + sectors_to end (drop (length (to_end end es)) es) (drop end rs)

pub parts : (high end : ℕ) (es : List ℕ) (rs : List Record) → RisesTo 0 high es → AreSmall 0 es rs → IsCut 0 end es → Parts high end es rs
parts high end es rs p a cut =
    let s = splits 0 high end es rs p a cut in
    let zero : end - 0 ≡ end = omega arith in
    record {
      to = s.to;
      keeps = s.keeps;
      keeps_small = subst (λ n. AreSmall 0 (to_end end es) (take n rs)) zero s.keeps_small;
      others = s.others;
      others_small = subst (λ n. AreSmall end (drop (length (to_end end es)) es) (drop n rs)) zero s.others_small;
      sectors = subst (λ n. sectors_to 0 es rs ≡ sectors_to 0 (to_end end es) (take n rs) + sectors_to end (drop (length (to_end end es)) es) (drop n rs)) zero s.sectors;
    }

-- what is left of a log
pub kept_less : (log : Log) (kept : List TermStart) (used end : ℕ) → IsKept log kept used → IsCut 0 end log.ends
    → IsKept (cut_at end log) (starts_up end kept) (sectors_to 0 (to_end end log.ends) (take end log.records))
kept_less log kept used end k cut =
    let p = parts (length log.records) end log.ends log.records k.rises k.blocks cut in
    record {
      rises = rw (length-take-le end log.records p.to) p.keeps;
      starts = ap (starts_up end) k.starts ∙ starts_of_cut end log.records;
      sectors = refl;
      fits = fit_take end log.records k.fits;
      blocks = p.keeps_small;
    }

-- what a loop over the other blocks needs, where so many ends are kept
pub others_need : (high end count : ℕ) (es gone_ends : List ℕ) (rs gone : List Record) → Parts high end es rs → high ≡ length rs → take count es ≡ to_end end es → count ≤ length es
    → gone_ends ≡ drop count es → gone ≡ drop end rs
    → RisesTo end (end + length gone) gone_ends × AreSmall end gone_ends gone × (sectors_to 0 es rs ≡ sectors_to 0 (to_end end es) (take end rs) + sectors_to end gone_ends gone)
others_need high end count es gone_ends rs gone p whole kept le gone_ends_is gone_is =
    let n : length (to_end end es) ≡ count = ap length (sym kept) ∙ length-take-le count es le in
    let left : gone_ends ≡ drop (length (to_end end es)) es = gone_ends_is ∙ ap (λ m. drop m es) (sym n) in
    let top : end + length gone ≡ high = omega (arith, ap length gone_is, length-drop end rs, p.to, whole) in
    (rw (top, left) p.others, rw (left, gone_is) p.others_small, rw (left, gone_is) p.sectors)
