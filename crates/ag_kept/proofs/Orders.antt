-- How far an event comes, by what stopped it.
use Rattle.std.proofs.Common.{◌≡◌, ℕ, suc, ◌+◌, ◌-◌, ◌^◌, ◌<◌, ◌≤◌, min, max, List, [], ◌∷◌, length, Bool, true, false, leb, eqb, if◌then◌else◌, refl, sym, ap, ◌∙◌, subst, arith, inl, inr}
use Rattle.std.specs.List.{list_all, range_with_len}
use Rattle.std.proofs.lemmas.Bool.{cases_lt, le-leb, lt-leb, eq-eqb, ne_eqb}
use Rattle.ag_model.specs.declared.event.Suffix.{Suffix}
use Rattle.ag_model.specs.declared.event.Suffix.TheVariants.{Whole, Stop as StopAt, Fail}
use Rattle.ag_model.specs.Cells.{keeps, keeps_all}
use Rattle.ag_outside.specs.declared.disk.SectorWrite.{SectorWrite}
use Rattle.ag_outside.specs.declared.order.Arm.TheVariants.{Stop as StopOrder, Fail as FailOrder}
use Rattle.ag_outside.specs.Disks.{writes}
use Rattle.ag_outside.specs.Scripts.{kept}
use Rattle.ag_kept.specs.declared.reach.Reach.TheVariants.{End, Stop, Fault}
use Rattle.ag_kept.specs.Reaching.{how_far, order_of}
use Rattle.ag_kept.proofs.Stops.{decide, not_all, kept_whole}

same_stop : (w v m n : ℕ) → StopOrder w m ≡ StopOrder v n → (w ≡ v) × (m ≡ n)
same_stop w v m n e = (number e, mask e)
  where
    number : StopOrder w m ≡ StopOrder v n → w ≡ v
    number e = cc e

    mask : StopOrder w m ≡ StopOrder v n → m ≡ n
    mask e = cc e

same_fail : (c d : ℕ) → FailOrder c ≡ FailOrder d → c ≡ d
same_fail c d e = cc e

-- the first write was stopped
pub far_stop : (suffix : Suffix) (mask sectors calls : ℕ) → order_of suffix ≡ StopOrder 1 mask → how_far suffix sectors calls ≡ Stop (keeps_all mask 0 sectors)
far_stop Whole mask sectors calls e = absurd (cc e)
far_stop (StopAt w m) mask sectors calls e =
    let s = same_stop (max w 1) 1 m mask e in
    let first : leb w 1 ≡ true = le-leb w 1 (omega (arith, s.0)) in
    ap (λ (b : Bool). if b then Stop (keeps_all m 0 sectors) else End) first ∙ ap (λ k. Stop (keeps_all k 0 sectors)) s.1
far_stop (Fail c) mask sectors calls e = absurd (cc e)

-- one of the calls failed
pub far_fail : (suffix : Suffix) (call sectors calls : ℕ) → order_of suffix ≡ FailOrder call → call ≤ calls → how_far suffix sectors calls ≡ Fault
far_fail Whole call sectors calls e le = absurd (cc e)
far_fail (StopAt w m) call sectors calls e le = absurd (cc e)
far_fail (Fail c) call sectors calls e le =
    let s = same_fail (max c 1) call e in
    let within : leb c calls ≡ true = le-leb c calls (omega (arith, s, le)) in
    ap (λ (b : Bool). if b then Fault else End) within

-- none of this came
pub far_end : (suffix : Suffix) (sectors calls : ℕ) → ((mask : ℕ) → order_of suffix ≡ StopOrder 1 mask → ⊥) → ((call : ℕ) → 1 ≤ call → call ≤ calls → order_of suffix ≡ FailOrder call → ⊥) → 1 ≤ calls → how_far suffix sectors calls ≡ End
far_end Whole sectors calls no_stop no_fail some = refl
far_end (StopAt w m) sectors calls no_stop no_fail some = elim (cases_lt 1 w) [
  | inl above ↦ ap (λ (b : Bool). if b then Stop (keeps_all m 0 sectors) else End) (lt-leb w 1 above)
  | inr low ↦ (let one : max w 1 ≡ 1 = omega (arith, low) in absurd (no_stop m (ap (λ k. StopOrder k m) one)))
]
far_end (Fail c) sectors calls no_stop no_fail some = elim (cases_lt calls c) [
  | inl above ↦ ap (λ (b : Bool). if b then Fault else End) (lt-leb c calls above)
  | inr low ↦ absurd (no_fail (max c 1) (omega arith) (omega (arith, low, some)) refl)
]

-- a mask keeps no more sectors than were written, and fewer where it doesn't keep each
most_kept : (mask from at : ℕ) (ss : List (List ℕ)) → length (kept mask from (writes at ss)) ≤ length ss
most_kept mask from at [] = omega arith
most_kept mask from at (s ∷ ss) = one (keeps mask from) (record { at = at; sector = s }) (kept mask (suc from) (writes (suc at) ss)) (length ss) (most_kept mask (suc from) (suc at) ss)
  where
    one : (b : Bool) (w : SectorWrite) (ws : List SectorWrite) (n : ℕ) → length ws ≤ n → length (if b then w ∷ ws else ws) ≤ suc n
    one true w ws n le = omega (arith, le)
    one false w ws n le = omega (arith, le)

fewer_kept : (mask from at : ℕ) (ss : List (List ℕ)) → keeps_all mask from (length ss) ≡ false → length (kept mask from (writes at ss)) < length ss
fewer_kept mask from at [] h = absurd (cc h)
fewer_kept mask from at (s ∷ ss) h =
    let w : SectorWrite = record { at = at; sector = s } in
    let rest : List SectorWrite = kept mask (suc from) (writes (suc at) ss) in
    let next : from + 1 ≡ suc from = omega arith in
    elim (not_all (keeps mask from) (list_all (keeps mask) (range_with_len (from + 1) (length ss))) h) [
      | inl dropped ↦ (let len = ap (λ (b : Bool). length (if b then w ∷ rest else rest)) dropped in omega (arith, len, most_kept mask (suc from) (suc at) ss))
      | inr later ↦
          let len = ap (λ (b : Bool). length (if b then w ∷ rest else rest)) later.0 in
          let few = fewer_kept mask (suc from) (suc at) ss (subst (λ n. keeps_all mask n (length ss) ≡ false) next later.1) in
          omega (arith, len, few)
    ]

length-writes : (at : ℕ) (ss : List (List ℕ)) → length (writes at ss) ≡ length ss
length-writes at [] = refl
length-writes at (s ∷ ss) = ap suc (length-writes (suc at) ss)

-- all were kept exactly where as many were kept as were written
pub count_tells : (mask at n count : ℕ) (ss : List (List ℕ)) → length ss ≡ n → n ≤ 32 → count ≡ min (length (kept mask 0 (writes at ss))) (2 ^ 32 - 1) → eqb count n ≡ keeps_all mask 0 n
count_tells mask at n count ss long few is = elim (decide (keeps_all mask 0 n)) [
  | inl all ↦
      let each = kept_whole mask 0 at ss (subst (λ k. keeps_all mask 0 k ≡ true) (sym long) all) in
      let same : count ≡ n = omega (arith, is, ap length each, length-writes at ss, long, few) in
      eq-eqb count n same ∙ sym all
  | inr some ↦
      let less = fewer_kept mask 0 at ss (subst (λ k. keeps_all mask 0 k ≡ false) (sym long) some) in
      let apart : count ≡ n → ⊥ = λ e. absurd (omega (arith, e, is, less, long, few)) in
      ne_eqb count n apart ∙ sym some
]
