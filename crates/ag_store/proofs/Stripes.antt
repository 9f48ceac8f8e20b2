-- Redo of one stripe after the other.
use Rattle.std.proofs.Common.{◌≡◌, ℕ, zero, suc, ◌+◌, ◌<◌, ◌≤◌, Bool, true, false, ◌||◌, ◌&&◌, List, [], ◌∷◌, length, get_or, refl, sym, ap, subst, ◌∙◌, inl, inr, arith}
use Rattle.std.specs.Prelude.{set, replicate, ◌==◌, nat_le, nat_lt}
use Rattle.std.proofs.lemmas.Bool.{and_parts, and_from, cases_lt, leb-true, ltb-true, eqb-true, le-leb, lt-ltb, eq-eqb, ne_eqb}
use Rattle.std.proofs.lemmas.List.{get_or-set_same, get_or-set_other, length-set}
use Rattle.ag_model.specs.declared.record.Log.{Log}
use Rattle.ag_model.specs.Blocks.{cut_at}
use Rattle.ag_model.specs.Page.{value}
use Rattle.ag_model.specs.Prefixes.{end_of}
use Rattle.ag_model.specs.Proper.{IsProper}
use Rattle.ag_model.specs.Rows.{stripe_of}
use Rattle.ag_outside.specs.Disks.{Image}
use Rattle.ag_stripe.specs.Ahead.{IsAhead}
use Rattle.ag_stripe.specs.Known.{Known}
use Rattle.ag_stripe.specs.Known.Known.{Value}
use Rattle.ag_pages.specs.Views.{PagesView, applied_of, is_of, is_dirty, known_of}
use Rattle.ag_store.specs.Images.{is_touched_between}
use Rattle.ag_store.specs.Redoing.{IsRedone, AreRedoneBelow, AreRedone}
use Rattle.ag_store.specs.Standing.{IsDataPage, told_on}
use Rattle.ag_store.proofs.Values.{cut-whole}

-- a page of a stripe is a data page
pub of-data : (v : PagesView) (stripe page : ℕ) → is_of v stripe page ≡ true → IsDataPage v.count page × (stripe_of page ≡ stripe)
of-data v stripe page own =
    let a = and_parts (nat_le 16 page) (nat_lt page (16 + v.count) && (stripe_of page == stripe)) own in
    let b = and_parts (nat_lt page (16 + v.count)) (stripe_of page == stripe) a.1 in
    ((leb-true 16 page a.0, ltb-true page (16 + v.count) b.0), eqb-true (stripe_of page) stripe b.1)

-- and the other way round
pub data-of : (v : PagesView) (stripe page : ℕ) → IsDataPage v.count page → stripe_of page ≡ stripe → is_of v stripe page ≡ true
data-of v stripe page is e = and_from (nat_le 16 page) (nat_lt page (16 + v.count) && (stripe_of page == stripe)) (le-leb 16 page is.0)
    (and_from (nat_lt page (16 + v.count)) (stripe_of page == stripe) (lt-ltb page (16 + v.count) is.1) (eq-eqb (stripe_of page) stripe e))

-- a list of one number
pub all-one : (n a : ℕ) (xs : List ℕ) → length xs ≡ n → ((i : ℕ) → i < n → get_or xs i 0 ≡ a) → xs ≡ replicate n a
all-one zero a [] e is = refl
all-one zero a (x ∷ xs) e is = absurd (omega (arith, e))
all-one (suc n) a [] e is = absurd (omega (arith, e))
all-one (suc n) a (x ∷ xs) e is = ap (λ y. y ∷ xs) (is 0 (omega arith)) ∙ ap (λ ys. a ∷ ys) (all-one n a xs (omega (arith, e)) (λ i lt. is (suc i) (omega (arith, lt))))

-- before the first stripe
pub none-redone : (image : Image) (log : Log) (v : PagesView) → AreRedoneBelow image log 0 v v
none-redone image log v = record {
  count = refl;
  sixteen = refl;
  applied = λ stripe lt. absurd (omega (arith, lt));
  values = λ page is lt. absurd (omega (arith, lt));
  dirty = λ page is lt. absurd (omega (arith, lt));
  others_applied = λ stripe le. refl;
  others = λ page le. refl;
  others_dirty = λ page le. refl;
}

module _ (image : Image) (log : Log) (k : ℕ) (old mid : PagesView) (below : AreRedoneBelow image log k old mid) where
  -- what the next stripe needs
  pub next-proper : IsProper old.count log → IsProper mid.count log
  next-proper p = subst (λ n. IsProper n log) (sym below.count) p

  pub next-within : k < 16 → ((stripe : ℕ) → stripe < 16 → applied_of old stripe ≤ end_of log) → applied_of mid k ≤ end_of log
  next-within lt le = subst (λ n. n ≤ end_of log) (sym (below.others_applied k (omega arith))) (le k lt)

  pub next-ahead : IsProper old.count log → ((page : ℕ) → IsDataPage old.count page → IsAhead old.count log (applied_of old (stripe_of page)) page (known_of (told_on image) old page))
      → (page : ℕ) → is_of mid k page ≡ true → IsAhead mid.count (cut_at (end_of log) log) (applied_of mid k) page (known_of (told_on image) mid page)
  next-ahead proper ahead page own =
      let is = of-data mid k page own in
      let a = ahead page (is.0.0, subst (λ n. page < 16 + n) below.count is.0.1) in
      subst (λ (n : ℕ). IsAhead n (cut_at (end_of log) log) (applied_of mid k) page (known_of (told_on image) mid page)) (sym below.count)
      (subst (λ (l : Log). IsAhead old.count l (applied_of mid k) page (known_of (told_on image) mid page)) (sym (cut-whole old.count log proper))
      (subst (λ (n : ℕ). IsAhead old.count log n page (known_of (told_on image) mid page)) (sym (below.others_applied k (omega arith)))
      (subst (λ (x : Known). IsAhead old.count log (applied_of old k) page x) (sym (below.others page (omega (arith, is.1))))
      (subst (λ (s : ℕ). IsAhead old.count log (applied_of old s) page (known_of (told_on image) old page)) is.1 a))))

  -- one stripe more
  module _ (new : PagesView) (one : IsRedone image log k (end_of log) mid new) (few : k < length old.applied) where
    data-mid : (page : ℕ) → IsDataPage old.count page → IsDataPage mid.count page
    data-mid page is = (is.0, subst (λ n. page < 16 + n) (sym below.count) is.1)

    apart : (a : ℕ) → (a ≡ k → ⊥) → (a == k) ≡ false
    apart a ne = ne_eqb a k ne

    applied-next : (stripe : ℕ) → stripe < k + 1 → applied_of new stripe ≡ end_of log
    applied-next stripe lt = ap (λ (xs : List ℕ). get_or xs stripe 0) one.applied ∙ elim (cases_lt stripe k) [
      | inl low ↦ get_or-set_other mid.applied k stripe (end_of log) 0 (λ e. absurd (omega (arith, e, low))) ∙ below.applied stripe low
      | inr high ↦
          let e : stripe ≡ k = omega (arith, high, lt) in
          ap (λ (s : ℕ). get_or (set mid.applied k (end_of log)) s 0) e ∙ get_or-set_same mid.applied k (end_of log) 0 (omega (arith, few, below.sixteen))
    ]

    applied-later : (stripe : ℕ) → k + 1 ≤ stripe → applied_of new stripe ≡ applied_of old stripe
    applied-later stripe le = ap (λ (xs : List ℕ). get_or xs stripe 0) one.applied ∙ get_or-set_other mid.applied k stripe (end_of log) 0 (λ e. absurd (omega (arith, e, le))) ∙ below.others_applied stripe (omega (arith, le))

    values-next : (page : ℕ) → IsDataPage old.count page → stripe_of page < k + 1 → known_of (told_on image) new page ≡ Value (value old.count log.records (end_of log) page)
    values-next page is lt = elim (cases_lt (stripe_of page) k) [
      | inl low ↦ one.others page (apart (stripe_of page) (λ e. absurd (omega (arith, e, low)))) ∙ below.values page is low
      | inr high ↦
          one.values page (data-of mid k page (data-mid page is) (omega (arith, high, lt)))
          ∙ ap (λ (n : ℕ). Value (value n log.records (end_of log) page)) below.count
    ]

    dirty-next : (page : ℕ) → IsDataPage old.count page → stripe_of page < k + 1 → is_dirty new page ≡ (is_dirty old page || is_touched_between old.count log.records page (applied_of old (stripe_of page)) (end_of log))
    dirty-next page is lt = elim (cases_lt (stripe_of page) k) [
      | inl low ↦ one.others_dirty page (apart (stripe_of page) (λ e. absurd (omega (arith, e, low)))) ∙ below.dirty page is low
      | inr high ↦
          let e : stripe_of page ≡ k = omega (arith, high, lt) in
          one.dirty page (data-of mid k page (data-mid page is) e)
          ∙ ap (λ (b : Bool). b || is_touched_between mid.count log.records page (applied_of mid k) (end_of log)) (below.others_dirty page high)
          ∙ ap (λ (n : ℕ). is_dirty old page || is_touched_between n log.records page (applied_of mid k) (end_of log)) below.count
          ∙ ap (λ (n : ℕ). is_dirty old page || is_touched_between old.count log.records page n (end_of log)) (below.others_applied k (omega arith) ∙ ap (applied_of old) (sym e))
    ]

    pub one-more : AreRedoneBelow image log (k + 1) old new
    one-more = record {
      count = one.count ∙ below.count;
      sixteen = ap (λ (xs : List ℕ). length xs) one.applied ∙ length-set mid.applied k (end_of log) ∙ below.sixteen;
      applied = applied-next;
      values = values-next;
      dirty = dirty-next;
      others_applied = applied-later;
      others = λ page le. one.others page (apart (stripe_of page) (λ e. absurd (omega (arith, e, le)))) ∙ below.others page (omega (arith, le));
      others_dirty = λ page le. one.others_dirty page (apart (stripe_of page) (λ e. absurd (omega (arith, e, le)))) ∙ below.others_dirty page (omega (arith, le));
    }

-- all stripes
pub all-redone : (image : Image) (log : Log) (old new : PagesView) → length old.applied ≡ 16 → AreRedoneBelow image log 16 old new → AreRedone image log old new
all-redone image log old new sixteen below = record {
  count = below.count;
  applied = all-one 16 (end_of log) new.applied (below.sixteen ∙ sixteen) below.applied;
  values = λ page is. below.values page is (omega arith);
  dirty = λ page is. below.dirty page is (omega arith);
}
