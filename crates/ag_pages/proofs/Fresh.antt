-- Stripes that were made one after the other.
use Rattle.std.proofs.Common.{◌≡◌, ℕ, ◌+◌, ◌<◌, ◌≤◌, lit<, true, false, List, [], ◌∷◌, ◌++◌, length, get_or, map, refl, sym, ap, ◌∙◌, arith, inl, inr}
use Rattle.std.specs.Prelude.{Some, None}
use Rattle.std.proofs.Math.Seq.{get_or-append_seam}
use Rattle.std.proofs.lemmas.Bool.Decides.{eqb_tells}
use Rattle.std.proofs.lemmas.List.{get_or_append_left, map-append, replicate-append-replicate, length-append}
use Rattle.std.proofs.Math.Nat.{mod-lt}
use Rattle.ag_model.specs.Rows.{stripe_of}
use Rattle.ag_stripe.specs.declared.slot.Slot.{Slot}
use Rattle.ag_stripe.specs.declared.stripe.Away.{Away}
use Rattle.ag_stripe.specs.Tables.{Table, slot_of, empty_slot}
use Rattle.ag_stripe.specs.View.{StripeView}
use Rattle.ag_pages.specs.Views.{slot, Place, applied_at, pages_view, IsStripe, ArePlaces, AreFresh}
use Rattle.ag_pages.proofs.Seats.{slot-is}

fresh-stripe : (count n : ℕ) (t : Table) → t.number ≡ n → t.pages ≡ count → ((page : ℕ) → slot_of t page ≡ empty_slot) → IsStripe count n t
fresh-stripe count n t number pages empty = record {
  number = number;
  pages = pages;
  kept = λ page d. absurd (let e : false ≡ true = sym (ap (λ (s : Slot). s.dirty) (empty page)) ∙ d in cc);
}

pub fresh-more : (count applied k : ℕ) (places more : List Place) (s : StripeView Away) → AreFresh count applied k places → more ≡ places ++ Some s ∷ []
    → s.table.number ≡ k → s.table.pages ≡ count → s.applied ≡ applied → ((page : ℕ) → slot_of s.table page ≡ empty_slot) → AreFresh count applied (k + 1) more
fresh-more count applied k places more s h is number pages lsn empty = record {
  long = ap (λ (l : List Place). length l) is ∙ length-append places (Some s ∷ []) ∙ ap (λ (n : ℕ). n + 1) h.long;
  lsns =
      ap (λ (l : List Place). map applied_at l) is ∙ map-append applied_at places (Some s ∷ [])
      ∙ (λ i. h.lsns i ++ lsn i ∷ []) ∙ replicate-append-replicate k 1 applied;
  each = λ n lt. elim (eqb_tells n k) [
    | inl here ↦ (
      s,
      ap (λ (l : List Place). get_or l n None) is ∙ ap (λ (m : ℕ). get_or (places ++ Some s ∷ []) m None) (here.1 ∙ sym h.long) ∙ get_or-append_seam places (Some s) [] None,
      fresh-stripe count n s.table (number ∙ sym here.1) pages empty,
      empty,
    )
    | inr apart ↦
        let e = apart.1 in
        let below : n < k = omega (arith, lt, e) in
        let x = h.each n below in
        let long = h.long in
        (x.0, ap (λ (l : List Place). get_or l n None) is ∙ get_or_append_left places (Some s ∷ []) None n (omega (arith, below, long)) ∙ x.1, x.2, x.3)
  ];
}

pub fresh-places : (count applied : ℕ) (places : List Place) → 16 ≤ count → count ≤ 2048 → AreFresh count applied 16 places → ArePlaces count places
fresh-places count applied places low high h = record {
  low = low;
  high = high;
  sixteen = h.long;
  each = λ n lt. let x = h.each n lt in (x.0, x.1, x.2);
}

pub fresh-empty : (count applied : ℕ) (places : List Place) → AreFresh count applied 16 places → (page : ℕ) → slot (pages_view count places) page ≡ empty_slot
fresh-empty count applied places h page =
    let x = h.each (stripe_of page) (mod-lt page {m = 16} (lit< tt)) in
    slot-is count (stripe_of page) places x.0 page x.1 refl ∙ x.3 page
