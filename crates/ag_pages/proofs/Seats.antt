-- The places of stripes, one of which is changed.
use Rattle.std.proofs.Common.{◌≡◌, ℕ, ◌+◌, ◌<◌, ◌≢◌, ◌&&◌, eqb, leb, ltb, List, length, get_or, set, map, sym, ap, subst, ◌∙◌, arith, inl, inr}
use Rattle.std.specs.Prelude.{Some, None}
use Rattle.std.proofs.lemmas.Bool.Decides.{eqb_tells}
use Rattle.std.proofs.lemmas.List.{get_or_read, length-map, set-set, set-get_or, get_or-set_same, get_or-set_other, map-set, get_or-map, length-set}
use Rattle.ag_model.specs.Rows.{stripe_of}
use Rattle.ag_stripe.specs.declared.stripe.Away.{Away}
use Rattle.ag_stripe.specs.Tables.{Table, is_own, slot_of}
use Rattle.ag_stripe.specs.View.{StripeView}
use Rattle.ag_pages.specs.Views.{slot, Place, PagesView, applied_at, slot_at, pages_view, applied_of, is_of, IsStripe, IsAt, ArePlaces}

-- the stripe of this number was taken out of its place, and another put in
pub record Swap (count number : ℕ) (old new : List Place) (before after : StripeView Away) : Type 0 where
  pub small : number < 16
  pub places : ArePlaces count old
  pub was : IsAt old number before
  pub now : new ≡ set (set old number None) number (Some after)
  pub is : IsStripe count number after.table

pub swap-of : (count number : ℕ) (old mid new : List Place) (before after : StripeView Away) → number < 16 → ArePlaces count old → IsAt old number before → mid ≡ set old number None → new ≡ set mid number (Some after)
    → IsStripe count number after.table → Swap count number old new before after
swap-of count number old mid new before after small places was out in_place is = record {
  small = small;
  places = places;
  was = was;
  now = in_place ∙ ap (λ (l : List Place). set l number (Some after)) out;
  is = is;
}

pub same-stripe : (o : Place) (a b : StripeView Away) → o ≡ Some a → o ≡ Some b → a ≡ b
same-stripe o a b e f = cc

-- which stripe is at a place
pub at-is : (count number : ℕ) (places : List Place) (s : StripeView Away) → ArePlaces count places → number < 16 → IsAt places number s → IsStripe count number s.table
at-is count number places s all small at =
    let x = all.each number small in
    subst (λ (t : StripeView Away). IsStripe count number t.table) (same-stripe _ x.0 s x.1 at) x.2

-- what was read at a place is the stripe there
pub read-at : (count number n : ℕ) (places : List Place) (read : Place) → ArePlaces count places → number < 16 → n ≡ number → read ≡ get_or places n read → read ≡ get_or places number None
read-at count number n places read all small same is =
    let long = all.sixteen in
    get_or_read places n read (omega (arith, small, same, long)) is None ∙ ap (λ (m : ℕ). get_or places m None) same

pub read-some : (count number n : ℕ) (places : List Place) (read : Place) → ArePlaces count places → number < 16 → n ≡ number → read ≡ get_or places n read → read ≡ None → ⊥
read-some count number n places read all small same is none =
    let e = read-at count number n places read all small same is in
    let at = (all.each number small).1 in
    cc

-- each stripe has its LSN
pub applied-long : (v : PagesView) (count : ℕ) (places : List Place) → pages_view count places ≡ v → ArePlaces count places → length v.applied ≡ 16
applied-long v count places is all = sym (ap (λ (w : PagesView). length w.applied) is) ∙ length-map places applied_at ∙ all.sixteen

-- the pages of a stripe are those of its number
pub own-of : (count number : ℕ) (t : Table) (v : PagesView) (page : ℕ) → v.count ≡ count → IsStripe count number t → is_own t page ≡ is_of v number page
own-of count number t v page e h = λ i. leb 16 page && (ltb page (16 + (h.pages ∙ sym e) i) && eqb (stripe_of page) (h.number i))

-- what is seen of a page, by the stripe at its place
pub slot-is : (count number : ℕ) (places : List Place) (s : StripeView Away) (page : ℕ) → IsAt places number s → stripe_of page ≡ number → slot (pages_view count places) page ≡ slot_of s.table page
slot-is count number places s page at e =
    ap (λ (n : ℕ). slot_at (get_or places n None) page) e ∙ ap (λ (p : Place). slot_at p page) at

pub applied-is : (count number : ℕ) (places : List Place) (s : StripeView Away) → number < length places → IsAt places number s → applied_of (pages_view count places) number ≡ s.applied
applied-is count number places s lt at = get_or-map applied_at places number None 0 lt ∙ ap applied_at at

module _ (count number : ℕ) (old new : List Place) (before after : StripeView Away) (h : Swap count number old new before after) where
  within : number < length old
  within = let e = h.places.sixteen in let l = h.small in omega (arith, e, l)

  once : new ≡ set old number (Some after)
  once = h.now ∙ set-set old number None (Some after)

  pub swap-at : IsAt new number after
  swap-at = ap (λ (l : List Place). get_or l number None) once ∙ get_or-set_same old number (Some after) None within

  pub swap-other : (m : ℕ) → m ≢ number → get_or new m None ≡ get_or old m None
  swap-other m apart = ap (λ (l : List Place). get_or l m None) once ∙ get_or-set_other old number m (Some after) None apart

  pub swap-before : IsStripe count number before.table
  swap-before = at-is count number old before h.places h.small h.was

  -- each stripe is at its place again
  pub swap-places : ArePlaces count new
  swap-places = record {
    low = h.places.low;
    high = h.places.high;
    sixteen = ap (λ (l : List Place). length l) once ∙ length-set old number (Some after) ∙ h.places.sixteen;
    each = λ m small. elim (eqb_tells m number) [
      | inl here ↦ (after, subst (λ (n : ℕ). IsAt new n after) (sym here.1) swap-at, subst (λ (n : ℕ). IsStripe count n after.table) (sym here.1) h.is)
      | inr apart ↦ let x = h.places.each m small in (x.0, swap-other m apart.1 ∙ x.1, x.2)
    ];
  }

  pub swap-slot-was : (page : ℕ) → stripe_of page ≡ number → slot (pages_view count old) page ≡ slot_of before.table page
  swap-slot-was page e = slot-is count number old before page h.was e

  pub swap-slot-now : (page : ℕ) → stripe_of page ≡ number → slot (pages_view count new) page ≡ slot_of after.table page
  swap-slot-now page e = slot-is count number new after page swap-at e

  pub swap-slot-other : (page : ℕ) → stripe_of page ≢ number → slot (pages_view count new) page ≡ slot (pages_view count old) page
  swap-slot-other page apart = ap (λ (p : Place). slot_at p page) (swap-other (stripe_of page) apart)

  pub swap-applied-was : applied_of (pages_view count old) number ≡ before.applied
  swap-applied-was = applied-is count number old before within h.was

  pub swap-applied : (pages_view count new).applied ≡ set (pages_view count old).applied number after.applied
  swap-applied = ap (λ (l : List Place). map applied_at l) once ∙ map-set applied_at old number (Some after)

  pub swap-applied-other : (m : ℕ) → m ≢ number → applied_of (pages_view count new) m ≡ applied_of (pages_view count old) m
  swap-applied-other m apart = ap (λ (l : List ℕ). get_or l m 0) swap-applied ∙ get_or-set_other (map applied_at old) number m after.applied 0 apart

  -- where the applied LSN is the same, all are
  pub swap-applied-same : after.applied ≡ before.applied → (pages_view count new).applied ≡ (pages_view count old).applied
  swap-applied-same e =
      swap-applied ∙ ap (λ (n : ℕ). set (map applied_at old) number n) (e ∙ sym swap-applied-was) ∙ set-get_or (map applied_at old) number 0
