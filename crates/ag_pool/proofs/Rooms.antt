-- A stripe whose pages have values of a log: redo finds room, and leaves values of the log.
use Rattle.std.proofs.Common.{◌≡◌, ℕ, ◌+◌, ◌<◌, ◌≤◌, max, Bool, true, false, cond, leb, ltb, List, length, take, refl, sym, ap, subst, ◌∙◌, arith}
use Rattle.std.specs.Prelude.{Option, Some, None, IfSome, is_some}
use Rattle.std.proofs.lemmas.Bool.{and_parts, ltb-true, leb-true, eq-eqb}
use Rattle.std.proofs.lemmas.List.{length-take, length-drop}
use Rattle.ag_model.specs.declared.record.Record.{Record}
use Rattle.ag_model.specs.declared.value.PageValue.{PageValue}
use Rattle.ag_model.specs.Blocks.{after_to}
use Rattle.ag_model.specs.Page.{value}
use Rattle.ag_model.specs.Rows.{stripe_of}
use Rattle.ag_version.specs.Steps.{AreProper}
use Rattle.ag_rules.specs.Replica.{Stripe}
use Rattle.ag_pool.specs.declared.fault.PoolFault.TheVariants.{Full}
use Rattle.ag_pool.specs.declared.frame.Frame.{Frame}
use Rattle.ag_pool.specs.Redo.{redone_by, redone_stripe, numbered_after, HasNoRoom, IsFullBy, IsValueFrom, AreValuesFrom, AreFitting}
use Rattle.ag_pool.specs.View.{PoolView, IsPool, is_page, frame, stripe_at}
use Rattle.ag_pool.proofs.Marks.{kept}
use Rattle.ag_pool.proofs.Stripes.{frame-redone, lsns-redone}
use Rattle.ag_pool.proofs.Values.{ahead, exact, room}

-- a page without a value finds room
bare-room : (pages page lsn : ℕ) (records : List Record) (f : Frame) → f.value ≡ None → HasNoRoom pages page lsn records f → ⊥
bare-room pages page lsn records f none h = h.full (λ v e lt.
    let some = sym (ap is_some none) ∙ sym (kept pages page (numbered_after lsn h.before) f) ∙ ap is_some e in
    absurd (differ some))
  where
    differ : false ≡ true → ⊥
    differ e = cc

no-value : (P : PageValue → Type 0) (o : Option PageValue) → is_some o ≡ false → IfSome o P
no-value P None e = tt
no-value P (Some v) e = cc

-- the frame of a page of the stripe
own-redone : (x page : ℕ) (records : List Record) (v : PoolView) → IsPool v → is_page v page ≡ true → stripe_of page ≡ x
    → frame (redone_stripe x records v) page ≡ redone_by v.pages page (numbered_after (stripe_at v x).applied records) (frame v page)
own-redone x page records v pool on own =
    frame-redone x page records v pool on
    ∙ ap (λ (b : Bool). cond b (redone_by v.pages page (numbered_after (stripe_at v x).applied records) (frame v page)) (frame v page)) (eq-eqb (stripe_of page) x own)

pub stripe-exact : (x page high : ℕ) (log records : List Record) (v : PoolView) → IsPool v → AreProper v.pages log → (stripe_at v x).applied ≤ high → high ≤ length log
    → records ≡ after_to (stripe_at v x).applied high log
    → is_page v page ≡ true → stripe_of page ≡ x → (frame v page).value ≡ Some (value v.pages log (stripe_at v x).applied page)
    → (frame (redone_stripe x records v) page).value ≡ Some (value v.pages log high page)
stripe-exact x page high log records v pool proper rise reach is on own start =
    let parts = and_parts (leb 16 page) (ltb page (16 + v.pages)) on in
    ap (λ (f : Frame). f.value) (own-redone x page records v pool on own)
    ∙ exact v.pages page (stripe_at v x).applied high log records (frame v page) proper (leb-true 16 page parts.0) (ltb-true page (16 + v.pages) parts.1) rise reach is start

module _ (x high : ℕ) (log records : List Record) (v : PoolView) (proper : AreProper v.pages log) (rise : (stripe_at v x).applied ≤ high) (reach : high ≤ length log)
    (is : records ≡ after_to (stripe_at v x).applied high log) (all : AreValuesFrom x log v) where
  pub stripe-room : (page : ℕ) → AreFitting v.pages log → IsFullBy x records v (Full page) → ⊥
  stripe-room page fitting (own, on, without) = by_value (frame v page).value refl (all page on own)
    where
      by_value : (o : Option PageValue) → (frame v page).value ≡ o → IfSome o (IsValueFrom v.pages log (stripe_at v x).applied page) → ⊥
      by_value None e h = bare-room v.pages page (stripe_at v x).applied records (frame v page) e without
      by_value (Some w) e h =
          let parts = and_parts (leb 16 page) (ltb page (16 + v.pages)) on in
          room v.pages page (stripe_at v x).applied high h.at log records (frame v page) proper
          (leb-true 16 page parts.0) (ltb-true page (16 + v.pages) parts.1) rise reach is h.low (e ∙ ap Some h.value) fitting without

  pub stripe-values : IsPool v → x < 16 → AreValuesFrom x log (redone_stripe x records v)
  stripe-values pool few page on own =
      let now = own-redone x page records v pool on own in
      let long : (stripe_at v x).applied + length records ≡ high = omega (arith, ap length is, length-drop (stripe_at v x).applied (take high log), length-take high log) in
      let to : (stripe_at (redone_stripe x records v) x).applied ≡ high = ap (λ (s : Stripe). s.applied) (lsns-redone x records v pool few) ∙ long in
      subst (λ (f : Frame). IfSome f.value (IsValueFrom v.pages log (stripe_at (redone_stripe x records v) x).applied page)) (sym now)
      (subst (λ (n : ℕ). IfSome (redone_by v.pages page (numbered_after (stripe_at v x).applied records) (frame v page)).value (IsValueFrom v.pages log n page)) (sym to)
      (by_value (frame v page).value refl (all page on own)))
    where
      by_value : (o : Option PageValue) → (frame v page).value ≡ o → IfSome o (IsValueFrom v.pages log (stripe_at v x).applied page)
          → IfSome (redone_by v.pages page (numbered_after (stripe_at v x).applied records) (frame v page)).value (IsValueFrom v.pages log high page)
      by_value None e h = no-value (IsValueFrom v.pages log high page) _ (kept v.pages page (numbered_after (stripe_at v x).applied records) (frame v page) ∙ ap is_some e)
      by_value (Some w) e h =
          let parts = and_parts (leb 16 page) (ltb page (16 + v.pages)) on in
          let top = h.high in
          let after = ahead v.pages page (stripe_at v x).applied high h.at log records (frame v page) proper
          (leb-true 16 page parts.0) (ltb-true page (16 + v.pages) parts.1) rise reach is h.low (e ∙ ap Some h.value) in
          subst (λ (o : Option PageValue). IfSome o (IsValueFrom v.pages log high page)) (sym after) (record { at = max high h.at; low = omega arith; high = omega arith; value = refl })
