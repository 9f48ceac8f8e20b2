-- What stays right as memory reads pages in, and changes how they stand.
use Rattle.std.proofs.Common.{◌≡◌, ℕ, ◌+◌, ◌-◌, ◌<◌, Bool, true, false, List, length, get_or, set, refl, sym, ap, subst, ◌∙◌, arith}
use Rattle.std.specs.Prelude.{Some, None}
use Rattle.std.proofs.lemmas.List.{length-set}
use Rattle.ag_lists.proofs.Places.{at_set_there}
use Rattle.ag_lists.proofs.Results.{some_is}
use Rattle.ag_model.specs.declared.value.PageValue.{PageValue}
use Rattle.ag_model.specs.Cells.{is_sound}
use Rattle.ag_model.specs.Rows.{stripe_of}
use Rattle.ag_rules.specs.Replica.{Kept, Stripe, image}
use Rattle.ag_stripe.specs.Known.{Known}
use Rattle.ag_stripe.specs.Known.Known.{Value}
use Rattle.ag_pool.specs.declared.frame.Frame.{Frame}
use Rattle.ag_pool.specs.Frames.{empty_frame}
use Rattle.ag_pool.specs.View.{PoolView, IsPool, stripe_at, frame, with_frame, with_stripes}
use Rattle.ag_law_pages.specs.Images.{IsDataPage, IsValueIn}
use Rattle.ag_law_pages.specs.Right.{IsRightPage, IsRight, is_shown, reach}

-- a fact of the frame of each data page, once one frame is another
pub framed : (v : PoolView) (pages : ℕ) (p : ℕ) (f : Frame) (P : ℕ → Frame → Type 0) → IsPool v → v.pages ≡ pages → IsDataPage pages p
    → ((q : ℕ) → IsDataPage pages q → P q (frame v q)) → P p f → (q : ℕ) → IsDataPage pages q → P q (frame (with_frame v p f) q)
framed v pages p f P pool count is_p each here q is_q =
    let on : (m : ℕ) → m < pages → P (m + 16) (get_or (set v.frames (p - 16) f) m empty_frame) =
    at_set_there (λ (m : ℕ) (g : Frame). m < pages → P (m + 16) g) v.frames empty_frame (p - 16) f (omega (arith, pool.frames))
    (λ m other lt. let e : m + 16 - 16 ≡ m = omega arith in subst (λ (n : ℕ). P (m + 16) (get_or v.frames n empty_frame)) e (each (m + 16) (omega arith, omega arith)))
    (λ lt. let e : p ≡ p - 16 + 16 = omega arith in subst (λ (n : ℕ). P n f) e here) in
    let e : q - 16 + 16 ≡ q = omega arith in
    subst (λ (n : ℕ). P n (get_or (set v.frames (p - 16) f) (q - 16) empty_frame)) e (on (q - 16) (omega arith))

-- a pool with another frame
set-whole : (v : PoolView) (p : ℕ) (f : Frame) → IsPool v → IsPool (with_frame v p f)
set-whole v p f pool = record { low = pool.low; high = pool.high; frames = length-set v.frames (p - 16) f ∙ pool.frames; stripes = pool.stripes }

module _ (ahead : Bool) (pages : ℕ) (k : Kept) (said : ℕ → Known) (state : ℕ) (v : PoolView) (r : IsRight ahead pages k said state v) where
  -- a replica with another frame of a page
  pub reframed : (p : ℕ) (f : Frame) → IsDataPage pages p → IsRightPage ahead pages k said state (stripe_at v (stripe_of p)).applied p f → IsRight ahead pages k said state (with_frame v p f)
  reframed p f is here = record {
    disk = r.disk;
    whole = set-whole v p f r.whole;
    count = r.count;
    kept_state = r.kept_state;
    low = r.low;
    high = r.high;
    reverting = r.reverting;
    each = framed v pages p f (λ q g. IsRightPage ahead pages k said state (stripe_at v (stripe_of q)).applied q g) r.whole r.count is r.each here;
  }

  -- a page is read in that is clean
  pub read_in : (p : ℕ) (w : PageValue) → IsDataPage pages p → is_shown k state p ≡ true → (frame v p).value ≡ None → said p ≡ Value w
      → IsRight ahead pages k said state (with_frame v p (record (frame v p) { value = Some w }))
  read_in p w is shown none says =
      let here = r.each p is in
      let s = here.shown shown in
      let clean = s.read none in
      reframed p (record (frame v p) { value = Some w }) is (record {
        shown = λ _. record {
          kept = λ u e.
              let held = s.clean clean in
              record { lsn = held.lsn; from = held.from; to = held.to; value = ap Value (sym (some_is w u e)) ∙ sym says ∙ held.value };
          clean = s.clean;
          read = λ e. absurd (some_none w e);
        };
        hidden = λ off. absurd (true_false (sym shown ∙ off));
        pending = here.pending;
        held = here.held;
      })
    where
      some_none : (w : PageValue) → Some w ≡ None → ⊥
      some_none w e = cc

      true_false : true ≡ false → ⊥
      true_false e = cc

  -- a bad page waits for a repair
  pub pended : (p : ℕ) → IsDataPage pages p → is_sound (image k p) ≡ false → IsRight ahead pages k said state (with_frame v p (record (frame v p) { pending = true }))
  pended p is bad =
      let here = r.each p is in
      reframed p (record (frame v p) { pending = true }) is (record {
        shown = λ shown. let s = here.shown shown in record { kept = s.kept; clean = s.clean; read = s.read };
        hidden = λ off. let h = here.hidden off in record { unread = h.unread; clean = h.clean };
        pending = λ _. bad;
        held = here.held;
      })

  -- a page whose image says its value is clean
  pub cleaned : (p : ℕ) → IsDataPage pages p
      → (is_shown k state p ≡ true → IsValueIn pages k.log.records (stripe_at v (stripe_of p)).applied (reach ahead k (stripe_at v (stripe_of p)).applied) p (said p))
      → IsRight ahead pages k said state (with_frame v p (record (frame v p) { dirty = false }))
  cleaned p is says =
      let here = r.each p is in
      reframed p (record (frame v p) { dirty = false }) is (record {
        shown = λ shown. let s = here.shown shown in record { kept = s.kept; clean = λ _. says shown; read = λ _. refl };
        hidden = λ off. let h = here.hidden off in record { unread = h.unread; clean = refl };
        pending = here.pending;
        held = here.held;
      })

  -- other LSNs are published
  pub republished : (stripes : List Stripe) → length stripes ≡ 16 → ((x : ℕ) → (stripe_at (with_stripes v stripes) x).applied ≡ (stripe_at v x).applied) → IsRight ahead pages k said state (with_stripes v stripes)
  republished stripes long same = record {
    disk = r.disk;
    whole = record { low = r.whole.low; high = r.whole.high; frames = r.whole.frames; stripes = long };
    count = r.count;
    kept_state = r.kept_state;
    low = λ x lt. omega (arith, same x, r.low x lt);
    high = λ x lt. omega (arith, same x, r.high x lt);
    reverting = λ on x lt. same x ∙ r.reverting on x lt;
    each = λ page is. subst (λ (a : ℕ). IsRightPage ahead pages k said state a page (frame v page)) (sym (same (stripe_of page))) (r.each page is);
  }
