-- Redo of one record on frames, and of one record more.
use Rattle.std.proofs.Common.{◌≡◌, ℕ, ◌+◌, ◌-◌, Bool, true, false, cond, ◌&&◌, ◌||◌, eqb, leb, ltb, List, length, get_or, set, refl, sym, ap, subst, ◌∙◌, arith}
use Rattle.std.specs.Prelude.{Option, Some, None, is_some}
use Rattle.std.proofs.lemmas.Bool.{and_parts, and_from, ltb-true, leb-true, lt-ltb, le-leb, eqb-true, eq-eqb, false≢true, false_from_ne_true}
use Rattle.ag_model.specs.declared.record.Record.{Record}
use Rattle.ag_model.specs.declared.value.PageValue.{PageValue}
use Rattle.ag_model.specs.Rows.{stripe_of}
use Rattle.ag_stripe.specs.Redo.{redone_value}
use Rattle.ag_stripe.proofs.Redone.{slot-twice, takes-again}
use Rattle.ag_pool.specs.declared.fault.PoolFault.{PoolFault}
use Rattle.ag_pool.specs.declared.fault.PoolFault.TheVariants.{Full, NoMemory}
use Rattle.ag_pool.specs.declared.frame.Frame.{Frame}
use Rattle.ag_pool.specs.Frames.{empty_frame}
use Rattle.ag_pool.specs.Passes.{has_frame, frame_in, redone_where, IsRefused}
use Rattle.ag_pool.specs.Redo.{redone_frame, CanTake}
use Rattle.ag_pool.proofs.Each.{each_from, length-each, at-each, each-then, each-same, each-none, each-one}

-- redo of a record twice is redo of it once
pub frame-twice : (lsn : ℕ) (r : Record) (f : Frame) → redone_frame lsn r (redone_frame lsn r f) ≡ redone_frame lsn r f
frame-twice lsn r f =
    let slots = slot-twice lsn r (record { value = f.value; dirty = f.dirty }) in
    λ i. record { value = (slots i).value; dirty = marks f.value f.dirty i; pending = f.pending; held = f.held; came = f.came }
  where
    marks : (o : Option PageValue) (b : Bool) → ((b || is_some o) || is_some (redone_value lsn r o)) ≡ (b || is_some o)
    marks (Some v) true = refl
    marks (Some v) false = refl
    marks None true = refl
    marks None false = refl

-- a frame that was redone can take the record again
pub frame-again : (lsn : ℕ) (r : Record) (f : Frame) → CanTake lsn r (redone_frame lsn r f)
frame-again lsn r f = takes-again lsn r (record { value = f.value; dirty = f.dirty })

-- the frame of a page after some were redone
pub frame-each : (g : ℕ → Frame → Frame) (frames : List Frame) (page : ℕ) → has_frame frames page ≡ true → frame_in (each_from g 16 frames) page ≡ g page (frame_in frames page)
frame-each g frames page there =
    let parts = and_parts (leb 16 page) (ltb page (16 + length frames)) there in
    let low = leb-true 16 page parts.0 in
    let high = ltb-true page (16 + length frames) parts.1 in
    let at : 16 + (page - 16) ≡ page = omega arith in
    at-each g 16 (page - 16) frames empty_frame (omega arith) ∙ ap (λ (p : ℕ). g p (frame_in frames page)) at

pub has-each : (g : ℕ → Frame → Frame) (frames : List Frame) (page : ℕ) → has_frame (each_from g 16 frames) page ≡ has_frame frames page
has-each g frames page = ap (λ (n : ℕ). leb 16 page && ltb page (16 + n)) (length-each g 16 frames)

module _ (x lsn : ℕ) (r : Record) where
  abbrev where_on : (ℕ → Bool) → ℕ → Frame → Frame
  where_on = redone_where x lsn r

  -- a page that isn't one of the stripe's, or has no frame
  pub none-redone : (frames : List Frame) (page : ℕ) → (has_frame frames page && eqb (stripe_of page) x) ≡ false → frames ≡ each_from (redone_where x lsn r (λ q. eqb q page)) 16 frames
  none-redone frames page out = each-none (redone_where x lsn r (λ q. eqb q page)) 16 frames (λ p f low high. ap (λ (b : Bool). cond b (redone_frame lsn r f) f)
      (false_from_ne_true (eqb (stripe_of p) x && eqb p page) (λ on.
      let parts = and_parts (eqb (stripe_of p) x) (eqb p page) on in
      let same : p ≡ page = eqb-true p page parts.1 in
      false≢true (sym out ∙ subst (λ (q : ℕ). (has_frame frames q && eqb (stripe_of q) x) ≡ true) same
      (and_from (has_frame frames p) (eqb (stripe_of p) x) (and_from (leb 16 p) (ltb p (16 + length frames)) (le-leb 16 p low) (lt-ltb p (16 + length frames) high)) parts.0)))))

  -- the frame of one page
  pub one-redone : (frames : List Frame) (page k : ℕ) (old new : Frame) → (has_frame frames page && eqb (stripe_of page) x) ≡ true → k ≡ page - 16
      → old ≡ get_or frames k old → new ≡ redone_frame lsn r old
      → set frames k new ≡ each_from (redone_where x lsn r (λ q. eqb q page)) 16 frames
  one-redone frames page k old new there at was is =
      let parts = and_parts (has_frame frames page) (eqb (stripe_of page) x) there in
      let bounds = and_parts (leb 16 page) (ltb page (16 + length frames)) parts.0 in
      let low = leb-true 16 page bounds.0 in
      let high = ltb-true page (16 + length frames) bounds.1 in
      let on : (eqb (stripe_of page) x && eqb page page) ≡ true = and_from (eqb (stripe_of page) x) (eqb page page) parts.1 (eq-eqb page page refl) in
      ap (set frames k) (is ∙ ap (redone_frame lsn r) was ∙ sym (ap (λ (b : Bool). cond b (redone_frame lsn r (get_or frames k old)) (get_or frames k old)) on))
      ∙ each-one (redone_where x lsn r (λ q. eqb q page)) page 16 k frames old (omega arith) (omega arith) (λ p f away.
      ap (λ (b : Bool). cond b (redone_frame lsn r f) f) (false_from_ne_true (eqb (stripe_of p) x && eqb p page)
      (λ hit. away (eqb-true p page (and_parts (eqb (stripe_of p) x) (eqb p page) hit).1))))

  -- pages, and then others
  pub redone-more : (p q both : ℕ → Bool) (start old new : List Frame) → ((n : ℕ) → (p n || q n) ≡ both n) → old ≡ each_from (redone_where x lsn r p) 16 start
      → new ≡ each_from (redone_where x lsn r q) 16 old → new ≡ each_from (redone_where x lsn r both) 16 start
  redone-more p q both start old new all before after =
      after ∙ ap (each_from (redone_where x lsn r q) 16) before ∙ each-then (redone_where x lsn r q) (redone_where x lsn r p) 16 start
      ∙ each-same _ (redone_where x lsn r both) 16 start (λ n f. by_test (eqb (stripe_of n) x) (p n) (q n) f
      ∙ ap (λ (b : Bool). cond (eqb (stripe_of n) x && b) (redone_frame lsn r f) f) (all n))
    where
      by_test : (o a b : Bool) (f : Frame)
          → cond (o && b) (redone_frame lsn r (cond (o && a) (redone_frame lsn r f) f)) (cond (o && a) (redone_frame lsn r f) f) ≡ cond (o && (a || b)) (redone_frame lsn r f) f
      by_test true true true f = frame-twice lsn r f
      by_test true true false f = refl
      by_test true false true f = refl
      by_test true false false f = refl
      by_test false a b f = refl

  pub redone-none : (frames : List Frame) → frames ≡ each_from (redone_where x lsn r (λ q. false)) 16 frames
  redone-none frames = each-none (redone_where x lsn r (λ q. false)) 16 frames (λ p f low high. never (eqb (stripe_of p) x) f)
    where
      never : (b : Bool) (f : Frame) → cond (b && false) (redone_frame lsn r f) f ≡ f
      never true f = refl
      never false f = refl

  -- a page that can take the record when it is its turn can take it at the start
  pub refused-first : (p q both : ℕ → Bool) (start old : List Frame) (e : PoolFault) → ((n : ℕ) → q n ≡ true → both n ≡ true)
      → old ≡ each_from (redone_where x lsn r p) 16 start → IsRefused x lsn r q old e → IsRefused x lsn r both start e
  refused-first p q both start old (Full page) all before (own, there, on, full) =
      let has : has_frame start page ≡ true = sym (has-each (redone_where x lsn r p) start page) ∙ ap (λ (l : List Frame). has_frame l page) (sym before) ∙ there in
      let is : frame_in old page ≡ redone_where x lsn r p page (frame_in start page) = ap (λ (l : List Frame). frame_in l page) before
      ∙ frame-each (redone_where x lsn r p) start page has in
      (own, has, all page on, λ can. full (by_test (eqb (stripe_of page) x && p page) is can))
    where
      by_test : (b : Bool) → frame_in old page ≡ cond b (redone_frame lsn r (frame_in start page)) (frame_in start page) → CanTake lsn r (frame_in start page)
          → CanTake lsn r (frame_in old page)
      by_test true is can = subst (CanTake lsn r) (sym is) (frame-again lsn r (frame_in start page))
      by_test false is can = subst (CanTake lsn r) (sym is) can
  refused-first p q both start old NoMemory all before h = tt
