-- Redo of one record more.
use Rattle.std.proofs.Common.{◌≡◌, ℕ, suc, ◌+◌, ◌<◌, Bool, true, false, cond, ◌&&◌, eqb, List, [], ◌∷◌, ◌++◌, length, get_or, take, drop, refl, sym, ap, ◌∙◌, arith}
use Rattle.std.specs.List.{enumerate_from, filter, fold}
use Rattle.std.proofs.lemmas.Bool.{eq-eqb}
use Rattle.std.proofs.lemmas.List.{length-take, take-append-drop}
use Rattle.std.proofs.Math.Seq.{take-suc, drop-cons}
use Rattle.ag_model.specs.declared.record.Record.{Record}
use Rattle.ag_model.specs.Rows.{stripe_of, touches}
use Rattle.ag_pool.specs.declared.fault.PoolFault.{PoolFault}
use Rattle.ag_pool.specs.declared.fault.PoolFault.TheVariants.{Full, NoMemory}
use Rattle.ag_pool.specs.declared.frame.Frame.{Frame}
use Rattle.ag_pool.specs.Passes.{has_frame, frame_in, redone_where, IsRefused, AreRefused}
use Rattle.ag_pool.specs.Redo.{redone_frame, redone_by, redone_page, numbered_after}
use Rattle.ag_pool.proofs.Each.{each_from, each-then, each-same, each-none}
use Rattle.ag_pool.proofs.Passes.{frame-each, has-each}

-- one entry on a frame, and whether it touches the page
abbrev step : Frame → ℕ × Record → Frame
step g e = redone_frame e.0 e.1 g

abbrev hits : ℕ → ℕ → ℕ × Record → Bool
hits pages page e = touches pages page e.1

-- a record more, at the end
pub redone-push : (pages page k : ℕ) (rs : List Record) (r : Record) (f : Frame)
    → redone_by pages page (enumerate_from k (rs ++ r ∷ [])) f
    ≡ cond (touches pages page r) (redone_frame (k + length rs) r (redone_by pages page (enumerate_from k rs) f)) (redone_by pages page (enumerate_from k rs) f)
redone-push pages page k [] r f = by_test (touches pages page r)
  where
    by_test : (b : Bool) → fold step f (cond b ((k, r) ∷ []) []) ≡ cond b (redone_frame (k + 0) r f) f
    by_test true = let e : k ≡ k + 0 = omega arith in ap (λ (n : ℕ). redone_frame n r f) e
    by_test false = refl
redone-push pages page k (y ∷ rs) r f =
    let e : k + 1 + length rs ≡ k + suc (length rs) = omega arith in
    by_test (redone-push pages page (k + 1) rs r) (touches pages page y)
    ∙ ap (λ (n : ℕ). cond (touches pages page r) (redone_frame n r (redone_by pages page (enumerate_from k (y ∷ rs)) f)) (redone_by pages page (enumerate_from k (y ∷ rs)) f)) e
  where
    by_test : ((g : Frame) → redone_by pages page (enumerate_from (k + 1) (rs ++ r ∷ [])) g
        ≡ cond (touches pages page r) (redone_frame (k + 1 + length rs) r (redone_by pages page (enumerate_from (k + 1) rs) g)) (redone_by pages page (enumerate_from (k + 1) rs) g))
        → (b : Bool) → fold step f (cond b ((k, y) ∷ filter (hits pages page) (enumerate_from (k + 1) (rs ++ r ∷ []))) (filter (hits pages page) (enumerate_from (k + 1) (rs ++ r ∷ []))))
        ≡ cond (touches pages page r) (redone_frame (k + 1 + length rs) r (fold step f (cond b ((k, y) ∷ filter (hits pages page) (enumerate_from (k + 1) rs))
        (filter (hits pages page) (enumerate_from (k + 1) rs)))))
        (fold step f (cond b ((k, y) ∷ filter (hits pages page) (enumerate_from (k + 1) rs)) (filter (hits pages page) (enumerate_from (k + 1) rs))))
    by_test ih true = ih (redone_frame k y f)
    by_test ih false = ih f

-- no record
pub all-none : (x pages lsn : ℕ) (frames : List Frame) → frames ≡ each_from (redone_page x pages lsn []) 16 frames
all-none x pages lsn frames = each-none (redone_page x pages lsn []) 16 frames (λ p f low high. never (eqb (stripe_of p) x) f)
  where
    never : (b : Bool) (f : Frame) → cond b f f ≡ f
    never true f = refl
    never false f = refl

module _ (x pages applied i : ℕ) (records : List Record) (r : Record) (lt : i < length records) (there : r ≡ get_or records i r) where
  -- the records up to this one
  pub page-more : (page : ℕ) (f : Frame) → redone_by pages page (numbered_after applied (take (i + 1) records)) f
      ≡ cond (touches pages page r) (redone_frame (applied + i + 1) r
      (redone_by pages page (numbered_after applied (take i records)) f)) (redone_by pages page (numbered_after applied (take i records)) f)
  page-more page f =
      let e : i + 1 ≡ suc i = omega arith in
      let whole : take (i + 1) records ≡ take i records ++ r ∷ [] = ap (λ (n : ℕ). take n records) e ∙ take-suc records i r lt ∙ ap (λ (y : Record). take i records ++ y ∷ []) (sym there) in
      let n : applied + 1 + length (take i records) ≡ applied + i + 1 = omega (arith, length-take i records) in
      ap (λ (l : List Record). redone_by pages page (numbered_after applied l) f) whole ∙ redone-push pages page (applied + 1) (take i records) r f
      ∙ ap (λ (m : ℕ). cond (touches pages page r) (redone_frame m r (redone_by pages page (numbered_after applied (take i records)) f))
      (redone_by pages page (numbered_after applied (take i records)) f)) n

  pub all-more : (start old new : List Frame) → old ≡ each_from (redone_page x pages applied (take i records)) 16 start
      → new ≡ each_from (redone_where x (applied + i + 1) r (λ q. touches pages q r)) 16 old
      → new ≡ each_from (redone_page x pages applied (take (i + 1) records)) 16 start
  all-more start old new before after =
      after ∙ ap (each_from (redone_where x (applied + i + 1) r (λ q. touches pages q r)) 16) before
      ∙ each-then (redone_where x (applied + i + 1) r (λ q. touches pages q r)) (redone_page x pages applied (take i records)) 16 start
      ∙ each-same _ (redone_page x pages applied (take (i + 1) records)) 16 start (λ p f. by_test (eqb (stripe_of p) x) (touches pages p r) f _
      ∙ ap (λ (g : Frame). cond (eqb (stripe_of p) x) g f) (sym (page-more p f)))
    where
      by_test : (o t : Bool) (f g : Frame) → cond (o && t) (redone_frame (applied + i + 1) r (cond o g f)) (cond o g f) ≡ cond o (cond t (redone_frame (applied + i + 1) r g) g) f
      by_test true true f g = refl
      by_test true false f g = refl
      by_test false t f g = refl

  pub all-refused : (start old : List Frame) (e : PoolFault) → old ≡ each_from (redone_page x pages applied (take i records)) 16 start
      → IsRefused x (applied + i + 1) r (λ q. touches pages q r) old e → AreRefused x pages applied records start e
  all-refused start old (Full page) before (own, has, on, full) =
      let there' : has_frame start page ≡ true = sym (has-each (redone_page x pages applied (take i records)) start page) ∙ ap (λ (l : List Frame). has_frame l page) (sym before) ∙ has in
      let mine : eqb (stripe_of page) x ≡ true = eq-eqb (stripe_of page) x own in
      let is : frame_in old page ≡ redone_by pages page (numbered_after applied (take i records)) (frame_in start page) =
      ap (λ (l : List Frame). frame_in l page) before ∙ frame-each (redone_page x pages applied (take i records)) start page there'
      ∙ ap (λ (b : Bool). cond b (redone_by pages page (numbered_after applied (take i records)) (frame_in start page)) (frame_in start page)) mine in
      let n : applied + 1 + length (take i records) ≡ applied + i + 1 = omega (arith, length-take i records) in (
        own,
        there',
        record {
          before = take i records;
          entry = r;
          after = drop (suc i) records;
          parts = sym (take-append-drop i records) ∙ ap (λ (l : List Record). take i records ++ l) (drop-cons records i r lt)
              ∙ ap (λ (y : Record). take i records ++ y ∷ drop (suc i) records) (sym there);
          touched = on;
          full = λ can. full (λ v e below. can v (sym (ap (λ (g : Frame). g.value) is) ∙ e) (omega arith));
        },
      )
  all-refused start old NoMemory before h = tt
