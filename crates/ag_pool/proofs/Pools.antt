-- Loops over the frames and the stripes, and what is seen of the stripes.
use Rattle.std.proofs.Common.{◌≡◌, ℕ, zero, suc, ◌+◌, ◌<◌, ◌≤◌, min, List, [], ◌∷◌, ◌++◌, length, get_or, set, take, drop, map, replicate, refl, sym, ap, ◌∙◌, arith}
use Rattle.std.specs.List.{fold}
use Rattle.std.proofs.lemmas.List.{take_all, map-set, get_or-map}
use Rattle.ag_rules.specs.Replica.{Stripe, least, no_stripe}
use Rattle.ag_rules.specs.ResumeMessage.{lowered}
use Rattle.ag_model.specs.declared.record.Record.{Record}
use Rattle.ag_pool.specs.declared.frame.Frame.{Frame}
use Rattle.ag_pool.specs.declared.frame.StripeLsns.{StripeLsns}
use Rattle.ag_pool.specs.Frames.{stripe_of, lowered_lsns, at_lsn}
use Rattle.ag_pool.specs.Redo.{each_with_page, redone_page, redone_stripe}

-- a loop that writes f x over each element x
pub each-more : {X : Type 0} (f : X → X) (xs ys : List X) (i : ℕ) (d : X) → i < length xs → ys ≡ map f (take i xs) ++ drop i xs
    → set ys i (f (get_or ys i d)) ≡ map f (take (i + 1) xs) ++ drop (i + 1) xs
each-more f xs ys i d lt is =
    let e : suc i ≡ i + 1 = omega arith in
    ap (λ (l : List _). set l i (f (get_or l i d))) is ∙ step xs i lt ∙ (λ j. map f (take (e j) xs) ++ drop (e j) xs)
  where
    step : (zs : List _) (n : ℕ) → n < length zs → set (map f (take n zs) ++ drop n zs) n (f (get_or (map f (take n zs) ++ drop n zs) n d)) ≡ map f (take (suc n) zs) ++ drop (suc n) zs
    step [] n h = absurd (omega arith)
    step (z ∷ zs) zero h = refl
    step (z ∷ zs) (suc n) h = ap (λ (l : List _). f z ∷ l) (step zs n (omega arith))

min-fold : (x y : ℕ) (ys : List ℕ) → min x (fold min y ys) ≡ fold min (min x y) ys
min-fold x y [] = refl
min-fold x y (z ∷ ys) = min-fold x (min y z) ys ∙ ap (λ v. fold min v ys) (omega arith)

-- the least by a fold
least-fold : (x : ℕ) (xs : List ℕ) → least (x ∷ xs) ≡ fold min x xs
least-fold x [] = refl
least-fold x (y ∷ ys) = ap (min x) (least-fold y ys) ∙ min-fold x y ys

-- the least of all, from the first on
pub least-all : (f : StripeLsns → ℕ) (xs : List StripeLsns) (i n : ℕ) (d : StripeLsns) → 0 < length xs → length xs ≤ i
    → n ≡ fold min (f (get_or xs 0 d)) (map f (take i xs)) → n ≡ least (map f xs)
least-all f [] i n d some le is = absurd (omega arith)
least-all f (x ∷ xs) i n d some le is =
    let same : min (f x) (f x) ≡ f x = omega arith in
    is ∙ ap (λ (l : List StripeLsns). fold min (f x) (map f l)) (take_all i (x ∷ xs) le) ∙ ap (λ m. fold min m (map f xs)) same ∙ sym (least-fold (f x) (map f xs))

-- the LSNs, seen
pub applied-seen : (xs : List StripeLsns) → map (λ (s : StripeLsns). s.applied) xs ≡ map (λ (s : Stripe). s.applied) (map stripe_of xs)
applied-seen [] = refl
applied-seen (x ∷ xs) = ap (λ (l : List ℕ). x.applied ∷ l) (applied-seen xs)

pub published-seen : (xs : List StripeLsns) → map (λ (s : StripeLsns). s.published) xs ≡ map (λ (s : Stripe). s.published) (map stripe_of xs)
published-seen [] = refl
published-seen (x ∷ xs) = ap (λ (l : List ℕ). x.published ∷ l) (published-seen xs)

-- lowered stripes, seen
pub lowered-seen : (lsn : ℕ) (xs : List StripeLsns) → map stripe_of (map (lowered_lsns lsn) xs) ≡ map (lowered lsn) (map stripe_of xs)
lowered-seen lsn [] = refl
lowered-seen lsn (x ∷ xs) = ap (λ (l : List Stripe). lowered lsn (stripe_of x) ∷ l) (lowered-seen lsn xs)

-- stripes at one LSN, seen
pub stand-seen : (lsn n : ℕ) (xs : List StripeLsns) → length xs ≡ n → map stripe_of (map (at_lsn lsn) xs) ≡ replicate n (record { applied = lsn; published = lsn })
stand-seen lsn zero [] e = refl
stand-seen lsn (suc n) [] e = absurd (omega arith)
stand-seen lsn zero (x ∷ xs) e = absurd (omega arith)
stand-seen lsn (suc n) (x ∷ xs) e = ap (λ (l : List Stripe). record { applied = lsn; published = lsn } ∷ l) (stand-seen lsn n xs (omega arith))

-- a stripe that publishes, seen
pub publish-seen : (xs : List StripeLsns) (k x : ℕ) (r : StripeLsns) → k ≡ x → k < length xs → r ≡ get_or xs k r
    → map stripe_of (set xs k (record { applied = r.applied; published = r.applied }))
    ≡ set (map stripe_of xs) x (record { applied = (get_or (map stripe_of xs) x no_stripe).applied; published = (get_or (map stripe_of xs) x no_stripe).applied })
publish-seen xs k x r e lt is =
    let there : stripe_of r ≡ get_or (map stripe_of xs) x no_stripe = ap stripe_of is ∙ sym (get_or-map stripe_of xs k r no_stripe lt)
    ∙ ap (λ (n : ℕ). get_or (map stripe_of xs) n no_stripe) e in
    map-set stripe_of xs k (record { applied = r.applied; published = r.applied })
    ∙ (λ j. set (map stripe_of xs) (e j) (record { applied = (there j).applied; published = (there j).applied }))

-- the LSN of a stripe, seen
pub applied-at : (xs : List StripeLsns) (k x : ℕ) (q : StripeLsns) → k ≡ x → k < length xs → q ≡ get_or xs k q → stripe_of q ≡ get_or (map stripe_of xs) x no_stripe
applied-at xs k x q e lt is = ap stripe_of is ∙ sym (get_or-map stripe_of xs k q no_stripe lt) ∙ ap (λ (n : ℕ). get_or (map stripe_of xs) n no_stripe) e

-- a stripe that redid, seen
pub redo-seen : (pages : ℕ) (frames new : List Frame) (xs : List StripeLsns) (records : List Record) (k x end : ℕ) (q r : StripeLsns) → k ≡ x → k < length xs
    → q ≡ get_or xs k q → r ≡ get_or xs k r
    → end ≡ q.applied + length records → new ≡ each_with_page (redone_page x pages q.applied records) frames
    → record { pages = pages; frames = new; stripes = map stripe_of (set xs k (record { applied = end; published = r.published })) }
    ≡ redone_stripe x records (record { pages = pages; frames = frames; stripes = map stripe_of xs })
redo-seen pages frames new xs records k x end q r e lt is same far after =
    let one = applied-at xs k x q e lt is in
    let two = applied-at xs k x r e lt same in
    λ i. record {
      pages = pages;
      frames = (after ∙ ap (λ (s : Stripe). each_with_page (redone_page x pages s.applied records) frames) one) i;
      stripes = (map-set stripe_of xs k (record { applied = end; published = r.published })
          ∙ (λ j. set (map stripe_of xs) (e j) (record { applied = (far ∙ ap (λ (s : Stripe). s.applied + length records) one) j; published = (two j).published }))) i;
    }
