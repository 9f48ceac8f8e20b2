-- Pages by eights.
use Rattle.std.proofs.Common.{◌≡◌, ℕ, Bool, true, false, cond, ltb, List, [], ◌∷◌, ◌++◌, length, append_assoc, refl, sym, ap, ◌∙◌}
use Rattle.std.specs.List.{concat, fold}
use Rattle.std.proofs.lemmas.List.{append-nil}
use Rattle.ag_rules.specs.FlushEvent.{Batching, batch_with, batched, unless_none}

-- nothing put into batches yet
abbrev pub start : Batching
start = record { full = []; last = [] }

pub concat-append : (xss yss : List (List ℕ)) → concat (xss ++ yss) ≡ concat xss ++ concat yss
concat-append [] yss = refl
concat-append (xs ∷ xss) yss = ap (λ (z : List ℕ). xs ++ z) (concat-append xss yss) ∙ sym (append_assoc xs (concat xss) (concat yss))

pub concat-one : (xs : List ℕ) → concat (xs ∷ []) ≡ xs
concat-one xs = append-nil xs

-- all pages of the batches, in order
abbrev pub pages_of : Batching → List ℕ
pages_of b = concat b.full ++ b.last

pub pages-with : (b : Batching) (p : ℕ) → pages_of (batch_with b p) ≡ pages_of b ++ p ∷ []
pages-with b p = by_test (ltb (length b.last) 8)
  where
    by_test : (t : Bool) → pages_of (cond t (record b { last = b.last ++ p ∷ [] }) (record { full = b.full ++ b.last ∷ []; last = p ∷ [] })) ≡ pages_of b ++ p ∷ []
    by_test true = sym (append_assoc (concat b.full) b.last (p ∷ []))
    by_test false = ap (λ (z : List ℕ). z ++ p ∷ []) (concat-append b.full (b.last ∷ []) ∙ ap (λ (z : List ℕ). concat b.full ++ z) (concat-one b.last))

-- from batches that are full, the others go on
-- the batches after some that are full
abbrev pub in_front : List (List ℕ) → Batching → Batching
in_front front b = record { full = front ++ b.full; last = b.last }

abbrev ends_in : ℕ → List (List ℕ) → Batching
ends_in p full = record { full = full; last = p ∷ [] }

-- one page more, where the last batch has room or not
abbrev with_test : ℕ → Bool → Batching → Batching
with_test p t c = cond t (record c { last = c.last ++ p ∷ [] }) (record { full = c.full ++ c.last ∷ []; last = p ∷ [] })

front-test : (front : List (List ℕ)) (b : Batching) (p : ℕ) (t : Bool) → with_test p t (in_front front b) ≡ in_front front (with_test p t b)
front-test front b p true = refl
front-test front b p false = ap (ends_in p) (append_assoc front b.full (b.last ∷ []))

pub with-front : (front : List (List ℕ)) (b : Batching) (p : ℕ) → batch_with (in_front front b) p ≡ in_front front (batch_with b p)
with-front front b p = front-test front b p (ltb (length b.last) 8)

-- what is full stays so
pub record GoesOn (b : Batching) (ps : List ℕ) : Type 0 where
  pub more : List (List ℕ)
  pub is : batched (fold batch_with b ps) ≡ b.full ++ more

pub goes_on : (b : Batching) (ps : List ℕ) → GoesOn b ps
goes_on b [] = record { more = unless_none b.last; is = refl }
goes_on b (p ∷ ps) = by_test (ltb (length b.last) 8) refl (goes_on (batch_with b p) ps)
  where
    by_test : (t : Bool) → ltb (length b.last) 8 ≡ t → GoesOn (cond t (record b { last = b.last ++ p ∷ [] }) (record { full = b.full ++ b.last ∷ []; last = p ∷ [] })) ps → GoesOn b (p ∷ ps)
    by_test true e g = record { more = g.more; is = ap (λ (t : Bool). batched (fold batch_with (cond t (record b { last = b.last ++ p ∷ [] }) (record { full = b.full ++ b.last ∷ []; last = p ∷ [] })) ps)) e ∙ g.is }
    by_test false e g = record {
      more = b.last ∷ g.more;
      is = ap (λ (t : Bool). batched (fold batch_with (cond t (record b { last = b.last ++ p ∷ [] }) (record { full = b.full ++ b.last ∷ []; last = p ∷ [] })) ps)) e ∙ g.is ∙ append_assoc b.full (b.last ∷ []) g.more;
    }
