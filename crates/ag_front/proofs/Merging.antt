-- Of two views that are merged.
use Rattle.std.proofs.Common.{◌≡◌, ◌≢◌, ℕ, zero, suc, ◌+◌, ◌<◌, ◌≤◌, Bool, true, false, cond, ltb, List, [], ◌∷◌, length, get_or, set, sym, refl, ap, ◌∙◌, subst, arith, max, le_refl, length-set, get_or-set_other, get_or-set_same}
use Rattle.std.proofs.lemmas.Grind.{same_number_lists}
use Rattle.std.proofs.lemmas.Bool.{ltb-true, lt-ltb}
use mathlib.Core.Logic.{dite}
use native.Mathlib.Decide.{dec_le, ℕ_discrete}
use Rattle.ag_model.specs.declared.record.Log.{Log}
use Rattle.ag_model.specs.Prefixes.{end_of, IsPrefix}
use Rattle.ag_model.specs.Proper.{IsProper}
use Rattle.ag_model.proofs.Prefixes.{prefix_length, prefix_both, prefix_whole}
use Rattle.ag_front.specs.Steps.{longer, maxes}

pub max_case : (P : ℕ → Type 0) (m n : ℕ) → P m → P n → P (max m n)
max_case P m n p q = dite (dec_le m n) (λ le. subst P (let e : n ≡ max m n = omega arith in e) q) (λ not. subst P (let e : m ≡ max m n = omega arith in e) p)

pub length-maxes : (a b : List ℕ) (n : ℕ) → length a ≡ n → length b ≡ n → length (maxes a b) ≡ n
length-maxes [] b n p q = p
length-maxes (x ∷ xs) [] n p q = q
length-maxes (x ∷ xs) (y ∷ ys) n p q = let e = length-maxes xs ys (length xs) refl (omega arith) in omega arith

pub maxes_case : (P : ℕ → Type 0) (a b : List ℕ) (k : ℕ) → k < length a → k < length b → P (get_or a k 0) → P (get_or b k 0) → P (get_or (maxes a b) k 0)
maxes_case P [] b k l m p q = absurd (omega arith)
maxes_case P (x ∷ xs) [] k l m p q = absurd (omega arith)
maxes_case P (x ∷ xs) (y ∷ ys) zero l m p q = max_case P x y p q
maxes_case P (x ∷ xs) (y ∷ ys) (suc k) l m p q = maxes_case P xs ys k (omega arith) (omega arith) p q

-- one of two numbers, by a decision
abbrev pub pick : {P : Type 0} → Dec P → ℕ → ℕ → ℕ
pick (yes _) a b = a
pick (no _) a b = b

-- w, but where w is `from`, `to`
pub moved : ℕ → ℕ → ℕ → ℕ
moved w from to = pick (ℕ_discrete w from) to w

pub moved_to : (w from to : ℕ) → w ≡ from → moved w from to ≡ to
unfolding moved
moved_to w from to is = go (ℕ_discrete w from)
  where
    go : (d : Dec (w ≡ from)) → pick d to w ≡ to
    go (yes _) = refl
    go (no n) = absurd (n is)

pub moved_not : (w from to : ℕ) → w ≢ from → moved w from to ≡ w
unfolding moved
moved_not w from to isnt = go (ℕ_discrete w from)
  where
    go : (d : Dec (w ≡ from)) → pick d to w ≡ w
    go (yes e) = absurd (isnt e)
    go (no _) = refl

-- what holds of the longer of two lists, by the two cases
longer_case : (P : Log → Type 0) (a b : Log) → (end_of a < end_of b → P b) → (end_of b ≤ end_of a → P a) → P (longer a b)
longer_case P a b less more = go (ltb (end_of a) (end_of b)) refl
  where
    go : (t : Bool) → ltb (end_of a) (end_of b) ≡ t → P (cond t b a)
    go true e = less (ltb-true (end_of a) (end_of b) e)
    go false e = dite (dec_le (end_of b) (end_of a)) more (λ not. let y : ltb (end_of a) (end_of b) ≡ true = lt-ltb (end_of a) (end_of b) (omega arith) in absurd (cc (e, y)))

pub longer_begins : (a b l : Log) → IsPrefix a l → IsPrefix b l → IsPrefix (longer a b) l
longer_begins a b l p q = longer_case (λ x. IsPrefix x l) a b (λ _. q) (λ _. p)

pub longer_first : (a b l : Log) → IsPrefix a l → IsPrefix b l → IsPrefix a (longer a b)
longer_first a b l p q = longer_case (λ x. IsPrefix a x) a b (λ lt. prefix_both a b l p q (omega arith)) (λ _. prefix_both a a l p p (le_refl (end_of a)))

pub longer_second : (a b l : Log) → IsPrefix a l → IsPrefix b l → IsPrefix b (longer a b)
longer_second a b l p q = longer_case (λ x. IsPrefix b x) a b (λ _. prefix_both b b l q q (le_refl (end_of b))) (λ le. prefix_both b a l q p le)

pub longer_log : (a b l : Log) → IsPrefix b l → a ≡ l → longer a b ≡ l
longer_log a b l q is = let n = prefix_length b l q in let e = ap end_of is in longer_case (λ x. x ≡ l) a b (λ lt. absurd (omega arith)) (λ _. is)

pub longer_log' : (pages : ℕ) (a b l : Log) → IsProper pages l → IsPrefix a l → b ≡ l → longer a b ≡ l
longer_log' pages a b l proper p is = let e = ap end_of is in longer_case (λ x. x ≡ l) a b (λ _. is) (λ le. prefix_whole pages a l proper p (omega arith))

pub maxes_at : (a b : List ℕ) (k : ℕ) → k < length a → length a ≡ length b → get_or (maxes a b) k 0 ≡ max (get_or a k 0) (get_or b k 0)
maxes_at [] b k l e = absurd (omega arith)
maxes_at (x ∷ xs) [] k l e = absurd (omega arith)
maxes_at (x ∷ xs) (y ∷ ys) zero l e = refl
maxes_at (x ∷ xs) (y ∷ ys) (suc k) l e = maxes_at xs ys k (omega arith) (omega arith)

-- the first n numbers were raised
pub record Raising (n : ℕ) (xs ys now : List ℕ) : Type 0 where
  pub long : length now ≡ length xs
  pub done : (k : ℕ) → k < n → get_or now k 0 ≡ max (get_or xs k 0) (get_or ys k 0)
  pub left : (k : ℕ) → n ≤ k → get_or now k 0 ≡ get_or xs k 0

pub raising_none : (xs ys : List ℕ) → Raising 0 xs ys xs
raising_none xs ys = record { long = refl; done = λ k l. absurd (omega arith); left = λ k _. refl }

pub raising_next : (n r : ℕ) (xs ys now : List ℕ) → n < length xs → Raising n xs ys now → r ≡ max (get_or now n 0) (get_or ys n 0) → Raising (n + 1) xs ys (set now n r)
raising_next n r xs ys now l was is = let long = was.long in let at_n = was.left n (le_refl n) in record {
  long = length-set now n r ∙ long;
  done = λ k small. dite (ℕ_discrete k n)
      (λ e. ap (λ (x : ℕ). get_or (set now n r) x 0) e ∙ (get_or-set_same now n r 0 (omega arith) ∙ (is ∙ (ap (λ (x : ℕ). max x (get_or ys n 0)) at_n ∙ ap (λ (x : ℕ). max (get_or xs x 0) (get_or ys x 0)) (sym e)))))
      (λ other. get_or-set_other now n k r 0 other ∙ was.done k (omega arith));
  left = λ k more. get_or-set_other now n k r 0 (λ e. omega arith) ∙ was.left k (omega arith);
}

pub raising_all : (n : ℕ) (xs ys now : List ℕ) → length xs ≤ n → length xs ≡ length ys → Raising n xs ys now → now ≡ maxes xs ys
raising_all n xs ys now all same was = let long = was.long in let m = length-maxes xs ys (length xs) refl (sym same) in
    same_number_lists now (maxes xs ys) (omega arith) (λ k l. was.done k (omega arith) ∙ sym (maxes_at xs ys k (omega arith) same))
