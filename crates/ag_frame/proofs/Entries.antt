-- The entry whose frame holds a page, by its key.
use Rattle.std.proofs.Common.{◌≡◌, ℕ, Bool, true, false, List, [], ◌∷◌, Some, refl, sym, ap, subst, ◌∙◌, ◌++◌, ◌<◌, ◌==◌, rules, arith, None, is_some, ◌+◌, nat_eq, length, suc}
use Rattle.std.specs.List.{AllByRecursion, IsDistinct}
use Rattle.std.specs.Map.{keys_of, lookup, lookup_entry, remove_entry, set_value}
use Rattle.std.specs.Option.{option_map}
use Rattle.lru.specs.LruCache.{promoted, demoted, last_entry}
use Rattle.lru.proofs.Pairs.{last_of_push}
use Rattle.std.specs.Cmp.{nat_eq_equiv}
use Rattle.ag_frame.specs.declared.frame.Frame.{Frame}
use Rattle.ag_frame.specs.declared.frame.Frame.TheVariants.{Free, Held}
use Rattle.ag_frame.specs.Frames.{shown, all_shown, holds, page_of, without, holder, AllBelow, IsNumbered}

pub same_number : (p page : ℕ) → (p == page) ≡ true → p ≡ page
same_number p page t = search rules

module _ {T : Type 0} where
  -- the key finds the page's frame
  abbrev pub IsAt : ℕ → List (ℕ × Frame T) → ℕ → Type 0
  IsAt page es k = (v : T) × (lookup_entry (nat_eq k) es ≡ Some (k, Held page v)) × (lookup (nat_eq k) es ≡ Some (Held page v)) × (page_of page (all_shown es) ≡ Some v) × (all_shown (remove_entry (nat_eq k) es) ≡ without page (all_shown es))

  apart : (n page k : ℕ) (es : List (ℕ × Frame T)) → AllByRecursion (λ y. nat_eq n y ≡ false) (keys_of es) → holder page es ≡ Some k → nat_eq k n ≡ false
  apart n page k [] a h = cc
  apart n page k (e ∷ es) a h = (elim (holds page (shown e.1)) as (λ b. holds page (shown e.1) ≡ b → nat_eq k n ≡ false) [
    | true ↦ λ t. let h' = rw t at h in let same : e.0 ≡ k = cc in subst (λ x. nat_eq x n ≡ false) same (nat_eq_equiv.symm e.0 n ∙ a.0)
    | false ↦ λ t. apart n page k es a.1 (rw t at h)
  ]) refl

  first : (n page : ℕ) (v : T) (es : List (ℕ × Frame T)) → IsAt page ((n, Held page v) ∷ es) n
  first n page v es = rw (nat_eq_equiv.refl n, nat_eq_equiv.refl page) (v, refl, refl, refl, refl)

  -- where the keys differ, the key that was found finds the frame
  pub is_at : (page k : ℕ) (es : List (ℕ × Frame T)) → IsDistinct nat_eq (keys_of es) → holder page es ≡ Some k → IsAt page es k
  unfolding IsDistinct
  is_at page k [] d h = cc
  is_at page k ((n, Free) ∷ es) d h =
      let r = is_at page k es d.1 h in let ne = apart n page k es d.0 h in
      (r.0, rw ne r.1, rw ne r.2, r.3, rw ne (ap (λ fs. None ∷ fs) r.4))
  is_at page k ((n, Held p v) ∷ es) d h = (elim (p == page) as (λ b. (p == page) ≡ b → IsAt page ((n, Held p v) ∷ es) k) [
    | true ↦ λ t. let h' = rw t at h in let same : n ≡ k = cc in let number : p ≡ page = same_number p page t in
        subst (λ x. IsAt x ((n, Held p v) ∷ es) k) number (subst (λ x. IsAt p ((n, Held p v) ∷ es) x) same (first n p v es))
    | false ↦ λ t. let h' = rw t at h in let r = is_at page k es d.1 h' in let ne = apart n page k es d.0 h' in
        (r.0, rw ne r.1, rw ne r.2, rw t r.3, rw (ne, t) (ap (λ fs. Some (p, v) ∷ fs) r.4))
  ]) refl

  -- where no frame holds the page, it is not there
  pub not_there : (page : ℕ) (es : List (ℕ × Frame T)) → holder page es ≡ None → page_of page (all_shown es) ≡ None
  not_there page [] h = refl
  not_there page ((n, Free) ∷ es) h = not_there page es h
  not_there page ((n, Held p v) ∷ es) h = (elim (p == page) as (λ b. (p == page) ≡ b → page_of page (all_shown ((n, Held p v) ∷ es)) ≡ None) [
    | true ↦ λ t. let h' = rw t at h in cc
    | false ↦ λ t. rw t (not_there page es (rw t at h))
  ]) refl

  before_end : (n : ℕ) (xs : List (ℕ × Frame T)) (k : ℕ) (f : Frame T) → AllByRecursion (λ y. nat_eq n y ≡ false) (keys_of (xs ++ (k, f) ∷ [])) → nat_eq n k ≡ false
  before_end n [] k f a = a.0
  before_end n (x ∷ xs) k f a = before_end n xs k f a.1

  -- the frame that was found goes first and takes w
  pub lent : (k : ℕ) (f w : Frame T) (es : List (ℕ × Frame T)) → lookup_entry (nat_eq k) es ≡ Some (k, f) → set_value (nat_eq k) (promoted (nat_eq k) es) w ≡ (k, w) ∷ remove_entry (nat_eq k) es
  lent k f w es h = rw (h, nat_eq_equiv.refl k) refl

  -- the last key is none of those before it
  pub at_end : (xs : List (ℕ × Frame T)) (k : ℕ) (f : Frame T) → IsDistinct nat_eq (keys_of (xs ++ (k, f) ∷ [])) → (lookup_entry (nat_eq k) (xs ++ (k, f) ∷ []) ≡ Some (k, f)) × (lookup (nat_eq k) (xs ++ (k, f) ∷ []) ≡ Some f) × (remove_entry (nat_eq k) (xs ++ (k, f) ∷ []) ≡ xs)
  unfolding IsDistinct
  at_end [] k f d = rw (nat_eq_equiv.refl k) (refl, refl, refl)
  at_end (x ∷ xs) k f d =
      let r = at_end xs k f d.1 in let ne : nat_eq k x.0 ≡ false = nat_eq_equiv.symm k x.0 ∙ before_end x.0 xs k f d.0 in
      rw ne (r.0, r.1, ap (λ es. x ∷ es) r.2)

  -- the key is that of the last frame
  abbrev pub IsLast : List (ℕ × Frame T) → ℕ → Type 0
  IsLast es k = (xs : List (ℕ × Frame T)) × (f : Frame T) × (es ≡ xs ++ (k, f) ∷ []) × (lookup_entry (nat_eq k) es ≡ Some (k, f)) × (lookup (nat_eq k) es ≡ Some f) × (remove_entry (nat_eq k) es ≡ xs)

  snoc : (x : ℕ × Frame T) (es : List (ℕ × Frame T)) → (xs : List (ℕ × Frame T)) × (e : ℕ × Frame T) × (x ∷ es ≡ xs ++ e ∷ [])
  snoc x [] = ([], x, refl)
  snoc x (y ∷ es) = let r = snoc y es in (x ∷ r.0, r.1, ap (λ ys. x ∷ ys) r.2)

  at_last : (xs : List (ℕ × Frame T)) (e : ℕ × Frame T) (k : ℕ) → IsDistinct nat_eq (keys_of (xs ++ e ∷ [])) → Some k ≡ option_map (λ x. x.0) (last_entry (xs ++ e ∷ [])) → IsLast (xs ++ e ∷ []) k
  at_last xs e k d h =
      let h' = rw (last_of_push xs e).0 at h in let same : e.0 ≡ k = cc in
      subst (IsLast (xs ++ e ∷ [])) same (let r = at_end xs e.0 e.1 d in (xs, e.1, refl, r.0, r.1, r.2))

  pub last_is : (es : List (ℕ × Frame T)) (k : ℕ) → IsDistinct nat_eq (keys_of es) → Some k ≡ option_map (λ x. x.0) (last_entry es) → IsLast es k
  last_is [] k d h = cc
  last_is (x ∷ es) k d h =
      let r = snoc x es in
      subst (λ ys. IsDistinct nat_eq (keys_of ys) → Some k ≡ option_map (λ x. x.0) (last_entry ys) → IsLast ys k) (sym r.2) (at_last r.0 r.1 k) d h

  module _ (test : ℕ → Bool) (k : ℕ) (f w : Frame T) where
    -- a value that was set is the one found
    set_lookup : (es : List (ℕ × Frame T)) → lookup_entry test es ≡ Some (k, f) → lookup_entry test (set_value test es w) ≡ Some (k, w)
    set_lookup [] h = cc
    set_lookup (e ∷ es) h = (elim (test e.0) as (λ b. test e.0 ≡ b → lookup_entry test (set_value test (e ∷ es) w) ≡ Some (k, w)) [
      | true ↦ λ t. let h' = rw t at h in let same : e.0 ≡ k = cc in rw (t, t) (ap (λ x. Some (x, w)) same)
      | false ↦ λ t. rw (t, t) (set_lookup es (rw t at h))
    ]) refl

    set_remove : (es : List (ℕ × Frame T)) → remove_entry test (set_value test es w) ≡ remove_entry test es
    set_remove [] = refl
    set_remove (e ∷ es) = (elim (test e.0) as (λ b. test e.0 ≡ b → remove_entry test (set_value test (e ∷ es) w) ≡ remove_entry test (e ∷ es)) [
      | true ↦ λ t. rw (t, t) refl
      | false ↦ λ t. rw (t, t) (ap (λ x. e ∷ x) (set_remove es))
    ]) refl

    -- a frame that was set and put last
    pub set_last : (es : List (ℕ × Frame T)) → lookup_entry test es ≡ Some (k, f) → demoted test (set_value test es w) ≡ remove_entry test es ++ (k, w) ∷ []
    set_last es h = rw (set_lookup es h, set_remove es) refl

  pub none_at : (n : ℕ) (es : List (ℕ × Frame T)) → AllBelow n es → lookup_entry (nat_eq n) es ≡ None
  none_at n [] a = refl
  none_at n (e ∷ es) a = (elim (nat_eq n e.0) as (λ b. nat_eq n e.0 ≡ b → lookup_entry (nat_eq n) (e ∷ es) ≡ None) [
    | true ↦ λ t. let same = same_number n e.0 t in let lt = a.0 in absurd (omega arith)
    | false ↦ λ t. rw t (none_at n es a.1)
  ]) refl

  pub below_more : (n : ℕ) (es : List (ℕ × Frame T)) → AllBelow n es → AllByRecursion (λ e. e.0 < n + 1) es
  below_more n [] a = tt
  below_more n (e ∷ es) a = (let lt = a.0 in omega arith, below_more n es a.1)

  pub free_shown : (es : List (ℕ × Frame T)) → AllByRecursion (λ e. shown e.1 ≡ None) es → AllByRecursion (λ frame. frame ≡ None) (all_shown es)
  free_shown [] a = tt
  free_shown (e ∷ es) a = (a.0, free_shown es a.1)

  -- a page is held where its frame is found
  pub holder_shows : (page : ℕ) (es : List (ℕ × Frame T)) → is_some (holder page es) ≡ is_some (page_of page (all_shown es))
  holder_shows page [] = refl
  holder_shows page ((n, Free) ∷ es) = holder_shows page es
  holder_shows page ((n, Held p v) ∷ es) = (elim (p == page) as (λ b. (p == page) ≡ b → is_some (holder page ((n, Held p v) ∷ es)) ≡ is_some (page_of page (all_shown ((n, Held p v) ∷ es)))) [
    | true ↦ λ t. rw t refl
    | false ↦ λ t. rw t (holder_shows page es)
  ]) refl

  -- what is left of numbered entries where one was found, and what was found
  abbrev pub IsLeft : ℕ → ℕ → List (ℕ × Frame T) → List (ℕ × Frame T) → Type 0
  IsLeft n k es rest = (k < n) × AllBelow n rest × (suc (length rest) ≡ length es)

  pub removed : (n k : ℕ) (f : Frame T) (es : List (ℕ × Frame T)) → lookup_entry (nat_eq k) es ≡ Some (k, f) → AllBelow n es → IsLeft n k es (remove_entry (nat_eq k) es)
  removed n k f [] h a = cc
  removed n k f (e ∷ es) h a = (elim (nat_eq k e.0) as (λ b. nat_eq k e.0 ≡ b → IsLeft n k (e ∷ es) (remove_entry (nat_eq k) (e ∷ es))) [
    | true ↦ λ t. let h' = rw t at h in let same : e.0 ≡ k = cc in rw t (subst (λ x. x < n) same a.0, a.1, refl)
    | false ↦ λ t. let r = removed n k f es (rw t at h) a.1 in rw t (r.0, (a.0, r.1), ap suc r.2)
  ]) refl

  -- a frame that goes first keeps the numbers
  pub numbered_first : (n k : ℕ) (f w : Frame T) (es : List (ℕ × Frame T)) → lookup_entry (nat_eq k) es ≡ Some (k, f) → IsNumbered n es → IsNumbered n ((k, w) ∷ remove_entry (nat_eq k) es)
  numbered_first n k f w es h a = let r = removed n k f es h a.1 in (r.2 ∙ a.0, (r.0, r.1))

  all_below_last : (n k : ℕ) (w : Frame T) (es : List (ℕ × Frame T)) → k < n → AllBelow n es → AllBelow n (es ++ (k, w) ∷ [])
  all_below_last n k w [] lt a = (lt, tt)
  all_below_last n k w (e ∷ es) lt a = (a.0, all_below_last n k w es lt a.1)

  length_last : (e : ℕ × Frame T) (es : List (ℕ × Frame T)) → length (es ++ e ∷ []) ≡ suc (length es)
  length_last e [] = refl
  length_last e (x ∷ es) = ap suc (length_last e es)

  -- and so does one that goes last
  pub numbered_last : (n k : ℕ) (f w : Frame T) (es : List (ℕ × Frame T)) → lookup_entry (nat_eq k) es ≡ Some (k, f) → IsNumbered n es → IsNumbered n (remove_entry (nat_eq k) es ++ (k, w) ∷ [])
  numbered_last n k f w es h a =
      let rest = remove_entry (nat_eq k) es in let r = removed n k f es h a.1 in
      (length_last (k, w) rest ∙ (r.2 ∙ a.0), all_below_last n k w rest r.0 r.1)
