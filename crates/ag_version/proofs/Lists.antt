-- Lists that are filtered, mapped and searched under a premise on their elements.
use Rattle.std.proofs.Common.{◌≡◌, ℕ, suc, ◌+◌, Bool, true, false, cond, ◌||◌, List, [], ◌∷◌, ◌++◌, length, map, refl, sym, ap, ◌∙◌, inl, inr, arith}
use Rattle.std.specs.List.{AllByRecursion, filter, flat_map, list_any, enumerate_from}
use Rattle.std.proofs.lemmas.Bool.{cases_Bool}
use Rattle.std.proofs.lemmas.List.{map-append}
use Rattle.std.proofs.lemmas.List.Elements.{filter-append}
use Rattle.ag_lists.proofs.Each.{all_append}

pub flat_map-agree : {X Y : Type 0} (f g : X → List Y) → ((x : X) → f x ≡ g x) → (xs : List X) → flat_map f xs ≡ flat_map g xs
flat_map-agree f g e [] = refl
flat_map-agree f g e (x ∷ xs) = let h = e x in let t = flat_map-agree f g e xs in cc

pub flat_map-of_map : {X Y : Type 0} (f : Y → Y) (g : X → List Y) (xs : List X) → flat_map (λ x. map f (g x)) xs ≡ map f (flat_map g xs)
flat_map-of_map f g [] = refl
flat_map-of_map f g (x ∷ xs) = ap (λ z. map f (g x) ++ z) (flat_map-of_map f g xs) ∙ sym (map-append f (g x) (flat_map g xs))

pub flat_map-of_filter : {X Y : Type 0} (p : Y → Bool) (g : X → List Y) (xs : List X) → flat_map (λ x. filter p (g x)) xs ≡ filter p (flat_map g xs)
flat_map-of_filter p g [] = refl
flat_map-of_filter p g (x ∷ xs) = ap (λ z. filter p (g x) ++ z) (flat_map-of_filter p g xs) ∙ sym (filter-append p (g x) (flat_map g xs))

pub filter-agree : {X : Type 0} (p q : X → Bool) (xs : List X) → AllByRecursion (λ x. p x ≡ q x) xs → filter p xs ≡ filter q xs
filter-agree p q [] h = refl
filter-agree p q (x ∷ xs) h =
    let ih = filter-agree p q xs h.1 in
    ap (λ (t : Bool). cond t (x ∷ filter p xs) (filter p xs)) h.0 ∙ ap (λ z. cond (q x) (x ∷ z) z) ih

pub filter-map_agree : {X : Type 0} (p q : X → Bool) (f : X → X) (xs : List X) → AllByRecursion (λ x. q (f x) ≡ p x) xs → filter q (map f xs) ≡ map f (filter p xs)
filter-map_agree p q f [] h = refl
filter-map_agree p q f (x ∷ xs) h =
    let ih = filter-map_agree p q f xs h.1 in
    elim (cases_Bool (p x)) [
      | inl t ↦ (let s : q (f x) ≡ true = h.0 ∙ t in rw (s, t) (ap (λ z. f x ∷ z) ih))
      | inr t ↦ (let s : q (f x) ≡ false = h.0 ∙ t in rw (s, t) ih)
    ]

pub filter-comm : {X : Type 0} (p q : X → Bool) (xs : List X) → filter p (filter q xs) ≡ filter q (filter p xs)
filter-comm p q [] = refl
filter-comm p q (x ∷ xs) =
    let ih = filter-comm p q xs in
    elim (cases_Bool (p x)) [
      | inl a ↦ elim (cases_Bool (q x)) [
        | inl b ↦ rw (b, a, b) (ap (λ z. x ∷ z) ih)
        | inr b ↦ rw (b, a, b) ih
      ]
      | inr a ↦ elim (cases_Bool (q x)) [
        | inl b ↦ rw (b, a) ih
        | inr b ↦ rw (b, a) ih
      ]
    ]

pub any-agree : {X : Type 0} (p q : X → Bool) (xs : List X) → AllByRecursion (λ x. p x ≡ q x) xs → list_any p xs ≡ list_any q xs
any-agree p q [] h = refl
any-agree p q (x ∷ xs) h = let ih = any-agree p q xs h.1 in let here = h.0 in cc

pub any-map_agree : {X : Type 0} (p q : X → Bool) (f : X → X) (xs : List X) → AllByRecursion (λ x. q (f x) ≡ p x) xs → list_any q (map f xs) ≡ list_any p xs
any-map_agree p q f [] h = refl
any-map_agree p q f (x ∷ xs) h = let ih = any-map_agree p q f xs h.1 in let here = h.0 in cc

pub any-filter_agree : {X : Type 0} (p keep : X → Bool) (xs : List X) → AllByRecursion (λ x. keep x ≡ false → p x ≡ false) xs → list_any p (filter keep xs) ≡ list_any p xs
any-filter_agree p keep [] h = refl
any-filter_agree p keep (x ∷ xs) h =
    let ih = any-filter_agree p keep xs h.1 in
    elim (cases_Bool (keep x)) [
      | inl t ↦ rw t (ap (λ (s : Bool). p x || s) ih)
      | inr t ↦ (let s : p x ≡ false = h.0 t in rw (t, s) ih)
    ]

pub any-never : {X : Type 0} (p : X → Bool) → ((x : X) → p x ≡ false) → (xs : List X) → list_any p xs ≡ false
any-never p e [] = refl
any-never p e (x ∷ xs) = let h = e x in rw h (any-never p e xs)

pub enumerate_push : {X : Type 0} (k : ℕ) (xs : List X) (x : X) → enumerate_from k (xs ++ x ∷ []) ≡ enumerate_from k xs ++ (k + length xs, x) ∷ []
enumerate_push k [] x = let e : k ≡ k + 0 = omega arith in ap (λ (n : ℕ). (n, x) ∷ []) e
enumerate_push k (y ∷ xs) x =
    let ih = enumerate_push (k + 1) xs x in
    let e : k + 1 + length xs ≡ k + suc (length xs) = omega arith in
    ap (λ z. (k, y) ∷ z) (ih ∙ ap (λ (n : ℕ). enumerate_from (k + 1) xs ++ (n, x) ∷ []) e)
