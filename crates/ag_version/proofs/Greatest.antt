-- The greatest version of a list, one version at a time.
use Rattle.std.proofs.Common.{◌≡◌, ℕ, ◌+◌, ◌<◌, Bool, true, false, ◌||◌, cond, List, [], ◌∷◌, ◌++◌, length, get_or, take, refl, sym, ap, ◌∙◌, inl, inr, Option, option_to_list}
use Rattle.std.specs.List.{list_any, list_all, filter}
use Rattle.std.proofs.lemmas.Bool.{cases_Bool, or_parts, or_from, or_left, or_right, and_from, and_parts}
use Rattle.std.proofs.lemmas.List.Folds.{list_any-append}
use Rattle.std.proofs.lemmas.List.Elements.{filter_more}
use Rattle.std.proofs.lemmas.List.{append-nil}
use Rattle.ag_model.specs.declared.value.Version.{Version}
use Rattle.ag_model.specs.Page.{is_before, greatest}
use Rattle.ag_version.proofs.Following.{is_before-through}

-- a version that all others come before
greatest-after_all : (vs : List Version) (x : Version) → list_all (λ v. is_before v x) vs ≡ true → greatest (vs ++ x ∷ []) ≡ x ∷ []
greatest-after_all [] x h = refl
greatest-after_all (v ∷ vs) x h =
    let p = and_parts (is_before v x) (list_all (λ w. is_before w x) vs) h in
    let some : list_any (is_before v) (vs ++ x ∷ []) ≡ true = list_any-append (is_before v) vs (x ∷ []) ∙ or_right (list_any (is_before v) vs) (is_before v x || false) (or_left (is_before v x) false p.0) in
    rw some (greatest-after_all vs x p.1)

-- what comes before none of a list, and before x: then all of the list come before x
all_before : (v x : Version) (vs : List Version) → list_any (is_before v) vs ≡ false → is_before v x ≡ true → list_all (λ w. is_before w x) vs ≡ true
all_before v x [] h e = refl
all_before v x (w ∷ ws) h e =
    let p = or_parts (is_before v w) (list_any (is_before v) ws) h in
    and_from (is_before w x) (list_all (λ u. is_before u x) ws) (is_before-through v w x p.0 e) (all_before v x ws p.1 e)

-- one version more
pub greatest_push : (vs : List Version) (x : Version) → greatest (vs ++ x ∷ []) ≡ greatest (greatest vs ++ x ∷ [])
greatest_push [] x = refl
greatest_push (v ∷ vs) x =
    let split : list_any (is_before v) (vs ++ x ∷ []) ≡ (list_any (is_before v) vs || (is_before v x || false)) = list_any-append (is_before v) vs (x ∷ []) in
    elim (cases_Bool (list_any (is_before v) vs)) [
      | inl later ↦
          let some : list_any (is_before v) (vs ++ x ∷ []) ≡ true = split ∙ or_left (list_any (is_before v) vs) (is_before v x || false) later in
          (rw (some, later) (greatest_push vs x))
      | inr last ↦ elim (cases_Bool (is_before v x)) [
        | inl before ↦
            let some : list_any (is_before v) (vs ++ x ∷ []) ≡ true = split ∙ or_right (list_any (is_before v) vs) (is_before v x || false) (or_left (is_before v x) false before) in
            (rw (some, last, before) (greatest-after_all vs x (all_before v x vs last before)))
        | inr after ↦
            let none : list_any (is_before v) (vs ++ x ∷ []) ≡ false = split ∙ or_from (list_any (is_before v) vs) (is_before v x || false) last (or_from (is_before v x) false after refl) in
            (rw (none, last, after) refl)
      ]
    ]

-- a version that passes, and one that doesn't
pub greatest_more : (p : Version → Bool) (xs : List Version) (i : ℕ) (d : Version) (best new : Option Version) → i < length xs → p (get_or xs i d) ≡ true → option_to_list best ≡ greatest (filter p (take i xs))
    → option_to_list new ≡ greatest (option_to_list best ++ get_or xs i d ∷ []) → option_to_list new ≡ greatest (filter p (take (i + 1) xs))
greatest_more p xs i d best new lt passes e is =
    let more : filter p (take (i + 1) xs) ≡ filter p (take i xs) ++ get_or xs i d ∷ [] = filter_more p xs i d lt ∙ ap (λ (t : Bool). filter p (take i xs) ++ cond t (get_or xs i d ∷ []) []) passes in
    is ∙ ap (λ (z : List Version). greatest (z ++ get_or xs i d ∷ [])) e ∙ sym (greatest_push (filter p (take i xs)) (get_or xs i d)) ∙ ap greatest (sym more)

pub greatest_same : (p : Version → Bool) (xs : List Version) (i : ℕ) (d : Version) (best : Option Version) → i < length xs → p (get_or xs i d) ≡ false → option_to_list best ≡ greatest (filter p (take i xs)) → option_to_list best ≡ greatest (filter p (take (i + 1) xs))
greatest_same p xs i d best lt fails e =
    let more : filter p (take (i + 1) xs) ≡ filter p (take i xs) = filter_more p xs i d lt ∙ ap (λ (t : Bool). filter p (take i xs) ++ cond t (get_or xs i d ∷ []) []) fails ∙ append-nil (filter p (take i xs)) in
    e ∙ ap greatest (sym more)
