-- The loop that removes what is followed.
use Rattle.std.proofs.Common.{◌≡◌, ℕ, suc, ◌+◌, ◌<◌, ◌≤◌, Bool, true, false, not, ◌&&◌, ◌||◌, eqb, leb, List, [], ◌∷◌, ◌++◌, length, get_or, take, drop, refl, sym, ap, subst, ◌∙◌, inl, inr, arith, append_assoc, drop-cons, add-one, take_all, length-take, length-append}
use Rattle.std.specs.List.{filter, remove}
use Rattle.std.proofs.lemmas.Bool.{or_cases, or_left, or_right, and_from, and_left, and_right, cases_Bool, not_from_true, eqb-true}
use Rattle.std.proofs.lemmas.List.{take-append-drop, append-nil, drop_all, take_at, drop_at, take_more}
use Rattle.std.proofs.lemmas.List.Folds.{list_any-append}
use Rattle.ag_model.specs.declared.value.Version.{Version}
use Rattle.ag_model.specs.Page.{is_committed_at, is_del, is_trimmed_at}
use Rattle.ag_version.specs.Edits.{left_by_trim}
use Rattle.ag_version.specs.Trimming.{follows, is_followed}
use Rattle.ag_version.proofs.Following.{is_followed-trans, follows-irrefl, follows-from_open, is_followed-none}

-- the versions that nothing follows
abbrev pub unfollowed : ℕ → List Version → List Version → List Version
unfollowed h all vs = filter (λ v. not (is_followed h all v)) vs

-- so far what is followed was removed, up to the place i; what is left tells of the same versions that they are followed
pub record Removes (h : ℕ) (old now : List Version) (i : ℕ) : Type 0 where
  pub within : i ≤ length now
  pub tells : (v : Version) → is_followed h now v ≡ is_followed h old v
  pub done : unfollowed h old old ≡ take i now ++ unfollowed h old (drop i now)

pub removes_none : (h : ℕ) (old : List Version) → Removes h old old 0
removes_none h old = record { within = omega arith; tells = λ v. refl; done = refl }

pub removes_all : (h : ℕ) (old now : List Version) (i : ℕ) → length now ≤ i → Removes h old now i → now ≡ unfollowed h old old
removes_all h old now i le r =
    let e = drop_all i now le in
    sym (r.done ∙ ap (λ (z : List Version). take i now ++ unfollowed h old z) e ∙ append-nil (take i now) ∙ take_all i now le)

at_place : (now : List Version) (i : ℕ) (x : Version) → i < length now → x ≡ get_or now i x → drop i now ≡ x ∷ drop (i + 1) now
at_place now i x lt is = drop-cons now i x lt ∙ ap (λ (z : Version). z ∷ drop (suc i) now) (sym is) ∙ ap (λ (n : ℕ). x ∷ drop n now) (sym (add-one i))

unfollowed-keep : (h : ℕ) (old : List Version) (x : Version) (xs : List Version) → is_followed h old x ≡ false → unfollowed h old (x ∷ xs) ≡ x ∷ unfollowed h old xs
unfollowed-keep h old x xs e = rw e refl

unfollowed-drop : (h : ℕ) (old : List Version) (x : Version) (xs : List Version) → is_followed h old x ≡ true → unfollowed h old (x ∷ xs) ≡ unfollowed h old xs
unfollowed-drop h old x xs e = rw e refl

-- the version at i stays
pub removes_stay : (h : ℕ) (old now : List Version) (i : ℕ) (x : Version) → i < length now → x ≡ get_or now i x → is_followed h now x ≡ false → Removes h old now i → Removes h old now (i + 1)
removes_stay h old now i x lt is out r =
    let place = at_place now i x lt is in
    let free : is_followed h old x ≡ false = sym (r.tells x) ∙ out in
    let more : take (i + 1) now ≡ take i now ++ x ∷ [] = take_more now i x lt ∙ ap (λ (z : Version). take i now ++ z ∷ []) (sym is) in
    record {
      within = omega arith;
      tells = r.tells;
      done = r.done ∙ ap (λ (z : List Version). take i now ++ unfollowed h old z) place ∙ ap (λ (z : List Version). take i now ++ z) (unfollowed-keep h old x (drop (i + 1) now) free) ∙ sym (append_assoc (take i now) (x ∷ []) (unfollowed h old (drop (i + 1) now))) ∙ ap (λ (z : List Version). z ++ unfollowed h old (drop (i + 1) now)) (sym more);
    }

-- what is left tells the same without a version that is followed
tells_without : (h : ℕ) (a : List Version) (x : Version) (b : List Version) → is_followed h (a ++ x ∷ b) x ≡ true → (v : Version) → is_followed h (a ++ b) v ≡ is_followed h (a ++ x ∷ b) v
tells_without h a x b hit v =
    let whole = list_any-append (follows h v) a (x ∷ b) in
    let part = list_any-append (follows h v) a b in
    elim (cases_Bool (follows h v x)) [
      | inr out ↦ part ∙ ap (λ (t : Bool). is_followed h a v || t) (sym (ap (λ (t : Bool). t || is_followed h b v) out)) ∙ sym whole
      | inl at ↦
          let split = list_any-append (follows h x) a (x ∷ b) in
          let some : is_followed h a v || is_followed h b v ≡ true =
          elim (or_cases (is_followed h a x) (follows h x x || is_followed h b x) (sym split ∙ hit)) [
            | inl left ↦ or_left (is_followed h a v) (is_followed h b v) (is_followed-trans h h v x a at left)
            | inr rest ↦ elim (or_cases (follows h x x) (is_followed h b x) rest) [
              | inl self ↦ absurd (follows-irrefl h x self)
              | inr right ↦ or_right (is_followed h a v) (is_followed h b v) (is_followed-trans h h v x b at right)
            ]
          ] in
          part ∙ some ∙ sym (whole ∙ or_right (is_followed h a v) (follows h v x || is_followed h b v) (or_left (follows h v x) (is_followed h b v) at))
    ]

-- the version at i goes
pub removes_go : (h : ℕ) (old now new : List Version) (i : ℕ) (x : Version) → i < length now → x ≡ get_or now i x → is_followed h now x ≡ true → new ≡ remove now i → Removes h old now i → Removes h old new i
removes_go h old now new i x lt is hit e r =
    let place = at_place now i x lt is in
    let b = drop (i + 1) now in
    let whole : now ≡ take i now ++ x ∷ b = sym (take-append-drop i now) ∙ ap (λ (z : List Version). take i now ++ z) place in
    let rest : new ≡ take i now ++ b = e ∙ ap (λ (n : ℕ). take i now ++ drop n now) (sym (add-one i)) in
    let len : length (take i now) ≡ i = omega (arith, length-take i now) in
    let gone : is_followed h old x ≡ true = sym (r.tells x) ∙ hit in
    let front : take i new ≡ take i now = ap (take i) rest ∙ take_at (take i now) b i len in
    let back : drop i new ≡ b = ap (drop i) rest ∙ drop_at (take i now) b i len in
    record {
      within = omega (arith, ap length rest, length-append (take i now) b, len);
      tells = λ v. ap (λ (z : List Version). is_followed h z v) rest ∙ tells_without h (take i now) x b (subst (λ (z : List Version). is_followed h z x ≡ true) whole hit) v ∙ ap (λ (z : List Version). is_followed h z v) (sym whole) ∙ r.tells v;
      done = r.done ∙ ap (λ (z : List Version). take i now ++ unfollowed h old z) place ∙ ap (λ (z : List Version). take i now ++ z) (unfollowed-drop h old x b gone) ∙ ap (λ (z : List Version). z ++ unfollowed h old b) (sym front) ∙ ap (λ (z : List Version). take i new ++ unfollowed h old z) (sym back);
    }

-- two filters, one after the other
pub filter_both : (p q r : Version → Bool) → ((x : Version) → r x ≡ (p x && q x)) → (xs : List Version) → filter q (filter p xs) ≡ filter r xs
filter_both p q r e [] = refl
filter_both p q r e (x ∷ xs) =
    let ih = filter_both p q r e xs in
    elim (cases_Bool (p x)) [
      | inl a ↦ elim (cases_Bool (q x)) [
        | inl b ↦ (let t : r x ≡ true = e x ∙ and_from (p x) (q x) a b in rw (a, t, b) (ap (λ (z : List Version). x ∷ z) ih))
        | inr b ↦ (let t : r x ≡ false = e x ∙ and_right (p x) (q x) b in rw (a, t, b) ih)
      ]
      | inr a ↦ (let t : r x ≡ false = e x ∙ and_left (p x) (q x) a in rw (a, t) ih)
    ]

-- the two reasons for which a Trim leaves a version out
trim_parts : (none F D C : Bool) → (none ≡ true → F ≡ false) → (none ≡ true → C ≡ false) → not (not none && (F || (D && C))) ≡ (not F && not (D && C))
trim_parts true F D C f c = rw (f refl, c refl) (elim (cases_Bool D) [ inl d ↦ rw d refl | inr d ↦ rw d refl ])
trim_parts false F D C f c = elim (cases_Bool F) [ inl t ↦ rw t refl | inr t ↦ rw t refl ]

pub left-is : (h : ℕ) (all : List Version) → filter (λ v. not (is_del v.change && is_committed_at h v)) (unfollowed h all all) ≡ left_by_trim h all
left-is h all =
    filter_both (λ v. not (is_followed h all v)) (λ v. not (is_del v.change && is_committed_at h v)) (λ v. not (is_trimmed_at all v h))
    (λ v. trim_parts (eqb v.commit 0) (is_followed h all v) (is_del v.change) (is_committed_at h v) (λ e. is_followed-none h v all (λ w. follows-from_open h v w (eqb-true v.commit 0 e))) (λ e. and_left (not (eqb v.commit 0)) (leb v.commit h) (not_from_true (eqb v.commit 0) e)))
    all
