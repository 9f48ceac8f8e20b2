-- A suffix that is read is spelled, and one that is spelled is read.
use Rattle.std.proofs.Common.{◌≡◌, ℕ, ◌-◌, ◌^◌, List, [], ◌∷◌, cond, Option, Some, None, refl, sym, subst, ◌∙◌, inl, inr}
use Rattle.std.specs.Prelude.{codes}
use Rattle.std.specs.Str.{bytes_eq}
use Rattle.ag_lists.proofs.Results.{some_is}
use Rattle.ag_model.specs.declared.event.Suffix.{Suffix}
use Rattle.ag_model.specs.declared.event.Suffix.TheVariants.{Whole, Stop, Fail}
use Rattle.ag_script.specs.Words.{SpellsAll, suffix_words}
use Rattle.ag_script.specs.Hex.{◌>>=◌}
use Rattle.ag_script.specs.ReadWord.{number_at, mask_at}
use Rattle.ag_script.specs.ReadWords.{word_by, suffix_at, stop_at, fail_at, ended}
use Rattle.ag_script.proofs.WordLemmas.{cases_option, pick, is_text, number_takes, number_again, mask_takes, mask_again}

pub word_takes : {A B : Type 0} (f : List ℕ → Option A) (texts : List (List ℕ)) (k : A × List (List ℕ) → Option B) (y : B) → (word_by f texts >>= k) ≡ Some y → (text : List ℕ) × (rest : List (List ℕ)) × (x : A) × (texts ≡ text ∷ rest) × (f text ≡ Some x) × (k (x, rest) ≡ Some y)
word_takes f [] k y h = absurd cc
word_takes f (text ∷ rest) k y h =
    elim (cases_option (f text)) [
      | inl n ↦ absurd (let g : None ≡ Some y = sym (let i : (word_by f (text ∷ rest) >>= k) ≡ None = rw n refl in i) ∙ h in cc)
      | inr x ↦ (text, rest, x.0, refl, x.1, sym (let i : (word_by f (text ∷ rest) >>= k) ≡ k (x.0, rest) = rw x.1 refl in i) ∙ h)
    ]

ended_takes : (s r : Suffix) (texts : List (List ℕ)) → ended s texts ≡ Some r → (texts ≡ []) × (s ≡ r)
ended_takes s r [] e = (refl, cc)
ended_takes s r (text ∷ texts) e = absurd cc

stop_takes : (texts : List (List ℕ)) (s : Suffix) → stop_at texts ≡ Some s → SpellsAll (suffix_words s) (codes "stop" ∷ texts)
stop_takes texts s e =
    let a = word_takes (number_at 1 (2 ^ 32 - 1)) texts (λ w. word_by mask_at w.1 >>= λ mask. ended (Stop w.0 mask.0) mask.1) s e in
    let b = word_takes mask_at a.1 (λ mask. ended (Stop a.2 mask.0) mask.1) s a.5 in
    let d = ended_takes (Stop a.2 b.2) s b.1 b.5 in
    subst (λ (r : Suffix). SpellsAll (suffix_words r) (codes "stop" ∷ texts)) d.1 (rw (a.3, b.3, d.0) (refl, (number_takes 1 (2 ^ 32 - 1) a.0 a.2 a.4, (mask_takes b.0 b.2 b.4, tt))))

fail_takes : (texts : List (List ℕ)) (s : Suffix) → fail_at texts ≡ Some s → SpellsAll (suffix_words s) (codes "fail" ∷ texts)
fail_takes texts s e =
    let a = word_takes (number_at 1 (2 ^ 32 - 1)) texts (λ w. ended (Fail w.0) w.1) s e in
    let d = ended_takes (Fail a.2) s a.1 a.5 in
    subst (λ (r : Suffix). SpellsAll (suffix_words r) (codes "fail" ∷ texts)) d.1 (rw (a.3, d.0) (refl, (number_takes 1 (2 ^ 32 - 1) a.0 a.2 a.4, tt)))

pub suffix_takes : (texts : List (List ℕ)) (s : Suffix) → suffix_at texts ≡ Some s → SpellsAll (suffix_words s) texts
unfolding suffix_at
suffix_takes [] s e = subst (λ (r : Suffix). SpellsAll (suffix_words r) []) (some_is Whole s e) tt
suffix_takes (text ∷ texts) s e =
    elim (pick (bytes_eq text (codes "stop")) (stop_at texts) (cond (bytes_eq text (codes "fail")) (fail_at texts) None) (Some s) e) [
      | inl p ↦ rw (is_text text (codes "stop") p.0) (stop_takes texts s p.1)
      | inr q ↦ elim (pick (bytes_eq text (codes "fail")) (fail_at texts) None (Some s) q) [
        | inl p ↦ rw (is_text text (codes "fail") p.0) (fail_takes texts s p.1)
        | inr r ↦ absurd cc
      ]
    ]

pub suffix_again : (texts : List (List ℕ)) (s : Suffix) → SpellsAll (suffix_words s) texts → suffix_at texts ≡ Some s
unfolding suffix_at
suffix_again [] Whole h = refl
suffix_again (text ∷ texts) Whole h = absurd h
suffix_again [] (Stop w m) h = absurd h
suffix_again (a ∷ []) (Stop w m) h = absurd h.1
suffix_again (a ∷ b ∷ []) (Stop w m) h = absurd h.1.1
suffix_again (a ∷ b ∷ d ∷ x ∷ xs) (Stop w m) h = absurd h.1.1.1
suffix_again (a ∷ b ∷ d ∷ []) (Stop w m) h = rw h.0 (rw (number_again 1 (2 ^ 32 - 1) b w h.1.0, mask_again d m h.1.1.0) refl)
suffix_again [] (Fail n) h = absurd h
suffix_again (a ∷ []) (Fail n) h = absurd h.1
suffix_again (a ∷ b ∷ d ∷ xs) (Fail n) h = absurd h.1.1
suffix_again (a ∷ b ∷ []) (Fail n) h = rw h.0 (rw (number_again 1 (2 ^ 32 - 1) b n h.1.0) refl)
