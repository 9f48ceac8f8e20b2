use Rattle.std.proofs.Common.{◌≡◌, ◌∷◌, Some, refl, sym, ap, ◌∙◌, subst, inl, nat_eq, IsSome, option_map}
use Rattle.std.specs.Map.{remove_entry}
use Rattle.ag_frame.specs.declared.frame.Frame.TheVariants.{Held}
use Rattle.ag_frame.specs.Frames.{shown, all_shown, with_page, IsNumbered}
use Rattle.ag_frame.proofs.Entries.{is_at, not_there, lent, numbered_first}
use Rattle.ag_frame.proofs.frames.Frames.look.Goals as goal

pub returns-in_err-number : goal.returns-in_err-number
returns-in_err-number g c = rw (c.from_residual.ensures, ← c.self.view_is) (refl, record { writes_back = tt; value = sym (not_there c.args.page c.self.inside.cache.entries (sym c.in_err-number.ensures.value)) })

pub returns-in_err-self-inside : goal.returns-in_err-self-inside
returns-in_err-self-inside g c =
    let es = c.self.inside.cache.entries in let k = c.in_ok-number.number in let at = is_at c.args.page k es c.in_ok-number.ensures.distinct (sym c.in_ok-number.ensures.value) in
    let missed = c.in_err-self-inside.ensures.value in let found = at.2 in cc

pub page_mut-requires : goal.page_mut-requires
page_mut-requires g c =
    let es = c.self.inside.cache.entries in let k = c.in_ok-number.number in let at = is_at c.args.page k es c.in_ok-number.ensures.distinct (sym c.in_ok-number.ensures.value) in
    let value = c.in_ok-self-inside.ensures.value in let found = at.2 in let same : c.in_ok-self-inside.field-0.now ≡ Held c.args.page at.0 = cc in
    subst (λ f. IsSome (shown f)) (sym same) refl

pub invariant_of-self-lent : goal.invariant_of-self-lent
invariant_of-self-lent g c =
    let es = c.self.inside.cache.entries in let k = c.in_ok-number.number in let at = is_at c.args.page k es c.in_ok-number.ensures.distinct (sym c.in_ok-number.ensures.value) in
    let n = c.self.inside.cache.cap in
    λ w. let f = with_page c.in_ok-self-inside.field-0.now w in (c.self.invariant.0, subst (IsNumbered n) (sym (lent k _ f es at.1)) (numbered_first n k (Held c.args.page at.0) f es at.1 c.self.invariant.1))

pub returns : goal.returns
returns g c =
    let es = c.self.inside.cache.entries in let k = c.in_ok-number.number in let at = is_at c.args.page k es c.in_ok-number.ensures.distinct (sym c.in_ok-number.ensures.value) in
    let value = c.in_ok-self-inside.ensures.value in let found = at.2 in let same : c.in_ok-self-inside.field-0.now ≡ Held c.args.page at.0 = cc in
    let written = λ (w : g.row.T.Denot). ap all_shown (lent k _ (with_page c.in_ok-self-inside.field-0.now w) es at.1) ∙ ap (λ f. shown (with_page f w) ∷ all_shown (remove_entry (nat_eq k) es)) same ∙ ap (λ fs. Some (c.args.page, w) ∷ fs) at.4 in
    rw (← c.self.view_is) (
      (λ i. inl (c.page_mut.result.ghost_name, λ w. written w i)),
      record { writes_back = tt; value = c.page_mut.ensures.value ∙ ap (λ f. option_map (λ h. h.1) (shown f)) same ∙ sym at.3 },
    )
