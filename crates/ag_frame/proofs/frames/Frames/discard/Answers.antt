use Rattle.std.proofs.Common.{◌≡◌, ◌++◌, ◌∷◌, [], Some, None, sym, ap, ◌∙◌, nat_eq, option_map}
use Rattle.std.specs.Map.{remove_entry}
use Rattle.std.proofs.lemmas.List.{map-append}
use Rattle.ag_frame.specs.declared.frame.Frame.TheVariants.{Held}
use Rattle.ag_frame.specs.Frames.{shown}
use Rattle.ag_frame.proofs.Entries.{is_at, not_there, set_last, numbered_last}
use Rattle.ag_frame.proofs.frames.Frames.discard.Goals as goal

pub returns-in_err-number-clause-value : goal.returns-in_err-number-clause-value
returns-in_err-number-clause-value g c = rw (c.from_residual.ensures, ← c.self.view_is) (sym (not_there c.args.page c.self.inside.cache.entries (sym c.in_err-number.ensures.value)))

pub returns-in_err-peek_mut-clause-value : goal.returns-in_err-peek_mut-clause-value
returns-in_err-peek_mut-clause-value g c =
    let es = c.self.inside.cache.entries in let k = c.in_ok-number.number in let at = is_at c.args.page k es c.in_ok-number.ensures.distinct (sym c.in_ok-number.ensures.value) in
    let missed = c.in_err-peek_mut.ensures.value in let found = at.2 in cc

pub invariant_of-self-2 : goal.invariant_of-self-2
invariant_of-self-2 g c =
    let es = c.self.inside.cache.entries in let k = c.in_ok-number.number in let at = is_at c.args.page k es c.in_ok-number.ensures.distinct (sym c.in_ok-number.ensures.value) in
    let n = c.self.inside.cache.cap in let f = c.replace-taken.new.dest in
    (rw c.demote.ensures.entries c.self.invariant.0, rw (c.demote.ensures.entries, set_last (nat_eq k) k _ f es at.1) (numbered_last n k (Held c.args.page at.0) f es at.1 c.self.invariant.1))

pub returns-clause-value : goal.returns-clause-value
returns-clause-value g c =
    let es = c.self.inside.cache.entries in let k = c.in_ok-number.number in let at = is_at c.args.page k es c.in_ok-number.ensures.distinct (sym c.in_ok-number.ensures.value) in
    let value = c.in_ok-peek_mut.ensures.value in let found = at.2 in let same : c.in_ok-peek_mut.field-0.now ≡ Held c.args.page at.0 = cc in
    rw (← c.self.view_is) (c.page.ensures ∙ ap (λ f. option_map (λ h. h.1) (shown f)) (c.replace-taken.ensures.value ∙ same) ∙ sym at.3)

pub returns-clause-frames : goal.returns-clause-frames
returns-clause-frames g c =
    let es = c.self.inside.cache.entries in let k = c.in_ok-number.number in let at = is_at c.args.page k es c.in_ok-number.ensures.distinct (sym c.in_ok-number.ensures.value) in
    let value = c.in_ok-peek_mut.ensures.value in let found = at.2 in let same : c.in_ok-peek_mut.field-0.now ≡ Held c.args.page at.0 = cc in
    let taken : c.page.result ≡ Some at.0 = c.page.ensures ∙ ap (λ f. option_map (λ h. h.1) (shown f)) (c.replace-taken.ensures.value ∙ same) in
    rw (← c.self.view_is, taken, c.demote.ensures.entries, set_last (nat_eq k) k _ c.replace-taken.new.dest es at.1, c.replace-taken.ensures.after)
    (map-append (λ e. shown e.1) (remove_entry (nat_eq k) es) _ ∙ ap (λ fs. fs ++ None ∷ []) at.4)
