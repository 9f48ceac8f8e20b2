use Rattle.std.proofs.Common.{◌≡◌, refl, sym, ap, ◌∙◌, subst}
use Rattle.std.proofs.lemmas.List.{map-append}
use Rattle.ag_frame.specs.Frames.{shown, all_shown, IsNumbered}
use Rattle.ag_frame.proofs.Entries.{last_is, lent, numbered_first}
use Rattle.ag_frame.proofs.frames.Frames.admit.Goals as goal

pub unreachable-requires : goal.unreachable-requires
unreachable-requires g c =
    let es = c.self.inside.cache.entries in let k = c.last_number-number.result in let at = last_is es k c.last_number-number.ensures.distinct c.last_number-number.ensures.value in
    let missed = c.in-None.ensures.value in let found = at.4 in cc

pub invariant_of-self : goal.invariant_of-self
invariant_of-self g c =
    let es = c.self.inside.cache.entries in let k = c.last_number-number.result in let at = last_is es k c.last_number-number.ensures.distinct c.last_number-number.ensures.value in
    let n = c.self.inside.cache.cap in
    (c.self.invariant.0, subst (IsNumbered n) (sym (lent k _ c.replace.new.dest es at.3)) (numbered_first n k at.1 c.replace.new.dest es at.3 c.self.invariant.1))

pub returns-clause-first : goal.returns-clause-first
returns-clause-first g c =
    let es = c.self.inside.cache.entries in let k = c.last_number-number.result in let at = last_is es k c.last_number-number.ensures.distinct c.last_number-number.ensures.value in
    rw (lent k _ c.replace.new.dest es at.3, c.replace.ensures.after) refl

pub returns-clause-last : goal.returns-clause-last
returns-clause-last g c =
    let es = c.self.inside.cache.entries in let k = c.last_number-number.result in let at = last_is es k c.last_number-number.ensures.distinct c.last_number-number.ensures.value in
    let value = c.in-Some.ensures.value in let found = at.4 in let same : c.in-Some.last.now ≡ at.1 = cc in
    let content = c.content.ensures ∙ ap shown (c.replace.ensures.value ∙ same) in
    rw (← c.self.view_is, lent k _ c.replace.new.dest es at.3, content, at.5) (ap all_shown at.2 ∙ map-append (λ e. shown e.1) at.0 _)
