use Rattle.std.proofs.Common.{◌∙◌, ◌≤◌, refl, arith}
use Rattle.ag_page.specs.Image.{image_bytes}
use Rattle.ag_inplace.proofs.Fields.{fields, size-is, put-small}
use Rattle.ag_inplace.proofs.entries.size_in.Goals as goal

pub overflow_add-result : goal.overflow_add-result
overflow_add-result c =
    let w = c.requires.0 in
    let h = c.requires.1 in
    let small = put-small w.change c.u16_in-len.result h.spelled (c.u16_in-len.ensures ∙ (fields (image_bytes c.args.i.now) c.args.at w h).len) c.if-len.false in
    let most : c.u16_in-len.result ≤ 64 = small.0 in
    omega arith

pub returns-then-len : goal.returns-then-len
returns-then-len c = λ w h. size-is w.change c.u16_in-len.result 30 h.spelled (c.u16_in-len.ensures ∙ (fields (image_bytes c.args.i.now) c.args.at w h).len) (λ e. refl) (λ no. absurd (no c.if-len.true))

pub returns-else-len : goal.returns-else-len
returns-else-len c = λ w h. size-is w.change c.u16_in-len.result _ h.spelled (c.u16_in-len.ensures ∙ (fields (image_bytes c.args.i.now) c.args.at w h).len) (λ e. absurd (c.if-len.false e)) (λ no. refl)
