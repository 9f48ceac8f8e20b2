use Rattle.std.proofs.Common.{◌∙◌, ◌≡◌, ◌≤◌, ◌+◌, ap, arith, ℕ, take, drop}
use Rattle.ag_page.specs.Reading.{value_of}
use Rattle.ag_model.specs.Sizes.{change_size}
use Rattle.ag_page.specs.Image.{image_bytes}
use Rattle.ag_inplace.proofs.Fields.{fields, del-is, change-is, put-small}
use Rattle.ag_inplace.proofs.entries.change_in.Goals as goal

pub returns-then-len : goal.returns-then-len
returns-then-len c = λ w h. del-is w.change c.u16_in-len.result h.spelled (c.u16_in-len.ensures ∙ (fields (image_bytes c.args.i.now) c.args.at w h).len) c.if-len.true

pub value_in-requires-clause-room : goal.value_in-requires-clause-room
value_in-requires-clause-room c =
    let w = c.requires.0 in
    let h = c.requires.1 in
    let small = put-small w.change c.u16_in-len.result h.spelled (c.u16_in-len.ensures ∙ (fields (image_bytes c.args.i.now) c.args.at w h).len) c.if-len.false in
    let size : 30 + c.u16_in-len.result ≡ change_size w.change = small.1 in
    let room : c.args.at + change_size w.change ≤ 8176 = h.room in
    omega (arith, c.from.ensures)

pub value_in-requires-clause-short : goal.value_in-requires-clause-short
value_in-requires-clause-short c =
    let w = c.requires.0 in
    let h = c.requires.1 in
    let small = put-small w.change c.u16_in-len.result h.spelled (c.u16_in-len.ensures ∙ (fields (image_bytes c.args.i.now) c.args.at w h).len) c.if-len.false in
    let most : c.u16_in-len.result ≤ 64 = small.0 in
    omega (arith, c.from.ensures)

pub returns : goal.returns
returns c = λ w h.
    let f = fields (image_bytes c.args.i.now) c.args.at w h in
    change-is w.change c.u16_in-len.result _ _ c.value_in.result h.spelled h.range.change (c.u16_in-len.ensures ∙ f.len) c.if-len.false f.text (c.value_in.ensures ∙ ap (λ (n : ℕ). value_of (take n (drop (c.args.at + 30) (image_bytes c.args.i.now)))) c.from.ensures)
