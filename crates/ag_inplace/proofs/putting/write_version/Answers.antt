use Rattle.std.proofs.Common.{◌≡◌, ◌∙◌, ◌+◌, ap, sym, subst, length, take, arith, ℕ}
use Rattle.ag_page.specs.Image.{image_bytes}
use Rattle.ag_page.specs.Spelling.{IsWhole}
use Rattle.ag_page.proofs.Writes.{put_written, del_written}
use Rattle.ag_inplace.proofs.putting.write_version.Goals as goal

pub returns-in-Put-clause-change : goal.returns-in-Put-clause-change
returns-in-Put-clause-change c = subst IsWhole (sym c.in-Put.is) c.text.ensures.whole

pub returns-in-Put-clause-bytes : goal.returns-in-Put-clause-bytes
returns-in-Put-clause-bytes c =
    let v = c.in-Put.value in
    let first = c.version_header.result in
    let thirty : length first ≡ 30 = ap length c.version_header.ensures in
    let room = c.requires.room in
    let whole = c.requires.whole in
    let size : length c.text.result.now ≡ v.len = c.text.ensures.len ∙ c.from-in-Put.ensures in
    let mid : c.args.at + 30 ≡ c.args.at + length first = ap (λ (n : ℕ). c.args.at + n) (sym thirty) in
    put_written c.args.w.now v c.args.at (c.args.at + 30) c.from.result first c.text.result.now (image_bytes c.args.i.now) (image_bytes c.write_part.new.i) (image_bytes c.write_part-in-Put.new.i) c.in-Put.is c.from.ensures
    (c.text.ensures.text ∙ ap (λ (n : ℕ). take n v.bytes) c.from-in-Put.ensures) size c.version_header.ensures thirty (omega (arith, whole, room)) mid c.write_part.ensures.bytes c.write_part-in-Put.ensures.bytes

pub returns-in-Del-clause-bytes : goal.returns-in-Del-clause-bytes
returns-in-Del-clause-bytes c =
    let first = c.version_header-in-Del.result in
    let thirty : length first ≡ 30 = ap length c.version_header-in-Del.ensures in
    del_written c.args.w.now c.args.at first (image_bytes c.args.i.now) (image_bytes c.write_part-in-Del.new.i) c.in-Del.is c.version_header-in-Del.ensures thirty c.write_part-in-Del.ensures.bytes
