use Rattle.std.proofs.Common.{◌≡◌, ◌∙◌, ap, length, List, ℕ, arith}
use Rattle.std.specs.Int.{w16, w64}
use Rattle.ag_model.proofs.Numbers.{length-to_be_bytes}
use Rattle.ag_page.specs.Image.{image_bytes}
use Rattle.ag_inplace.proofs.Splices.{spliced, length-spliced}
use Rattle.ag_inplace.proofs.Headers.{head-set}
use Rattle.ag_inplace.proofs.header.set_header.Goals as goal

pub write_part-requires-3-clause-whole : goal.write_part-requires-3-clause-whole
write_part-requires-3-clause-whole c =
    let old = image_bytes c.args.i.now in
    let one = image_bytes c.write_part.new.i in
    let a : length c.to_be_bytes.result ≡ 2 = ap length c.to_be_bytes.ensures ∙ length-to_be_bytes w16 c.args.count in
    let b : length c.to_be_bytes-2.result ≡ 8 = ap length c.to_be_bytes-2.ensures ∙ length-to_be_bytes w64 c.args.lsn in
    let first : length one ≡ 8176 = ap length c.write_part.ensures.bytes ∙ length-spliced 2 c.to_be_bytes.result old (omega (arith, c.requires)) ∙ c.requires in
    ap length c.write_part-2.ensures.bytes ∙ length-spliced 4 c.to_be_bytes-2.result one (omega (arith, first)) ∙ first

pub returns-clause-bytes : goal.returns-clause-bytes
returns-clause-bytes c = λ v w rest is page n l h.
    head-set v w c.args.count c.args.lsn c.args.horizon rest (image_bytes c.args.i.now) (image_bytes c.write_part.new.i) (image_bytes c.write_part-2.new.i) (image_bytes c.write_part-3.new.i) is page n l h
    (c.write_part.ensures.bytes ∙ ap (λ (z : List ℕ). spliced 2 z (image_bytes c.args.i.now)) c.to_be_bytes.ensures)
    (c.write_part-2.ensures.bytes ∙ ap (λ (z : List ℕ). spliced 4 z (image_bytes c.write_part.new.i)) c.to_be_bytes-2.ensures)
    (c.write_part-3.ensures.bytes ∙ ap (λ (z : List ℕ). spliced 12 z (image_bytes c.write_part-2.new.i)) c.to_be_bytes-3.ensures)
