use Rattle.std.proofs.Common.{◌∙◌, ◌+◌, ◌-◌, ◌%◌, ◌≡◌, ap, length, take, drop, arith, ℕ}
use Rattle.ag_page.specs.Image.{image_bytes}
use Rattle.ag_inplace.proofs.Splices.{read_both}
use Rattle.ag_inplace.proofs.parts.read_part.Goals as goal

pub returns-then-not-is_empty : goal.returns-then-not-is_empty
returns-then-not-is_empty c =
    let at = c.args.at in
    let n = c.min-count.result in
    let m = length c.split_at_mut-front.result.1.now in
    let bytes = image_bytes c.args.i.now in
    let one : c.copy_from_slice.new.self ≡ take n (take (511 - at % 511) (drop at bytes)) = c.copy_from_slice.ensures.after ∙ ap (take n) c.rest_of_sector-part.ensures.bytes in
    let two : c.copy_from_slice-then-not-is_empty.new.self ≡ take m (take (511 - (at + n) % 511) (drop (at + n) bytes)) = c.copy_from_slice-then-not-is_empty.ensures.after ∙ ap (take m) c.rest_of_sector-part-then-not-is_empty.ensures.bytes in
    read_both n (511 - at % 511) m (511 - (at + n) % 511) at bytes _ _ (omega arith) (omega arith) one two ∙ ap (λ (k : ℕ). take k (drop at bytes)) (let e : n + m ≡ length c.args.out.now = omega (arith, c.split_at_mut-front.ensures.back_len) in e)
