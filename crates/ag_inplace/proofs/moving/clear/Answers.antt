use Rattle.std.proofs.Common.{◌≡◌, ◌∙◌, ap, refl, length, take, replicate, List, ℕ, arith}
use Rattle.std.proofs.lemmas.List.{length-replicate}
use Rattle.ag_page.specs.Image.{image_bytes}
use Rattle.ag_inplace.proofs.Splices.{length-spliced}
use Rattle.ag_inplace.proofs.Compacting.{cleared-none, cleared-more, cleared-all, zeros-taken}
use Rattle.ag_inplace.proofs.moving.clear.Goals as goal

pub loop-at-init : goal.loop-at-init
loop-at-init c = record {
  bytes = cleared-none c.args.from (image_bytes c.args.i.now);
  whole = c.requires.whole;
  marks = refl;
  above = omega arith;
  below = c.requires.order;
}

pub loop-at-preserved : goal.loop-at-preserved
loop-at-preserved c =
    let old = image_bytes c.args.i.now in
    let one = image_bytes c.loop-at.i in
    let n = c.min-count.result in
    let part : List ℕ = take n (replicate 256 0) in
    let le = c.min-count.ensures in
    let zs : part ≡ replicate n 0 = zeros-taken n 256 (omega arith) in
    let many : length part ≡ n = ap length zs ∙ length-replicate {A = ℕ} n 0 in
    record {
      bytes = cleared-more c.args.from c.loop-at.at n part old one (image_bytes c.write_part.new.i) c.loop-at.invariant.above (omega (arith, c.loop-at.invariant.below, c.requires.room, c.requires.whole)) zs c.loop-at.invariant.bytes c.write_part.ensures.bytes;
      whole = ap length c.write_part.ensures.bytes ∙ length-spliced c.loop-at.at part one (omega (arith, c.loop-at.invariant.whole, c.requires.room)) ∙ c.loop-at.invariant.whole;
      marks = c.write_part.ensures.marks ∙ c.loop-at.invariant.marks;
      above = omega (arith, c.loop-at.invariant.above);
      below = omega arith;
    }

pub returns-clause-bytes : goal.returns-clause-bytes
returns-clause-bytes c = cleared-all c.args.from c.args.to c.loop-at.at (image_bytes c.args.i.now) (image_bytes c.loop-at.i) c.requires.order c.loop-at-test.false c.loop-at.invariant.below c.loop-at.invariant.bytes
