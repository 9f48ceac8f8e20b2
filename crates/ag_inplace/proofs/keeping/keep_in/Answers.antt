use Rattle.std.proofs.Common.{◌≡◌, ◌∙◌, ◌<◌, ◌≤◌, ◌+◌, ◌-◌, ◌++◌, refl, sym, ap, arith, ℕ, List, length, get_or, slice_index, take, drop, replicate}
use Rattle.ag_model.specs.Sizes.{change_size, versions_size}
use Rattle.ag_page.specs.Image.{image_bytes, marks}
use Rattle.ag_inplace.specs.Flags.{kept}
use Rattle.ag_inplace.proofs.Splices.{length-moved}
use Rattle.ag_inplace.proofs.Standing.{page-whole}
use Rattle.ag_inplace.proofs.Listed.{lists-one, no_version, place-last}
use Rattle.ag_inplace.proofs.Compacting.{compacts-none, compacts-skip, compacts-keep, compacted, compacted-count, kept-page}
use Rattle.ag_inplace.proofs.keeping.keep_in.Goals as goal
use Rattle.ag_inplace.proofs.keeping.keep_in.Goals.{then-keep-k, else-keep-k}

pub loop-k-init : goal.loop-k-init
loop-k-init c = record {
  compacts = λ v test h flags. compacts-none test c.args.i.now v h;
  behind = λ v h. omega arith;
  whole = page-whole c.args.i.now c.requires.page.0 c.requires.page.1;
  few = omega arith;
  marks = refl;
}

pub bounds-d-k-then-keep-k : goal.bounds-d-k-then-keep-k
bounds-d-k-then-keep-k c =
    let v = c.requires.page.0 in
    let h = c.requires.page.1 in
    let l = c.requires.listed v h in
    let count : c.args.d.now.count ≡ length v.versions = l.count in
    let one = lists-one (image_bytes c.args.i.now) c.args.d.now v.versions c.loop-k.k l (omega (arith, c.from-k-end.ensures, c.loop-k-test.true)) in
    omega (arith, one.few)

pub overflow_sub-end : goal.overflow_sub-end
overflow_sub-end c =
    let v = c.requires.page.0 in
    let h = c.requires.page.1 in
    let l = c.requires.listed v h in
    let count : c.args.d.now.count ≡ length v.versions = l.count in
    let one = lists-one (image_bytes c.args.i.now) c.args.d.now v.versions c.loop-k.k l (omega (arith, c.from-k-end.ensures, c.loop-k-test.true)) in
    omega (arith, one.size)

pub move_part-requires-clause-short : goal.move_part-requires-clause-short
move_part-requires-clause-short c =
    let v = c.requires.page.0 in
    let h = c.requires.page.1 in
    let l = c.requires.listed v h in
    let count : c.args.d.now.count ≡ length v.versions = l.count in
    let one = lists-one (image_bytes c.args.i.now) c.args.d.now v.versions c.loop-k.k l (omega (arith, c.from-k-end.ensures, c.loop-k-test.true)) in
    omega (arith, one.size, one.short, c.from-then-keep-k.ensures)

pub overflow_sub-to : goal.overflow_sub-to
overflow_sub-to c =
    let v = c.requires.page.0 in
    let h = c.requires.page.1 in
    let l = c.requires.listed v h in
    let count : c.args.d.now.count ≡ length v.versions = l.count in
    let one = lists-one (image_bytes c.args.i.now) c.args.d.now v.versions c.loop-k.k l (omega (arith, c.from-k-end.ensures, c.loop-k-test.true)) in
    omega (arith, one.size)

pub loop-k-preserved : goal.loop-k-preserved
loop-k-preserved c =
    let image = c.args.i.now in
    let d = c.args.d.now in
    let k = c.loop-k.k in
    let old = image_bytes c.loop-k.i in
    let new = image_bytes c.if-keep-k.i in
    elim c.if-keep-k.branch [
      | then-keep-k w ↦
          let size = w.from-then-keep-k.result in
          let to = c.loop-k.to in
          let wrote : new ≡ take w.from-then-keep-k-2.result old ++ (take size (drop w.from.result old) ++ drop (w.from-then-keep-k-2.result + size) old) = ap image_bytes w.i-is ∙ w.move_part.ensures.bytes in
          let at : new ≡ take to old ++ (take size (drop w.from.result old) ++ drop (to + size) old) =
          wrote ∙ ap (λ (n : ℕ). take n old ++ (take size (drop w.from.result old) ++ drop (n + size) old)) w.from-then-keep-k-2.ensures in
          record {
            compacts = λ v test h flags.
                let l = c.requires.listed v h in
                let count : d.count ≡ length v.versions = l.count in
                let lt : k < length v.versions = omega (arith, c.from-k-end.ensures, c.loop-k-test.true) in
                let one = lists-one (image_bytes image) d v.versions k l lt in
                let long : size ≡ change_size (get_or v.versions k no_version).change = omega (arith, one.size, w.from-then-keep-k.ensures) in
                compacts-keep test image v k to c.loop-k.count size c.if-keep-k.to c.if-keep-k.count no_version old new h lt (sym (flags k no_version lt) ∙ w.if-keep-k.true) long
                (omega (arith, w.to-is, w.from-then-keep-k.ensures)) w.count-is (at ∙ ap (λ (n : ℕ). take to old ++ (take size (drop n old) ++ drop (to + size) old)) (w.from.ensures ∙ one.here)) (c.loop-k.invariant.compacts v test h flags);
            behind = λ v h.
                let l = c.requires.listed v h in
                let count : d.count ≡ length v.versions = l.count in
                let one = lists-one (image_bytes image) d v.versions k l (omega (arith, c.from-k-end.ensures, c.loop-k-test.true)) in
                let before = c.loop-k.invariant.behind v h in
                omega (arith, one.here, one.next, one.size, w.to-is);
            whole =
                let v = c.requires.page.0 in
                let h = c.requires.page.1 in
                let l = c.requires.listed v h in
                let count : d.count ≡ length v.versions = l.count in
                let one = lists-one (image_bytes image) d v.versions k l (omega (arith, c.from-k-end.ensures, c.loop-k-test.true)) in
                let before = c.loop-k.invariant.behind v h in
                length-moved w.from.result size to old new c.loop-k.invariant.whole (omega (arith, one.size, one.room, w.from.ensures, w.from-then-keep-k.ensures)) (omega (arith, one.here, one.size, one.room, w.from-then-keep-k.ensures)) at;
            few = omega (arith, w.count-is, c.loop-k.invariant.few);
            marks = ap marks w.i-is ∙ w.move_part.ensures.marks ∙ c.loop-k.invariant.marks;
          }
      | else-keep-k w ↦
          record {
            compacts = λ v test h flags.
                let l = c.requires.listed v h in
                let count : d.count ≡ length v.versions = l.count in
                let lt : k < length v.versions = omega (arith, c.from-k-end.ensures, c.loop-k-test.true) in
                compacts-skip test image v k c.loop-k.to c.loop-k.count c.if-keep-k.to c.if-keep-k.count no_version old new h lt (sym (flags k no_version lt) ∙ w.if-keep-k.false) w.to-is w.count-is (ap image_bytes w.i-is) (c.loop-k.invariant.compacts v test h flags);
            behind = λ v h.
                let l = c.requires.listed v h in
                let count : d.count ≡ length v.versions = l.count in
                let one = lists-one (image_bytes image) d v.versions k l (omega (arith, c.from-k-end.ensures, c.loop-k-test.true)) in
                let before = c.loop-k.invariant.behind v h in
                omega (arith, one.here, one.next, one.size, w.to-is);
            whole = ap (λ (z : List (List ℕ)). length (image_bytes z)) w.i-is ∙ c.loop-k.invariant.whole;
            few = omega (arith, w.count-is, c.loop-k.invariant.few);
            marks = ap marks w.i-is ∙ c.loop-k.invariant.marks;
          }
    ]

pub returns-clause-edit : goal.returns-clause-edit
returns-clause-edit c = λ v test h flags.
    let l = c.requires.listed v h in
    let k = c.loop-k.k in
    let count : c.args.d.now.count ≡ length v.versions = l.count in
    let le : length v.versions ≤ k = omega (arith, c.from-k-end.ensures, c.loop-k-test.false) in
    let is = c.loop-k.invariant.compacts v test h flags in
    let old = image_bytes c.loop-k.i in
    let end : slice_index c.args.d.now.places c.args.d.now.count ≡ 32 + versions_size v.versions = ap (λ (n : ℕ). slice_index c.args.d.now.places n) count ∙ l.places (length v.versions) (omega arith) ∙ place-last v.versions in
    let last : c.from-4.result ≡ 32 + versions_size v.versions = c.from-4.ensures ∙ ap (λ (n : ℕ). slice_index c.args.d.now.places n) c.from-3.ensures ∙ end in
    let cleared : image_bytes c.clear.new.i ≡ take c.loop-k.to old ++ (replicate (c.from-4.result - c.loop-k.to) 0 ++ drop c.from-4.result old) =
    c.clear.ensures.bytes ∙ ap (λ (n : ℕ). take n old ++ (replicate (c.from-4.result - n) 0 ++ drop c.from-4.result old)) c.from-2.ensures in
    let done = compacted test c.args.i.now v k c.loop-k.to c.loop-k.count c.from-4.result old (image_bytes c.clear.new.i) h le last is cleared in
    kept-page test c.args.lsn c.args.horizon c.args.i.now c.set_header.new.i v c.ranges.lsn.fits c.ranges.horizon.fits h
    (c.set_header.ensures.bytes v (kept test c.args.lsn c.args.horizon v) _ done refl (sym (compacted-count test v k c.loop-k.to c.loop-k.count old le is)) refl refl)
