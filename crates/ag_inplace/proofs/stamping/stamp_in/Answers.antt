use Rattle.std.proofs.Common.{◌∙◌, ◌<◌, ◌≤◌, refl, sym, arith, length, get_or}
use Rattle.std.proofs.lemmas.List.{length-map}
use Rattle.ag_page.specs.Image.{image_bytes}
use Rattle.ag_version.specs.Edits.{stamped, after_commit}
use Rattle.ag_inplace.proofs.Listed.{no_version}
use Rattle.ag_inplace.proofs.Stamps.{stamped-none, stamped-stands, stamped-more, stamped-whole, stamped-all, stamped-page}
use Rattle.ag_inplace.proofs.stamping.stamp_in.Goals as goal

pub loop-k-init : goal.loop-k-init
loop-k-init c = record {
  stamped = λ v h. stamped-none c.args.lsn c.args.txn c.args.i.now v h;
  marks = refl;
}

pub stamp_at-requires : goal.stamp_at-requires
stamp_at-requires c =
    let v = c.requires.0 in
    let h = c.requires.1 in
    let k = c.loop-k.k in
    let d = c.directory_of-d.ensures v h in
    let count = d.count in
    let lt : k < length v.versions = omega (arith, c.from-k-end.ensures, c.loop-k-test.true) in
    let is = c.loop-k.invariant.stamped v h in (
      get_or v.versions k no_version,
      stamped-stands c.args.lsn c.args.txn c.args.i.now v k c.from.result no_version (image_bytes c.loop-k.i) c.ranges.lsn.fits h lt (c.from.ensures ∙ d.places k (omega arith)) (stamped-whole c.args.lsn c.args.txn c.args.i.now v k (image_bytes c.loop-k.i) c.ranges.lsn.fits h is) is,
    )

pub loop-k-preserved : goal.loop-k-preserved
loop-k-preserved c = record {
  stamped = λ v h.
      let k = c.loop-k.k in
      let d = c.directory_of-d.ensures v h in
      let count = d.count in
      let lt : k < length v.versions = omega (arith, c.from-k-end.ensures, c.loop-k-test.true) in
      let is = c.loop-k.invariant.stamped v h in
      let place = c.from.ensures ∙ d.places k (omega arith) in
      let here = stamped-stands c.args.lsn c.args.txn c.args.i.now v k c.from.result no_version (image_bytes c.loop-k.i) c.ranges.lsn.fits h lt place (stamped-whole c.args.lsn c.args.txn c.args.i.now v k (image_bytes c.loop-k.i) c.ranges.lsn.fits h is) is in
      stamped-more c.args.lsn c.args.txn c.args.i.now v k c.from.result no_version (image_bytes c.loop-k.i) (image_bytes c.stamp_at.new.i) c.ranges.lsn.fits h lt place (c.stamp_at.ensures.bytes (get_or v.versions k no_version) here) is;
  marks = c.stamp_at.ensures.marks ∙ c.loop-k.invariant.marks;
}

pub set_header-requires : goal.set_header-requires
set_header-requires c =
    let v = c.requires.0 in
    let h = c.requires.1 in
    stamped-whole c.args.lsn c.args.txn c.args.i.now v c.loop-k.k (image_bytes c.loop-k.i) c.ranges.lsn.fits h (c.loop-k.invariant.stamped v h)

pub returns-clause-edit : goal.returns-clause-edit
returns-clause-edit c = λ v h.
    let k = c.loop-k.k in
    let count = (c.directory_of-d.ensures v h).count in
    let le : length v.versions ≤ k = omega (arith, c.from-k-end.ensures, c.loop-k-test.false) in
    let all = stamped-all c.args.lsn c.args.txn v k (image_bytes c.loop-k.i) le (c.loop-k.invariant.stamped v h) in
    stamped-page c.args.lsn c.args.txn c.args.i.now c.set_header.new.i v c.ranges.lsn.fits h
    (c.set_header.ensures.bytes v (after_commit c.args.lsn c.args.txn v) _ all refl (length-map v.versions (stamped c.args.lsn c.args.txn) ∙ sym count) refl (sym (c.horizon_in-horizon.ensures v h)))
