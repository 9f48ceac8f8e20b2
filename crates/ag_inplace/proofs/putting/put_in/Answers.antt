use Rattle.std.proofs.Common.{◌≡◌, ◌∙◌, ◌+◌, ◌≤◌, ◌++◌, ◌∷◌, [], ap, refl, sym, arith, ℕ, length}
use Rattle.std.proofs.lemmas.List.{length_push}
use Rattle.ag_model.specs.Sizes.{change_size, versions_size}
use Rattle.ag_page.specs.Image.{image_bytes}
use Rattle.ag_version.specs.Edits.{after_change, new_version}
use Rattle.ag_inplace.proofs.Standing.{page-whole, page-room, page-few}
use Rattle.ag_inplace.proofs.Puts.{put-behind, put-bytes, put-page, put-whole, end-is}
use Rattle.ag_inplace.proofs.putting.put_in.Goals as goal

pub bounds-d-from : goal.bounds-d-from
bounds-d-from c =
    let v = c.requires.page.0 in
    let h = c.requires.page.1 in
    let count : c.directory_of-d.result.count ≡ length v.versions = (c.directory_of-d.ensures v h).count in
    omega (arith, page-few c.args.i.now v h, c.from.ensures)

pub write_version-requires-clause-whole : goal.write_version-requires-clause-whole
write_version-requires-clause-whole c = page-whole c.args.i.now c.requires.page.0 c.requires.page.1

pub set_header-requires : goal.set_header-requires
set_header-requires c =
    let v = c.requires.page.0 in
    let h = c.requires.page.1 in
    let end : c.from-2.result ≡ 32 + versions_size v.versions = end-is c.directory_of-d.result v (image_bytes c.args.i.now) c.from.result c.from-2.result (c.directory_of-d.ensures v h) c.from.ensures c.from-2.ensures in
    let room : c.from-2.result + change_size c.args.change.now ≤ 8176 = omega (arith, c.size-need.ensures, c.if-need-free.false, c.from-free.ensures, c.from-2.ensures, page-room c.args.i.now v h) in
    put-whole c.from-2.result (new_version c.args.lsn c.args.txn c.args.key c.args.change.now) (image_bytes c.args.i.now) (image_bytes c.write_version.new.i) (page-whole c.args.i.now v h) room c.requires.spelled c.write_version.ensures.change c.write_version.ensures.bytes

pub returns-clause-ok : goal.returns-clause-ok
returns-clause-ok c = λ v h.
    let end : c.from-2.result ≡ 32 + versions_size v.versions = end-is c.directory_of-d.result v (image_bytes c.args.i.now) c.from.result c.from-2.result (c.directory_of-d.ensures v h) c.from.ensures c.from-2.ensures in
    let room : versions_size v.versions + change_size c.args.change.now ≤ 8144 = omega (arith, c.size-need.ensures, c.if-need-free.false, c.from-free.ensures, c.from-2.ensures, page-room c.args.i.now v h) in
    let x = new_version c.args.lsn c.args.txn c.args.key c.args.change.now in
    let put = put-behind c.args.i.now v c.from-2.result x (image_bytes c.write_version.new.i) h end room c.write_version.ensures.bytes in
    let count : c.directory_of-d.result.count ≡ length v.versions = (c.directory_of-d.ensures v h).count in
    let more : length (v.versions ++ x ∷ []) ≡ c.directory_of-d.result.count + 1 = length_push v.versions x ∙ ap (λ (n : ℕ). n + 1) (sym count) in
    put-bytes v c.args.lsn c.args.txn c.args.key c.args.change.now (image_bytes c.set_header.new.i)
    (c.set_header.ensures.bytes v (after_change c.args.lsn c.args.txn c.args.key c.args.change.now v) _ put refl more refl (sym (c.horizon_in-horizon.ensures v h)))

pub returns-clause-fits : goal.returns-clause-fits
returns-clause-fits c = λ v h below.
    let room : versions_size v.versions + change_size c.args.change.now ≤ 8144 =
    (let end : c.from-2.result ≡ 32 + versions_size v.versions = end-is c.directory_of-d.result v (image_bytes c.args.i.now) c.from.result c.from-2.result (c.directory_of-d.ensures v h) c.from.ensures c.from-2.ensures in
    omega (arith, c.size-need.ensures, c.if-need-free.false, c.from-free.ensures, c.from-2.ensures, page-room c.args.i.now v h)) in
    put-page c.args.i.now c.set_header.new.i v c.args.lsn c.args.txn c.args.key c.args.change.now c.ranges.lsn.fits c.ranges.txn.fits c.ranges.key.fits c.requires.spelled c.write_version.ensures.change h below room (returns-clause-ok c v h)
