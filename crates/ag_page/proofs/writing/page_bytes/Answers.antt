use Rattle.std.proofs.Common.{refl, arith, ap, length}
use Rattle.ag_page.specs.Spelling.{header}
use Rattle.ag_page.proofs.Pages.{size-least, image_parts, length-header}
use Rattle.ag_page.proofs.Writes.{filled_first, written_none, written_more, written_room, written_all}
use Rattle.ag_page.proofs.writing.page_bytes.Goals as goal

pub header-requires : goal.header-requires
header-requires c = let v = c.args.v.now in omega (arith, size-least v.versions, (image_parts v c.requires).room)

pub loop-version-init : goal.loop-version-init
loop-version-init c =
    let v = c.args.v.now in
    written_none (header v) c.as_slice-version-items.result.now c.write_at-at.result c.write_at-at.new.bytes (length-header v) (omega (arith, c.write_at-at.ensures.place, ap length c.header.ensures))
    (filled_first 8176 (header v) c.header.result _ c.write_at-at.new.bytes refl c.header.ensures c.write_at-at.ensures.bytes)

pub write_version-at-requires-clause-room : goal.write_version-at-requires-clause-room
write_version-at-requires-clause-room c = written_room c.args.v.now (header c.args.v.now) c.as_slice-version-items.result.now c.loop-version.version-index c.loop-version.at c.loop-version.bytes _ c.requires c.as_slice-version-items.ensures c.loop-version-test.true c.loop-version.invariant

pub loop-version-preserved : goal.loop-version-preserved
loop-version-preserved c = written_more (header c.args.v.now) c.as_slice-version-items.result.now c.loop-version.version-index c.loop-version.at c.write_version-at.result c.loop-version.bytes c.write_version-at.new.bytes _ c.loop-version-test.true c.write_version-at.ensures.size c.write_version-at.ensures.place c.write_version-at.ensures.bytes c.loop-version.invariant

pub returns : goal.returns
returns c = written_all c.args.v.now c.as_slice-version-items.result.now c.loop-version.version-index c.loop-version.at c.loop-version.bytes c.as_slice-version-items.ensures c.loop-version-test.false c.loop-version.invariant
