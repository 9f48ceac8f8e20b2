use Rattle.std.proofs.Common.{◌≡◌, ap, length, take, arith, rules, ℕ}
use Rattle.std.proofs.lemmas.Grind.{common_steps}
use Rattle.ag_page.proofs.Writes.{put_written, del_written}
use Rattle.ag_page.proofs.writing.write_version.Goals as goal

pub returns-in-Put-clause-bytes : goal.returns-in-Put-clause-bytes
returns-in-Put-clause-bytes c =
    let v = c.in-Put.value in
    let first = c.version_header.result in
    let thirty : length first ≡ 30 = ap length c.version_header.ensures in
    let text = take c.from-in-Put.result v.bytes in
    let word : text ≡ take v.len v.bytes = ap (λ (n : ℕ). take n v.bytes) c.from-in-Put.ensures in
    let size : length text ≡ v.len = first_of (search rules, grind (arith, common_steps)) in
    put_written c.args.w.now v c.args.at c.write_at-at.result c.from.result first text c.args.bytes.now c.write_at-at.new.bytes c.write_at.new.bytes c.in-Put.is c.from.ensures word size c.version_header.ensures thirty (omega (arith, c.told-bytes, c.requires.room)) c.write_at-at.ensures.place c.write_at-at.ensures.bytes c.write_at.ensures.bytes

pub returns-in-Del-clause-bytes : goal.returns-in-Del-clause-bytes
returns-in-Del-clause-bytes c =
    let first = c.version_header-in-Del.result in
    let thirty : length first ≡ 30 = ap length c.version_header-in-Del.ensures in
    del_written c.args.w.now c.args.at first c.args.bytes.now c.write_at-in-Del.new.bytes c.in-Del.is c.version_header-in-Del.ensures thirty c.write_at-in-Del.ensures.bytes
