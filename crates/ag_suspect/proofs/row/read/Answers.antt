use Rattle.std.proofs.Common.{◌≡◌, ◌-◌, length, drop, arith}
use Rattle.std.proofs.lemmas.List.{get_or-take}
use Rattle.std.specs.Prelude.{◌==◌, slice_index}
use Rattle.std.specs.Int.{w16, w32}
use Rattle.ag_suspect.specs.Rows.{row_in, number}
use Rattle.ag_suspect.proofs.row.read.Goals as goal

pub returns : goal.returns
unfolding row_in
returns c =
    let bytes = c.args.bytes.now in
    let rest = drop 4 bytes in
    let n = length bytes - 4 in
    let whole : length bytes ≡ 32 = c.requires in
    let page : c.read_u16.result ≡ number w16 bytes = omega (arith, c.read_u16.ensures, get_or-take 2 bytes 0 0, get_or-take 2 bytes 1 0) in
    let count : c.read_u32.result ≡ number w32 rest =
    omega (arith, c.read_u32.ensures, get_or-take 4 rest 0 0, get_or-take 4 rest 1 0, get_or-take 4 rest 2 0, get_or-take 4 rest 3 0, get_or-take n rest 0 0, get_or-take n rest 1 0, get_or-take n rest 2 0, get_or-take n rest 3 0) in
    λ i. record { page = page i; kind = slice_index bytes 2; repaired = slice_index bytes 3 == 1; count = count i }
