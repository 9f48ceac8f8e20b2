use Rattle.std.proofs.Common.{◌≡◌, Bool, true, false, refl}
use Rattle.std.specs.Prelude.{if◌then◌else◌}
use mir.Val.{bool_byte}
use Rattle.ag_suspect.specs.Rows.{row_spelling}
use Rattle.ag_suspect.proofs.row.spell.Goals as goal

flag : (b : Bool) → bool_byte b ≡ (if b then 1 else 0)
flag true = refl
flag false = refl

pub returns : goal.returns
unfolding row_spelling
returns c = let flag_ = flag c.args.row.now.repaired in rw (c.write_u32.ensures, c.write_u16.ensures, c.from.ensures, flag_) refl
