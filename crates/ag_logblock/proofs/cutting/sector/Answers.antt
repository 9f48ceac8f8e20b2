use Rattle.std.proofs.Common.{◌≡◌, ◌+◌, ◌-◌, ◌++◌, ◌∷◌, length, refl, arith}
use Rattle.std.specs.Int.{w16, w64, to_be_bytes}
use Rattle.ag_logblock.proofs.Cuts.{written}
use Rattle.ag_logblock.proofs.cutting.sector.Goals as goal

pub returns : goal.returns
returns c = let h = c.args.head.now in rw (c.copy_from_slice.ensures.after, c.copy_from_slice-2.ensures.after, c.header.ensures) (let e : 28 + length c.args.part.now - 28 ≡ length c.args.part.now = omega arith in written (to_be_bytes w64 h.term ++ (to_be_bytes w64 h.incarnation ++ (to_be_bytes w64 h.first ++ (c.args.index ∷ c.args.count ∷ to_be_bytes w16 (length c.args.part.now))))) c.args.part.now (28 + length c.args.part.now - 28) refl e)
