use Rattle.std.proofs.Common.{◌≡◌, ◌-◌, ◌∷◌, [], ◌++◌, refl, sym, ◌∙◌, arith}
use Rattle.std.specs.Int.{w16, w64, to_be_bytes}
use Rattle.ag_model.specs.PageSets.{bytes_of}
use Rattle.ag_master.specs.Spelling.{letters, spelling}
use Rattle.ag_master.proofs.Fields.{length-bytes_of, written}
use Rattle.ag_master.proofs.sector.encode.Goals as goal

pub returns : goal.returns
unfolding spelling
returns c =
    let m = c.args.m.now in
    let h = letters ++ (to_be_bytes w16 m.format ++ (m.state ∷ 0 ∷ (to_be_bytes w64 m.incarnation ++ (to_be_bytes w64 m.term ++ (to_be_bytes w64 m.cut ++ (to_be_bytes w64 m.undo ++ (to_be_bytes w64 m.redo ++ (to_be_bytes w16 m.pages ++ (m.replica ∷ 0 ∷ []))))))))) in
    rw (c.copy_from_slice.ensures.after, c.copy_from_slice-2.ensures.after, c.head.ensures, c.to_bytes.ensures.exact) (written h (bytes_of m.foreign) 256 refl (length-bytes_of m.foreign) refl)
