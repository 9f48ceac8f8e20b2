use Rattle.std.proofs.Common.{ap, ℕ, List, [], ◌∷◌, length}
use Rattle.std.specs.Int.{w16, w64, to_be_bytes}
use Rattle.std.specs.List.{flat_map}
use Rattle.ag_record.proofs.Appended.{appended4, also}
use Rattle.ag_record.proofs.encoding.ending.Goals as goal

pub returns-clause-ok : goal.returns-clause-ok
returns-clause-ok c =
    let pages = c.args.pages.now in
    appended4 c.args.out.now.items c.reserve.new.self.items c.extend_from_slice.new.self.items c.put_u64.new.out.items c.put_u16.new.out.items c.pages_of.new.out.items
    (c.args.kind ∷ []) (to_be_bytes w64 c.args.txn) (to_be_bytes w16 (length pages)) (flat_map (to_be_bytes w16) pages)
    c.in_ok-reserve.ensures.items c.in_ok-extend_from_slice.ensures.items c.in_ok-put_u64.ensures.ok (also _ _ _ _ c.in_ok-put_u16.ensures.ok (ap (λ (ps : List ℕ). to_be_bytes w16 (length ps)) c.as_slice-pages.ensures)) (also _ _ _ _ c.pages_of.ensures.items (ap (flat_map (to_be_bytes w16)) c.as_slice-pages.ensures))
