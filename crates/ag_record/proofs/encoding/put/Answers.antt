use Rattle.std.proofs.Common.{ℕ, ap, take, [], ◌∷◌}
use Rattle.std.specs.Int.{w16, w32, w64, to_be_bytes}
use Rattle.ag_record.proofs.Appended.{appended5, also}
use Rattle.ag_record.proofs.encoding.put.Goals as goal

pub returns-clause-ok : goal.returns-clause-ok
returns-clause-ok c =
    let v = c.args.value.now in
    appended5 c.args.out.now.items c.reserve.new.self.items c.extend_from_slice.new.self.items c.put_u64.new.out.items c.put_u32.new.out.items c.put_u16.new.out.items c.extend_from_slice-2.new.self.items
    (1 ∷ []) (to_be_bytes w64 c.args.txn) (to_be_bytes w32 c.args.key) (to_be_bytes w16 v.len) (take v.len v.bytes)
    c.in_ok-reserve.ensures.items c.in_ok-extend_from_slice.ensures.items c.in_ok-put_u64.ensures.ok c.in_ok-put_u32.ensures.ok (also _ _ _ _ c.in_ok-put_u16.ensures.ok (ap (to_be_bytes w16) c.from.ensures)) (also _ _ _ _ c.in_ok-extend_from_slice-2.ensures.items (ap (λ (n : ℕ). take n v.bytes) c.from-len.ensures))
