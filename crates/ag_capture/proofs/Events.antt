-- An acknowledgement waits for whom the rules name, and a trim keeps to the same lows.
use Rattle.std.proofs.Common.{◌≡◌, ℕ, suc, ◌≤◌, List, [], ◌∷◌, ◌∙◌, length, map, Bool, true, false, refl, sym, ap, subst, arith}
use Rattle.std.specs.Prelude.{◌&&◌, nat_lt, if◌then◌else◌}
use Rattle.std.specs.List.{filter}
use Rattle.std.proofs.lemmas.Bool.{and_left}
use Rattle.ag_rules.specs.Replica.{Replica, Peer, end, peer_in}
use Rattle.ag_rules.specs.Group.{has}
use Rattle.ag_rules.specs.Plan.{Here}
use Rattle.ag_rules.specs.AckEvent.{late, late_members, is_late}
use Rattle.ag_rules.specs.TrimEvent.{connected_lows}
use Rattle.ag_capture.specs.Captured.{Captured, Knows, peer_of}
use Rattle.ag_capture.specs.Late.{late_among, waited_for}
use Rattle.ag_capture.proofs.Members.{filter-agrees, filter-shorter}

-- the late members are the same
same_members : (c : Captured) (r : Replica) (lsn replicas : ℕ) → Knows c r → replicas ≤ 16 → ((m : ℕ) → replicas ≤ m → has r.leading.synced m ≡ false) → late_members replicas r.leading.peers lsn r.leading.synced ≡ late_among c lsn r.leading.synced
unfolding late_among
same_members c r lsn replicas knows few none =
    filter-agrees (is_late r.leading.peers lsn r.leading.synced) (is_late c.peers lsn r.leading.synced) 0 replicas
    (λ m. ap (λ p. has r.leading.synced m && nat_lt p.hardened lsn) (sym (knows m)))
    ∙ sym (filter-shorter (is_late c.peers lsn r.leading.synced) 0 16 replicas few (λ m high. and_left (has r.leading.synced m) (nat_lt (peer_of c m).hardened lsn) (none m (omega arith))))

pub ack_agrees : (c : Captured) (h : Here) (r : Replica) (lsn : ℕ) → Knows c r → c.primary ≡ h.number → length h.modes ≤ 16 → ((m : ℕ) → length h.modes ≤ m → has r.leading.synced m ≡ false) → late h r lsn ≡ waited_for c lsn (end r) r.leading.synced
ack_agrees c h r lsn knows number few none =
    let members : late_members (length h.modes) r.leading.peers lsn r.leading.synced ≡ late_among c lsn r.leading.synced = same_members c r lsn (length h.modes) knows few none in
    ap (λ n. if nat_lt (end r) lsn then n ∷ [] else late_members (length h.modes) r.leading.peers lsn r.leading.synced) (sym number)
    ∙ ap (λ ms. if nat_lt (end r) lsn then c.primary ∷ [] else ms) members

one_more : (connected : Bool) (x : Peer) (xs ys : List Peer) → map (λ p. p.low) xs ≡ map (λ p. p.low) ys → map (λ p. p.low) (if connected then x ∷ xs else xs) ≡ map (λ p. p.low) (if connected then x ∷ ys else ys)
one_more true x xs ys e = ap (λ lows. x.low ∷ lows) e
one_more false x xs ys e = e

-- the lows are the same where the same is known of each replica: none beyond the last one is connected
pub lows_agree : (xs ys : List Peer) → ((m : ℕ) → peer_in xs m ≡ peer_in ys m) → connected_lows xs ≡ connected_lows ys
lows_agree [] [] h = refl
lows_agree [] (y ∷ ys) h = subst (λ (p : Peer). connected_lows [] ≡ connected_lows (p ∷ ys)) (h 0) (lows_agree [] ys (λ m. h (suc m)))
lows_agree (x ∷ xs) [] h = subst (λ (p : Peer). connected_lows (p ∷ xs) ≡ connected_lows []) (sym (h 0)) (lows_agree xs [] (λ m. h (suc m)))
lows_agree (x ∷ xs) (y ∷ ys) h =
    subst (λ (p : Peer). connected_lows (x ∷ xs) ≡ connected_lows (p ∷ ys)) (h 0)
    (one_more x.connected x (filter (λ p. p.connected) xs) (filter (λ p. p.connected) ys) (lows_agree xs ys (λ m. h (suc m))))
