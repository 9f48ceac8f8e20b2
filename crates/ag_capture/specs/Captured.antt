-- What a primary knows of the other replicas.
use Rattle.std.specs.Prelude.{◌≡◌, ◌≤◌, ℕ, List, set}
use Rattle.ag_rules.specs.Replica.{Replica, Peer, peer_in, peer}

-- what the primary of a number knows, replica by replica
pub record Captured : Type 0 where
  pub primary : ℕ
  pub peers : List Peer

-- what is known of replica m
abbrev pub peer_of : Captured → ℕ → Peer
peer_of c m = peer_in c.peers m

-- the same with other knowledge of replica m
abbrev pub with_peer_of : Captured → ℕ → Peer → Captured
with_peer_of c m new = record c { peers = set c.peers m new }

-- the known numbers of no replica are lower
abbrev pub NeverFalls : Captured → Captured → Type 0
NeverFalls old new = (m : ℕ) → ((peer_of old m).hardened ≤ (peer_of new m).hardened) × ((peer_of old m).low ≤ (peer_of new m).low)

-- whether this is what a primary of the rules knows of each replica
abbrev pub Knows : Captured → Replica → Type 0
Knows c r = (m : ℕ) → peer_of c m ≡ peer r m
