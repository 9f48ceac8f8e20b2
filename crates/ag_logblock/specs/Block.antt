-- The sectors of a block.
use Rattle.std.specs.Prelude.{ℕ, zero, suc, ◌+◌, ◌-◌, ◌/◌, ◌^◌, ◌<◌, ◌≤◌, List, [], ◌∷◌, ◌++◌, length, take, drop, replicate}
use Rattle.std.specs.Int.{w16, w64, to_be_bytes}
use Rattle.ag_logblock.specs.declared.Head.{Head}

-- one sector: term, incarnation, first LSN, index, count, how many bytes of the payload, and these, with zeros after them
abbrev pub sector : Head → ℕ → ℕ → List ℕ → List ℕ
sector head count index part = to_be_bytes w64 head.term ++ (to_be_bytes w64 head.incarnation ++ (to_be_bytes w64 head.first
    ++ (index ∷ count ∷ (to_be_bytes w16 (length part) ++ (part ++ replicate (484 - length part) 0)))))

-- so many sectors from this index on, each with 484 bytes of the payload as long as there are so many
unfoldable pub sectors_from : Head → ℕ → ℕ → ℕ → List ℕ → List (List ℕ)
sectors_from head count index zero payload = []
sectors_from head count index (suc left) payload = sector head count index (take 484 payload) ∷ sectors_from head count (suc index) left (drop 484 payload)

-- how many sectors a payload takes
abbrev pub sectors_for : List ℕ → ℕ
sectors_for payload = (length payload + 483) / 484

-- the sectors of a payload
abbrev pub block : Head → List ℕ → List (List ℕ)
block head payload = sectors_from head (sectors_for payload) 0 (sectors_for payload) payload

-- what can be cut up
pub record HasBlock (head : Head) (payload : List ℕ) : Type 0 where
  pub term : head.term < 2 ^ 64
  pub incarnation : 1 ≤ head.incarnation
  pub incarnation_fits : head.incarnation < 2 ^ 64
  pub first : head.first < 2 ^ 64
  pub some : 1 ≤ length payload
  pub most : length payload ≤ 15488
