-- What holds of each block of a log.
use Rattle.std.specs.Prelude.{ℕ, ◌-◌, List, [], ◌∷◌, take, drop}
use Rattle.ag_model.specs.declared.record.Record.{Record}

-- the blocks that end there have P, where the first one starts after an LSN
abbrev pub AreBlocks : (List Record → Type 0) → ℕ → List ℕ → List Record → Type 0
AreBlocks P low [] rs = Unit {0}
AreBlocks P low (e ∷ es) rs = P (take (e - low) rs) × AreBlocks P e es (drop (e - low) rs)
