-- What a block does that is hardened.
use Rattle.std.specs.Prelude.{ℕ, ◌+◌, [], ◌∷◌, length}
use Rattle.ag_model.specs.declared.message.Block.{Block}
use Rattle.ag_model.specs.declared.answer.Answer.TheVariants.{Hardened}
use Rattle.ag_rules.specs.Replica.{Replica, end}
use Rattle.ag_rules.specs.Plan.{Part, writing, each_synced, Block_write}
use Rattle.ag_rules.specs.BlockMessage.{acks}

-- the block is written and synced, and is answered by an Ack where the replica follows
abbrev pub hardens_block : ℕ → Replica → Block → Part
hardens_block n r b = writing (Hardened (end r + length b.records)) (each_synced (Block_write b.records ∷ [])) (acks n r (end r + length b.records)) r
