-- The batches of a flush: pages, and then the master.
use Rattle.std.proofs.Common.{ℕ, zero, suc, List, [], ◌∷◌, ◌++◌, take, map, refl}
use Rattle.std.specs.List.{AllByRecursion}
use Rattle.ag_rules.specs.Replica.{Kept, Master}
use Rattle.ag_rules.specs.Plan.{Batch, Master_write, written, batch_written, all_written}
use Rattle.ag_rules.specs.FlushEvent.{page_batch}
use Rattle.ag_laws.proofs.Steps.{IsSmall, IsBatch}
use Rattle.ag_laws.proofs.Disks.{SameCore, core_trans, small_core}

-- the writes of pages are small
pub pages_small : (ps : List ℕ) → AllByRecursion IsSmall (page_batch ps)
pages_small [] = tt
pages_small (p ∷ ps) = (tt, pages_small ps)

pub small_batch : (b : Batch) → AllByRecursion IsSmall b → IsBatch b
small_batch [] h = tt
small_batch (w ∷ []) h = tt
small_batch (w ∷ x ∷ ws) h = h

pub batch_core : (k : Kept) (b : Batch) → AllByRecursion IsSmall b → SameCore k (batch_written k b)
batch_core k [] h = record { log = refl; master = refl }
batch_core k (w ∷ ws) h = core_trans k (written k w) _ (small_core k w h.0) (batch_core (written k w) ws h.1)

pub flush_batches : (ps : List (List ℕ)) (last : Batch) → IsBatch last → AllByRecursion IsBatch (map page_batch ps ++ last ∷ [])
flush_batches [] last h = (h, tt)
flush_batches (p ∷ ps) last h = (small_batch (page_batch p) (pages_small p), flush_batches ps last h)

-- what holds of the same log and master, and of the new master, holds after some batches, and after all
pub flush_some : (P : Kept → Type 0) (k k2 : Kept) (m : Master) (log_end : ℕ) (ps : List (List ℕ)) (j : ℕ) → SameCore k k2 → ((x : Kept) → SameCore k x → P x) → ((x : Kept) → SameCore k x → P (written x (Master_write m log_end))) → P (all_written k2 (take j (map page_batch ps ++ (Master_write m log_end ∷ []) ∷ [])))
flush_some P k k2 m log_end [] zero c old new = old k2 c
flush_some P k k2 m log_end [] (suc zero) c old new = new k2 c
flush_some P k k2 m log_end [] (suc (suc j)) c old new = new k2 c
flush_some P k k2 m log_end (b ∷ ps) zero c old new = old k2 c
flush_some P k k2 m log_end (b ∷ ps) (suc j) c old new = flush_some P k (batch_written k2 (page_batch b)) m log_end ps j (core_trans k k2 _ c (batch_core k2 (page_batch b) (pages_small b))) old new

pub flush_all : (P : Kept → Type 0) (k k2 : Kept) (m : Master) (log_end : ℕ) (ps : List (List ℕ)) → SameCore k k2 → ((x : Kept) → SameCore k x → P (written x (Master_write m log_end))) → P (all_written k2 (map page_batch ps ++ (Master_write m log_end ∷ []) ∷ []))
flush_all P k k2 m log_end [] c new = new k2 c
flush_all P k k2 m log_end (b ∷ ps) c new = flush_all P k (batch_written k2 (page_batch b)) m log_end ps (core_trans k k2 _ c (batch_core k2 (page_batch b) (pages_small b))) new
