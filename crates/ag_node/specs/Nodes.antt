-- What holds of the fields of each node.
use Rattle.std.specs.Prelude.{◌≡◌, ℕ, ◌≤◌, List, [], length, replicate, get_or, ◌++◌, true, false, Option, Some, None}
use Rattle.ag_model.specs.declared.answer.Cell.{Cell}
use Rattle.ag_model.specs.declared.record.Record.{Record}
use Rattle.ag_model.specs.declared.record.Log.{Log}
use Rattle.ag_model.specs.declared.answer.Refusal.{Refusal}
use Rattle.ag_model.specs.Cells.{is_sound}
use Rattle.ag_model.specs.Sizes.{records_size}
use Rattle.ag_record.specs.Spelling.{HaveSpelling}
use Rattle.ag_rules.specs.Plan.{Check}
use Rattle.ag_rules.specs.Replica.{Leading, Peer}
use Rattle.std.specs.List.{All}
use Rattle.ag_model.specs.Starts.{last_term}
use Rattle.ag_built.specs.Whole.{IsWhole}
use Rattle.ag_node.specs.Activity.{Activity}
use Rattle.ag_node.specs.Homes.{Home}
use Rattle.ag_logstore.specs.Blocks.{AreBlocks}
use Rattle.ag_logstore.specs.LogKept.{RisesTo}
use Rattle.ag_node.specs.Room.{IsSetLog}

-- what a node knows as primary; no transaction is open between events
abbrev pub leading_of : List Record → ℕ → ℕ → List Peer → Leading
leading_of buffer last_txn synced peers = record { buffer = buffer; open_txns = []; last_txn = last_txn; synced = synced; peers = peers }

-- a node that is down neither leads nor follows, and one that leads doesn't follow
pub record IsActivity (activity : Activity) : Type 0 where
  pub down_leads : activity.up ≡ false → activity.leads ≡ false
  pub down_follows : activity.up ≡ false → activity.follows ≡ false
  pub one : activity.leads ≡ true → activity.follows ≡ false

-- a log of the first term, each block of which is of whole transactions
pub record IsFirstTerm (log : Log) : Type 0 where
  pub rises : RisesTo 0 (length log.records) log.ends
  pub term : last_term log.records ≡ 1
  pub blocks : AreBlocks IsWhole 0 log.ends log.records

-- no image is bad
abbrev pub AreSound : List (List Cell) → Type 0
AreSound cells = (i : ℕ) → is_sound (get_or cells i []) ≡ true

-- a node keeps a log of the first term, a sound image and a flag for each page, and an LSN for each stripe; while it is down no page is dirty
pub record IsHome (h : Home) : Type 0 where
  pub stands : IsActivity h.activity
  pub first : IsFirstTerm h.log
  pub some_pages : 16 ≤ h.pages
  pub few_pages : h.pages ≤ 2048
  pub each_flag : length h.dirty ≡ h.pages
  pub each_image : length h.cells ≡ h.pages
  pub sound : AreSound h.cells
  pub sixteen : length h.applied ≡ 16
  pub clean : h.activity.up ≡ false → h.dirty ≡ replicate h.pages false

-- all stripes stand at the end of the log, and have published it
pub record AreAtEnd (h : Home) (published : List ℕ) : Type 0 where
  pub stand : h.applied ≡ replicate 16 (length h.log.records)
  pub shown : published ≡ replicate 16 (length h.log.records)

-- no stripe has published more than it has redone
abbrev pub AreRedone : List ℕ → List ℕ → Type 0
AreRedone applied published = (stripe : ℕ) → get_or published stripe 0 ≤ get_or applied stripe 0

-- the numbers that a node keeps beside its home and buffer are theirs
pub record IsNode (h : Home) (published : List ℕ) (buffer : List Record) (bytes last_txn : ℕ) (used : List ℕ) : Type 0 where
  pub home : IsHome h
  pub sixteen : length published ≡ 16
  pub redone : h.activity.up ≡ true → AreRedone h.applied published
  pub ahead : h.activity.leads ≡ true → AreAtEnd h published
  pub counted : bytes ≡ records_size buffer
  pub most : bytes ≤ 15488
  pub fits : HaveSpelling buffer
  pub whole : IsWhole buffer
  pub room : h.activity.leads ≡ true → IsSetLog h.pages last_txn (h.log.records ++ buffer) used
  pub small : All (λ bytes. bytes ≤ 8144) used

-- this refusal is what the check says, and none is where the check doesn't hold
abbrev pub IsRefusedBy : Option Refusal → Check → Type 0
IsRefusedBy None check = check.when ≡ false
IsRefusedBy (Some why) check = (check.when ≡ true) × (why ≡ check.refusal)

-- what a primary knows of a secondary at the opening
abbrev pub at_opening : Peer
at_opening = record { connected = true; next = 2; hardened = 1; low = 1 }
