-- How the log of a replica goes on in one event, and what a primary's log and transactions become.
use Rattle.std.specs.Prelude.{◌≡◌, ℕ, ◌+◌, ◌-◌, ◌<◌, ◌≤◌, List, [], ◌∷◌, ◌++◌, length, Bool, true, false, not, Some, ◌==◌, ◌⊎◌}
use Rattle.std.specs.List.{filter, fold, list_any}
use Rattle.ag_model.specs.declared.record.Record.{Record}
use Rattle.ag_model.specs.declared.record.Record.TheVariants.{Term, Trim}
use Rattle.ag_model.specs.declared.record.Log.{Log}
use Rattle.ag_model.specs.declared.value.Change.{Change}
use Rattle.ag_model.specs.declared.event.Pair.{Pair}
use Rattle.ag_model.specs.declared.config.Ticket.{Ticket}
use Rattle.ag_model.specs.declared.config.TermStart.{TermStart}
use Rattle.ag_model.specs.declared.message.Message.{Message}
use Rattle.ag_model.specs.declared.message.Block.{Block}
use Rattle.ag_model.specs.declared.message.Body.TheVariants.{Hello, Resume, Block as OfBlock}
use Rattle.ag_model.specs.declared.message.Body.{Body}
use Rattle.ag_model.specs.Blocks.{with_block, cut_at}
use Rattle.ag_model.specs.Page.{value}
use Rattle.ag_model.specs.Rows.{page_of}
use Rattle.ag_model.specs.Sizes.{change_size, free_bytes, records_size, buffer_free, blocks_sectors, free_sectors}
use Rattle.ag_model.specs.Starts.{term_starts, last_term}
use Rattle.ag_model.specs.Txns.{pages_of, last_txn}
use Rattle.ag_rules.specs.Replica.{Replica, OpenTxn, records, end, full_log, peer}
use Rattle.ag_rules.specs.HelloMessage.{fork_with}
use Rattle.ag_rules.specs.SendEvent.{block_message, block_to_send}
use Rattle.ag_rules.specs.PutEvent.{record_of}
use Rattle.ag_rules.specs.CommitEvent.{end_record}
use Rattle.ag_rules.specs.SetEvent.{records_of_set, taken_on, pair_size}
use Rattle.ag_rules.specs.Promotion.{promotion_records, blocks_of}
use Rattle.ag_laws.specs.Logs.{Logs}
use Rattle.ag_laws.specs.Fits.{IsPart, IsAnswered}

-- the log of a primary with its buffer, the buffer, its open transactions, and the last number that it gave to one
pub record Lead : Type 0 where
  pub log : List Record
  pub buffer : List Record
  pub open_txns : List OpenTxn
  pub last_txn : ℕ

-- what a primary leads with
abbrev pub lead_of : Replica → Lead
lead_of r = record { log = full_log r; buffer = r.leading.buffer; open_txns = r.leading.open_txns; last_txn = r.leading.last_txn }

-- a primary at the opening
abbrev pub first_lead : Lead
first_lead = record { log = Term 1 ∷ []; buffer = []; open_txns = []; last_txn = 0 }

-- a primary right after its promotion in this term
abbrev pub promoted_lead : ℕ → ℕ → List Record → Lead
promoted_lead pages term log = record { log = log ++ promotion_records pages term log; buffer = []; open_txns = []; last_txn = last_txn log }

-- a primary whose buffer is hardened
abbrev pub hardened : Lead → Lead
hardened a = record a { buffer = [] }

-- one more open transaction
abbrev pub opened : ℕ → Lead → Lead
opened snapshot a = record a { open_txns = a.open_txns ++ record { txn = a.last_txn + 1; snapshot = snapshot } ∷ []; last_txn = a.last_txn + 1 }

-- one transaction is no longer open
abbrev pub closed : ℕ → Lead → Lead
closed txn a = record a { open_txns = filter (λ t. not (t.txn == txn)) a.open_txns }

-- more records in the buffer
abbrev pub longer_by : List Record → Lead → Lead
longer_by new a = record a { log = a.log ++ new; buffer = a.buffer ++ new }

-- a whole transaction of the next number in the buffer
abbrev pub with_whole : List Record → Lead → Lead
with_whole new a = record a { log = a.log ++ new; buffer = a.buffer ++ new; last_txn = a.last_txn + 1 }

-- whether a transaction is open
abbrev pub is_open_in : ℕ → List OpenTxn → Bool
is_open_in txn ts = list_any (λ t. t.txn == txn) ts

-- the buffer has room for these records
abbrev pub BufferFits : List Record → Lead → Type 0
BufferFits new a = records_size new ≤ buffer_free a.buffer

-- the bytes that a page has free where this is the whole log
abbrev pub free_on : ℕ → List Record → ℕ → ℕ
free_on pages log p = free_bytes (value pages log (length log) p)

-- each pair has room on its page, after the earlier ones
abbrev pub PairsFit : ℕ → List Record → List Pair → List Pair → Type 0
PairsFit pages log earlier [] = Unit {0}
PairsFit pages log earlier (pair ∷ pairs) =
    (pair_size pair ≤ free_on pages log (page_of pages pair.key) - taken_on pages (page_of pages pair.key) earlier) × PairsFit pages log (earlier ++ pair ∷ []) pairs

-- what one event makes of what a primary leads with
pub data Steps (pages : ℕ) (a b : Lead) : Type 0 where
  Same : b ≡ a → Steps pages a b
  Hardens : b ≡ hardened a → Steps pages a b
  Opens : (snapshot : ℕ) → b ≡ opened snapshot a → Steps pages a b
  Changes : (txn key : ℕ) (change : Change) → is_open_in txn a.open_txns ≡ true → change_size change ≤ free_on pages a.log (page_of pages key) → BufferFits (record_of txn key change ∷ []) a
      → b ≡ longer_by (record_of txn key change ∷ []) a → Steps pages a b
  Closes : (txn : ℕ) → pages_of pages txn a.log ≡ [] → b ≡ closed txn a → Steps pages a b
  Ends : (commits : Bool) (txn : ℕ) (listed : List ℕ) → is_open_in txn a.open_txns ≡ true → listed ≡ pages_of pages txn a.log → BufferFits (end_record commits txn listed ∷ []) a
      → b ≡ longer_by (end_record commits txn listed ∷ []) (closed txn a) → Steps pages a b
  Sets : (pairs : List Pair) → PairsFit pages a.log [] pairs → BufferFits (records_of_set pages (a.last_txn + 1) pairs) a
      → b ≡ with_whole (records_of_set pages (a.last_txn + 1) pairs) a → Steps pages a b
  Trims : (page horizon : ℕ) → horizon ≤ length a.log → BufferFits (Trim page horizon ∷ []) a → b ≡ longer_by (Trim page horizon ∷ []) a → Steps pages a b

-- what one event makes of a replica, where it leads afterwards
pub data LeadGoes (pages : ℕ) (r after : Replica) : Type 0 where
  Follows : after.leads ≡ false → LeadGoes pages r after
  Leads : r.leads ≡ true → Steps pages (lead_of r) (lead_of after) → LeadGoes pages r after
  Takes : (term : ℕ) → last_term (records r) ≤ term → lead_of after ≡ promoted_lead pages term (records r) → LeadGoes pages r after

-- a log with some more blocks
abbrev pub with_blocks : Log → List (List Record) → Log
with_blocks log bs = fold with_block log bs

-- the blocks have room in the log
abbrev pub LogFits : Log → List (List Record) → Type 0
LogFits log bs = blocks_sectors bs ≤ free_sectors log

-- what is known of each message in flight
abbrev pub Told : Type 1
Told = Message → Type 0

-- what one event makes of the log on a replica's disk, done whole or cut short
pub data LogGoes (logs : Logs) (told : Told) (pages : ℕ) (r : Replica) (new : Log) : Type 0 where
  Stands : new ≡ r.kept.log → LogGoes logs told pages r new
  Cuts : (term fork its_end : ℕ) (ticket : Ticket) → told (record { term = term; body = Resume ticket fork its_end })
      → IsAnswered logs term fork r → new ≡ cut_at fork r.kept.log → LogGoes logs told pages r new
  Hardens : r.leads ≡ true → 0 < length r.leading.buffer → LogFits r.kept.log (r.leading.buffer ∷ []) → new ≡ with_block r.kept.log r.leading.buffer → LogGoes logs told pages r new
  Promotes : (term : ℕ) (some rest : List (List Record)) → last_term (records r) ≤ term → (logs term ≡ []) ⊎ (logs term ≡ records r) → LogFits r.kept.log (some ++ rest)
      → some ++ rest ≡ blocks_of (promotion_records pages term (records r))
      → new ≡ with_blocks r.kept.log some → LogGoes logs told pages r new
  Comes : (term : ℕ) (b : Block) → told (record { term = term; body = OfBlock b }) → r.leads ≡ false → term ≡ r.term → IsPart (logs term) b → b.first ≡ end r + 1
      → LogFits r.kept.log (b.records ∷ []) → new ≡ with_block r.kept.log b.records → LogGoes logs told pages r new

-- whether a message tells nothing of logs
abbrev pub is_plain : Body → Bool
is_plain (Hello ticket its_end starts) = false
is_plain (Resume ticket fork its_end) = false
is_plain (OfBlock b) = false
is_plain _ = true

-- a message that a replica sends
pub data Posts (told : Told) (r : Replica) (m : Message) : Type 0 where
  Plain : is_plain m.body ≡ true → Posts told r m
  SaysHello : (ticket : Ticket) → r.up ≡ true → m.body ≡ Hello ticket (end r) (term_starts (records r)) → Posts told r m
  Answers : (ticket : Ticket) (its_end : ℕ) (starts : List TermStart) → told (record { term = r.term; body = Hello ticket its_end starts }) → r.leads ≡ true
      → m ≡ record { term = r.term; body = Resume ticket (fork_with r its_end starts) (end r) } → Posts told r m
  Sends : (to last : ℕ) → r.leads ≡ true → block_to_send r to ≡ Some last → m ≡ block_message r (peer r to).next last → Posts told r m

-- what one event makes of replica r
pub record Goes (logs : Logs) (told : Told) (pages : ℕ) (r after : Replica) : Type 0 where
  pub log : LogGoes logs told pages r after.kept.log
  pub lead : LeadGoes pages r after
