-- The log of an image, found by looking at one block after the other.
use Rattle.std.specs.Prelude.{ℕ, zero, suc, ◌+◌, ◌-◌, ◌^◌, List, [], ◌∷◌, length, drop, replicate, Bool, true, false, nat_lt, nat_le, ◌==◌, ◌&&◌, ◌||◌, if◌then◌else◌, Result, Ok, Err}
use Rattle.std.specs.List.{list_all}
use Rattle.ag_model.specs.declared.value.Value.{Value}
use Rattle.ag_model.specs.declared.record.Record.{Record}
use Rattle.ag_model.specs.declared.record.Record.TheVariants.{Put, Del, Commit, Abort, Trim, Term}
use Rattle.ag_model.specs.declared.record.Log.{Log}
use Rattle.ag_model.specs.Sizes.{block_sectors}
use Rattle.ag_record.specs.declared.fault.RecordFault.{RecordFault}
use Rattle.ag_record.specs.Spelling.{records_spelling}
use Rattle.ag_record.specs.Reading.{record_at, is_page}
use Rattle.ag_logblock.specs.declared.Head.{Head}
use Rattle.ag_logblock.specs.Fitting.{header_of, payload_of}
use Rattle.ag_outside.specs.Disks.{Image, or_zeros}
use Rattle.ag_logstore.specs.Stored.{log_start, log_end, Stored, sectors_of, sectors_at, Place, first_place, after_block, log_of_blocks}

-- whether two lists of bytes are the same
abbrev pub same_bytes : List ℕ → List ℕ → Bool
same_bytes [] [] = true
same_bytes [] (y ∷ ys) = false
same_bytes (x ∷ xs) [] = false
same_bytes (x ∷ xs) (y ∷ ys) = (x == y) && same_bytes xs ys

-- whether these rise, each above the one before, the first above `low`
abbrev pub rises_above : ℕ → List ℕ → Bool
rises_above low [] = true
rises_above low (x ∷ xs) = nat_lt low x && rises_above x xs

-- whether a value can be written
abbrev pub can_value : Value → Bool
can_value v = (length v.bytes == 64) && (nat_le v.len 64 && same_bytes (drop v.len v.bytes) (replicate (64 - v.len) 0))

-- whether a list of pages can be written
abbrev pub can_pages : List ℕ → Bool
can_pages pages = nat_le 1 (length pages) && (nat_le (length pages) 2048 && (list_all is_page pages && rises_above 0 pages))

-- whether a record can be written
abbrev pub can_record : Record → Bool
can_record (Put txn key value) = nat_lt txn (2 ^ 64) && (nat_lt key (2 ^ 32) && can_value value)
can_record (Del txn key) = nat_lt txn (2 ^ 64) && nat_lt key (2 ^ 32)
can_record (Commit txn pages) = nat_lt txn (2 ^ 64) && can_pages pages
can_record (Abort txn pages) = nat_lt txn (2 ^ 64) && can_pages pages
can_record (Trim page horizon) = is_page page && nat_lt horizon (2 ^ 64)
can_record (Term term) = nat_lt term (2 ^ 64)

-- whether a block's records can be written
abbrev pub can_payload : List Record → Bool
can_payload rs = list_all can_record rs && (nat_le 1 (length (records_spelling rs)) && nat_le (length (records_spelling rs)) 15488)

-- whether a block's head can be written
abbrev pub can_head : Head → Bool
can_head h = nat_lt h.term (2 ^ 64) && (nat_le 1 h.incarnation && (nat_lt h.incarnation (2 ^ 64) && nat_lt h.first (2 ^ 64)))

-- whether these sectors stand one after the other
abbrev pub do_stand : Image → ℕ → List (List ℕ) → Bool
do_stand image at [] = true
do_stand image at (s ∷ ss) = same_bytes (or_zeros (image at)) s && do_stand image (suc at) ss

-- whether a block stands at this sector
abbrev pub is_stored : Image → ℕ → Stored → Bool
is_stored image at b = can_payload b.records && (can_head b.head && (do_stand image at (sectors_of b) && nat_le (at + block_sectors b.records) log_end))

-- whether it stands there and follows
abbrev pub is_next : Image → ℕ → ℕ → Place → Stored → Bool
is_next image cut incarnation p b = is_stored image p.sector b && ((b.head.first == p.lsn) && (nat_le p.least b.head.incarnation && (nat_le p.lsn cut || nat_le incarnation b.head.incarnation)))

-- the records that come first in some bytes, at most so many
abbrev pub then_records : Result (Record × List ℕ) RecordFault → (List ℕ → List Record) → List Record
then_records (Ok x) others = x.0 ∷ others x.1
then_records (Err e) others = []

unfoldable pub records_in : ℕ → List ℕ → List Record
records_in zero bytes = []
records_in (suc n) bytes = then_records (record_at bytes) (records_in n)

-- what the sectors at a place would be as a block
abbrev pub candidate : Image → ℕ → Stored
candidate image at =
    let payload = payload_of (sectors_at image at (header_of (or_zeros (image at))).count) in
    record { head = (header_of (or_zeros (image at))).head; records = records_in (length payload) payload }

-- so many blocks, each after the one before, as long as there are
unfoldable pub blocks_on : ℕ → Image → ℕ → ℕ → Place → List Stored
blocks_on zero image cut incarnation p = []
blocks_on (suc n) image cut incarnation p =
    if is_next image cut incarnation p (candidate image p.sector) then candidate image p.sector ∷ blocks_on n image cut incarnation (after_block p (candidate image p.sector)) else []

-- how many blocks a log has at most
unfoldable pub most_blocks : ℕ
most_blocks = log_end - log_start

-- the log of the blocks that stand one after the other from the first sector of the log
abbrev pub log_on : Image → ℕ → ℕ → Log
log_on image cut incarnation = log_of_blocks (blocks_on most_blocks image cut incarnation first_place)
