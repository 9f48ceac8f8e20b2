-- What contracts see of the transactions of a primary.
use Rattle.std.specs.Prelude.{ℕ, ◌+◌, ◌-◌, List, [], ◌∷◌, ◌++◌, length, map, get_or, set, ◌==◌, ◌||◌, if◌then◌else◌, Option, Some, None, unwrap_or}
use Rattle.std.specs.List.{enumerate_from}
use Rattle.std.specs.Option.{option_map}
use Rattle.ag_model.specs.declared.record.Record.{Record}
use Rattle.ag_model.specs.declared.value.PageValue.{PageValue}
use Rattle.ag_model.specs.PageSets.{pages_where}
use Rattle.ag_model.specs.Rows.{contains, touches}
use Rattle.ag_rules.specs.Replica.{OpenTxn as RulesTxn}
use Rattle.ag_stripe.specs.Redo.{after_record}
use Rattle.ag_txn.specs.declared.opened.OpenTxn.{OpenTxn}

-- a copy of each data page that has one, with its buffered records; the first slot is of page 16
abbrev pub Copies : Type 0
Copies = List (Option PageValue)

-- the copy of a page, if it has one
abbrev pub copy_of : Copies → ℕ → Option PageValue
copy_of copies page = get_or copies (page - 16) None

-- the copies with this one of a page
abbrev pub with_copy : ℕ → PageValue → Copies → Copies
with_copy page v copies = set copies (page - 16) (Some v)

-- a page after the record at this LSN, which may touch it
abbrev pub page_after : ℕ → ℕ → Record → ℕ → PageValue → PageValue
page_after pages lsn r page v = if touches pages page r then after_record lsn r v else v

-- the same after these records, of which the first has this LSN
abbrev pub page_after_all : ℕ → ℕ → List Record → ℕ → PageValue → PageValue
page_after_all pages lsn [] page v = v
page_after_all pages lsn (r ∷ rs) page v = page_after_all pages (lsn + 1) rs page (page_after pages lsn r page v)

-- the copy of a page after the record at this LSN
abbrev pub copy_after : ℕ → ℕ → Record → ℕ × Option PageValue → Option PageValue
copy_after pages lsn r x = option_map (page_after pages lsn r x.0) x.1

-- all copies after the record at this LSN
abbrev pub copies_after : ℕ → ℕ → Record → Copies → Copies
copies_after pages lsn r copies = map (copy_after pages lsn r) (enumerate_from 16 copies)

-- the copies after these records, of which the first has this LSN
abbrev pub copies_after_all : ℕ → ℕ → List Record → Copies → Copies
copies_after_all pages lsn [] copies = copies
copies_after_all pages lsn (r ∷ rs) copies = copies_after_all pages (lsn + 1) rs (copies_after pages lsn r copies)

-- the transactions and the buffer of a primary; end is the hardened end, an LSN
pub record TxnsView : Type 0 where
  pub pages : ℕ
  pub end : ℕ
  pub last_txn : ℕ
  pub txns : List OpenTxn
  pub buffer : List Record
  pub copies : Copies

-- the LSN at which the log with the buffer ends
abbrev pub full_end : TxnsView → ℕ
full_end t = t.end + length t.buffer

-- an open transaction without the pages that it touched
abbrev pub plain : OpenTxn → RulesTxn
plain o = record { txn = o.txn; snapshot = o.snapshot }

-- the open transactions as the rules have them
abbrev pub open_txns : TxnsView → List RulesTxn
open_txns t = map plain t.txns

-- a page as transactions see it: its copy, and where it has none the page itself
abbrev pub seen : TxnsView → PageValue → PageValue
seen t v = unwrap_or (copy_of t.copies v.page) v

-- the same with a copy of this page
abbrev pub with_seen : TxnsView → PageValue → TxnsView
with_seen t v = record t { copies = with_copy v.page (seen t v) t.copies }

-- the same with more records in the buffer
abbrev pub with_records : TxnsView → List Record → TxnsView
with_records t new = record t { buffer = t.buffer ++ new; copies = copies_after_all t.pages (full_end t + 1) new t.copies }

-- an open transaction, which touches this page now if it has this number
abbrev pub touching : ℕ → ℕ → OpenTxn → OpenTxn
touching txn page o = if o.txn == txn then record { txn = o.txn; snapshot = o.snapshot; touched = pages_where (λ p. (p == page) || contains p o.touched) } else o
