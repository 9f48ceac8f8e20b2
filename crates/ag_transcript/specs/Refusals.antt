-- The texts of refusals.
use Rattle.std.specs.Prelude.{ℕ, List, ◌++◌, codes}
use Rattle.std.specs.Fmt.{decimal}
use Rattle.ag_model.specs.declared.answer.Refusal.{Refusal}
use Rattle.ag_model.specs.declared.answer.Refusal.TheVariants.{Down, NotPrimary, NotSecondary, NotReadable, WrongState, CutOff, Suspended, NotConnected, NoTxn, NoMessage, LinkFull, Locked}
use Rattle.ag_model.specs.declared.answer.Refusal.TheVariants.{Conflict, PageFull, BufferFull, LogFull, Held, NotYet, Behind, OldTerm, TooOld, Unreadable, Torn, Pending, NotNoted, Gap, Wait}
use Rattle.ag_model.specs.declared.answer.Refusal.TheVariants.{NotUndone, NotSynchronised, NoTarget, Unhardened, Spent, Nothing}
use Rattle.ag_transcript.specs.Words.{node_text}

-- what stands after `no `
abbrev pub refusal_text : Refusal → List ℕ
refusal_text (Down node) = codes "down " ++ node_text node
refusal_text (NotPrimary node primary) = codes "not_primary " ++ node_text node ++ codes " " ++ node_text primary
refusal_text (NotSecondary node) = codes "not_secondary " ++ node_text node
refusal_text (NotReadable state) = codes "not_readable " ++ decimal state
refusal_text (WrongState state) = codes "wrong_state " ++ decimal state
refusal_text (CutOff node) = codes "cut_off " ++ node_text node
refusal_text (Suspended node) = codes "suspended " ++ node_text node
refusal_text (NotConnected node) = codes "not_connected " ++ node_text node
refusal_text (NoTxn node txn) = codes "no_txn " ++ node_text node ++ codes " " ++ decimal txn
refusal_text (NoMessage node to) = codes "no_message " ++ node_text node ++ codes " " ++ node_text to
refusal_text (LinkFull node to) = codes "link_full " ++ node_text node ++ codes " " ++ node_text to
refusal_text (Locked txn) = codes "1222 " ++ decimal txn
refusal_text (Conflict commit snapshot) = codes "3960 " ++ decimal commit ++ codes " " ++ decimal snapshot
refusal_text (PageFull need free) = codes "page_full " ++ decimal need ++ codes " " ++ decimal free
refusal_text (BufferFull need free) = codes "buffer_full " ++ decimal need ++ codes " " ++ decimal free
refusal_text (LogFull need free) = codes "log_full " ++ decimal need ++ codes " " ++ decimal free
refusal_text (Held horizon limit) = codes "held " ++ decimal horizon ++ codes " " ++ decimal limit
refusal_text (NotYet lsn node) = codes "not_yet " ++ decimal lsn ++ codes " " ++ node_text node
refusal_text (Behind front seen) = codes "behind " ++ decimal front ++ codes " " ++ decimal seen
refusal_text (OldTerm term seen) = codes "old_term " ++ decimal term ++ codes " " ++ decimal seen
refusal_text (TooOld snapshot horizon) = codes "too_old " ++ decimal snapshot ++ codes " " ++ decimal horizon
refusal_text (Unreadable page) = codes "823 " ++ decimal page
refusal_text (Torn page) = codes "824 " ++ decimal page
refusal_text (Pending page) = codes "829 " ++ decimal page
refusal_text (NotNoted page) = codes "not_noted " ++ decimal page
refusal_text (Gap expected first) = codes "gap " ++ decimal expected ++ codes " " ++ decimal first
refusal_text (Wait applied asked) = codes "wait " ++ decimal applied ++ codes " " ++ decimal asked
refusal_text (NotUndone hardened undo) = codes "not_undone " ++ decimal hardened ++ codes " " ++ decimal undo
refusal_text (NotSynchronised node) = codes "not_synchronised " ++ node_text node
refusal_text NoTarget = codes "no_target"
refusal_text (Unhardened count) = codes "unhardened " ++ decimal count
refusal_text Spent = codes "spent"
refusal_text Nothing = codes "nothing"
