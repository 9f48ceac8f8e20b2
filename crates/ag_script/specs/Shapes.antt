-- What may follow the name of an event, and reading it from left to right.
use Rattle.std.specs.Prelude.{ℕ, ◌+◌, ◌-◌, ◌^◌, List, Option, Some}
use Rattle.ag_model.specs.declared.config.Config.{Config}
use Rattle.ag_model.specs.declared.value.Value.{Value}
use Rattle.ag_model.specs.declared.event.Pair.{Pair}
use Rattle.ag_model.specs.declared.event.Who.{Who}
use Rattle.ag_model.specs.declared.event.Suffix.{Suffix}
use Rattle.ag_model.specs.declared.event.Event.{Event}
use Rattle.ag_model.specs.declared.event.Event.TheVariants.{Begin, Get, Put, Del, Commit, Rollback, Set, Trim, Harden, Ack, Send, Deliver, Repeat, Lose, Apply, Raise, Redo}
use Rattle.ag_model.specs.declared.event.Event.TheVariants.{Read, Snap, View, Close, Report, Flush, Crash, Start, Spoil, Unread, Ask, Suspects, Page, Sectors, Status, Cut, Mend}
use Rattle.ag_model.specs.declared.event.Event.TheVariants.{Join, Resume, Sync, Timeout, Planned, Auto, Force, Finish}
use Rattle.ag_script.specs.Hex.{◌>>=◌}
use Rattle.ag_script.specs.ReadWord.{who_at, other_at, number_at, value_at}
use Rattle.ag_script.specs.ReadWords.{word_by, suffix_at, pairs_at}

-- what may follow, and the event that is said
pub data Shape : Type 0 where
  -- the suffix
  Ends : (event : Suffix → Event) → Shape
  -- 1 to 8 pairs and the suffix
  PairsEnd : (event : List Pair → Suffix → Event) → Shape
  -- one word, and what follows it
  NodeThen : (c : Config) → (next : Who → Shape) → Shape
  OtherThen : (c : Config) → (first : Who) → (next : Who → Shape) → Shape
  NumberThen : (low high : ℕ) → (next : ℕ → Shape) → Shape
  BytesThen : (next : Value → Shape) → Shape

-- the event that the words say
abbrev pub read : Shape → List (List ℕ) → Option Event
read (Ends event) texts = suffix_at texts >>= λ s. Some (event s)
read (PairsEnd event) texts = pairs_at texts >>= λ x. suffix_at x.1 >>= λ s. Some (event x.0 s)
read (NodeThen c next) texts = word_by (who_at c) texts >>= λ x. read (next x.0) x.1
read (OtherThen c first next) texts = word_by (other_at c first) texts >>= λ x. read (next x.0) x.1
read (NumberThen low high next) texts = word_by (number_at low high) texts >>= λ x. read (next x.0) x.1
read (BytesThen next) texts = word_by value_at texts >>= λ x. read (next x.0) x.1

-- ---- the kinds of numbers

abbrev pub then_long : (ℕ → Shape) → Shape
then_long next = NumberThen 0 (2 ^ 64 - 1) next

abbrev pub then_key : (ℕ → Shape) → Shape
then_key next = NumberThen 0 (2 ^ 32 - 1) next

abbrev pub then_page : Config → (ℕ → Shape) → Shape
then_page c next = NumberThen 16 (15 + c.pages) next

abbrev pub then_sixteenth : (ℕ → Shape) → Shape
then_sixteenth next = NumberThen 0 15 next

abbrev pub then_session : (ℕ → Shape) → Shape
then_session next = NumberThen 0 63 next

abbrev pub then_message : (ℕ → Shape) → Shape
then_message next = NumberThen 1 1024 next

-- ---- what follows each event's name

abbrev pub set_shape : Config → Shape
set_shape c = NodeThen c λ n. PairsEnd λ pairs s. Set n pairs s

abbrev pub begin_shape : Config → Shape
begin_shape c = NodeThen c λ n. Ends λ s. Begin n s

abbrev pub get_shape : Config → Shape
get_shape c = NodeThen c λ n. then_long λ t. then_key λ k. Ends λ s. Get n t k s

abbrev pub put_shape : Config → Shape
put_shape c = NodeThen c λ n. then_long λ t. then_key λ k. BytesThen λ v. Ends λ s. Put n t k v s

abbrev pub del_shape : Config → Shape
del_shape c = NodeThen c λ n. then_long λ t. then_key λ k. Ends λ s. Del n t k s

abbrev pub commit_shape : Config → Shape
commit_shape c = NodeThen c λ n. then_long λ t. Ends λ s. Commit n t s

abbrev pub rollback_shape : Config → Shape
rollback_shape c = NodeThen c λ n. then_long λ t. Ends λ s. Rollback n t s

abbrev pub trim_shape : Config → Shape
trim_shape c = NodeThen c λ n. then_page c λ p. then_long λ z. Ends λ s. Trim n p z s

abbrev pub harden_shape : Config → Shape
harden_shape c = NodeThen c λ n. Ends λ s. Harden n s

abbrev pub ack_shape : Config → Shape
ack_shape c = NodeThen c λ n. then_long λ l. Ends λ s. Ack n l s

abbrev pub send_shape : Config → Shape
send_shape c = NodeThen c λ n. OtherThen c n λ m. Ends λ s. Send n m s

abbrev pub deliver_shape : Config → Shape
deliver_shape c = NodeThen c λ n. OtherThen c n λ m. then_message λ i. Ends λ s. Deliver n m i s

abbrev pub repeat_shape : Config → Shape
repeat_shape c = NodeThen c λ n. OtherThen c n λ m. then_message λ i. Ends λ s. Repeat n m i s

abbrev pub lose_shape : Config → Shape
lose_shape c = NodeThen c λ n. OtherThen c n λ m. then_message λ i. Ends λ s. Lose n m i s

abbrev pub apply_shape : Config → Shape
apply_shape c = NodeThen c λ n. then_sixteenth λ x. Ends λ s. Apply n x s

abbrev pub raise_shape : Config → Shape
raise_shape c = NodeThen c λ n. then_sixteenth λ x. Ends λ s. Raise n x s

abbrev pub redo_shape : Config → Shape
redo_shape c = NodeThen c λ n. Ends λ s. Redo n s

abbrev pub report_shape : Config → Shape
report_shape c = NodeThen c λ n. Ends λ s. Report n s

abbrev pub read_shape : Config → Shape
read_shape c = NodeThen c λ n. then_session λ q. then_key λ k. Ends λ s. Read n q k s

abbrev pub snap_shape : Config → Shape
snap_shape c = NodeThen c λ n. then_session λ q. Ends λ s. Snap n q s

abbrev pub view_shape : Config → Shape
view_shape c = NodeThen c λ n. then_session λ q. then_key λ k. Ends λ s. View n q k s

abbrev pub close_shape : Config → Shape
close_shape c = NodeThen c λ n. then_session λ q. Ends λ s. Close n q s

abbrev pub suspects_shape : Config → Shape
suspects_shape c = NodeThen c λ n. Ends λ s. Suspects n s

abbrev pub page_shape : Config → Shape
page_shape c = NodeThen c λ n. then_page c λ p. Ends λ s. Page n p s

abbrev pub sectors_shape : Config → Shape
sectors_shape c = NodeThen c λ n. then_page c λ p. Ends λ s. Sectors n p s

abbrev pub status_shape : Config → Shape
status_shape c = NodeThen c λ n. Ends λ s. Status n s

abbrev pub flush_shape : Config → Shape
flush_shape c = NodeThen c λ n. Ends λ s. Flush n s

abbrev pub crash_shape : Config → Shape
crash_shape c = NodeThen c λ n. Ends λ s. Crash n s

abbrev pub start_shape : Config → Shape
start_shape c = NodeThen c λ n. Ends λ s. Start n s

abbrev pub spoil_shape : Config → Shape
spoil_shape c = NodeThen c λ n. then_page c λ p. then_sixteenth λ x. Ends λ s. Spoil n p x s

abbrev pub unread_shape : Config → Shape
unread_shape c = NodeThen c λ n. then_page c λ p. Ends λ s. Unread n p s

abbrev pub ask_shape : Config → Shape
ask_shape c = NodeThen c λ n. then_page c λ p. OtherThen c n λ m. Ends λ s. Ask n p m s

abbrev pub cut_shape : Config → Shape
cut_shape c = NodeThen c λ n. Ends λ s. Cut n s

abbrev pub mend_shape : Config → Shape
mend_shape c = NodeThen c λ n. Ends λ s. Mend n s

abbrev pub join_shape : Config → Shape
join_shape c = NodeThen c λ n. Ends λ s. Join n s

abbrev pub resume_shape : Config → Shape
resume_shape c = NodeThen c λ n. Ends λ s. Resume n s

abbrev pub sync_shape : Config → Shape
sync_shape c = NodeThen c λ n. OtherThen c n λ m. Ends λ s. Sync n m s

abbrev pub timeout_shape : Config → Shape
timeout_shape c = NodeThen c λ n. OtherThen c n λ m. Ends λ s. Timeout n m s

abbrev pub planned_shape : Config → Shape
planned_shape c = NodeThen c λ n. Ends λ s. Planned n s

abbrev pub auto_shape : Shape
auto_shape = Ends λ s. Auto s

abbrev pub force_shape : Config → Shape
force_shape c = NodeThen c λ n. Ends λ s. Force n s

abbrev pub finish_shape : Config → Shape
finish_shape c = NodeThen c λ n. Ends λ s. Finish n s
