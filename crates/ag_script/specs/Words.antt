-- The words of an event line.
use Rattle.std.specs.Prelude.{◌≡◌, ◌≢◌, ℕ, ◌+◌, ◌-◌, ◌^◌, ◌<◌, ◌≤◌, List, [], ◌∷◌, ◌++◌, length, take, drop, replicate, codes, if◌then◌else◌, ◌==◌, Some}
use Rattle.std.specs.List.{flat_map, AllByRecursion}
use Rattle.std.specs.Fmt.{decimal}
use Rattle.ag_model.specs.declared.config.Config.{Config}
use Rattle.ag_model.specs.declared.value.Value.{Value}
use Rattle.ag_model.specs.declared.event.Pair.{Pair}
use Rattle.ag_model.specs.declared.event.Who.{Who}
use Rattle.ag_model.specs.declared.event.Who.TheVariants.{Letter, Primary}
use Rattle.ag_model.specs.declared.event.Suffix.{Suffix}
use Rattle.ag_model.specs.declared.event.Suffix.TheVariants.{Whole, Stop, Fail}
use Rattle.ag_model.specs.declared.event.Event.{Event}
use Rattle.ag_model.specs.declared.event.Event.TheVariants.{Begin, Get, Put, Del, Commit, Rollback, Set, Trim, Harden, Ack, Send, Deliver, Repeat, Lose, Apply, Raise, Redo}
use Rattle.ag_model.specs.declared.event.Event.TheVariants.{Read, Snap, View, Close, Report, Flush, Crash, Start, Spoil, Unread, Ask, Suspects, Page, Sectors, Status, Cut, Mend}
use Rattle.ag_model.specs.declared.event.Event.TheVariants.{Join, Resume, Sync, Timeout, Planned, Auto, Force, Finish}
use Rattle.ag_rules.specs.Script.{IsWho}
use Rattle.ag_script.specs.Hex.{hex_pair, hex_value}

-- a word, with what it says
pub data Word : Type 0 where
  -- this very text
  Name : (text : List ℕ) → Word
  -- the letter of a replica of the group, or `@`
  Node : (c : Config) → (who : Who) → Word
  -- the same, but not the word that names the first
  Other : (c : Config) → (first who : Who) → Word
  -- a number from low to high
  Number : (low high n : ℕ) → Word
  -- a value, in hex
  Bytes : (value : Value) → Word
  -- a mask, in 1 to 16 hex digits, which may begin with zeros
  Mask : (mask : ℕ) → Word

-- ---- what spells a word

-- the letter of a replica, or `@`
abbrev pub who_text : Who → List ℕ
who_text (Letter n) = (65 + n) ∷ []
who_text Primary = 64 ∷ []

-- the bytes of a value in hex, or `-` for none
abbrev pub value_text : Value → List ℕ
value_text v = if v.len == 0 then codes "-" else flat_map hex_pair (take v.len v.bytes)

-- a value of at most 64 bytes, and zeros behind them
pub record IsValue (v : Value) : Type 0 where
  pub few : v.len ≤ 64
  pub whole : length v.bytes ≡ 64
  pub zeros : drop v.len v.bytes ≡ replicate (64 - v.len) 0
  pub bytes : AllByRecursion (λ b. b < 256) (take v.len v.bytes)

-- the text spells the word
abbrev pub Spells : Word → List ℕ → Type 0
Spells (Name name) text = text ≡ name
Spells (Node c who) text = (text ≡ who_text who) × IsWho c who
Spells (Other c first who) text = (text ≡ who_text who) × IsWho c who × (who ≢ first)
Spells (Number low high n) text = (text ≡ decimal n) × (low ≤ n) × (n ≤ high) × (n < 2 ^ 64)
Spells (Bytes value) text = (text ≡ value_text value) × IsValue value
Spells (Mask mask) text = (0 < length text) × (length text ≤ 16) × (hex_value 0 text ≡ Some mask)

-- the texts spell the words, one by one
abbrev pub SpellsAll : List Word → List (List ℕ) → Type 0
SpellsAll [] [] = Unit {0}
SpellsAll (word ∷ words) (text ∷ texts) = Spells word text × SpellsAll words texts
SpellsAll [] (text ∷ texts) = ⊥
SpellsAll (word ∷ words) [] = ⊥

-- ---- the kinds of numbers

-- a transaction number or an LSN: 64 bits
abbrev pub long : ℕ → Word
long n = Number 0 (2 ^ 64 - 1) n

-- a key: 32 bits
abbrev pub key : ℕ → Word
key n = Number 0 (2 ^ 32 - 1) n

-- a page of the group
abbrev pub page : Config → ℕ → Word
page c n = Number 16 (15 + c.pages) n

-- a stripe, or a sector of a page
abbrev pub sixteenth : ℕ → Word
sixteenth n = Number 0 15 n

-- a session
abbrev pub session : ℕ → Word
session n = Number 0 63 n

-- a message, counted from the oldest in flight
abbrev pub message : ℕ → Word
message n = Number 1 1024 n

-- a write or a call, counted from the first of the event
abbrev pub call : ℕ → Word
call n = Number 1 (2 ^ 32 - 1) n

-- ---- the words of each event

-- a key and its value
abbrev pub pair_words : Pair → List Word
pair_words pair = key pair.key ∷ Bytes pair.value ∷ []

-- where an event is to be cut short, at the end of its line
abbrev pub suffix_words : Suffix → List Word
suffix_words Whole = []
suffix_words (Stop w mask) = Name (codes "stop") ∷ call w ∷ Mask mask ∷ []
suffix_words (Fail n) = Name (codes "fail") ∷ call n ∷ []

-- the words of a line that says the event
abbrev pub words_of : Config → Event → List Word
words_of c (Set n pairs s) = Name (codes "set") ∷ Node c n ∷ flat_map pair_words pairs ++ suffix_words s
words_of c (Begin n s) = Name (codes "begin") ∷ Node c n ∷ suffix_words s
words_of c (Get n t k s) = Name (codes "get") ∷ Node c n ∷ long t ∷ key k ∷ suffix_words s
words_of c (Put n t k v s) = Name (codes "put") ∷ Node c n ∷ long t ∷ key k ∷ Bytes v ∷ suffix_words s
words_of c (Del n t k s) = Name (codes "del") ∷ Node c n ∷ long t ∷ key k ∷ suffix_words s
words_of c (Commit n t s) = Name (codes "commit") ∷ Node c n ∷ long t ∷ suffix_words s
words_of c (Rollback n t s) = Name (codes "rollback") ∷ Node c n ∷ long t ∷ suffix_words s
words_of c (Trim n p z s) = Name (codes "trim") ∷ Node c n ∷ page c p ∷ long z ∷ suffix_words s
words_of c (Harden n s) = Name (codes "harden") ∷ Node c n ∷ suffix_words s
words_of c (Ack n l s) = Name (codes "ack") ∷ Node c n ∷ long l ∷ suffix_words s
words_of c (Send n m s) = Name (codes "send") ∷ Node c n ∷ Other c n m ∷ suffix_words s
words_of c (Deliver n m i s) = Name (codes "deliver") ∷ Node c n ∷ Other c n m ∷ message i ∷ suffix_words s
words_of c (Repeat n m i s) = Name (codes "repeat") ∷ Node c n ∷ Other c n m ∷ message i ∷ suffix_words s
words_of c (Lose n m i s) = Name (codes "lose") ∷ Node c n ∷ Other c n m ∷ message i ∷ suffix_words s
words_of c (Apply n x s) = Name (codes "apply") ∷ Node c n ∷ sixteenth x ∷ suffix_words s
words_of c (Raise n x s) = Name (codes "raise") ∷ Node c n ∷ sixteenth x ∷ suffix_words s
words_of c (Redo n s) = Name (codes "redo") ∷ Node c n ∷ suffix_words s
words_of c (Report n s) = Name (codes "report") ∷ Node c n ∷ suffix_words s
words_of c (Read n q k s) = Name (codes "read") ∷ Node c n ∷ session q ∷ key k ∷ suffix_words s
words_of c (Snap n q s) = Name (codes "snap") ∷ Node c n ∷ session q ∷ suffix_words s
words_of c (View n q k s) = Name (codes "view") ∷ Node c n ∷ session q ∷ key k ∷ suffix_words s
words_of c (Close n q s) = Name (codes "close") ∷ Node c n ∷ session q ∷ suffix_words s
words_of c (Suspects n s) = Name (codes "suspects") ∷ Node c n ∷ suffix_words s
words_of c (Page n p s) = Name (codes "page") ∷ Node c n ∷ page c p ∷ suffix_words s
words_of c (Sectors n p s) = Name (codes "sectors") ∷ Node c n ∷ page c p ∷ suffix_words s
words_of c (Status n s) = Name (codes "status") ∷ Node c n ∷ suffix_words s
words_of c (Flush n s) = Name (codes "flush") ∷ Node c n ∷ suffix_words s
words_of c (Crash n s) = Name (codes "crash") ∷ Node c n ∷ suffix_words s
words_of c (Start n s) = Name (codes "start") ∷ Node c n ∷ suffix_words s
words_of c (Spoil n p x s) = Name (codes "spoil") ∷ Node c n ∷ page c p ∷ sixteenth x ∷ suffix_words s
words_of c (Unread n p s) = Name (codes "unread") ∷ Node c n ∷ page c p ∷ suffix_words s
words_of c (Ask n p m s) = Name (codes "ask") ∷ Node c n ∷ page c p ∷ Other c n m ∷ suffix_words s
words_of c (Cut n s) = Name (codes "cut") ∷ Node c n ∷ suffix_words s
words_of c (Mend n s) = Name (codes "mend") ∷ Node c n ∷ suffix_words s
words_of c (Join n s) = Name (codes "join") ∷ Node c n ∷ suffix_words s
words_of c (Resume n s) = Name (codes "resume") ∷ Node c n ∷ suffix_words s
words_of c (Sync n m s) = Name (codes "sync") ∷ Node c n ∷ Other c n m ∷ suffix_words s
words_of c (Timeout n m s) = Name (codes "timeout") ∷ Node c n ∷ Other c n m ∷ suffix_words s
words_of c (Planned n s) = Name (codes "planned") ∷ Node c n ∷ suffix_words s
words_of c (Auto s) = Name (codes "auto") ∷ suffix_words s
words_of c (Force n s) = Name (codes "force") ∷ Node c n ∷ suffix_words s
words_of c (Finish n s) = Name (codes "finish") ∷ Node c n ∷ suffix_words s

-- a `set` has 1 to 8 pairs
abbrev pub HasPairs : Event → Type 0
HasPairs (Set n pairs s) = (1 ≤ length pairs) × (length pairs ≤ 8)
HasPairs _ = Unit {0}

-- the texts are the words of a line that says the event
abbrev pub Say : Config → Event → List (List ℕ) → Type 0
Say c e texts = SpellsAll (words_of c e) texts × HasPairs e
