-- How a call ends: the number and the text of each status.
use Rattle.std.specs.Prelude.{◌≡◌, ℕ, List, [], ◌++◌, ◌⊎◌, codes}
use Rattle.std.specs.Fmt.{decimal}
use Rattle.ag_group.specs.declared.status.ConfigKey.{ConfigKey}
use Rattle.ag_group.specs.declared.status.ConfigKey.TheVariants.{Head, Toml, Unknown, Pages, Replicas, Workers, Readers}
use Rattle.ag_group.specs.declared.status.Bound.{Bound}
use Rattle.ag_group.specs.declared.status.Bound.TheVariants.{Text, Events}
use Rattle.ag_group.specs.declared.status.Status.{Status}
use Rattle.ag_group.specs.declared.status.Status.TheVariants.{Done, Usage, BadConfig, BadLine, TooMany, ReadFault, WriteFault, NoMemory}

-- the number that the program ends with
abbrev pub number_of : Status → ℕ
number_of Done = 0
number_of Usage = 2
number_of (BadConfig key) = 3
number_of (BadLine line) = 3
number_of (TooMany what) = 3
number_of ReadFault = 4
number_of WriteFault = 5
number_of NoMemory = 6

-- the word for what a head has wrong
abbrev pub key_text : ConfigKey → List ℕ
key_text Head = codes "head"
key_text Toml = codes "toml"
key_text Unknown = codes "unknown"
key_text Pages = codes "pages"
key_text Replicas = codes "replicas"
key_text Workers = codes "workers"
key_text Readers = codes "readers"

-- the word for what there is too much of
abbrev pub bound_text : Bound → List ℕ
bound_text Text = codes "text"
bound_text Events = codes "events"

-- the text of a status
abbrev pub status_text : Status → List ℕ
status_text Done = []
status_text Usage = codes "usage: play, live, gen SEED EVENTS, drill SEED EVENTS, keep DIR"
status_text (BadConfig key) = codes "bad config " ++ key_text key
status_text (BadLine line) = codes "bad line " ++ decimal line
status_text (TooMany what) = codes "too many " ++ bound_text what
status_text ReadFault = codes "read fault"
status_text WriteFault = codes "write fault"
status_text NoMemory = codes "no memory"

-- this status, unless the source failed or memory ran out
abbrev pub IsUnlessStopped : Status → Status → Type 0
IsUnlessStopped expected status = (status ≡ expected) ⊎ (status ≡ ReadFault) ⊎ (status ≡ NoMemory)
