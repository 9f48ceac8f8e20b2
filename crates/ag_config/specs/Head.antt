-- What the head of a scenario says: a TOML document with the keys pages, replicas, workers and readers.
use Rattle.std.specs.Prelude.{ℕ, pos, List, [], ◌∷◌, length, codes, filter_map, Bool, not, ◌&&◌}
use Rattle.std.specs.Prelude.{nat_le, if◌then◌else◌, Option, Some, None, is_some, is_none, unwrap_or, option_and_then, Result, Ok, Err}
use Rattle.std.specs.List.{list_all, list_any, find}
use Rattle.std.specs.Str.{bytes_eq, is_utf8}
use Rattle.ag_model.specs.declared.config.Config.{Config}
use Rattle.ag_model.specs.declared.config.Mode.{Mode}
use Rattle.ag_model.specs.declared.config.Mode.TheVariants.{Auto, Sync, Async}
use Rattle.toml.specs.Data.{Data, string, integer, as_array, Items, no_items, item, Members, no_members, member, get_member}
use Rattle.toml.specs.Parse.{parse_document}
use Rattle.ag_config.specs.declared.fault.ConfigKey.{ConfigKey}
use Rattle.ag_config.specs.declared.fault.ConfigKey.TheVariants.{Toml, Unknown, Pages, Replicas, Workers, Readers}

-- the keys of a document
abbrev pub keys_of : Members → List (List ℕ)
keys_of no_members = []
keys_of (member k d ms) = k ∷ keys_of ms

-- the keys that a head may have
abbrev pub known_keys : List (List ℕ)
known_keys = codes "pages" ∷ codes "replicas" ∷ codes "workers" ∷ codes "readers" ∷ []

abbrev pub is_known : List ℕ → Bool
is_known k = list_any (bytes_eq k) known_keys

-- a whole number between two bounds, both taken
abbrev pub number_in : ℕ → ℕ → Data → Option ℕ
number_in low high (integer (pos n)) = if nat_le low n && nat_le n high then Some n else None
number_in low high _ = None

-- the word of a mode
abbrev pub mode_word : Mode → List ℕ
mode_word Auto = codes "auto"
mode_word Sync = codes "sync"
mode_word Async = codes "async"

-- the mode that a text is the word of
abbrev pub mode_in : Data → Option Mode
mode_in (string s) = find (λ m. bytes_eq s (mode_word m)) (Auto ∷ Sync ∷ Async ∷ [])
mode_in _ = None

-- the values of an array
abbrev pub values_of : Items → List Data
values_of no_items = []
values_of (item d ds) = d ∷ values_of ds

-- the modes of some values, if each is the word of one
abbrev pub each_mode : List Data → Option (List Mode)
each_mode ds = if list_all (λ d. is_some (mode_in d)) ds then Some (filter_map mode_in ds) else None

-- the modes of 1 to 5 values
abbrev pub modes_of : List Data → Option (List Mode)
modes_of ds = if nat_le 1 (length ds) && nat_le (length ds) 5 then each_mode ds else None

abbrev pub replicas_in : Data → Option (List Mode)
replicas_in d = option_and_then (λ ds. modes_of (values_of ds)) (as_array d)

-- what a key says: what is read from its value, or the default where it has none
abbrev pub said : {X : Type 0} → (Data → Option X) → X → Option Data → Option X
said read default None = Some default
said read default (Some d) = read d

-- what each key says in a document
abbrev pub pages_of : Members → Option ℕ
pages_of ms = said (number_in 16 2048) 16 (get_member (codes "pages") ms)

abbrev pub replicas_of : Members → Option (List Mode)
replicas_of ms = said replicas_in (Sync ∷ Sync ∷ []) (get_member (codes "replicas") ms)

abbrev pub workers_of : Members → Option ℕ
workers_of ms = said (number_in 1 16) 4 (get_member (codes "workers") ms)

abbrev pub readers_of : Members → Option ℕ
readers_of ms = said (number_in 1 16) 2 (get_member (codes "readers") ms)

-- the config of a document, or the first fault
unfoldable pub config_of : Members → Result Config ConfigKey
config_of ms =
    if not (list_all is_known (keys_of ms)) then Err Unknown
    else if is_none (pages_of ms) then Err Pages
    else if is_none (replicas_of ms) then Err Replicas
    else if is_none (workers_of ms) then Err Workers
    else if is_none (readers_of ms) then Err Readers
    else Ok (record {
      pages = unwrap_or (pages_of ms) 16;
      modes = unwrap_or (replicas_of ms) [];
      workers = unwrap_or (workers_of ms) 4;
      readers = unwrap_or (readers_of ms) 2;
    })

-- the same of a document, if there is one
abbrev pub config_of_document : Option Members → Result Config ConfigKey
config_of_document None = Err Toml
config_of_document (Some ms) = config_of ms

-- the config of a head, or the first fault: a head has to be UTF-8 and a document
unfoldable pub config_of_head : List ℕ → Result Config ConfigKey
config_of_head head = if is_utf8 head then config_of_document (parse_document head) else Err Toml
