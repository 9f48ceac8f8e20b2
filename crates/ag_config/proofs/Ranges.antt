-- A config that a head says is in range.
use Rattle.std.specs.Prelude.{if◌then◌else◌, nat_le}
use Rattle.std.proofs.Common.{◌≡◌, ℕ, ◌≤◌, suc, pos, negsuc, List, [], ◌∷◌, length, Bool, true, false, not, ◌&&◌}
use Rattle.std.proofs.Common.{Option, Some, None, is_none, is_some, unwrap_or, option_and_then, Ok, refl, sym, ap, subst, ◌∙◌, arith, codes}
use Rattle.std.proofs.lemmas.Bool.{and_parts, leb-true}
use Rattle.std.specs.List.{list_all, filter_map, cons_option}
use Rattle.std.specs.Str.{is_utf8}
use Rattle.ag_lists.proofs.Results.{ok_is, unless_ok, when_ok, some_is}
use Rattle.ag_model.specs.declared.config.Config.{Config}
use Rattle.ag_model.specs.declared.config.Mode.{Mode}
use Rattle.ag_model.specs.declared.config.Mode.TheVariants.{Sync}
use Rattle.ag_rules.specs.Script.{IsConfig}
use Rattle.toml.specs.Data.{Data, string, integer, float, boolean, datetime, array, table, Items, Members, as_array, get_member}
use Rattle.toml.specs.Parse.{parse_document}
use Rattle.ag_config.specs.declared.fault.ConfigKey.TheVariants.{Toml, Unknown, Pages, Replicas, Workers, Readers}
use Rattle.ag_config.specs.Head.{number_in, mode_in, each_mode, modes_of, values_of, replicas_in, said, keys_of}
use Rattle.ag_config.specs.Head.{is_known, pages_of, replicas_of, workers_of, readers_of, config_of, config_of_document, config_of_head}

-- a test that gave a value held
tested : {X : Type 0} (b : Bool) (o : Option X) (x : X) → (if b then o else None) ≡ Some x → (b ≡ true) × (o ≡ Some x)
tested true o x e = (refl, e)
tested false o x e = absurd cc

-- a number that was read lies between its bounds
between : (low high : ℕ) (d : Data) (n : ℕ) → number_in low high d ≡ Some n → (low ≤ n) × (n ≤ high)
between low high (integer (pos m)) n e =
    let (both, same) = tested (nat_le low m && nat_le m high) (Some m) n e in
    let (lower, upper) = and_parts (nat_le low m) (nat_le m high) both in
    subst (λ (k : ℕ). (low ≤ k) × (k ≤ high)) (some_is m n same) (leb-true low m lower, leb-true m high upper)
between low high (integer (negsuc m)) n e = absurd cc
between low high (string s) n e = absurd cc
between low high (float x) n e = absurd cc
between low high (boolean b) n e = absurd cc
between low high (datetime t) n e = absurd cc
between low high (array ds) n e = absurd cc
between low high (table ms) n e = absurd cc

-- so does one that a key says
said_between : (low high default : ℕ) (o : Option Data) (n : ℕ) → low ≤ default → default ≤ high → said (number_in low high) default o ≡ Some n → (low ≤ n) × (n ≤ high)
said_between low high default None n h k e = subst (λ (j : ℕ). (low ≤ j) × (j ≤ high)) (some_is default n e) (h, k)
said_between low high default (Some d) n h k e = between low high d n e

one_more : (o : Option Mode) (more : List Mode) (n : ℕ) → is_some o ≡ true → length more ≡ n → length (cons_option o more) ≡ suc n
one_more None more n h e = absurd cc
one_more (Some m) more n h e = ap suc e

-- of values that are all words of modes there are as many modes
count_read : (ds : List Data) → list_all (λ d. is_some (mode_in d)) ds ≡ true → length (filter_map mode_in ds) ≡ length ds
count_read [] h = refl
count_read (d ∷ ds) h =
    let (here, more) = and_parts (is_some (mode_in d)) (list_all (λ x. is_some (mode_in x)) ds) h in
    one_more (mode_in d) (filter_map mode_in ds) (length ds) here (count_read ds more)

-- modes that were read are one to five
one_to_five : (ds : List Data) (modes : List Mode) → modes_of ds ≡ Some modes → (1 ≤ length modes) × (length modes ≤ 5)
one_to_five ds modes e =
    let (both, each) = tested (nat_le 1 (length ds) && nat_le (length ds) 5) (each_mode ds) modes e in
    let (lower, upper) = and_parts (nat_le 1 (length ds)) (nat_le (length ds) 5) both in
    let (all, same) = tested (list_all (λ d. is_some (mode_in d)) ds) (Some (filter_map mode_in ds)) modes each in
    let as_many : length ds ≡ length modes = sym (count_read ds all) ∙ ap length (some_is (filter_map mode_in ds) modes same) in
    subst (λ (n : ℕ). (1 ≤ n) × (n ≤ 5)) as_many (leb-true 1 (length ds) lower, leb-true (length ds) 5 upper)

array_range : (o : Option Items) (modes : List Mode) → option_and_then (λ ds. modes_of (values_of ds)) o ≡ Some modes → (1 ≤ length modes) × (length modes ≤ 5)
array_range None modes e = absurd cc
array_range (Some ds) modes e = one_to_five (values_of ds) modes e

-- so are those that a key says
said_range : (o : Option Data) (modes : List Mode) → said replicas_in (Sync ∷ Sync ∷ []) o ≡ Some modes → (1 ≤ length modes) × (length modes ≤ 5)
said_range None modes e = subst (λ (ms : List Mode). (1 ≤ length ms) × (length ms ≤ 5)) (some_is (Sync ∷ Sync ∷ []) modes e) (omega arith, omega arith)
said_range (Some d) modes e = array_range (as_array d) modes e

-- what is said, where something is
present : {X : Type 0} (o : Option X) (d : X) → is_none o ≡ false → o ≡ Some (unwrap_or o d)
present None d h = absurd cc
present (Some x) d h = refl

-- the config of a document is in range
config_range : (ms : Members) (c : Config) → config_of ms ≡ Ok c → IsConfig c
unfolding config_of
config_range ms c e =
    let (known, after_keys) = unless_ok (not (list_all is_known (keys_of ms))) Unknown _ c e in
    let (pages, after_pages) = unless_ok (is_none (pages_of ms)) Pages _ c after_keys in
    let (replicas, after_replicas) = unless_ok (is_none (replicas_of ms)) Replicas _ c after_pages in
    let (workers, after_workers) = unless_ok (is_none (workers_of ms)) Workers _ c after_replicas in
    let (readers, whole) = unless_ok (is_none (readers_of ms)) Readers _ c after_workers in
    subst IsConfig (ok_is _ _ whole) (record {
      pages = said_between 16 2048 16 (get_member (codes "pages") ms) _ (omega arith) (omega arith) (present (pages_of ms) 16 pages);
      replicas = said_range (get_member (codes "replicas") ms) _ (present (replicas_of ms) [] replicas);
      workers = said_between 1 16 4 (get_member (codes "workers") ms) _ (omega arith) (omega arith) (present (workers_of ms) 4 workers);
      readers = said_between 1 16 2 (get_member (codes "readers") ms) _ (omega arith) (omega arith) (present (readers_of ms) 2 readers);
    })

document_range : (o : Option Members) (c : Config) → config_of_document o ≡ Ok c → IsConfig c
document_range None c e = absurd cc
document_range (Some ms) c e = config_range ms c e

-- the config of a head is in range
pub head_range : (head : List ℕ) (c : Config) → config_of_head head ≡ Ok c → IsConfig c
unfolding config_of_head
head_range head c e =
    let (utf8, says) = when_ok (is_utf8 head) Toml (config_of_document (parse_document head)) c e in
    document_range (parse_document head) c says
