-- The first fault of a head, check by check.
use Rattle.std.proofs.Common.{◌≡◌, ℕ, List, true, false, Some, None, Ok, Err, refl}
use Rattle.std.proofs.lemmas.Str.{IsUtf8-from_is_utf8, is_utf8-from_IsUtf8}
use Rattle.std.specs.List.{list_all}
use Rattle.std.specs.Str.{IsUtf8, is_utf8}
use Rattle.ag_lists.proofs.Tests.{by_bool}
use Rattle.ag_model.specs.declared.config.Mode.{Mode}
use Rattle.toml.specs.Data.{Members}
use Rattle.toml.specs.Parse.{parse_document}
use Rattle.ag_config.specs.declared.fault.ConfigKey.TheVariants.{Toml, Unknown, Pages, Replicas, Workers, Readers}
use Rattle.ag_config.specs.Head.{keys_of, is_known, pages_of, replicas_of, workers_of, readers_of, config_of, config_of_head}

-- each key is known
abbrev pub KeysKnown : Members → Type 0
KeysKnown ms = list_all is_known (keys_of ms) ≡ true

pub at_keys : (ms : Members) → list_all is_known (keys_of ms) ≡ false → config_of ms ≡ Err Unknown
unfolding config_of
at_keys ms known = rw known

pub at_pages : (ms : Members) → KeysKnown ms → pages_of ms ≡ None → config_of ms ≡ Err Pages
unfolding config_of
at_pages ms known pages = rw (known, pages)

pub at_replicas : (ms : Members) (p : ℕ) → KeysKnown ms → pages_of ms ≡ Some p → replicas_of ms ≡ None → config_of ms ≡ Err Replicas
unfolding config_of
at_replicas ms p known pages replicas = rw (known, pages, replicas)

pub at_workers : (ms : Members) (p : ℕ) (m : List Mode) → KeysKnown ms → pages_of ms ≡ Some p → replicas_of ms ≡ Some m → workers_of ms ≡ None → config_of ms ≡ Err Workers
unfolding config_of
at_workers ms p m known pages replicas workers = rw (known, pages, replicas, workers)

pub at_readers : (ms : Members) (p : ℕ) (m : List Mode) (w : ℕ) → KeysKnown ms → pages_of ms ≡ Some p → replicas_of ms ≡ Some m → workers_of ms ≡ Some w → readers_of ms ≡ None
    → config_of ms ≡ Err Readers
unfolding config_of
at_readers ms p m w known pages replicas workers readers = rw (known, pages, replicas, workers, readers)

pub no_fault : (ms : Members) (p : ℕ) (m : List Mode) (w r : ℕ) → KeysKnown ms → pages_of ms ≡ Some p → replicas_of ms ≡ Some m → workers_of ms ≡ Some w → readers_of ms ≡ Some r
    → config_of ms ≡ Ok (record { pages = p; modes = m; workers = w; readers = r })
unfolding config_of
no_fault ms p m w r known pages replicas workers readers = rw (known, pages, replicas, workers, readers)

-- a head that is a document
pub of_document : (head : List ℕ) (ms : Members) → IsUtf8 head → parse_document head ≡ Some ms → config_of_head head ≡ config_of ms
unfolding config_of_head
of_document head ms utf8 parsed = rw (is_utf8-from_IsUtf8 head utf8, parsed)

-- a head that is none
pub of_none : (head : List ℕ) → (IsUtf8 head → parse_document head ≡ None) → config_of_head head ≡ Err Toml
unfolding config_of_head
of_none head refused = by_bool (is_utf8 head) (λ b. is_utf8 head ≡ b → config_of_head head ≡ Err Toml)
    (λ _ utf8. rw (utf8, refused (IsUtf8-from_is_utf8 head utf8)))
    (λ _ not_utf8. rw not_utf8) refl
