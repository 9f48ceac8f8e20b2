-- The keys of a table.
use Rattle.std.proofs.Common.{◌≡◌, ℕ, List, [], ◌∷◌, Bool, ◌&&◌, String, Global, string_bytes, refl, ap}
use Rattle.std.specs.List.{list_all}
use Rattle.std.specs.Map.{keys_of as map_keys_of}
use Rattle.toml.specs.View.{members_view}
use Rattle.toml.specs.declared.value.Value.{Value}
use Rattle.ag_config.specs.Head.{keys_of}

-- a test of each key is one of each text
pub tests_of_keys : (test : List ℕ → Bool) (entries : List (String Global × Value)) → list_all (λ k. test (string_bytes k)) (map_keys_of entries) ≡ list_all test (keys_of (members_view entries))
tests_of_keys test [] = refl
tests_of_keys test (e ∷ entries) = ap (λ b. test (string_bytes e.0) && b) (tests_of_keys test entries)
