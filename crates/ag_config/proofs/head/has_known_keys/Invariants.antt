use Rattle.std.proofs.Common.{◌≡◌, string_bytes}
use Rattle.std.specs.BTreeMap.{keys}
use Rattle.std.specs.List.{list_all}
use Rattle.ag_config.specs.Head.{is_known}
use Rattle.ag_config.proofs.head.has_known_keys.Given as goal

abbrev pub invariant-loop-key : goal.invariant-loop-key
invariant-loop-key l = list_all (λ k. is_known (string_bytes k)) (keys l.table) ≡ list_all (λ k. is_known (string_bytes k)) l.key-iterator
