-- The log of a node that opens, sets one pair and hardens it.
use Rattle.std.proofs.Common.{◌≡◌, ℕ, zero, suc, ◌≤◌, ◌∷◌, [], List, eqb, inl, inr, true, refl, arith}
use Rattle.std.specs.Prelude.{replicate}
use Rattle.std.proofs.lemmas.Bool.{cases_Bool}
use Rattle.ag_model.specs.declared.config.Config.{Config}
use Rattle.ag_model.specs.declared.config.Mode.TheVariants.{Sync}
use Rattle.ag_model.specs.declared.event.Pair.{Pair}
use Rattle.ag_model.specs.declared.record.Log.{Log}
use Rattle.ag_model.specs.declared.record.Record.TheVariants.{Put, Commit, Term}
use Rattle.ag_model.specs.Page.{value}
use Rattle.ag_model.specs.Proper.{IsProper}
use Rattle.ag_model.specs.Sizes.{versions_size}
use Rattle.ag_rules.specs.Access.{access}
use Rattle.ag_rules.specs.Group.{opening_replica}
use Rattle.ag_rules.specs.HardenEvent.{harden_part}
use Rattle.ag_rules.specs.Plan.{Here}
use Rattle.ag_rules.specs.SetEvent.{set_part}
use Rattle.ag_node.specs.Sites.{here_at}

abbrev pub config : Config
config = record { pages = 16; modes = Sync ∷ []; workers = 1; readers = 1 }

abbrev pub here : Here
here = here_at (record { number = 0; pages = 16; store = record { term = 1; primary = 0; synced = 0; suspended = 0 } })

abbrev pub pairs : List Pair
pairs = record { key = 5; value = record { len = 0; bytes = replicate 64 0 } } ∷ []

abbrev pub log : Log
log = record { records = Term 1 ∷ Put 1 5 (record { len = 0; bytes = replicate 64 0 }) ∷ Commit 1 (21 ∷ []) ∷ []; ends = 1 ∷ 3 ∷ [] }

pub hardened_is : (harden_part here (set_part here (opening_replica config true) pairs).after).after.kept.log ≡ log
unfolding harden_part set_part access opening_replica value
hardened_is = refl

-- each page has room, where the one version is on page 21
room : (n page : ℕ) → versions_size (value 16 log.records n page).versions ≤ 8144
unfolding value
room zero page = omega arith
room (suc zero) page = omega arith
room (suc (suc zero)) page = elim (cases_Bool (eqb page 21)) [ inl e ↦ simp e (omega arith) | inr e ↦ simp e (omega arith) ]
room (suc (suc (suc zero))) page = elim (cases_Bool (eqb page 21)) [ inl e ↦ simp e (omega arith) | inr e ↦ simp e (omega arith) ]
room (suc (suc (suc (suc n)))) page = elim (cases_Bool (eqb page 21)) [ inl e ↦ simp e (omega arith) | inr e ↦ simp e (omega arith) ]

pub proper_log : IsProper 16 log
proper_log = record {
  first = refl;
  terms = (omega arith, tt);
  each = (tt, (tt, ((refl, refl), tt)));
  room = room;
  ends = (omega arith, (omega arith, tt));
  last = refl;
  most = omega arith;
}
