-- Prefixes, block ends and what a stripe stands for, by computation.
use Rattle.std.proofs.Common.{◌≡◌, [], ◌∷◌, replicate, false, refl}
use Rattle.ag_model.specs.declared.message.Block.{Block}
use Rattle.ag_model.specs.declared.record.Log.{Log}
use Rattle.ag_model.specs.declared.record.Record.TheVariants as D
use Rattle.ag_model.specs.declared.value.Change.TheVariants as C
use Rattle.ag_model.specs.declared.value.PageValue.{PageValue}
use Rattle.ag_model.specs.declared.value.Value.{Value}
use Rattle.ag_model.specs.Blocks.{with_block}
use Rattle.ag_model.specs.Page.{value}
use Rattle.ag_model.specs.Prefixes.{IsBlockEnd, IsPrefix, HasBlock}
use Rattle.ag_model.specs.Rows.{contains}
use Rattle.ag_model.specs.Stripes.{Standing, StandsFor, opening_log}

no_bytes : Value
no_bytes = record { len = 0; bytes = replicate 64 0 }

-- three blocks: the opening one, a transaction that puts key 5, and a Trim of its page 21
abbrev log : Log
log = record {
  records = D.Term 1 ∷ D.Put 1 5 no_bytes ∷ D.Commit 1 (21 ∷ []) ∷ D.Trim 21 3 ∷ [];
  ends = 1 ∷ 3 ∷ 4 ∷ [];
}

-- the second block
abbrev block : Block
block = record { first = 2; term = 1; records = D.Put 1 5 no_bytes ∷ D.Commit 1 (21 ∷ []) ∷ [] }

third_ends : IsBlockEnd log 3
third_ends = refl

-- no block ends at the Put
put_ends : contains 2 log.ends ≡ false
put_ends = refl

opening_first : IsPrefix opening_log log
opening_first = record { end = refl; cut = refl }

second_block : HasBlock log block
second_block = record { before = opening_log; prefix = opening_first; with_it = record { end = refl; cut = refl }; first = refl }

-- the page of key 5 after the second block
page : PageValue
page = record {
  page = 21;
  lsn = 3;
  horizon = 0;
  versions = record { lsn = 2; txn = 1; commit = 3; key = 5; change = C.Put no_bytes } ∷ [];
}

page_there : value 16 log.records 3 21 ≡ page
unfolding value page
page_there = refl

-- stripe 5 after the second block stands for the log, and for the first two blocks of it
abbrev stripe : Standing
stripe = record {
  number = 5;
  pages = 16;
  opening = 1;
  applied = 3;
  value = value 16 log.records 3;
  is_bad = λ p. false;
  is_pending = λ p. false;
}

stands : StandsFor stripe log
stands = record { applied = refl; values = λ p own sound. refl }

stands_there : StandsFor stripe (with_block opening_log block.records)
unfolding value
stands_there = record { applied = refl; values = λ p own sound. refl }
