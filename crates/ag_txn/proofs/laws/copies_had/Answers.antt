use Rattle.std.proofs.Common.{[], ◌∷◌, refl}
use Rattle.ag_model.specs.declared.record.Record.TheVariants.{Trim}
use Rattle.ag_model.specs.Rows.{page_of}
use Rattle.ag_rules.specs.CommitEvent.{end_record}
use Rattle.ag_rules.specs.PutEvent.{record_of}
use Rattle.ag_rules.specs.SetEvent.{pages_of_pairs, records_of_set}
use Rattle.ag_txn.proofs.Added.{page_in, set_touches}
use Rattle.ag_txn.proofs.Having.{have_one, have_listed, change_touches, end_touches, pairs_have}
use Rattle.ag_txn.proofs.laws.copies_had.Goals as goal

pub returns : goal.returns
returns c = record {
  changed = λ pages txn key change w copies some long.
      (let own = page_in pages (page_of pages key) key some refl in
      have_one pages (page_of pages key) (record_of txn key change) w copies long own.high own.low (λ p. change_touches pages txn key p change));
  trimmed = λ pages page horizon w copies low high long. have_one pages page (Trim page horizon) w copies long high low (λ p. refl);
  set = λ pages txn pairs copies some have.
      have_listed pages (pages_of_pairs pages pairs) (records_of_set pages txn pairs) copies (set_touches pages txn pairs some) (pairs_have pages pairs copies have);
  ended = λ pages txn commits listed copies have. have_listed pages listed (end_record commits txn listed ∷ []) copies (end_touches pages txn commits listed) have;
}
