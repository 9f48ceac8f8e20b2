use Rattle.std.proofs.Common.{◌∙◌, ◌-◌, replicate, map}
use Rattle.std.specs.Prelude.{None, Option}
use Rattle.std.proofs.lemmas.List.{length-map, length-replicate}
use Rattle.ag_model.specs.declared.value.PageValue.{PageValue}
use Rattle.ag_txn.proofs.Effects.{none-effective, bare-slot, let-go, copied-effective, added-effective, hardened-effective}
use Rattle.ag_txn.proofs.laws.stay_effective.Goals as goal

pub returns : goal.returns
returns c = record {
  opening = λ pages log. none-effective pages log (replicate pages None) (length-replicate pages None) (λ page. bare-slot pages (page - 16));
  forgotten = λ pages log copies long. none-effective pages log (map (λ (c : Option PageValue). None) copies) (length-map copies (λ (c : Option PageValue). None) ∙ long)
      (λ page. let-go copies (page - 16));
  copied = copied-effective;
  added = added-effective;
  hardened = hardened-effective;
}
