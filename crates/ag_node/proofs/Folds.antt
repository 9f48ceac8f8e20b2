-- The greatest transaction number of a log, record by record.
use Rattle.std.proofs.Common.{◌≡◌, ℕ, max, List, [], ◌∷◌, refl, ◌∙◌}
use Rattle.std.proofs.lemmas.Grind.{fold-append}
use Rattle.std.specs.List.{fold, flat_map}
use Rattle.ag_model.specs.declared.record.Record.{Record}
use Rattle.ag_model.specs.Txns.{txn_of, last_txn}
use Rattle.ag_node.specs.Folded.{txn_after}

pub fold-flat_map : {A B C : Type 0} (f : B → A → B) (g : C → List A) (b : B) (xs : List C) → fold f b (flat_map g xs) ≡ fold (λ a x. fold f a (g x)) b xs
fold-flat_map f g b [] = refl
fold-flat_map f g b (x ∷ xs) = fold-append f b (g x) (flat_map g xs) ∙ fold-flat_map f g (fold f b (g x)) xs

-- the greatest transaction number, record by record
pub txns_folded : (log : List Record) → last_txn log ≡ fold txn_after 0 log
txns_folded log = fold-flat_map max txn_of 0 log
