-- A worked example: a primary opens a transaction, deletes key 5, and commits.
use Rattle.std.proofs.Common.{[], ◌∷◌, refl, arith}
use Rattle.std.specs.Prelude.{true}
use Rattle.ag_model.specs.declared.record.Record.TheVariants.{Del, Commit, Term}
use Rattle.ag_model.specs.declared.value.Change.TheVariants.{Del as DelChange}
use Rattle.ag_model.specs.Page.{value}
use Rattle.ag_law_proper.specs.Growth.{first_lead, opened, closed, longer_by, Opens, Changes, Ends}
use Rattle.ag_law_room.specs.Room.{HasRoom}
use Rattle.ag_law_room.proofs.Found.{FoundLead, found_law, has_room}

-- its log has room on each page
pub example : HasRoom 16 (Term 1 ∷ Del 1 5 ∷ Commit 1 (21 ∷ []) ∷ [])
unfolding value
example =
    let one : FoundLead 16 (opened 1 first_lead) = (found_law 16).steps first_lead (opened 1 first_lead) (Opens 1 refl) (found_law 16).first in
    let two : FoundLead 16 (longer_by (Del 1 5 ∷ []) (opened 1 first_lead)) = (found_law 16).steps _ _ (Changes 1 5 DelChange refl (omega arith) (omega arith) refl) one in
    let three : FoundLead 16 (longer_by (Commit 1 (21 ∷ []) ∷ []) (closed 1 (longer_by (Del 1 5 ∷ []) (opened 1 first_lead)))) = (found_law 16).steps _ _ (Ends true 1 (21 ∷ []) refl refl (omega arith) refl) two in
    has_room 16 _ ((found_law 16).log _ three)
